use Rattle.std.proofs.Common.{◌∷◌, [], arith}
use Rattle.page_table.proofs.Framing.{stands_after}
use Rattle.memory_tests.proofs.sources.put_space.Goals as goal

pub returns-in-Ok-Some : goal.returns-in-Ok-Some
returns-in-Ok-Some c = record { agree = stands_after _ _ _ _ 0 0 (omega arith) (c.read_source.ensures.frames (c.args.space.now.root ∷ [])) c.requires.agree }

pub returns-in-Ok-None : goal.returns-in-Ok-None
returns-in-Ok-None c = record { agree = stands_after _ _ _ _ 0 0 (omega arith) (c.read_source.ensures.frames (c.args.space.now.root ∷ [])) c.requires.agree }

pub returns-in-Err : goal.returns-in-Err
returns-in-Err c = record { agree = stands_after _ _ _ _ 0 0 (omega arith) (c.read_source.ensures.frames (c.args.space.now.root ∷ [])) c.requires.agree }
