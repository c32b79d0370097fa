use Rattle.std.proofs.Common.{sym}
use Rattle.named_texts.proofs.Looking.{one_of}
use Rattle.named_texts.proofs.look.text_under.Goals as goal

pub read_source-requires-clause-agree : goal.read_source-requires-clause-agree
read_source-requires-clause-agree g c =
    one_of c.args.memory.now c.in-Some.s.0 c.in-Some-space_under.space.now c.args.pool.now (sym c.in-Some-space_under.ensures) c.requires.agree
