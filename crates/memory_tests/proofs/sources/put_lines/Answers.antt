use Rattle.std.proofs.Common.{[], arith}
use Rattle.page_pool.specs.Pool.{Pages}
use Rattle.page_table.specs.Frames.{Stands}
use Rattle.page_table.proofs.Framing.{nil_agree, stands_of, stands_after}
use Rattle.memory_tests.proofs.sources.put_lines.Goals as goal

abbrev no_pages : Pages
no_pages = record { slots = []; clean = [] }

one_more : Stands no_pages [] 1
one_more = stands_of no_pages [] [] 1 (omega arith) ∣ nil_agree [] (λ p. omega arith) (omega arith) ∣₁

pub write_source-requires-clause-agree : goal.write_source-requires-clause-agree
write_source-requires-clause-agree c = rw c.in-Ok.ensures one_more

pub put_space-requires : goal.put_space-requires
put_space-requires c = record { agree = stands_after _ _ _ _ 1 0 (omega arith) c.in-Ok-write_source.ensures.frames (rw c.in-Ok.ensures one_more) }

pub put_space-requires-in-Ok-write_source : goal.put_space-requires-in-Ok-write_source
put_space-requires-in-Ok-write_source c = record { agree = rw c.set_shape.ensures c.put_space.ensures.agree }
