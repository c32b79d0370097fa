use Rattle.std.proofs.Common.{refl, ap, ◌∙◌}
use Rattle.line_command.specs.Below.page_table.specs.Frames.{over}
use Rattle.space_memory.specs.Memories.{memory_heads}
use Rattle.line_command.proofs.Begun.{zeros, new_known, new_whole}
use Rattle.line_command.proofs.line.written.Goals as goal

pub over-lent-requires : goal.over-lent-requires
over-lent-requires c = rw (c.in_ok-pool.ensures, c.new-memory.ensures.empty) (record { agree = new_whole; backed = record { each = λ p block is. refl } })

pub run-requires : goal.run-requires
run-requires c = record {
  nothing =
      rw c.over-lent.ensures.memory_same
      (c.new-memory.ensures.nothing (over c.over-lent.result.pool.now zeros)
      (new_known c.over-lent.result.pool.now (c.over-lent.ensures.pool_same ∙ c.in_ok-pool.ensures)));
  spaces = ap memory_heads (c.over-lent.ensures.memory_same ∙ c.new-memory.ensures.empty);
}
