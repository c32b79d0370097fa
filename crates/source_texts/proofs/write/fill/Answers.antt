use Rattle.std.proofs.Common.{ap, ◌∙◌}
use Rattle.source_texts.specs.Below.page_table.specs.Frames.{over}
use Rattle.data_space.specs.Data.{SpaceData}
use Rattle.source_texts.proofs.Pooled.{nothing_there}
use Rattle.source_texts.proofs.write.fill.Goals as goal

pub put_lines-requires-clause-zeros : goal.put_lines-requires-clause-zeros
put_lines-requires-clause-zeros g c =
    nothing_there (over c.over-lent.result.pool.now (g.B.Backing.tells c.over-lent.result.backing.now)) c.over-lent.result.space.now.root
    (ap (λ (s : SpaceData). s.root) c.over-lent.ensures.space_same ∙ c.requires.empty)
