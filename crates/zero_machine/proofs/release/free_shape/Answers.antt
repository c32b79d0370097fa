use Rattle.std.proofs.Common.{◌∙◌}
use Rattle.eu_base.specs.Shapes.{cell_kinds}
use Rattle.zero_machine.proofs.Freeing.{kinds_cut}
use Rattle.zero_machine.proofs.release.free_shape.Goals as goal

pub returns-clause-freed : goal.returns-clause-freed
returns-clause-freed g c =
    kinds_cut (g.M.Memory.holds c.args.m.now) (g.M.Memory.holds c.free_kinds.new.m) (cell_kinds c.args.shape.now) c.as_slice.result.now c.args.at
    c.in_ok-end.end c.args.until (c.as_slice.ensures ∙ c.in_ok-kinds.ensures) c.in_ok-end.ensures.freed
