use Rattle.cell_kinds.specs.Kinds.{all_kinds}
use Rattle.zero_machine.proofs.Freeing.{own_freed}
use Rattle.zero_machine.proofs.release.free_layout.Goals as goal

pub returns-in_ok-free_variables-in-Own-clause-freed : goal.returns-in_ok-free_variables-in-Own-clause-freed
returns-in_ok-free_variables-in-Own-clause-freed g c =
    own_freed (g.M.Memory.holds c.args.m.now) (g.M.Memory.holds c.free_parameters.new.m) (g.M.Memory.holds c.free_variables.new.m) c.in-Own.parameters
    c.as_slice.result.now c.in-Own.variables (all_kinds c.shapes.result.now) c.args.layout.now c.args.at c.in_ok-cell-in-Own.cell
    c.in_ok-free_variables-in-Own.field-0 c.args.until c.requires.within c.as_slice.ensures c.shapes.ensures c.in-Own.is c.in_ok-cell-in-Own.ensures.end
    c.in_ok-free_variables-in-Own.ensures.end c.in_ok-cell-in-Own.ensures.freed c.in_ok-free_variables-in-Own.ensures.freed
