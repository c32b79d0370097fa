use Rattle.std.proofs.Common.{◌+◌, ap, ◌∙◌}
use Rattle.eu_base.specs.Cells.{run_cell}
use Rattle.zero_state.specs.Stepping.{position_of, control_of, mem_of}
use Rattle.zero_steps.proofs.Accessing.{param_so}
use Rattle.zero_steps.proofs.Placed.{run_there}
use Rattle.zero_steps.proofs.step.param.Goals as goal

pub returns-clause-goes : goal.returns-clause-goes
returns-clause-goes g c =
    param_so (g.M.Memory.holds c.args.m.now) (g.M.Memory.holds c.cell.new.self) (g.M.Memory.heads c.args.m.now) c.args.cell c.in_ok-cell.field-0 c.run_cell-at.result c.place_in-place.result
    (position_of c.args.s.now) (control_of c.push_on.new.s) c.in_ok-next.next (c.run_cell-at.ensures ∙ ap (λ b. run_cell (b + c.args.cell)) c.base.ensures)
    c.place_in-place.ensures c.in_ok-cell.ensures.number c.in_ok-cell.ensures.kept
    (λ cells. c.in_ok-next.ensures (mem_of (g.M.Memory.heads c.args.m.now) cells))

pub cell-requires-clause-there : goal.cell-requires-clause-there
cell-requires-clause-there g c =
    run_there (g.M.Memory.heads c.args.m.now) c.run_cell-at.result _ c.run_cell-at.ensures
