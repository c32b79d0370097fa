use Rattle.std.proofs.Common.{sym, ◌∙◌}
use Rattle.type_names.proofs.Searched.{routine_none}
use Rattle.type_names.proofs.fault.routine_fault.Goals as goal

pub returns-in_ok-here-in-None : goal.returns-in_ok-here-in-None
returns-in_ok-here-in-None c =
    λ ds e. routine_none ds c.args.level e c.in_ok-here-in-None.here c.in_ok-body_definitions-in-None.field-0 c.args.of.now
    c.args.given.now c.args.body.now c.units_fault.result (sym c.in-None.is ∙ c.in_ok-fault.ensures)
    c.in_ok-body_definitions-in-None.ensures c.in_ok-here-in-None.ensures c.units_fault.ensures
