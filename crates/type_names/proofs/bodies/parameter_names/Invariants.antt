use Rattle.std.proofs.Common.{◌≡◌, ◌++◌, false, drop}
use Rattle.type_names.specs.Bodies.{parameter_names}
use Rattle.type_names.proofs.bodies.parameter_names.Given as goal

abbrev pub invariant-loop-formal : goal.invariant-loop-formal
invariant-loop-formal l =
    l.out.wanted ≡ false
    → (l.fn.out.wanted ≡ false)
    × (l.out.entries ++ parameter_names l.fn.out.around.now (drop l.formal-index l.formals) ≡ l.fn.out.entries ++ parameter_names l.fn.out.around.now l.formals)
    × (l.out.here.now ≡ l.fn.out.here.now)
    × (l.out.around.now ≡ l.fn.out.around.now)
