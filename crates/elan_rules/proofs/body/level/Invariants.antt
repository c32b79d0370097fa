use Rattle.std.proofs.Common.{◌≡◌}
use Rattle.elan_meant.specs.Parts.{actions_of}
use Rattle.elan_rules.specs.Units.{bodies_of}
use Rattle.elan_rules.proofs.body.level.Given as goal

abbrev pub invariant-loop-part : goal.invariant-loop-part
invariant-loop-part l = (l.units ≡ actions_of l.yielded) × (l.bodies ≡ bodies_of l.yielded)
