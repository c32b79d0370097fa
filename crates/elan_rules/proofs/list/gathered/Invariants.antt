use Rattle.std.proofs.Common.{◌≡◌}
use Rattle.elan_meant.specs.declared.meant.Meant.TheVariants.{Absent}
use Rattle.elan_meant.specs.Parts.{actions_of}
use Rattle.elan_rules.specs.Units.{last_value}
use Rattle.elan_rules.proofs.list.gathered.Given as goal

abbrev pub invariant-loop-part : goal.invariant-loop-part
invariant-loop-part l = (l.actions ≡ actions_of l.yielded) × (l.last ≡ last_value Absent l.yielded)
