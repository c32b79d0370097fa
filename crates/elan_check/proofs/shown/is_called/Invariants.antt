use Rattle.std.proofs.Common.{◌≡◌, drop}
use Rattle.std.specs.List.{list_any}
use Rattle.elan_judge.specs.Level.{is_routine_named}
use Rattle.elan_check.proofs.shown.is_called.Given as goal

abbrev pub invariant-loop-heading : goal.invariant-loop-heading
invariant-loop-heading l = list_any (is_routine_named l.name) (drop l.heading-index l.headings) ≡ list_any (is_routine_named l.name) l.headings
