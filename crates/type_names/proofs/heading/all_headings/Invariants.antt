use Rattle.std.proofs.Common.{◌≡◌, ◌++◌, drop}
use Rattle.type_names.specs.walks.Headings.{all_headings}
use Rattle.type_names.proofs.heading.all_headings.Given as goal

abbrev pub invariant-loop-unit : goal.invariant-loop-unit
invariant-loop-unit l = l.out ++ all_headings l.types l.number (drop l.unit-index l.units) ≡ l.fn.out ++ all_headings l.types 0 l.units
