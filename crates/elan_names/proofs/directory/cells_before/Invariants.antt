use Rattle.std.proofs.Common.{◌≡◌, ◌++◌, drop}
use Rattle.elan_names.specs.walks.Firsts.{cells_before}
use Rattle.elan_names.proofs.directory.cells_before.Given as goal

abbrev pub invariant-loop-entry : goal.invariant-loop-entry
invariant-loop-entry l = l.numbers ++ cells_before l.number (drop l.entry-index l.entries) ≡ cells_before 0 l.entries
