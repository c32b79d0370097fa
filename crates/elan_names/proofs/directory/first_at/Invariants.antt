use Rattle.std.proofs.Common.{◌≡◌, drop}
use Rattle.elan_names.specs.walks.Firsts as spec
use Rattle.elan_names.proofs.directory.first_at.Given as goal

abbrev pub invariant-loop-index : goal.invariant-loop-index
invariant-loop-index l = spec.first_at l.index (spec.entry_names (drop l.index l.entries)) l.name ≡ spec.first_at 0 (spec.entry_names l.entries) l.name
