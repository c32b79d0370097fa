use Rattle.std.proofs.Common.{◌≡◌, drop}
use Rattle.elan_names.specs.walks.Firsts as spec
use Rattle.elan_names.proofs.type_directory.first_at.Given as goal

abbrev pub invariant-loop-place : goal.invariant-loop-place
invariant-loop-place l = spec.first_at l.place (spec.type_names (drop l.place l.list)) l.name ≡ spec.first_at 0 (spec.type_names l.list) l.name
