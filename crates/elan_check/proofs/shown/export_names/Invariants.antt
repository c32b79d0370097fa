use Rattle.std.proofs.Common.{◌≡◌, ◌++◌, map, drop}
use Rattle.elan_judge.specs.Level.{export_name}
use Rattle.elan_check.proofs.shown.export_names.Given as goal

abbrev pub invariant-loop-export : goal.invariant-loop-export
invariant-loop-export l = l.names ++ map export_name (drop l.export-index l.exports) ≡ map export_name l.exports
