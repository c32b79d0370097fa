use Rattle.std.proofs.Common.{◌≡◌, ◌++◌, drop}
use Rattle.elan_names.proofs.type_directory.TypeDirectory.before.Given as goal

abbrev pub invariant-loop-named : goal.invariant-loop-named
invariant-loop-named l = l.list ++ drop l.named-index l.others ≡ l.self-inside.list ++ l.others
