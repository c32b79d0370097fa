use Rattle.std.proofs.Common.{◌≡◌, ◌++◌, drop}
use Rattle.type_names.specs.walks.Further.{all_unread}
use Rattle.type_names.proofs.resolve.all_unread.Given as goal

abbrev pub invariant-loop-definition : goal.invariant-loop-definition
invariant-loop-definition l = l.names ++ all_unread (drop l.definition-index l.definitions) ≡ all_unread l.definitions
