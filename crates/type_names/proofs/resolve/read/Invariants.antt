use Rattle.std.proofs.Common.{◌≡◌, ◌++◌, drop}
use Rattle.type_names.specs.Types.{look}
use Rattle.type_names.specs.walks.Further.{read}
use Rattle.type_names.proofs.resolve.read.Given as goal

abbrev pub invariant-loop-number : goal.invariant-loop-number
invariant-loop-number l =
    l.names ++ read l.around.first (look (l.own ++ l.around.names.now)) l.number (drop l.number l.definitions) ≡ read l.around.first (look (l.own ++ l.around.names.now)) 0 l.definitions
