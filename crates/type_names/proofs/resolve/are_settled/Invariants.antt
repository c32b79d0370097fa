use Rattle.std.proofs.Common.{◌≡◌, ◌++◌, drop}
use Rattle.type_names.specs.Types.{look}
use Rattle.type_names.specs.walks.Further.{settled_from}
use Rattle.type_names.proofs.resolve.are_settled.Given as goal

abbrev pub invariant-loop-number : goal.invariant-loop-number
invariant-loop-number l =
    settled_from l.around.first (look (l.names ++ l.around.names.now)) l.number l.rest (drop l.number l.definitions)
    ≡ settled_from l.around.first (look (l.names ++ l.around.names.now)) 0 l.names l.definitions
