use Rattle.std.proofs.Common.{◌≡◌, ◌++◌, map, drop}
use Rattle.type_names.specs.Faults.{names_in}
use Rattle.type_names.specs.walks.Further.{numbers_at, calls_at}
use Rattle.type_names.proofs.calls.calls.Given as goal

abbrev pub invariant-loop-definition : goal.invariant-loop-definition
invariant-loop-definition l =
    l.calls ++ map (λ d. numbers_at l.names (names_in d.what)) (drop l.definition-index l.definitions) ≡ calls_at l.names l.definitions
