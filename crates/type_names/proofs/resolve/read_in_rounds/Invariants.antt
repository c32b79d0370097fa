use Rattle.std.proofs.Common.{◌≡◌}
use Rattle.type_names.specs.walks.Further.{read_again}
use Rattle.type_names.proofs.resolve.read_in_rounds.Given as goal

abbrev pub invariant-loop-definition : goal.invariant-loop-definition
invariant-loop-definition l = l.names ≡ read_again l.around.first l.around.names.now l.definitions l._definition-index
