use Rattle.std.proofs.Common.{◌≡◌, length, ap, ◌∙◌, arith}
use Rattle.type_names.specs.walks.Further.{read_again}
use Rattle.type_names.proofs.Rounds.{ended}
use Rattle.type_names.proofs.resolve.read_in_rounds.Goals as goal

pub returns : goal.returns
returns c =
    let all : c.loop-definition._definition-index ≡ length c.args.definitions.now = omega arith in
    ended c.args.around.first c.args.around.names.now c.args.definitions.now c.loop-definition.names c.read-2.result
    (c.loop-definition.invariant ∙ ap (read_again c.args.around.first c.args.around.names.now c.args.definitions.now) all) c.read-2.ensures
