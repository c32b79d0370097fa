use Rattle.std.proofs.Common.{◌≡◌, ℕ, length, subst, arith}
use Rattle.type_names.specs.walks.Further.{Reads}
use Rattle.type_names.proofs.Order.{begun}
use Rattle.type_names.proofs.resolve.read_in_order.Goals as goal

pub loop-turn-init : goal.loop-turn-init
loop-turn-init c = begun c.args.around.first c.args.around.names.now c.args.definitions.now c.args.unread

pub returns : goal.returns
returns c = λ e.
    let all : c.loop-turn.turn ≡ length c.args.definitions.now = omega (arith, c.loop-turn-test.false, c.loop-turn.auto.turn-end) in
    subst (λ (n : ℕ). Reads c.args.around.first c.args.around.names.now c.args.definitions.now n c.loop-turn.names) all (c.loop-turn.invariant e)
