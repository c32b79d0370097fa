use Rattle.std.proofs.Common.{◌≡◌}
use Rattle.type_names.specs.walks.Further.{all_unread, Reads}
use Rattle.type_names.proofs.resolve.read_in_order.Given as goal

abbrev pub invariant-loop-turn : goal.invariant-loop-turn
invariant-loop-turn l = l.fn.unread ≡ all_unread l.definitions → Reads l.around.first l.around.names.now l.definitions l.turn l.names
