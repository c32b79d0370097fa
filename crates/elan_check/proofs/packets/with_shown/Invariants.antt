use Rattle.std.proofs.Common.{◌≡◌, ◌++◌, ◌∷◌, drop}
use Rattle.elan_check.proofs.packets.with_shown.Given as goal

abbrev pub invariant-loop-packet : goal.invariant-loop-packet
invariant-loop-packet l = l.list ++ drop l.packet-index l.others ≡ l.fn.shown ∷ l.others
