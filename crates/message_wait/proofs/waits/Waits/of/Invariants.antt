use Rattle.std.proofs.Common.{◌≡◌, take}
use Rattle.message_wait.specs.Rows.{IsRendezvous}
use Rattle.message_wait.proofs.waits.Waits.of.Given as goal

abbrev pub invariant-loop-receiver : goal.invariant-loop-receiver
invariant-loop-receiver l = record { rows : l.made ≡ record { callers = l.callers; receivers = take l.receiver-index l.receivers }; fine : IsRendezvous l.made }
