use Rattle.std.proofs.Common.{◌≡◌, [], take}
use Rattle.message_wait.specs.Rows.{IsRendezvous}
use Rattle.message_wait.proofs.waits.Waits.of_callers.Given as goal

abbrev pub invariant-loop-caller : goal.invariant-loop-caller
invariant-loop-caller l = record { rows : l.made ≡ record { callers = take l.caller-index l.callers; receivers = [] }; fine : IsRendezvous l.made }
