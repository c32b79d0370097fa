use Rattle.turn_laws.proofs.Beside.{turn_keeps}
use Rattle.turn_laws.proofs.WaitingEvents.{event_keeps, run_keeps}
use Rattle.turn_laws.proofs.waiting.waits.Goals as goal

pub returns-clause-begins : goal.returns-clause-begins
returns-clause-begins c = record {
  waits = record { callers = tt; receivers = tt; one_call = tt; one_wait = tt; calm = tt };
  rooms = tt;
  free = tt;
}

pub returns-clause-turns : goal.returns-clause-turns
returns-clause-turns c = λ read m is order. turn_keeps c.steady.ensures read m is order

pub returns-clause-events : goal.returns-clause-events
returns-clause-events c = λ read s e is order. let h = event_keeps c.steady.ensures read s e (record { sound = is; order = order }) in (h.sound, h.order)

pub returns-clause-runs : goal.returns-clause-runs
returns-clause-runs c = λ read s es is order. let h = run_keeps c.steady.ensures read s es (record { sound = is; order = order }) in (h.sound, h.order)
