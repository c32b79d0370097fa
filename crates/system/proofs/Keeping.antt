-- A task in its turn: it has it from the beginning, asks for what it may, and has it still where it is answered.
use Rattle.std.proofs.Common.{◌≡◌, ℕ, false, List, [], ◌∷◌, Option, Some, None, refl, sym, ap, ◌∙◌, subst}
use Rattle.std.specs.Option.{option_and_then}
use Rattle.task_numbers.specs.declared.number.TaskNo.{TaskNo}
use Rattle.eu_base.specs.declared.request.Request.{Request}
use Rattle.elan_types.specs.Eval.{World}
use Rattle.elan_types.specs.Command.{Asks}
use Rattle.turn_laws.specs.Steady.{AreSteady}
use Rattle.turn_laws.specs.Waits.{AreOrderly, HasTurn, GoesOn}
use Rattle.turn_laws.proofs.Orders.{asks_spent}
use Rattle.turn_laws.proofs.Beside.{runs_it, does_so}
use Rattle.system.specs.Below.message_wait.specs.Rendezvous.{is_waiting}
use Rattle.system.specs.Below.system_meaning.specs.Tasks.{Command, Own, Running, ending, spent, request_in, request_of, with_doing}
use Rattle.system.specs.Below.system_meaning.specs.Systems.{System, Shared, Moment, place, command, requested, changed_at, does, on_ready}
use Rattle.system.specs.Below.system_meaning.specs.Serving.{Served, Replies, Rests, serve}
use Rattle.system.specs.Below.system_meaning.specs.Whole.{IsSystem, AreWaits}
use Rattle.task_requests.proofs.Living.{asked_lives}
use Rattle.system.specs.Keeping.{TurnBegins, KeptBy, AsksRightly, evaluated}

-- the first ready task has its turn
pub begins_so : ((t : TaskNo) (ready : List TaskNo) (s : System) → IsSystem s → AreOrderly s → s.shared.ready ≡ t ∷ ready
    → IsSystem (on_ready (λ _. ready) s) × HasTurn t (on_ready (λ _. ready) s))
    → (s : System) → IsSystem s → AreOrderly s → TurnBegins s.shared.ready s
begins_so law s is order = by s.shared.ready refl
  where
    by : (ready : List TaskNo) → s.shared.ready ≡ ready → TurnBegins ready s
    by [] e = tt
    by (t ∷ rest) e = (law t rest s is order e).1

does_shared : (t : TaskNo) (f : Own → Own) (s : System) → (changed_at (place t s) f s).shared ≡ s.shared
does_shared t f s = by (place t s)
  where
    by : (o : Option ℕ) → (changed_at o f s).shared ≡ s.shared
    by None = refl
    by (Some k) = refl

module _ (steady : AreSteady) (t : TaskNo) (m : Moment) (turn : HasTurn t m.system) (c : Command) (left : ℕ) (q : Request) (w : World)
    (at : command t m.system ≡ Some c) (e : ending c left ≡ Asks q w) where
  abbrev there : Moment
  there = evaluated left t c w m

  asks : requested t there.system ≡ Some q
  asks =
      ap (option_and_then request_of) (does_so t (Running (spent left w c)) (Running c) m.system (runs_it t m.system c at))
      ∙ ap request_in (asks_spent steady c left q w e)

  kept : (x : Served) → GoesOn t x → KeptBy t x
  kept (Replies a n) goes = goes.1
  kept (Rests n) goes = tt

  -- it asks for this rightly, and has its turn still where it is answered
  pub rightly : AreWaits there.system → GoesOn t (serve t q there) → AsksRightly t c left q w m
  rightly waits goes = record {
    asks = record {
      live = asked_lives t there.system q asks;
      asks = asks;
      free =
          subst (λ (h : Shared). is_waiting t h.waits ≡ false) (sym (does_shared t (with_doing (Running (spent left w c))) m.system)) turn.apart;
      waits = waits;
    };
    kept = kept (serve t q there) goes;
  }
