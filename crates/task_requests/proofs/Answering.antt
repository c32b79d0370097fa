-- A task that waits for a message takes that of the one that has called it longest.
use Rattle.std.proofs.Common.{◌≡◌, ◌≢◌, ℕ, ℤ, true, false, List, [], ◌∷◌, Option, Some, None, refl, sym, ap, ◌∙◌, subst}
use Rattle.task_numbers.specs.declared.number.TaskNo.{TaskNo}
use Rattle.eu_base.specs.declared.request.Request.{Request}
use Rattle.eu_base.specs.declared.request.Request.TheVariants.{Wait, Call}
use Rattle.eu_base.specs.declared.request.Reply.TheVariants.{Taken}
use Rattle.eu_base.specs.Requests.{Answer, plain, sent_by}
use Rattle.eu_base.specs.DataSpaces.{Forgets, heads_of, is_live}
use Rattle.eu_base.specs.SpaceOperations.{room_refusal}
use Rattle.task_requests.specs.Below.message_wait.specs.declared.waits.Caller.{Caller}
use Rattle.task_requests.specs.Below.message_wait.specs.Rendezvous.{Waits, caller_at, entered, first_caller, is_waiting, waited}
use Rattle.task_requests.specs.Below.task_tree.specs.Tree.{lives}
use Rattle.task_requests.specs.Below.system_meaning.specs.Systems.{System, Shared, Moment, kept, requested, given, on_system, on_waits}
use Rattle.task_requests.specs.Below.system_meaning.specs.Serving.{content, message, space_number, called_with, call_taken}
use Rattle.task_requests.specs.Below.system_meaning.specs.Whole.{IsCaller}
use Rattle.live_system.specs.Machines.{Machine, StandsAt}
use Rattle.task_requests.specs.Served.{IsAsking, GoesAs}
use Rattle.task_requests.proofs.Waiting.{Takes, differs, HasCalled, caller_is, waits_no_more}
use Rattle.task_requests.proofs.Handing.{given_shared, entered_same}
use Rattle.task_requests.proofs.Living.{asked_lives}

module _ (t u : TaskNo) (code : ℤ) (m : Moment) (asks : IsAsking t Wait m.system) (room : room_refusal (heads_of (kept t m.system).spaces) ≡ None)
    (called : HasCalled t u code m.system.shared.waits) where
  is : IsCaller called.c m.system
  is = caller_is m.system m.system.shared.waits.callers asks.waits.callers called.k called.c called.at

  abbrev request : Request
  request = Call called.c.to.0 called.c.code is.space

  calls : requested u m.system ≡ Some request
  calls = subst (λ (v : TaskNo). requested v m.system ≡ Some request) called.from is.calls

  there : is_live (space_number is.space) (kept u m.system).spaces ≡ true
  there = subst (λ (v : TaskNo). is_live (space_number is.space) (kept v m.system).spaces ≡ true) called.from is.there

  takes : Takes t m.system
  takes = record { asked = Wait; asks = asks.asks; message = tt; room = room }

  differ : u.0 ≢ t.0
  differ = differs u t m.system request calls (λ never. never) takes

  free : is_waiting u (waited t m.system.shared.waits) ≡ false
  free =
      subst (λ (v : TaskNo). is_waiting v (waited t m.system.shared.waits) ≡ false) called.from
      (waits_no_more t m.system asks.waits called.k called.c called.first called.at)

  first : first_caller t m.system.shared.waits ≡ Some called.c
  first = ap (λ (p : Option ℕ). caller_at p m.system.shared.waits.callers) called.first ∙ called.at

  -- both have their answers, and the caller waits for the answer of the task
  abbrev enters : TaskNo → Waits → Waits
  enters v w = entered (record { task = v; of = Some t }) w

  abbrev handed_on : TaskNo → ℤ → ℕ → Moment
  handed_on v k n =
      on_system (given t (message k v (content v n m.system) t m.system))
      (on_system (λ s. given v (plain Taken) (on_waits (λ w. enters v (waited t w)) s)) m)

  module _ (space : ℕ) (space_is : space ≡ called_with (requested u m.system)) (begun middle new : Machine) where
    sent : space ≡ is.space
    sent = space_is ∙ ap called_with calls

    abbrev before : Moment
    before = on_system (on_waits (waited t)) m

    abbrev letter : Answer
    letter = message code u (content u space m.system) t m.system

    abbrev between : Moment
    between = on_system (given t letter) (on_system (given u (plain Taken)) before)

    shared : between.system.shared ≡ before.system.shared
    shared = given_shared t letter (given u (plain Taken) before.system) ∙ given_shared u (plain Taken) before.system

    module _ (hand : (n : Moment) (request asked : Request) → u.0 ≢ t.0 → requested u n.system ≡ Some request
        → sent_by request ≡ Forgets (space_number space) ∷ [] → is_live (space_number space) (kept u n.system).spaces ≡ true
        → requested t n.system ≡ Some asked → room_refusal (heads_of (kept t n.system).spaces) ≡ None → StandsAt begun n
        → StandsAt middle (on_system (given t (message code u (content u space n.system) t n.system)) (on_system (given u (plain Taken)) n)))
        (wait : (n : Moment) → lives u n.system.shared.tree ≡ true → is_waiting u n.system.shared.waits ≡ false → StandsAt middle n
        → StandsAt new (on_system (on_waits (entered (record { task = u; of = Some t }))) n)) (stands : StandsAt begun before) where
      handed : StandsAt middle between
      handed =
          hand before request Wait differ calls (ap (λ n. Forgets (space_number n) ∷ []) (sym sent))
          (subst (λ n. is_live (space_number n) (kept u m.system).spaces ≡ true) (sym sent) there) asks.asks room stands

      waits : StandsAt new (on_system (on_waits (enters u)) between)
      waits =
          wait between (subst (λ (h : Shared). lives u h.tree ≡ true) (sym shared) (asked_lives u m.system request calls))
          (subst (λ (h : Shared). is_waiting u h.waits ≡ false) (sym shared) free) handed

      last : StandsAt new (handed_on u code space)
      last =
          subst (λ (s : System). StandsAt new (record m { system = s })) (entered_same t u letter (plain Taken) (enters u) (waited t) m.system) waits

      -- it takes the message, and goes on
      pub answered : GoesAs t (call_taken (first_caller t m.system.shared.waits) t m) new true
      answered =
          subst (λ (p : Option Caller). GoesAs t (call_taken p t m) new true) (sym first) (
            refl,
            subst (λ (k : ℤ). StandsAt new (handed_on called.c.from k (called_with (requested called.c.from m.system)))) (sym called.code_is)
                (subst (λ (v : TaskNo). StandsAt new (handed_on v code (called_with (requested v m.system)))) (sym called.from)
                (subst (λ n. StandsAt new (handed_on u code n)) space_is last)),
          )
