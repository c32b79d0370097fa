-- Those that wait for messages: what they ask, and what becomes of an offer.
use Rattle.std.proofs.Common.{◌≡◌, ◌≢◌, ℕ, ℤ, zero, suc, Bool, true, false, ◌&&◌, ◌||◌, List, [], ◌∷◌, ◌++◌, map, Option, Some, None, refl, sym, ap, ◌∙◌, subst}
use Rattle.std.specs.Prelude.{slice_get, if◌then◌else◌}
use Rattle.std.specs.List.{AllByRecursion, list_any, remove}
use Rattle.std.specs.Option.{option_map}
use Rattle.std.proofs.lemmas.Bool.{false≢true, eqb-true, eq-eqb}
use Rattle.std.proofs.lemmas.Option.{none-some, same_Some}
use Rattle.task_numbers.specs.declared.number.TaskNo.{TaskNo}
use Rattle.task_numbers.specs.Numbers.{is_task}
use Rattle.eu_base.specs.declared.request.Request.{Request}
use Rattle.eu_base.specs.declared.request.Request.TheVariants as requests
use Rattle.eu_base.specs.DataSpaces.{heads_of}
use Rattle.eu_base.specs.SpaceOperations.{room_refusal}
use Rattle.task_requests.specs.Below.message_wait.specs.declared.waits.Caller.{Caller}
use Rattle.task_requests.specs.Below.message_wait.specs.declared.waits.Receiver.{Receiver}
use Rattle.task_requests.specs.Below.message_wait.specs.declared.waits.Offer.{Offer}
use Rattle.task_requests.specs.Below.message_wait.specs.declared.waits.Offer.TheVariants.{Taken, NotReady, Queued}
use Rattle.task_requests.specs.Below.message_wait.specs.Rendezvous.{Waits, is_open, is_ready, is_waiting, takes_from, received, offer, offered, first_call, first_caller, caller_at, waited, waited_at}
use Rattle.task_requests.specs.Below.system_meaning.specs.Systems.{System, Moment, requested, kept, on_system, on_waits}
use Rattle.task_requests.specs.Below.system_meaning.specs.Serving.{number}
use Rattle.task_requests.specs.Below.system_meaning.specs.Whole.{AreWaits, AreOnce, IsCaller, IsReceiver, WaitsFor}
use Rattle.live_system.specs.Machines.{Machine, StandsAt}

same_task : (t u : TaskNo) → is_task t u ≡ true → t ≡ u
same_task t u e = ap (λ (n : ℕ). number n) (eqb-true t.0 u.0 e)

neither : (a b : Bool) → (a || b) ≡ false → (a ≡ false) × (b ≡ false)
neither false b e = (refl, e)
neither true b e = absurd (false≢true (sym e))

-- ---- who takes a message

-- a request that a message is an answer to
abbrev pub IsForMessage : Request → Type 0
IsForMessage requests.Wait = Unit {0}
IsForMessage (requests.Answer of) = Unit {0}
IsForMessage _ = ⊥

-- a task asks for a message, and has room for its data space
pub record Takes (t : TaskNo) (s : System) : Type 0 where
  pub asked : Request
  pub asks : requested t s ≡ Some asked
  pub message : IsForMessage asked
  pub room : room_refusal (heads_of (kept t s).spaces) ≡ None

receiver_takes : (r : Receiver) (s : System) → IsReceiver r s → Takes r.task s
receiver_takes r s h = by r.of h.waits
  where
    by : (of : Option TaskNo) → WaitsFor r.task of s → Takes r.task s
    by None e = record { asked = requests.Wait; asks = e; message = tt; room = h.room }
    by (Some u) e = record { asked = requests.Answer u.0; asks = e.0; message = tt; room = h.room }

-- one that is ready does
open_takes : (t u : TaskNo) (s : System) (rs : List Receiver) → AllByRecursion (λ (r : Receiver). IsReceiver r s) rs → list_any (is_open t u) rs ≡ true
    → Takes t s
open_takes t u s [] h e = absurd (false≢true e)
open_takes t u s (r ∷ rs) h e = by (is_task r.task t) refl (open_takes t u s rs h.1) e
  where
    by : (b : Bool) → is_task r.task t ≡ b → (list_any (is_open t u) rs ≡ true → Takes t s)
        → ((b && takes_from u r.of) || list_any (is_open t u) rs) ≡ true → Takes t s
    by true same rest e = subst (λ (v : TaskNo). Takes v s) (same_task r.task t same) (receiver_takes r s h.0)
    by false differ rest e = rest e

pub ready_takes : (t u : TaskNo) (s : System) → AreWaits s → is_ready t u s.shared.waits ≡ true → Takes t s
ready_takes t u s h e = open_takes t u s s.shared.waits.receivers h.receivers e

-- one that asks for something else is another task
pub differs : (t u : TaskNo) (s : System) (q : Request) → requested t s ≡ Some q → (IsForMessage q → ⊥) → Takes u s → t.0 ≢ u.0
differs t u s q asks other h = λ same.
    other (subst (λ (r : Request). IsForMessage r)
    (same_Some h.asked q (sym h.asks ∙ ap (λ (n : ℕ). requested (number n) s) (sym same) ∙ asks)) h.message)

no_receiver : (t : TaskNo) (s : System) (q : Request) → requested t s ≡ Some q → (IsForMessage q → ⊥) → (rs : List Receiver)
    → AllByRecursion (λ (r : Receiver). IsReceiver r s) rs → list_any (λ (r : Receiver). is_task r.task t) rs ≡ false
no_receiver t s q asks other [] h = refl
no_receiver t s q asks other (r ∷ rs) h = by (is_task r.task t) refl (no_receiver t s q asks other rs h.1)
  where
    by : (b : Bool) → is_task r.task t ≡ b → list_any (λ (r : Receiver). is_task r.task t) rs ≡ false
        → (b || list_any (λ (r : Receiver). is_task r.task t) rs) ≡ false
    by true same rest = absurd (differs t r.task s q asks other (receiver_takes r s h.0) (sym (eqb-true r.task.0 t.0 same)))
    by false differ rest = rest

-- ---- an offer

ready_by : (b queue : Bool) → Taken ≡ (if b then Taken else if queue then Queued else NotReady) → b ≡ true
ready_by true queue e = refl
ready_by false true e = absurd (cc e)
ready_by false false e = absurd (cc e)

pub taken_ready : (u t : TaskNo) (queue : Bool) (w : Waits) → Taken ≡ offer u t queue w → is_ready t u w ≡ true
taken_ready u t queue w e = ready_by (is_ready t u w) queue e

pub never_queued : (u t : TaskNo) (w : Waits) → Queued ≡ offer u t false w → ⊥
never_queued u t w e = by (is_ready t u w) e
  where
    by : (b : Bool) → Queued ≡ (if b then Taken else if false then Queued else NotReady) → ⊥
    by true e = cc e
    by false e = cc e

taken_same : (c : Caller) (queue : Bool) (w : Waits) → Taken ≡ offer c.from c.to queue w → offered c queue w ≡ offered c false w
taken_same c queue w e = by (is_ready c.to c.from w) queue e
  where
    by : (b queue : Bool) → Taken ≡ (if b then Taken else if queue then Queued else NotReady)
        → (if b then received c.to w else if queue then record w { callers = w.callers ++ c ∷ [] } else w)
        ≡ (if b then received c.to w else if false then record w { callers = w.callers ++ c ∷ [] } else w)
    by true queue e = refl
    by false true e = absurd (cc e)
    by false false e = absurd (cc e)

refused_same : (c : Caller) (queue : Bool) (w : Waits) → NotReady ≡ offer c.from c.to queue w → offered c queue w ≡ w
refused_same c queue w e = by (is_ready c.to c.from w) queue e
  where
    by : (b queue : Bool) → NotReady ≡ (if b then Taken else if queue then Queued else NotReady)
        → (if b then received c.to w else if queue then record w { callers = w.callers ++ c ∷ [] } else w) ≡ w
    by true queue e = absurd (cc e)
    by false true e = absurd (cc e)
    by false false e = refl

module _ (new : Machine) (c : Caller) (queue : Bool) (m : Moment) where
  -- a message that is taken waits nowhere
  pub offer_taken : Taken ≡ offer c.from c.to queue m.system.shared.waits → StandsAt new (on_system (on_waits (offered c queue)) m)
      → StandsAt new (on_system (on_waits (offered c false)) m)
  offer_taken e h =
      subst (λ (w : Waits). StandsAt new (on_system (on_waits (λ _. w)) m)) (taken_same c queue m.system.shared.waits e) h

  -- and where it is refused, nothing changes
  pub offer_refused : NotReady ≡ offer c.from c.to queue m.system.shared.waits → StandsAt new (on_system (on_waits (offered c queue)) m)
      → StandsAt new m
  offer_refused e h =
      subst (λ (w : Waits). StandsAt new (on_system (on_waits (λ _. w)) m)) (refused_same c queue m.system.shared.waits e) h

-- ---- the one that has called longest

pub record HasCalled (t u : TaskNo) (code : ℤ) (w : Waits) : Type 0 where
  pub k : ℕ
  pub c : Caller
  pub first : first_call t w ≡ Some k
  pub at : slice_get w.callers k ≡ Some c
  pub from : c.from ≡ u
  pub code_is : c.code ≡ code

abbrev pub told : Caller → TaskNo × ℤ
told c = (c.from, c.code)

pub has_called : (t u : TaskNo) (code : ℤ) (w : Waits) → Some (u, code) ≡ option_map told (first_caller t w) → HasCalled t u code w
has_called t u code w = by (first_call t w) refl
  where
    at_place : (k : ℕ) → first_call t w ≡ Some k → (p : Option Caller) → slice_get w.callers k ≡ p → Some (u, code) ≡ option_map told p
        → HasCalled t u code w
    at_place k first None at e = absurd (cc e)
    at_place k first (Some c) at e =
        let same : (u, code) ≡ (c.from, c.code) = same_Some (u, code) (c.from, c.code) e in
        record {
          k = k;
          c = c;
          first = first;
          at = at;
          from = ap (λ (p : TaskNo × ℤ). p.0) (sym same);
          code_is = ap (λ (p : TaskNo × ℤ). p.1) (sym same);
        }

    by : (p : Option ℕ) → first_call t w ≡ p → Some (u, code) ≡ option_map told (caller_at p w.callers) → HasCalled t u code w
    by None first e = absurd (cc e)
    by (Some k) first e = at_place k first (slice_get w.callers k) refl e

none_called_by : (p : Option Caller) → None ≡ option_map told p → p ≡ None
none_called_by None e = refl
none_called_by (Some c) e = absurd (cc e)

-- none has
pub none_called : (t : TaskNo) (w : Waits) → None ≡ option_map told (first_caller t w) → first_caller t w ≡ None
none_called t w e = none_called_by (first_caller t w) e

pub caller_is : (s : System) (cs : List Caller) → AllByRecursion (λ (c : Caller). IsCaller c s) cs → (k : ℕ) (c : Caller) → slice_get cs k ≡ Some c
    → IsCaller c s
caller_is s [] h k c at = absurd (none-some c at)
caller_is s (x ∷ cs) h zero c at = subst (λ (y : Caller). IsCaller y s) (same_Some x c at) h.0
caller_is s (x ∷ cs) h (suc k) c at = caller_is s cs h.1 k c at

abbrev pub from_of : Caller → TaskNo
from_of c = c.from

-- no other calls in its name
nobody_else : (t : TaskNo) (cs : List Caller) → list_any (is_task t) (map from_of cs) ≡ false
    → list_any (λ (c : Caller). is_task c.from t) cs ≡ false
nobody_else t [] e = refl
nobody_else t (c ∷ cs) e =
    let parts = neither (is_task t c.from) (list_any (is_task t) (map from_of cs)) e in
    by (is_task c.from t) refl parts.0 (nobody_else t cs parts.1)
  where
    by : (b : Bool) → is_task c.from t ≡ b → is_task t c.from ≡ false → list_any (λ (c : Caller). is_task c.from t) cs ≡ false
        → (b || list_any (λ (c : Caller). is_task c.from t) cs) ≡ false
    by true same differ rest = absurd (false≢true (sym differ ∙ eq-eqb t.0 c.from.0 (sym (eqb-true c.from.0 t.0 same))))
    by false other differ rest = rest

not_among : (t : TaskNo) (cs : List Caller) (k : ℕ) (c : Caller) → list_any (is_task t) (map from_of cs) ≡ false → slice_get cs k ≡ Some c
    → is_task t c.from ≡ false
not_among t [] k c e at = absurd (none-some c at)
not_among t (x ∷ cs) zero c e at =
    subst (λ (y : Caller). is_task t y.from ≡ false) (same_Some x c at) (neither (is_task t x.from) (list_any (is_task t) (map from_of cs)) e).0
not_among t (x ∷ cs) (suc k) c e at = not_among t cs k c (neither (is_task t x.from) (list_any (is_task t) (map from_of cs)) e).1 at

others_call : (cs : List Caller) (k : ℕ) (c : Caller) → AreOnce (map from_of cs) → slice_get cs k ≡ Some c
    → list_any (λ (x : Caller). is_task x.from c.from) (remove cs k) ≡ false
others_call [] k c once at = absurd (none-some c at)
others_call (x ∷ cs) zero c once at =
    subst (λ (y : Caller). list_any (λ (x : Caller). is_task x.from y.from) cs ≡ false) (same_Some x c at) (nobody_else x.from cs once.0)
others_call (x ∷ cs) (suc k) c once at =
    let other = not_among x.from cs k c once.0 at in
    by (is_task x.from c.from) other (others_call cs k c once.1 at)
  where
    by : (b : Bool) → b ≡ false → list_any (λ (x : Caller). is_task x.from c.from) (remove cs k) ≡ false
        → (b || list_any (λ (x : Caller). is_task x.from c.from) (remove cs k)) ≡ false
    by true e rest = absurd (false≢true (sym e))
    by false e rest = rest

both_false : (a b : Bool) → a ≡ false → b ≡ false → (a || b) ≡ false
both_false false b e f = f
both_false true b e f = absurd (false≢true (sym e))

-- once its message was taken it waits no more
pub waits_no_more : (t : TaskNo) (s : System) → AreWaits s → (k : ℕ) (c : Caller) → first_call t s.shared.waits ≡ Some k → slice_get s.shared.waits.callers k ≡ Some c
    → is_waiting c.from (waited t s.shared.waits) ≡ false
waits_no_more t s h k c first at =
    let w = s.shared.waits in
    let is = caller_is s w.callers h.callers k c at in
    subst (λ (p : Option ℕ). is_waiting c.from (waited_at p t w) ≡ false) (sym first)
    (both_false (list_any (λ (x : Caller). is_task x.from c.from) (remove w.callers k)) (list_any (λ (r : Receiver). is_task r.task c.from) w.receivers)
    (others_call w.callers k c h.one_call at)
    (no_receiver c.from s (requests.Call c.to.0 c.code is.space) is.calls (λ never. never) w.receivers h.receivers))
