-- Those that wait for messages do so rightly: what keeps that.
use Rattle.std.proofs.Common.{◌≡◌, ℕ, Bool, true, false, not, ◌||◌, List, [], ◌∷◌, ◌++◌, map, filter, Option, Some, None}
use Rattle.std.proofs.Common.{refl, sym, ap, ◌∙◌, subst, ⊎_elim}
use Rattle.std.specs.Prelude.{ℤ, option_map, option_and_then}
use Rattle.std.specs.List.{AllByRecursion, list_any, position_or_len, remove}
use Rattle.std.proofs.lemmas.Bool.{or_parts, or_cases}
use Rattle.std.proofs.lemmas.Option.{none-some, same_Some}
use Rattle.turn_laws.specs.Below.task_numbers.specs.declared.number.TaskNo.{TaskNo}
use Rattle.turn_laws.specs.Below.task_numbers.specs.Numbers.{is_task}
use Rattle.eu_base.specs.declared.request.Request.{Request}
use Rattle.eu_base.specs.declared.request.Request.TheVariants as requests
use Rattle.eu_base.specs.DataSpaces.{heads_of, is_live, without_space}
use Rattle.eu_base.specs.SpaceOperations.{room_refusal}
use Rattle.turn_laws.specs.Below.message_wait.specs.declared.waits.Caller.{Caller}
use Rattle.turn_laws.specs.Below.message_wait.specs.declared.waits.Receiver.{Receiver}
use Rattle.turn_laws.specs.Below.message_wait.specs.Rendezvous.{Waits, is_waiting, is_answer, is_from, is_after, received, answered, released, left, entered}
use Rattle.turn_laws.specs.Below.task_tree.specs.Tree as tree
use Rattle.system_meaning.specs.Tasks.{Doing, Own, request_of}
use Rattle.system_meaning.specs.Systems.{System, doing, requested, kept_by}
use Rattle.system_meaning.specs.Serving.{space_number}
use Rattle.system_meaning.specs.Whole.{IsCaller, WaitsFor, IsReceiver, AreOnce, AreWaits}
use Rattle.turn_laws.specs.Waits.{HasRoom}
use Rattle.turn_laws.proofs.Found.{same_task, own_found, none_found}
use Rattle.turn_laws.proofs.Lists.{neither, all_map, all_where, all_both, all_filter, all_append, all_remove, all_insert, none_filter, none_append, none_remove, none_insert, none_left, some_of, once_filter, once_append, once_remove, once_insert}

abbrev pub CallsSo : System → Caller → Type 0
CallsSo s c = IsCaller c s × HasRoom c s

abbrev pub caller_number : Caller → TaskNo
caller_number c = c.from

abbrev pub receiver_number : Receiver → TaskNo
receiver_number r = r.task

-- these wait rightly, in this system
pub record Right (w : Waits) (s : System) : Type 0 where
  pub callers : AllByRecursion (CallsSo s) w.callers
  pub receivers : AllByRecursion (λ (r : Receiver). IsReceiver r s) w.receivers
  pub one_call : AreOnce (map caller_number w.callers)
  pub one_wait : AreOnce (map receiver_number w.receivers)

pub right_in : (s : System) → AreWaits s → AllByRecursion (λ (c : Caller). HasRoom c s) s.shared.waits.callers → Right s.shared.waits s
right_in s h rooms = record {
  callers = all_both (λ (c : Caller). IsCaller c s) (λ (c : Caller). HasRoom c s) s.shared.waits.callers h.callers rooms;
  receivers = h.receivers;
  one_call = h.one_call;
  one_wait = h.one_wait;
}

abbrev pub AreCalm : Waits → List TaskNo → Type 0
AreCalm w ready = AllByRecursion (λ t. is_waiting t w ≡ false) ready

pub waits_of : (s : System) → Right s.shared.waits s → AreCalm s.shared.waits s.shared.ready → AreWaits s
waits_of s h calm = record {
  callers = all_map (CallsSo s) (λ (c : Caller). IsCaller c s) (λ c both. both.0) s.shared.waits.callers h.callers;
  receivers = h.receivers;
  one_call = h.one_call;
  one_wait = h.one_wait;
  calm = calm;
}

pub rooms_of : (s : System) → Right s.shared.waits s → AllByRecursion (λ (c : Caller). HasRoom c s) s.shared.waits.callers
rooms_of s h = all_map (CallsSo s) (λ (c : Caller). HasRoom c s) (λ c both. both.1) s.shared.waits.callers h.callers

-- ---- who waits

pub record Absent (t : TaskNo) (w : Waits) : Type 0 where
  pub calls : list_any (λ (c : Caller). is_task c.from t) w.callers ≡ false
  pub waits : list_any (λ (r : Receiver). is_task r.task t) w.receivers ≡ false

pub absent : (t : TaskNo) (w : Waits) → is_waiting t w ≡ false → Absent t w
absent t w e =
    let both = or_parts (list_any (λ (c : Caller). is_task c.from t) w.callers) (list_any (λ (r : Receiver). is_task r.task t) w.receivers) e in
    record { calls = both.0; waits = both.1 }

pub not_waiting : (t : TaskNo) (w : Waits) → Absent t w → is_waiting t w ≡ false
not_waiting t w h = neither (list_any (λ (c : Caller). is_task c.from t) w.callers) _ h.calls h.waits

-- what a task asks that waits
pub data Awaits (t : TaskNo) (s : System) : Type 0 where
  calling : (to : ℕ) (code : ℤ) (space : ℕ) → requested t s ≡ Some (requests.Call to code space) → Awaits t s
  waiting : requested t s ≡ Some requests.Wait → Awaits t s
  answering : (of : ℕ) → requested t s ≡ Some (requests.Answer of) → Awaits t s

asked_by : (t : TaskNo) (of : Option TaskNo) (s : System) → WaitsFor t of s → Awaits t s
asked_by t None s h = waiting h
asked_by t (Some u) s h = answering u.0 h.0

pub caller_asks : (t : TaskNo) (cs : List Caller) (s : System) → list_any (λ (c : Caller). is_task c.from t) cs ≡ true → AllByRecursion (CallsSo s) cs
    → (to : ℕ) × (code : ℤ) × (space : ℕ) × (requested t s ≡ Some (requests.Call to code space))
caller_asks t cs s some h =
    let c = some_of (CallsSo s) (λ (c : Caller). is_task c.from t) cs some h in
    (c.0.to.0, c.0.code, c.2.0.space, ap (λ (v : TaskNo). requested v s) (sym (same_task c.0.from t c.1)) ∙ c.2.0.calls)

pub receiver_asks : (t : TaskNo) (rs : List Receiver) (s : System) → list_any (λ (r : Receiver). is_task r.task t) rs ≡ true
    → AllByRecursion (λ (r : Receiver). IsReceiver r s) rs → (r : Receiver) × (r.task ≡ t) × IsReceiver r s
receiver_asks t rs s some h =
    let r = some_of (λ (r : Receiver). IsReceiver r s) (λ (r : Receiver). is_task r.task t) rs some h in (r.0, same_task r.0.task t r.1, r.2)

awaits_as : (t u : TaskNo) (s : System) → t ≡ u → Awaits t s → Awaits u s
awaits_as t u s e h = subst (λ (v : TaskNo). Awaits v s) e h

pub waiting_asks : (t : TaskNo) (w : Waits) (s : System) → Right w s → is_waiting t w ≡ true → Awaits t s
waiting_asks t w s h e =
    ⊎_elim
    (λ calls. let c = caller_asks t w.callers s calls h.callers in calling c.0 c.1 c.2 c.3)
    (λ waits. let r = receiver_asks t w.receivers s waits h.receivers in awaits_as r.0.task t s r.1 (asked_by r.0.task r.0.of s r.2.waits))
    (or_cases (list_any (λ (c : Caller). is_task c.from t) w.callers) (list_any (λ (r : Receiver). is_task r.task t) w.receivers) e)

-- one that asks for nothing, or for something else, does not wait
abbrev pub IsOther : Option Request → Type 0
IsOther (Some (requests.Call to code space)) = ⊥
IsOther (Some requests.Wait) = ⊥
IsOther (Some (requests.Answer of)) = ⊥
IsOther _ = Unit {0}

pub others_absent : (t : TaskNo) (w : Waits) (s : System) → Right w s → IsOther (requested t s) → is_waiting t w ≡ false
others_absent t w s h other = by (is_waiting t w) refl
  where
    no : Awaits t s → ⊥
    no (calling to code space e) = subst (λ (o : Option Request). IsOther o) e other
    no (waiting e) = subst (λ (o : Option Request). IsOther o) e other
    no (answering of e) = subst (λ (o : Option Request). IsOther o) e other

    by : (b : Bool) → is_waiting t w ≡ b → b ≡ false
    by true e = absurd (no (waiting_asks t w s h e))
    by false e = refl

-- one that calls does not wait, and one that waits does not call
pub caller_waits_not : (t : TaskNo) (w : Waits) (s : System) → Right w s → (to : ℕ) (code : ℤ) (space : ℕ) → requested t s ≡ Some (requests.Call to code space)
    → list_any (λ (r : Receiver). is_task r.task t) w.receivers ≡ false
caller_waits_not t w s h to code space is = by (list_any (λ (r : Receiver). is_task r.task t) w.receivers) refl
  where
    no : (of : Option TaskNo) → WaitsFor t of s → ⊥
    no None e = let f : Some (requests.Call to code space) ≡ Some requests.Wait = sym is ∙ e in absurd (cc f)
    no (Some u) e = let f : Some (requests.Call to code space) ≡ Some (requests.Answer u.0) = sym is ∙ e.0 in absurd (cc f)

    by : (b : Bool) → list_any (λ (r : Receiver). is_task r.task t) w.receivers ≡ b → b ≡ false
    by true e =
        let r = receiver_asks t w.receivers s e h.receivers in
        absurd (no r.0.of (subst (λ (v : TaskNo). WaitsFor v r.0.of s) r.1 r.2.waits))
    by false e = refl

pub receiver_calls_not : (t : TaskNo) (w : Waits) (s : System) → Right w s → (of : Option TaskNo) → WaitsFor t of s
    → list_any (λ (c : Caller). is_task c.from t) w.callers ≡ false
receiver_calls_not t w s h of is = by (list_any (λ (c : Caller). is_task c.from t) w.callers) refl
  where
    no : (of : Option TaskNo) → WaitsFor t of s → (to : ℕ) (code : ℤ) (space : ℕ) → requested t s ≡ Some (requests.Call to code space) → ⊥
    no None e to code space calls = let f : Some (requests.Call to code space) ≡ Some requests.Wait = sym calls ∙ e in absurd (cc f)
    no (Some u) e to code space calls = let f : Some (requests.Call to code space) ≡ Some (requests.Answer u.0) = sym calls ∙ e.0 in absurd (cc f)

    by : (b : Bool) → list_any (λ (c : Caller). is_task c.from t) w.callers ≡ b → b ≡ false
    by true e = let c = caller_asks t w.callers s e h.callers in absurd (no of is c.0 c.1 c.2 c.3)
    by false e = refl

-- ---- the system goes on

-- what the others do that live is the same, apart from one
abbrev pub Others : TaskNo → System → System → Type 0
Others u s later = (t : TaskNo) → is_task t u ≡ false → tree.lives t s.shared.tree ≡ true → doing t later ≡ doing t s

abbrev pub LiveOn : System → System → Type 0
LiveOn s later = (t : TaskNo) → tree.lives t s.shared.tree ≡ true → tree.lives t later.shared.tree ≡ true

caller_on : (c : Caller) (s later : System) → doing c.from later ≡ doing c.from s
    → (tree.lives c.to s.shared.tree ≡ true → tree.lives c.to later.shared.tree ≡ true) → CallsSo s c → CallsSo later c
caller_on c s later same alive h = (
  record {
    space = h.0.space;
    calls = ap (option_and_then request_of) same ∙ h.0.calls;
    there = ap (λ (d : Option Doing). is_live (space_number h.0.space) (kept_by d).spaces) same ∙ h.0.there;
    alive = alive h.0.alive;
  },
  λ space calls.
      ap (λ (d : Option Doing). room_refusal (heads_of (without_space (space_number space) (kept_by d).spaces))) same
      ∙ h.1 space (sym (ap (option_and_then request_of) same) ∙ calls),
)

waits_on : (t : TaskNo) (of : Option TaskNo) (s later : System) → doing t later ≡ doing t s
    → ((v : TaskNo) → of ≡ Some v → tree.lives v s.shared.tree ≡ true → tree.lives v later.shared.tree ≡ true) → WaitsFor t of s → WaitsFor t of later
waits_on t None s later same alive h = ap (option_and_then request_of) same ∙ h
waits_on t (Some u) s later same alive h = (ap (option_and_then request_of) same ∙ h.0, alive u refl h.1)

receiver_on : (r : Receiver) (s later : System) → doing r.task later ≡ doing r.task s
    → ((v : TaskNo) → r.of ≡ Some v → tree.lives v s.shared.tree ≡ true → tree.lives v later.shared.tree ≡ true) → IsReceiver r s → IsReceiver r later
receiver_on r s later same alive h = record {
  waits = waits_on r.task r.of s later same alive h.waits;
  room = ap (λ (d : Option Doing). room_refusal (heads_of (kept_by d).spaces)) same ∙ h.room;
}

pub nothing_done : (t : TaskNo) (s : System) → tree.lives t s.shared.tree ≡ false → doing t s ≡ None
nothing_done t s dead = ap (option_map (λ (o : Own). o.doing)) (own_found t s ∙ none_found t s.shared.tree.tasks s.owns dead)

pub lives_asking : (t : TaskNo) (s : System) (q : Request) → requested t s ≡ Some q → tree.lives t s.shared.tree ≡ true
lives_asking t s q e = by (tree.lives t s.shared.tree) refl
  where
    by : (b : Bool) → tree.lives t s.shared.tree ≡ b → b ≡ true
    by true live = refl
    by false dead = absurd (none-some q (sym (ap (option_and_then request_of) (nothing_done t s dead)) ∙ e))

receiver_lives : (t : TaskNo) (of : Option TaskNo) (s : System) → WaitsFor t of s → tree.lives t s.shared.tree ≡ true
receiver_lives t None s h = lives_asking t s requests.Wait h
receiver_lives t (Some u) s h = lives_asking t s (requests.Answer u.0) h.0

-- one that does not wait does something else
pub right_on : (u : TaskNo) (w : Waits) (s later : System) → Absent u w → Others u s later → LiveOn s later → Right w s → Right w later
right_on u w s later off same alive h = record {
  callers =
      all_where (λ (c : Caller). is_task c.from u) (CallsSo s) (CallsSo later)
      (λ c other calls. caller_on c s later (same c.from other (lives_asking c.from s _ calls.0.calls)) (alive c.to) calls)
      w.callers off.calls h.callers;
  receivers =
      all_where (λ (r : Receiver). is_task r.task u) (λ (r : Receiver). IsReceiver r s) (λ (r : Receiver). IsReceiver r later)
      (λ r other waits. receiver_on r s later (same r.task other (receiver_lives r.task r.of s waits.waits)) (λ v of. alive v) waits)
      w.receivers off.waits h.receivers;
  one_call = h.one_call;
  one_wait = h.one_wait;
}

-- what tasks do is the same
pub right_same : (w : Waits) (s later : System) → ((t : TaskNo) → doing t later ≡ doing t s) → LiveOn s later → Right w s → Right w later
right_same w s later same alive h = record {
  callers = all_map (CallsSo s) (CallsSo later) (λ c calls. caller_on c s later (same c.from) (alive c.to) calls) w.callers h.callers;
  receivers =
      all_map (λ (r : Receiver). IsReceiver r s) (λ (r : Receiver). IsReceiver r later)
      (λ r waits. receiver_on r s later (same r.task) (λ v of. alive v) waits) w.receivers h.receivers;
  one_call = h.one_call;
  one_wait = h.one_wait;
}

-- ---- fewer wait

pub right_callers : (p : Caller → Bool) (w : Waits) (s : System) → Right w s → Right (record w { callers = filter p w.callers }) s
right_callers p w s h = record {
  callers = all_filter (CallsSo s) p w.callers h.callers;
  receivers = h.receivers;
  one_call = once_filter caller_number p w.callers h.one_call;
  one_wait = h.one_wait;
}

pub right_receivers : (p : Receiver → Bool) (w : Waits) (s : System) → Right w s → Right (record w { receivers = filter p w.receivers }) s
right_receivers p w s h = record {
  callers = h.callers;
  receivers = all_filter (λ (r : Receiver). IsReceiver r s) p w.receivers h.receivers;
  one_call = h.one_call;
  one_wait = once_filter receiver_number p w.receivers h.one_wait;
}

pub right_removed : (k : ℕ) (w : Waits) (s : System) → Right w s → Right (record w { callers = remove w.callers k }) s
right_removed k w s h = record {
  callers = all_remove (CallsSo s) w.callers k h.callers;
  receivers = h.receivers;
  one_call = once_remove caller_number w.callers k h.one_call;
  one_wait = h.one_wait;
}

pub absent_callers : (t : TaskNo) (p : Caller → Bool) (w : Waits) → Absent t w → Absent t (record w { callers = filter p w.callers })
absent_callers t p w h = record { calls = none_filter (λ (c : Caller). is_task c.from t) p w.callers h.calls; waits = h.waits }

pub absent_receivers : (t : TaskNo) (p : Receiver → Bool) (w : Waits) → Absent t w → Absent t (record w { receivers = filter p w.receivers })
absent_receivers t p w h = record { calls = h.calls; waits = none_filter (λ (r : Receiver). is_task r.task t) p w.receivers h.waits }

pub absent_removed : (t : TaskNo) (k : ℕ) (w : Waits) → Absent t w → Absent t (record w { callers = remove w.callers k })
absent_removed t k w h = record { calls = none_remove (λ (c : Caller). is_task c.from t) w.callers k h.calls; waits = h.waits }

-- ---- one more waits

pub right_called : (c : Caller) (w : Waits) (s : System) → CallsSo s c → list_any (λ (x : Caller). is_task x.from c.from) w.callers ≡ false → Right w s
    → Right (record w { callers = w.callers ++ c ∷ [] }) s
right_called c w s calls off h = record {
  callers = all_append (CallsSo s) w.callers (c ∷ []) h.callers (calls, tt);
  receivers = h.receivers;
  one_call = once_append caller_number w.callers c off h.one_call;
  one_wait = h.one_wait;
}

pub absent_called : (t : TaskNo) (c : Caller) (w : Waits) → is_task c.from t ≡ false → Absent t w → Absent t (record w { callers = w.callers ++ c ∷ [] })
absent_called t c w other h = record { calls = none_append (λ (x : Caller). is_task x.from t) w.callers c h.calls other; waits = h.waits }

pub right_entered : (r : Receiver) (w : Waits) (s : System) → IsReceiver r s → list_any (λ (x : Receiver). is_task x.task r.task) w.receivers ≡ false → Right w s
    → Right (entered r w) s
right_entered r w s waits off h = record {
  callers = h.callers;
  receivers = all_insert (λ (x : Receiver). IsReceiver x s) w.receivers (position_or_len (is_after r.task) w.receivers) r waits h.receivers;
  one_call = h.one_call;
  one_wait = once_insert receiver_number w.receivers (position_or_len (is_after r.task) w.receivers) r off h.one_wait;
}

pub absent_entered : (t : TaskNo) (r : Receiver) (w : Waits) → is_task r.task t ≡ false → Absent t w → Absent t (entered r w)
absent_entered t r w other h = record {
  calls = h.calls;
  waits = none_insert (λ (x : Receiver). is_task x.task t) w.receivers (position_or_len (is_after r.task) w.receivers) r h.waits other;
}

-- ---- a task is gone

-- nobody waits for it, and it does not wait
abbrev pub without : TaskNo → Waits → Waits
without t w = released t (left t w)

pub right_gone : (t : TaskNo) (w : Waits) (s later : System) → Others t s later
    → ((v : TaskNo) → is_task v t ≡ false → tree.lives v s.shared.tree ≡ true → tree.lives v later.shared.tree ≡ true) → Right w s → Right (without t w) later
right_gone t w s later same alive h =
    let first = right_callers (λ (c : Caller). not (is_task c.from t)) (received t w) s (right_receivers (λ (r : Receiver). not (is_task r.task t)) w s h) in
    let second = right_callers (λ (c : Caller). not (is_task c.to t)) (answered t (left t w)) s (right_receivers (λ (r : Receiver). not (is_answer t r)) (left t w) s first) in
    record {
      callers =
          all_where (λ (c : Caller). is_task c.from t || is_task c.to t) (CallsSo s) (CallsSo later)
          (λ c others calls.
          let both = or_parts (is_task c.from t) (is_task c.to t) others in
          caller_on c s later (same c.from both.0 (lives_asking c.from s _ calls.0.calls)) (alive c.to both.1) calls)
          (without t w).callers (callers_off (without t w).callers (absent_left t w).calls (none_left (λ (c : Caller). is_task c.to t) (left t w).callers)) second.callers;
      receivers =
          all_where (λ (r : Receiver). is_task r.task t || is_answer t r) (λ (r : Receiver). IsReceiver r s) (λ (r : Receiver). IsReceiver r later)
          (λ r others waits.
          let both = or_parts (is_task r.task t) (is_answer t r) others in
          receiver_on r s later (same r.task both.0 (receiver_lives r.task r.of s waits.waits)) (λ v of. alive v (named r.of v of both.1)) waits)
          (without t w).receivers (receivers_off (without t w).receivers (absent_left t w).waits (none_left (is_answer t) (left t w).receivers)) second.receivers;
      one_call = second.one_call;
      one_wait = second.one_wait;
    }
  where
    callers_off : (cs : List Caller) → list_any (λ (c : Caller). is_task c.from t) cs ≡ false → list_any (λ (c : Caller). is_task c.to t) cs ≡ false
        → list_any (λ (c : Caller). is_task c.from t || is_task c.to t) cs ≡ false
    callers_off [] a b = refl
    callers_off (c ∷ cs) a b =
        let f = or_parts (is_task c.from t) (list_any (λ (c : Caller). is_task c.from t) cs) a in
        let g = or_parts (is_task c.to t) (list_any (λ (c : Caller). is_task c.to t) cs) b in
        neither (is_task c.from t || is_task c.to t) _ (neither (is_task c.from t) (is_task c.to t) f.0 g.0) (callers_off cs f.1 g.1)

    receivers_off : (rs : List Receiver) → list_any (λ (r : Receiver). is_task r.task t) rs ≡ false → list_any (is_answer t) rs ≡ false
        → list_any (λ (r : Receiver). is_task r.task t || is_answer t r) rs ≡ false
    receivers_off [] a b = refl
    receivers_off (r ∷ rs) a b =
        let f = or_parts (is_task r.task t) (list_any (λ (r : Receiver). is_task r.task t) rs) a in
        let g = or_parts (is_answer t r) (list_any (is_answer t) rs) b in
        neither (is_task r.task t || is_answer t r) _ (neither (is_task r.task t) (is_answer t r) f.0 g.0) (receivers_off rs f.1 g.1)

    named : (of : Option TaskNo) (v : TaskNo) → of ≡ Some v → is_from t of ≡ false → is_task v t ≡ false
    named None v e other = absurd (none-some v e)
    named (Some x) v e other = ap (λ (y : TaskNo). is_task y t) (sym (same_Some x v e)) ∙ other

    absent_left : (t : TaskNo) (w : Waits) → Absent t (without t w)
    absent_left t w = record {
      calls =
          none_filter (λ (c : Caller). is_task c.from t) (λ (c : Caller). not (is_task c.to t)) (left t w).callers
          (none_left (λ (c : Caller). is_task c.from t) w.callers);
      waits =
          none_filter (λ (r : Receiver). is_task r.task t) (λ (r : Receiver). not (is_answer t r)) (left t w).receivers
          (none_left (λ (r : Receiver). is_task r.task t) w.receivers);
    }
