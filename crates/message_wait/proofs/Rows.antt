-- Those that wait come back from their rows.
use Rattle.std.proofs.Common.{◌≡◌, ℕ, ◌+◌, ◌<◌, ◌≤◌, Bool, true, false, not, ◌&&◌, ◌||◌, nat_lt, nat_le, List, [], ◌∷◌, ◌++◌, length, get_or, map, take, pos, AllPairs, sym, refl, ap, subst, ◌∙◌, arith}
use Rattle.std.specs.List.{list_any}
use Rattle.std.proofs.lemmas.Bool.{false≢true, and_parts, and_from}
use Rattle.std.proofs.lemmas.Grind.{common_steps}
use Rattle.std.proofs.lemmas.List.{append-nil, append_assoc, get_or-append-add, get_or_append_left, get_or-take, get_or_default, length-append, length-map, length-take-le, map-append}
use Rattle.std.proofs.lemmas.List.Folds.{list_any_at, list_any_none}
use Rattle.std.proofs.lemmas.List.Quantifiers.{all_pairs_push}
use Rattle.std.proofs.lemmas.List.Sums.{list_all-from_AllPass}
use Rattle.std.proofs.Math.ListN.{get_or-map}
use Rattle.task_numbers.specs.declared.limits.TheConstants.{TASKS}
use Rattle.task_numbers.specs.declared.number.TaskNo.{TaskNo}
use Rattle.task_numbers.specs.Numbers.{is_task}
use Rattle.message_wait.specs.declared.waits.Caller.{Caller}
use Rattle.message_wait.specs.declared.waits.Receiver.{Receiver}
use Rattle.message_wait.specs.Rendezvous.{Waits, is_waiting, nobody}
use Rattle.message_wait.specs.Rows.{waiters, IsRendezvous, has_place, is_last}
use Rattle.message_wait.proofs.Ordered.{pushed_by_number}

-- ---- who waits at a place

module _ (w : Waits) where
  long : length (waiters w) ≡ length w.callers + length w.receivers
  long =
      length-append (map (λ (c : Caller). c.from) w.callers) (map (λ (r : Receiver). r.task) w.receivers)
      ∙ ap (λ n. n + length (map (λ (r : Receiver). r.task) w.receivers)) (length-map w.callers (λ (c : Caller). c.from))
      ∙ ap (λ n. length w.callers + n) (length-map w.receivers (λ (r : Receiver). r.task))

  at_caller : (i : ℕ) (e : Caller) → i < length w.callers → get_or (waiters w) i e.from ≡ (get_or w.callers i e).from
  at_caller i e lt =
      get_or_append_left (map (λ (c : Caller). c.from) w.callers) (map (λ (r : Receiver). r.task) w.receivers) e.from i
      (omega (arith, lt, length-map w.callers (λ (c : Caller). c.from)))
      ∙ get_or-map (λ (c : Caller). c.from) w.callers i e

  at_receiver : (i : ℕ) (e : Receiver) → get_or (waiters w) (length w.callers + i) e.task ≡ (get_or w.receivers i e).task
  at_receiver i e =
      subst (λ n. get_or (waiters w) (n + i) e.task ≡ (get_or w.receivers i e).task) (length-map w.callers (λ (c : Caller). c.from))
      (get_or-append-add (map (λ (c : Caller). c.from) w.callers) (map (λ (r : Receiver). r.task) w.receivers) i e.task
      ∙ get_or-map (λ (r : Receiver). r.task) w.receivers i e)

  module _ (is : IsRendezvous w) where
    callers_apart : (i k : ℕ) (c : Caller) → i < k → k < length w.callers → c ≡ get_or w.callers k c → is_task (get_or w.callers i c).from c.from ≡ false
    callers_apart i k c less lt at =
        let there = is.once i k c.from less (omega (arith, long, lt)) in
        let second : get_or (waiters w) k c.from ≡ c.from = at_caller k c lt ∙ ap (λ (x : Caller). x.from) (sym at) in
        subst (λ u. is_task (get_or w.callers i c).from u ≡ false) second
        (subst (λ t. is_task t (get_or (waiters w) k c.from) ≡ false) (at_caller i c (omega (arith, less, lt))) there)

    caller_apart : (i k : ℕ) (e : Caller) (r : Receiver) → e.from ≡ r.task → i < length w.callers → k < length w.receivers → r ≡ get_or w.receivers k r
        → is_task (get_or w.callers i e).from r.task ≡ false
    caller_apart i k e r from less lt at =
        let there = is.once i (length w.callers + k) e.from (omega (arith, less)) (omega (arith, long, lt)) in
        let second : get_or (waiters w) (length w.callers + k) e.from ≡ r.task =
        ap (λ t. get_or (waiters w) (length w.callers + k) t) from ∙ at_receiver k r ∙ ap (λ (x : Receiver). x.task) (sym at) in
        subst (λ u. is_task (get_or w.callers i e).from u ≡ false) second
        (subst (λ t. is_task t (get_or (waiters w) (length w.callers + k) e.from) ≡ false) (at_caller i e less) there)

    receivers_apart : (i k : ℕ) (r : Receiver) → i < k → k < length w.receivers → r ≡ get_or w.receivers k r → is_task (get_or w.receivers i r).task r.task ≡ false
    receivers_apart i k r less lt at =
        let there = is.once (length w.callers + i) (length w.callers + k) r.task (omega (arith, less)) (omega (arith, long, lt)) in
        let second : get_or (waiters w) (length w.callers + k) r.task ≡ r.task = at_receiver k r ∙ ap (λ (x : Receiver). x.task) (sym at) in
        subst (λ u. is_task (get_or w.receivers i r).task u ≡ false) second
        (subst (λ t. is_task t (get_or (waiters w) (length w.callers + k) r.task) ≡ false) (at_receiver i r) there)

-- ---- each has a place behind those before it

taken : {X : Type 0} (xs : List X) (k i : ℕ) (e d : X) → k < length xs → i < length (take k xs) → (i < k) × (get_or (take k xs) i e ≡ get_or xs i d)
taken xs k i e d lt less =
    let before : i < k = omega (arith, less, length-take-le k xs (omega (arith, lt))) in
    (before, get_or-take k xs i e before ∙ get_or_default xs i e d (omega (arith, before, lt)))

pub caller_has_place : (w : Waits) (k : ℕ) (c : Caller) → IsRendezvous w → k < length w.callers → c ≡ get_or w.callers k c
    → has_place c.from (record { callers = take k w.callers; receivers = [] }) ≡ true
caller_has_place w k c is lt at =
    let few = is.few in
    let short = length-take-le k w.callers (omega (arith, lt)) in
    let room : nat_lt (length (take k w.callers) + 0) TASKS ≡ true = grind (arith, few, short, lt) in
    let fresh : not (is_waiting c.from (record { callers = take k w.callers; receivers = [] })) ≡ true = grind (arith, free) in
    and_from (nat_lt (length (take k w.callers) + 0) TASKS) (not (is_waiting c.from (record { callers = take k w.callers; receivers = [] }))) room fresh
  where
    free : list_any (λ (x : Caller). is_task x.from c.from) (take k w.callers) ≡ false
    free = list_any_none (λ (x : Caller). is_task x.from c.from) (take k w.callers)
        (λ i e less. let there = taken w.callers k i e c lt less in
        subst (λ (x : Caller). is_task x.from c.from ≡ false) (sym there.1) (callers_apart w is i k c there.0 lt at))

abbrev pub caller_of : TaskNo → Caller
caller_of t = record { from = t; to = t; code = pos 0 }

pub receiver_has_place : (w : Waits) (k : ℕ) (r : Receiver) → IsRendezvous w → k < length w.receivers → r ≡ get_or w.receivers k r
    → has_place r.task (record { callers = w.callers; receivers = take k w.receivers }) ≡ true
receiver_has_place w k r is lt at =
    let few = is.few in
    let short = length-take-le k w.receivers (omega (arith, lt)) in
    let room : nat_lt (length w.callers + length (take k w.receivers)) TASKS ≡ true = grind (arith, few, short, lt) in
    let fresh : not (is_waiting r.task (record { callers = w.callers; receivers = take k w.receivers })) ≡ true = grind (arith, calls, waits) in
    and_from (nat_lt (length w.callers + length (take k w.receivers)) TASKS) (not (is_waiting r.task (record { callers = w.callers; receivers = take k w.receivers }))) room fresh
  where
    calls : list_any (λ (x : Caller). is_task x.from r.task) w.callers ≡ false
    calls = list_any_none (λ (x : Caller). is_task x.from r.task) w.callers
        (λ i e less. subst (λ (x : Caller). is_task x.from r.task ≡ false) (get_or_default w.callers i (caller_of r.task) e less) (caller_apart w is i k (caller_of r.task) r refl less lt at))

    waits : list_any (λ (x : Receiver). is_task x.task r.task) (take k w.receivers) ≡ false
    waits = list_any_none (λ (x : Receiver). is_task x.task r.task) (take k w.receivers)
        (λ i e less. let there = taken w.receivers k i e r lt less in
        subst (λ (x : Receiver). is_task x.task r.task ≡ false) (sym there.1) (receivers_apart w is i k r there.0 lt at))

pub receiver_is_last : (w : Waits) (k : ℕ) (r : Receiver) → IsRendezvous w → k < length w.receivers → r ≡ get_or w.receivers k r → is_last r.task (take k w.receivers) ≡ true
receiver_is_last w k r is lt at = list_all-from_AllPass (λ (x : Receiver). nat_le x.task.0 r.task.0) (take k w.receivers)
    (λ i e less. let there = taken w.receivers k i e r lt less in
    subst (λ (x : Receiver). nat_le x.task.0 r.task.0 ≡ true) (sym there.1)
    (let order : (get_or w.receivers i r).task.0 ≤ (get_or w.receivers k r).task.0 = is.by_number i k r (omega (arith, there.0)) lt in
    let number = ap (λ (x : Receiver). x.task.0) at in grind (arith, order, number)))

-- ---- one more waits

module _ (w : Waits) (is : IsRendezvous w) where
  none_is : (t : TaskNo) → is_waiting t w ≡ false → (k : ℕ) (d : TaskNo) → k < length (waiters w) → is_task (get_or (waiters w) k d) t ≡ false
  none_is t free k d lt = by (is_task (get_or (waiters w) k d) t) refl
    where
      among : list_any (λ u. is_task u t) (waiters w) ≡ false
      among = grind (arith, common_steps, any_both w.callers w.receivers, free)
        where
          any_froms : (cs : List Caller) → list_any (λ u. is_task u t) (map (λ (c : Caller). c.from) cs) ≡ list_any (λ (c : Caller). is_task c.from t) cs
          any_froms [] = refl
          any_froms (c ∷ cs) = ap (λ b. is_task c.from t || b) (any_froms cs)

          any_tasks : (rs : List Receiver) → list_any (λ u. is_task u t) (map (λ (r : Receiver). r.task) rs) ≡ list_any (λ (r : Receiver). is_task r.task t) rs
          any_tasks [] = refl
          any_tasks (r ∷ rs) = ap (λ b. is_task r.task t || b) (any_tasks rs)

          any_both : (cs : List Caller) (rs : List Receiver) → list_any (λ u. is_task u t) (map (λ (c : Caller). c.from) cs ++ map (λ (r : Receiver). r.task) rs)
              ≡ (list_any (λ (c : Caller). is_task c.from t) cs || list_any (λ (r : Receiver). is_task r.task t) rs)
          any_both [] rs = any_tasks rs
          any_both (c ∷ cs) rs = grind (arith, any_both cs rs)

      by : (b : Bool) → is_task (get_or (waiters w) k d) t ≡ b → b ≡ false
      by false e = refl
      by true e = absurd (false≢true (sym among ∙ list_any_at (λ u. is_task u t) (waiters w) k d lt e))

  push_once : (t : TaskNo) → is_waiting t w ≡ false → AllPairs (λ v u. is_task v u ≡ false) (waiters w ++ t ∷ [])
  push_once t free = all_pairs_push (λ v u. is_task v u ≡ false) (waiters w) t is.once (none_is t free)

  pub receiver_comes : (r : Receiver) → (has_place r.task w && is_last r.task w.receivers) ≡ true → IsRendezvous (record w { receivers = w.receivers ++ r ∷ [] })
  receiver_comes r e =
      let both = and_parts (has_place r.task w) (is_last r.task w.receivers) e in
      let place = and_parts (nat_lt (length w.callers + length w.receivers) TASKS) (not (is_waiting r.task w)) both.0 in
      record {
        few = let room = place.0 in grind (arith, common_steps, room);
        once = subst (AllPairs (λ v u. is_task v u ≡ false))
            (append_assoc (map (λ (c : Caller). c.from) w.callers) (map (λ (x : Receiver). x.task) w.receivers) (r.task ∷ [])
            ∙ ap (λ ts. map (λ (c : Caller). c.from) w.callers ++ ts) (sym (map-append (λ (x : Receiver). x.task) w.receivers (r ∷ []))))
            (push_once r.task (let free = place.1 in grind (arith, free)));
        by_number = pushed_by_number w.receivers r is.by_number both.1;
      }

  pub caller_comes : (c : Caller) → w.receivers ≡ [] → has_place c.from w ≡ true → IsRendezvous (record w { callers = w.callers ++ c ∷ [] })
  caller_comes c none e =
      let place = and_parts (nat_lt (length w.callers + length w.receivers) TASKS) (not (is_waiting c.from w)) e in
      record {
        few = let room = place.0 in grind (arith, common_steps, room);
        once = subst (AllPairs (λ v u. is_task v u ≡ false)) moved (push_once c.from (let free = place.1 in grind (arith, free)));
        by_number = is.by_number;
      }
    where
      moved : waiters w ++ c.from ∷ [] ≡ waiters (record w { callers = w.callers ++ c ∷ [] })
      moved = subst (λ rs. (map (λ (x : Caller). x.from) w.callers ++ map (λ (x : Receiver). x.task) rs) ++ c.from ∷ []
          ≡ map (λ (x : Caller). x.from) (w.callers ++ c ∷ []) ++ map (λ (x : Receiver). x.task) rs) (sym none)
          (ap (λ ts. ts ++ c.from ∷ []) (append-nil (map (λ (x : Caller). x.from) w.callers)) ∙ sym (map-append (λ (x : Caller). x.from) w.callers (c ∷ []))
          ∙ sym (append-nil (map (λ (x : Caller). x.from) (w.callers ++ c ∷ []))))

pub nobody_is_one : IsRendezvous nobody
nobody_is_one = record {
  few = omega arith;
  once = λ i j d less lt. absurd (omega (arith, lt));
  by_number = λ i j d le lt. absurd (omega (arith, lt));
}
