-- Those that wait for messages live, and none waits twice; so there is room for one more that lives and does not wait.
use Rattle.std.proofs.Common.{◌≡◌, ℕ, ◌+◌, ◌<◌, ◌≤◌, Bool, true, false, cond, not, ◌||◌, List, [], ◌∷◌, ◌++◌, length, map, filter, Option, Some, None, refl, sym, ap, ◌∙◌, subst, arith, eqb, pos}
use Rattle.std.proofs.Common.{if◌then◌else◌}
use Rattle.std.specs.List.{list_any, sum_by, count_by, remove, position_or_len, IsDistinct, AllByRecursion}
use Rattle.std.proofs.lemmas.Bool.{eqb-true}
use Rattle.std.proofs.lemmas.List.{length-map, length-append}
use Rattle.std.proofs.lemmas.List.Elements.{All-from_recursion, recursion_from_All, filter-append}
use Rattle.std.proofs.lemmas.List.Filters.{sum_by-filter_both}
use Rattle.std.proofs.lemmas.List.Folds.{list_any-append}
use Rattle.std.proofs.lemmas.List.Quantifiers.{position-Some}
use Rattle.std.proofs.lemmas.List.Sums.{sum_by-cons, sum_by-append, sum_by_push, sum_by-insert, sum_by-remove}
use Rattle.std.proofs.lemmas.Map.Keys.{IsDistinct-cons, IsDistinct-head, IsDistinct-tail}
use Rattle.task_numbers.specs.declared.limits.TheConstants.{TASKS}
use Rattle.task_numbers.specs.declared.number.TaskNo.{TaskNo}
use Rattle.task_numbers.specs.Numbers.{is_task}
use Rattle.task_tree.specs.Tree.{Tree, lives, ended}
use Rattle.task_tree.specs.Trees.{IsTree}
use Rattle.slicer.specs.Rotation.{is_ready, without}
use Rattle.message_wait.specs.declared.waits.Caller.{Caller}
use Rattle.message_wait.specs.declared.waits.Receiver.{Receiver}
use Rattle.message_wait.specs.Rendezvous.{Waits, nobody, is_waiting, received, offered, first_call, entered, waited, waited_at, released, left}
use Rattle.message_wait.specs.Rendezvous as rendezvous
use Rattle.task_desk.specs.Desks.{AllLive, AreWaiters, waiters}
use Rattle.task_desk.proofs.Living.{apart_from, room_for, live_ended}

-- ---- how often a task stands in a list

abbrev times : TaskNo → List TaskNo → ℕ
times u xs = count_by (λ (v : TaskNo). is_task v u) xs

abbrev one_if : Bool → ℕ
one_if b = cond b 1 0

times_cons : (u x : TaskNo) (xs : List TaskNo) → times u (x ∷ xs) ≡ one_if (is_task x u) + times u xs
times_cons u x xs = sum_by-cons (λ (v : TaskNo). one_if (is_task v u)) x xs

itself : (u : TaskNo) → is_task u u ≡ true
itself u = same u.0
  where
    same : (n : ℕ) → eqb n n ≡ true
    same n = grind arith

turned : (u v : TaskNo) → is_task u v ≡ false → is_task v u ≡ false
turned u v e = grind (arith, e)

-- none of them is the task
abbrev Apart : TaskNo → List TaskNo → Type 0
Apart u xs = AllByRecursion (λ (v : TaskNo). is_task v u ≡ false) xs

apart_never : (u : TaskNo) (xs : List TaskNo) → Apart u xs → times u xs ≡ 0
apart_never u [] apart = refl
apart_never u (x ∷ xs) apart = times_cons u x xs ∙ ap (λ (b : Bool). one_if b + times u xs) apart.0 ∙ omega (arith, apart_never u xs apart.1)

never_apart : (u : TaskNo) (xs : List TaskNo) → times u xs ≡ 0 → Apart u xs
never_apart u [] none = tt
never_apart u (x ∷ xs) none = by (is_task x u) (sym (times_cons u x xs) ∙ none) (never_apart u xs)
  where
    by : (b : Bool) → one_if b + times u xs ≡ 0 → (times u xs ≡ 0 → Apart u xs) → (b ≡ false) × Apart u xs
    by true e rest = absurd (omega (arith, e))
    by false e rest = (refl, rest (omega (arith, e)))

-- different tasks stand there once
distinct_once : (xs : List TaskNo) → IsDistinct is_task xs → (u : TaskNo) → times u xs ≤ 1
distinct_once [] apart u = omega arith
distinct_once (x ∷ xs) apart u =
    subst (λ (n : ℕ). n ≤ 1) (sym (times_cons u x xs))
    (by (is_task x u) (λ is. apart_never u xs (from_head is xs (IsDistinct-head is_task x xs apart))) (distinct_once xs (IsDistinct-tail is_task x xs apart) u))
  where
    from_head : is_task x u ≡ true → (ys : List TaskNo) → AllByRecursion (λ (v : TaskNo). is_task x v ≡ false) ys → Apart u ys
    from_head is [] h = tt
    from_head is (y ∷ ys) h =
        (turned u y (subst (λ (n : ℕ). eqb n y.0 ≡ false) (eqb-true x.0 u.0 is) h.0), from_head is ys h.1)

    by : (b : Bool) → (b ≡ true → times u xs ≡ 0) → times u xs ≤ 1 → one_if b + times u xs ≤ 1
    by true none most = omega (arith, none refl)
    by false none most = omega (arith, most)

once_distinct : (xs : List TaskNo) → ((u : TaskNo) → times u xs ≤ 1) → IsDistinct is_task xs
unfolding IsDistinct
once_distinct [] few = tt
once_distinct (x ∷ xs) few =
    IsDistinct-cons is_task x xs (all_turned xs (never_apart x xs (alone (is_task x x) (itself x) (subst (λ (n : ℕ). n ≤ 1) (times_cons x x xs) (few x)))))
    (once_distinct xs (λ u. omega (arith, times_cons u x xs, few u)))
  where
    alone : (b : Bool) → b ≡ true → one_if b + times x xs ≤ 1 → times x xs ≡ 0
    alone true e most = omega (arith, most)
    alone false e most = cc

    all_turned : (ys : List TaskNo) → Apart x ys → AllByRecursion (λ (v : TaskNo). is_task x v ≡ false) ys
    all_turned [] h = tt
    all_turned (y ∷ ys) h = (turned y x h.0, all_turned ys h.1)

-- ---- lists of live tasks

module _ (tree : Tree) where
  abbrev Live : List TaskNo → Type 0
  Live xs = AllByRecursion (λ (u : TaskNo). lives u tree ≡ true) xs

  live_counted : (xs : List TaskNo) → Live xs → (v : TaskNo) → 0 < times v xs → lives v tree ≡ true
  live_counted [] live v some = absurd (omega (arith, some))
  live_counted (x ∷ xs) live v some = by (is_task x v) refl (subst (λ (n : ℕ). 0 < n) (times_cons v x xs) some) (live_counted xs live.1 v)
    where
      by : (b : Bool) → is_task x v ≡ b → 0 < one_if b + times v xs → (0 < times v xs → lives v tree ≡ true) → lives v tree ≡ true
      by true is h rest = subst (λ (n : ℕ). let no : TaskNo = record { 0 = n } in lives no tree ≡ true) (eqb-true x.0 v.0 is) live.0
      by false is h rest = rest (omega (arith, h))

  fewer_live : (xs ys : List TaskNo) → Live xs → ((u : TaskNo) → times u ys ≤ times u xs) → Live ys
  fewer_live xs [] live few = tt
  fewer_live xs (y ∷ ys) live few = (
    live_counted xs live y (here (is_task y y) (itself y) (subst (λ (n : ℕ). n ≤ times y xs) (times_cons y y ys) (few y))),
    fewer_live xs ys live (λ u. omega (arith, times_cons u y ys, few u)),
  )
    where
      here : (b : Bool) → b ≡ true → one_if b + times y ys ≤ times y xs → 0 < times y xs
      here true e h = omega (arith, h)
      here false e h = cc

-- ---- those that wait

sum_by_map : {A B : Type 0} (g : B → ℕ) (f : A → B) (xs : List A) → sum_by g (map f xs) ≡ sum_by (λ (x : A). g (f x)) xs
sum_by_map g f [] = refl
sum_by_map {A} g f (x ∷ xs) =
    sum_by-cons g (f x) (map f xs) ∙ ap (λ (n : ℕ). g (f x) + n) (sum_by_map g f xs) ∙ sym (sum_by-cons (λ (y : A). g (f y)) x xs)

any_map : {A B : Type 0} (p : B → Bool) (f : A → B) (xs : List A) → list_any p (map f xs) ≡ list_any (λ (x : A). p (f x)) xs
any_map p f [] = refl
any_map p f (x ∷ xs) = ap (λ (b : Bool). p (f x) || b) (any_map p f xs)

filter_map_is : {A B : Type 0} (p : B → Bool) (f : A → B) (xs : List A) → filter p (map f xs) ≡ map f (filter (λ (x : A). p (f x)) xs)
filter_map_is p f [] = refl
filter_map_is {A} p f (x ∷ xs) = by (p (f x)) (filter_map_is p f xs)
  where
    by : (b : Bool) → filter p (map f xs) ≡ map f (filter (λ (y : A). p (f y)) xs)
        → cond b (f x ∷ filter p (map f xs)) (filter p (map f xs))
        ≡ map f (cond b (x ∷ filter (λ (y : A). p (f y)) xs) (filter (λ (y : A). p (f y)) xs))
    by true e = ap (λ zs. f x ∷ zs) e
    by false e = e

abbrev by_from : TaskNo → Caller → ℕ
by_from u c = one_if (is_task c.from u)

abbrev by_task : TaskNo → Receiver → ℕ
by_task u r = one_if (is_task r.task u)

-- how often a task waits
times_waits : (u : TaskNo) (w : Waits) → times u (waiters w) ≡ sum_by (by_from u) w.callers + sum_by (by_task u) w.receivers
times_waits u w =
    let count = λ (v : TaskNo). one_if (is_task v u) in
    let froms = map (λ (c : Caller). c.from) w.callers in
    let tasks = map (λ (r : Receiver). r.task) w.receivers in
    sum_by-append count froms tasks ∙ ap (λ (n : ℕ). n + sum_by count tasks) (sum_by_map count (λ (c : Caller). c.from) w.callers)
    ∙ ap (λ (n : ℕ). sum_by (by_from u) w.callers + n) (sum_by_map count (λ (r : Receiver). r.task) w.receivers)

is_among : (t : TaskNo) (w : Waits) → is_ready t (waiters w) ≡ is_waiting t w
is_among t w =
    let is = λ (v : TaskNo). is_task v t in
    let froms = map (λ (c : Caller). c.from) w.callers in
    let tasks = map (λ (r : Receiver). r.task) w.receivers in
    list_any-append is froms tasks ∙ ap (λ (b : Bool). b || list_any is tasks) (any_map is (λ (c : Caller). c.from) w.callers)
    ∙ ap (λ (b : Bool). list_any (λ (c : Caller). is_task c.from t) w.callers || b) (any_map is (λ (r : Receiver). r.task) w.receivers)

how_many : (w : Waits) → length (waiters w) ≡ length w.callers + length w.receivers
how_many w =
    let froms = map (λ (c : Caller). c.from) w.callers in
    let tasks = map (λ (r : Receiver). r.task) w.receivers in
    omega (
      arith,
      length-append froms tasks,
      length-map w.callers (λ (c : Caller). c.from),
      length-map w.receivers (λ (r : Receiver). r.task),
    )

module _ (tree : Tree) (w : Waits) (are : AreWaiters tree w) where
  all_live : Live tree (waiters w)
  all_live = recursion_from_All (λ (u : TaskNo). lives u tree ≡ true) (waiters w) are.live

  module _ (t : TaskNo) (free : is_waiting t w ≡ false) where
    not_among : Apart t (waiters w)
    not_among = apart_from t (waiters w) (is_among t w ∙ free)

    pub wait_room : IsTree tree → lives t tree ≡ true → length w.callers + length w.receivers < TASKS
    wait_room has live = omega (arith, how_many w, room_for t tree (waiters w) has all_live are.once not_among live)

  -- where each waits at most as often as it waited
  pub fewer_wait : (v : Waits) → ((u : TaskNo) → times u (waiters v) ≤ times u (waiters w)) → AreWaiters tree v
  fewer_wait v few = record {
    live = All-from_recursion (λ (u : TaskNo). lives u tree ≡ true) (waiters v) (fewer_live tree (waiters w) (waiters v) all_live few);
    once = once_distinct (waiters v) (λ u. omega (arith, few u, distinct_once (waiters w) are.once u));
  }

  -- where one waits besides
  pub one_more_waits : (t : TaskNo) → lives t tree ≡ true → is_waiting t w ≡ false → (v : Waits)
      → ((u : TaskNo) → times u (waiters v) ≤ one_if (is_task t u) + times u (waiters w)) → AreWaiters tree v
  one_more_waits t live free v few = record {
    live = All-from_recursion (λ (u : TaskNo). lives u tree ≡ true) (waiters v)
        (fewer_live tree (t ∷ waiters w) (waiters v) (live, all_live) (λ u. omega (arith, few u, times_cons u t (waiters w))));
    once = once_distinct (waiters v)
        (λ u. omega (arith, few u, times_cons u t (waiters w), distinct_once (t ∷ waiters w) (IsDistinct-cons is_task t (waiters w) (flipped (waiters w) (not_among t free)) are.once) u));
  }
    where
      flipped : (ys : List TaskNo) → Apart t ys → AllByRecursion (λ (y : TaskNo). is_task t y ≡ false) ys
      flipped [] h = tt
      flipped (y ∷ ys) h = (turned y t h.0, flipped ys h.1)

  -- ---- what becomes of them

  fewer_filtered : {A : Type 0} (p : A → Bool) (f : A → ℕ) (xs : List A) → sum_by f (filter p xs) ≤ sum_by f xs
  fewer_filtered {A} p f xs =
      let both = sum_by-filter_both p (λ (x : A). not (p x)) (λ x. refl) f xs in omega (arith, both)

  pub received_wait : (t : TaskNo) → AreWaiters tree (received t w)
  received_wait t =
      let passes = λ (r : Receiver). not (is_task r.task t) in
      fewer_wait (received t w)
      (λ u. omega (arith, times_waits u w, times_waits u (received t w), fewer_filtered passes (by_task u) w.receivers))

  pub released_wait : (t : TaskNo) → AreWaiters tree (released t w)
  released_wait t =
      let callers = λ (c : Caller). not (is_task c.to t) in
      let receivers = λ (r : Receiver). not (rendezvous.is_answer t r) in
      fewer_wait (released t w)
      (λ u. omega (
        arith,
        times_waits u w,
        times_waits u (released t w),
        fewer_filtered callers (by_from u) w.callers,
        fewer_filtered receivers (by_task u) w.receivers,
      ))

  pub left_wait : (t : TaskNo) → AreWaiters tree (left t w)
  left_wait t =
      let callers = λ (c : Caller). not (is_task c.from t) in
      let receivers = λ (r : Receiver). not (is_task r.task t) in
      fewer_wait (left t w)
      (λ u. omega (
        arith,
        times_waits u w,
        times_waits u (left t w),
        fewer_filtered callers (by_from u) w.callers,
        fewer_filtered receivers (by_task u) w.receivers,
      ))

  pub entered_wait : (r : Receiver) → lives r.task tree ≡ true → is_waiting r.task w ≡ false → AreWaiters tree (entered r w)
  entered_wait r live free =
      one_more_waits r.task live free (entered r w)
      (λ u. omega (
        arith,
        times_waits u w,
        times_waits u (entered r w),
        sum_by-insert (by_task u) w.receivers (position_or_len (rendezvous.is_after r.task) w.receivers) r,
      ))

  called : (c : Caller) → lives c.from tree ≡ true → is_waiting c.from w ≡ false → AreWaiters tree (record w { callers = w.callers ++ c ∷ [] })
  called c live free =
      let more : Waits = record w { callers = w.callers ++ c ∷ [] } in
      one_more_waits c.from live free more (λ u. omega (arith, times_waits u w, times_waits u more, sum_by_push (by_from u) w.callers c))

  pub offered_wait : (c : Caller) (queue : Bool) → lives c.from tree ≡ true → is_waiting c.from w ≡ false → AreWaiters tree (offered c queue w)
  offered_wait c queue live free = by (rendezvous.is_ready c.to c.from w) queue
    where
      by : (b q : Bool) → AreWaiters tree (if b then received c.to w else if q then record w { callers = w.callers ++ c ∷ [] } else w)
      by true q = received_wait c.to
      by false true = called c live free
      by false false = are

  pub waited_wait : (t : TaskNo) → lives t tree ≡ true → is_waiting t w ≡ false → AreWaiters tree (waited t w)
  waited_wait t live free = by (first_call t w) refl
    where
      by : (at : Option ℕ) → first_call t w ≡ at → AreWaiters tree (waited_at at t w)
      by None none = entered_wait (record { task = t; of = None }) live free
      by (Some k) found =
          let d : Caller = record { from = t; to = t; code = pos 0 } in
          let low = (position-Some (λ (c : Caller). is_task c.to t) w.callers k d found).0 in
          let fewer : Waits = record w { callers = remove w.callers k } in
          fewer_wait fewer (λ u. omega (arith, times_waits u w, times_waits u fewer, sum_by-remove (by_from u) w.callers k d low))

  -- a task ends, and the others that wait live on
  pub ended_wait : (t : TaskNo) → AreWaiters (ended t tree) (left t w)
  ended_wait t = record {
    live = subst (AllLive (ended t tree)) (sym left_is) (live_ended t tree (waiters w) are.live);
    once = (left_wait t).once;
  }
    where
      left_is : waiters (left t w) ≡ without t (waiters w)
      left_is =
          let gone = λ (v : TaskNo). not (is_task v t) in
          let froms = map (λ (c : Caller). c.from) w.callers in
          let tasks = map (λ (r : Receiver). r.task) w.receivers in
          sym (filter-append gone froms tasks ∙ ap (λ (xs : List TaskNo). xs ++ filter gone tasks) (filter_map_is gone (λ (c : Caller). c.from) w.callers)
          ∙ ap (λ (ys : List TaskNo). map (λ (c : Caller). c.from) (filter (λ (c : Caller). not (is_task c.from t)) w.callers) ++ ys)
          (filter_map_is gone (λ (r : Receiver). r.task) w.receivers))

-- where nobody waits
pub nobody_waits : (tree : Tree) → AreWaiters tree nobody
nobody_waits tree = record {
  live = All-from_recursion (λ (u : TaskNo). lives u tree ≡ true) [] tt;
  once = once_distinct [] (λ u. omega arith);
}

-- in a tree where all live on
pub wait_on : (tree later : Tree) (w : Waits) → ((t : TaskNo) → lives t tree ≡ true → lives t later ≡ true) → AreWaiters tree w → AreWaiters later w
wait_on tree later w on are = record { live = λ k d low. on _ (are.live k d low); once = are.once }
