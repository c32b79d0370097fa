-- The tasks of a family can end in its order.
use Rattle.std.proofs.Common.{◌≡◌, ℕ, zero, suc, ◌+◌, ◌<◌, ◌≤◌, Bool, true, false, cond, not, ◌||◌, List, [], ◌∷◌, ◌++◌, length, map, filter, find, get_or, drop, None, Some}
use Rattle.std.proofs.Common.{sym, refl, ap, ◌∙◌, subst, ⊎_elim, if◌then◌else◌, append_assoc, append-nil, add-one, drop-cons, arith}
use Rattle.std.specs.List.{flat_map}
use Rattle.std.proofs.lemmas.Bool.{false≢true, or_left, or_right, ne_eqb, false_from_ne_true, not_from_false}
use Rattle.std.proofs.lemmas.List.Elements.{recursion_from_All}
use Rattle.std.proofs.lemmas.Map.Views.{any-filter_same}
use Rattle.task_numbers.specs.declared.limits.TheConstants.{TASKS}
use Rattle.task_numbers.specs.declared.number.TaskNo.{TaskNo}
use Rattle.task_numbers.specs.Numbers.{niltask, is_task}
use Rattle.task_tree.specs.declared.task.Task.{Task}
use Rattle.task_tree.specs.Tree.{Tree, lives, son, sons, ended, has_number, has_father, number, number_of}
use Rattle.task_tree.specs.Trees.{IsYoungerThanFather, IsTree}
use Rattle.task_tree.proofs.Growing.{ended_is_tree}
use Rattle.task_tree.specs.Families.{descent, family}
use Rattle.task_tree.specs.Ends.{CanEnd, EndInTurn, all_ended}
use Rattle.task_tree.proofs.Members.{has, Apart, IsOnce, same_number, is_itself, is_task_back, not_both, has-append, in_one, in_first, in_second, is_last, in_all, part}
use Rattle.task_tree.proofs.Sons.{IsOrdered, rising, sons_in, sons_live, sons_are, sons_once, from, from-le-length, fewer_beyond}
use Rattle.task_tree.proofs.Descents.{below, in_own, above, brothers_apart}

turns-append : (ts us : List TaskNo) (s : Tree) → EndInTurn ts s → EndInTurn us (all_ended ts s) → EndInTurn (ts ++ us) s
turns-append [] us s first second = second
turns-append (t ∷ ts) us s first second = (first.0, turns-append ts us (ended t s) first.1 second)

abbrev kept : List TaskNo → List Task → List Task
kept done xs = filter (λ u. not (has u.number done)) xs

-- the tree without these tasks
abbrev without : List TaskNo → Tree → Tree
without done s = record s { tasks = kept done s.tasks }

has_one_more : (t : TaskNo) (done : List TaskNo) (x : Task) → has x.number (done ++ t ∷ []) ≡ (has x.number done || has_number t x)
has_one_more t done x = has-append x.number done (t ∷ []) ∙ ap (λ b. has x.number done || b) (or_false (is_task t x.number) ∙ is_task_back t x.number)
  where
    or_false : (b : Bool) → (b || false) ≡ b
    or_false b = grind arith

one_more : (t : TaskNo) (done : List TaskNo) (xs : List Task) → filter (λ u. not (has_number t u)) (kept done xs) ≡ kept (done ++ t ∷ []) xs
one_more t done [] = refl
one_more t done (x ∷ xs) = by (has x.number done) (has_one_more t done x) (one_more t done xs)
  where
    with_it : Bool → List Task
    with_it gone = cond (not gone) (x ∷ kept (done ++ t ∷ []) xs) (kept (done ++ t ∷ []) xs)

    by : (b : Bool) → has x.number (done ++ t ∷ []) ≡ (b || has_number t x) → filter (λ u. not (has_number t u)) (kept done xs) ≡ kept (done ++ t ∷ []) xs
        → filter (λ u. not (has_number t u)) (cond (not b) (x ∷ kept done xs) (kept done xs)) ≡ with_it (has x.number (done ++ t ∷ []))
    by true e same = same ∙ sym (ap with_it e)
    by false e same = ap (λ l. cond (not (has_number t x)) (x ∷ l) l) same ∙ sym (ap with_it e)

ended_without : (t : TaskNo) (done : List TaskNo) (s : Tree) → ended t (without done s) ≡ without (done ++ t ∷ []) s
ended_without t done s = ap (λ (xs : List Task). record s { tasks = xs }) (one_more t done s.tasks)

all_ended_without : (ts done : List TaskNo) (s : Tree) → all_ended ts (without done s) ≡ without (done ++ ts) s
all_ended_without [] done s = ap (λ l. without l s) (sym (append-nil done))
all_ended_without (t ∷ ts) done s =
    ap (all_ended ts) (ended_without t done s) ∙ all_ended_without ts (done ++ t ∷ []) s ∙ ap (λ l. without l s) (append_assoc done (t ∷ []) ts)

without_none : (s : Tree) → without [] s ≡ s
without_none s = ap (λ (xs : List Task). record s { tasks = xs }) (all s.tasks)
  where
    all : (xs : List Task) → kept [] xs ≡ xs
    all [] = refl
    all (x ∷ xs) = ap (λ l. x ∷ l) (all xs)

lives_without : (t : TaskNo) (done : List TaskNo) (s : Tree) → lives t s ≡ true → has t done ≡ false → lives t (without done s) ≡ true
lives_without t done s live stays =
    any-filter_same (has_number t) (λ u. not (has u.number done)) true
    (λ u same. not_from_false (has u.number done) (ap (λ v. has v done) (same_number u.number t same) ∙ stays)) s.tasks
    ∙ live

-- where each son is gone none is found
none_left : (t : TaskNo) (done : List TaskNo) (xs : List Task) → ((v : TaskNo) → has v (sons_in t xs) ≡ true → has v done ≡ true)
    → find (has_father t) (kept done xs) ≡ None
none_left t done [] gone = refl
none_left t done (x ∷ xs) gone = by (has_father t x) refl gone (none_left t done xs)
  where
    skip : (g : Bool) → has_father t x ≡ false → find (has_father t) (kept done xs) ≡ None → find (has_father t) (cond (not g) (x ∷ kept done xs) (kept done xs)) ≡ None
    skip true other e = e
    skip false other e = ap (λ b. cond b (Some x) (find (has_father t) (kept done xs))) other ∙ e

    by : (b : Bool) → has_father t x ≡ b
        → ((v : TaskNo) → has v (map (λ u. u.number) (cond b (x ∷ filter (has_father t) xs) (filter (has_father t) xs))) ≡ true → has v done ≡ true)
        → (((v : TaskNo) → has v (sons_in t xs) ≡ true → has v done ≡ true) → find (has_father t) (kept done xs) ≡ None)
        → find (has_father t) (kept done (x ∷ xs)) ≡ None
    by true child gone rest =
        ap (λ g. find (has_father t) (cond (not g) (x ∷ kept done xs) (kept done xs))) (gone x.number (or_left _ _ (is_itself x.number)))
        ∙ rest (λ v e. gone v (or_right _ _ e))
    by false other gone rest = skip (has x.number done) other (rest gone)

childless_without : (t : TaskNo) (done : List TaskNo) (s : Tree) → 2 < t.0 → ((v : TaskNo) → has v (sons t s) ≡ true → has v done ≡ true)
    → son t (without done s) ≡ niltask
childless_without t done s later gone =
    ap (λ b. if b then niltask else number_of (find (has_father t) (kept done s.tasks))) (ne_eqb t.0 0 (λ e. omega (arith, later, e)))
    ∙ ap number_of (none_left t done s.tasks gone)

module _ (s : Tree) (ordered : IsOrdered s.tasks) where
  -- the families of brothers, one behind the other: none has a task of another, so each finds its own as it was
  brothers_turn : (n : ℕ) (us done : List TaskNo)
      → ((u : TaskNo) → has u us ≡ true → (before : List TaskNo) → Apart before (descent n u s) → EndInTurn (descent n u s) (without before s))
      → ((u v : TaskNo) → has u us ≡ true → has v us ≡ true → (u.0 ≡ v.0 → ⊥) → Apart (descent n u s) (descent n v s))
      → IsOnce us → Apart done (flat_map (λ u. descent n u s) us) → EndInTurn (flat_map (λ u. descent n u s) us) (without done s)
  brothers_turn n [] done each unlike once apart = tt
  brothers_turn n (u ∷ us) done each unlike once apart =
      let family_of : TaskNo → List TaskNo = λ v. descent n v s in
      let first : has u (u ∷ us) ≡ true = or_left _ _ (is_itself u) in
      turns-append (family_of u) (flat_map family_of us) (without done s)
      (each u first done (λ w old new. apart w old (in_first w (family_of u) (flat_map family_of us) new)))
      (subst (EndInTurn (flat_map family_of us)) (sym (all_ended_without (family_of u) done s))
      (brothers_turn n us (done ++ family_of u) (λ v one. each v (or_right _ _ one)) (λ v w one two. unlike v w (or_right _ _ one) (or_right _ _ two)) once.1
      (λ w old new. ⊎_elim
      (λ before. apart w before (in_second w (family_of u) (flat_map family_of us) new))
      (λ now. let p = part family_of w us new in
      unlike u p.of first (or_right _ _ p.one)
      (λ same. not_both (has u us) (ap (λ (k : ℕ). has (number k) us) same ∙ p.one) once.0) w now p.inside)
      (in_one w done (family_of u) old))))

  -- sons have greater numbers, so where n tasks have the number of t or a greater one n levels are enough for the family
  in_turn : (n : ℕ) (t : TaskNo) (done : List TaskNo) → lives t s ≡ true → 2 < t.0 → from t.0 s.tasks ≤ n → Apart done (descent n t s)
      → EndInTurn (descent n t s) (without done s)
  in_turn zero t done live later room apart = tt
  in_turn (suc n) t done live later room apart =
      let under : List TaskNo = below n t s in
      turns-append under (t ∷ []) (without done s)
      (brothers_turn n (sons t s) done
      (λ u one before free. let younger = (sons_are t u s.tasks ordered one).younger in let less = fewer_beyond t u.0 s.tasks live younger in
      in_turn n u before (sons_live t u s.tasks one) (omega (arith, later, younger)) (omega (arith, room, less)) free)
      (λ u v one two other. brothers_apart s ordered n t u v one two other)
      (sons_once t s.tasks ordered.rises)
      (λ w old new. apart w old (in_first w under (t ∷ []) new)))
      (subst (EndInTurn (t ∷ [])) (sym (all_ended_without under done s)) (
        record {
          live = lives_without t (done ++ under) s live (false_from_ne_true (has t (done ++ under)) (λ e. ⊎_elim
              (λ old. apart t old (is_last t under))
              (λ new. let more = above s ordered n t t new in omega (arith, more))
              (in_one t done under e)));
          childless = childless_without t (done ++ under) s later (λ v one.
              let less = fewer_beyond t v.0 s.tasks live (sons_are t v s.tasks ordered one).younger in
              let some = fewer_beyond v (v.0 + 1) s.tasks (sons_live t v s.tasks one) (omega arith) in
              in_second v done under (in_all (λ u. descent n u s) v v (sons t s) one (in_own n v s (omega (arith, room, less, some)))));
          later = later;
        },
        tt,
      ))

pub in_order : (s : Tree) → IsTree s → IsOrdered s.tasks
in_order s tree = record { rises = rising s.tasks tree.apart; older = recursion_from_All IsYoungerThanFather s.tasks tree.older }

pub family_ends : (s : Tree) (t : TaskNo) → IsTree s → lives t s ≡ true → 2 < t.0 → EndInTurn (family t s) s
family_ends s t tree live later =
    let few = tree.few in
    subst (EndInTurn (family t s)) (without_none s)
    (in_turn s (in_order s tree) TASKS t [] live later (let most = from-le-length t.0 s.tasks in omega (arith, few, most)) (λ w old _. absurd (false≢true old)))

pub ended_stays : (s : Tree) (t : TaskNo) → IsTree s → CanEnd t s → IsTree (ended t s)
ended_stays s t tree can = ended_is_tree s t tree can.childless (ne_eqb t.0 0 (λ e. let later = can.later in omega (arith, later, e)))

-- for a loop that ends the tasks of a list: the next one can end, and then those behind it can in turn
pub next_ends : (ts : List TaskNo) (k : ℕ) (d : TaskNo) (s : Tree) → k < length ts → EndInTurn (drop k ts) s
    → CanEnd (get_or ts k d) s × EndInTurn (drop (k + 1) ts) (ended (get_or ts k d) s)
next_ends ts k d s lt turn = rw add-one (subst (λ us. EndInTurn us s) (drop-cons ts k d lt) turn)
