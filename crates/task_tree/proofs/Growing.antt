-- The tree stays one.
use Rattle.std.proofs.Common.{◌≡◌, ℕ, zero, suc, cond, ◌+◌, ◌<◌, Bool, true, false, not, ◌||◌, List, [], ◌∷◌, ◌++◌, length, get_or, find, Some, All, sym, refl, ap}
use Rattle.std.proofs.Common.{◌∙◌, arith}
use Rattle.std.specs.List.{list_any}
use Rattle.std.specs.Str.{bytes_eq}
use Rattle.std.proofs.lemmas.Bool.{false≢true, eqb-true}
use Rattle.std.proofs.lemmas.Grind.{common_steps}
use Rattle.std.proofs.lemmas.List.Elements.{All-filter, All-push}
use Rattle.std.proofs.lemmas.List.Folds.{list_any-append, list_any_at, Any-from_list_any}
use Rattle.std.proofs.lemmas.List.Kept.{AllPairs-filter}
use Rattle.std.proofs.lemmas.List.Quantifiers.{all_pairs_push}
use Rattle.std.proofs.lemmas.List.Sums.{length-filter, count_by-le-length}
use Rattle.std.proofs.lemmas.Map.Views.{any-filter_same}
use Rattle.task_numbers.specs.declared.limits.TheConstants.{TASKS}
use Rattle.task_numbers.specs.declared.number.TaskNo.{TaskNo}
use Rattle.task_numbers.specs.Numbers.{niltask, is_nil}
use Rattle.task_tree.specs.declared.task.Task.{Task}
use Rattle.task_tree.specs.Tree as spec
use Rattle.task_tree.specs.Trees.{IsYounger, IsGiven, IsYoungerThanFather, has_live_father, IsTree}

-- a name that no task has is another than that of each
other_name : (name : List ℕ) (xs : List Task) (k : ℕ) (d : Task) → list_any (spec.has_name name) xs ≡ false → k < length xs
    → bytes_eq (get_or xs k d).name name ≡ false
other_name name xs k d free lt = by (bytes_eq (get_or xs k d).name name) refl
  where
    by : (b : Bool) → bytes_eq (get_or xs k d).name name ≡ b → b ≡ false
    by false e = refl
    by true e = absurd (false≢true (sym free ∙ list_any_at (spec.has_name name) xs k d lt e))

-- where no task passes that has a number, none passes
childless : (p : Task → Bool) (xs : List Task) → ((k : ℕ) (d : Task) → k < length xs → 0 < (get_or xs k d).number.0) → spec.number_of (find p xs) ≡ niltask
    → (k : ℕ) (d : Task) → k < length xs → p (get_or xs k d) ≡ false
childless p [] given none k d lt = absurd (omega (arith, lt))
childless p (x ∷ xs) given none k d lt =
    by (p x) refl none (λ n. childless p xs (λ j c less. given (suc j) c (omega (arith, less))) n) k lt
  where
    by : (b : Bool) → p x ≡ b → spec.number_of (cond b (Some x) (find p xs)) ≡ niltask
        → (spec.number_of (find p xs) ≡ niltask → (k : ℕ) (d : Task) → k < length xs → p (get_or xs k d) ≡ false) → (k : ℕ) → k < length (x ∷ xs)
        → p (get_or (x ∷ xs) k d) ≡ false
    by true e n rest k lt =
        let zero_number : x.number.0 ≡ 0 = ap (λ (t : TaskNo). t.0) n in let more = given 0 x (omega arith) in absurd (omega (arith, zero_number, more))
    by false e n rest zero lt = e
    by false e n rest (suc k) lt = rest n k d (omega (arith, lt))

-- a father that lives still lives beside a new task
pub still_lives : (s : spec.Tree) (u v : Task) (last : ℕ) → has_live_father s u ≡ true
    → has_live_father (record { tasks = s.tasks ++ v ∷ []; last = last }) u ≡ true
still_lives s u v last e = by (is_nil u.father) refl
  where
    by : (b : Bool) → is_nil u.father ≡ b → (is_nil u.father || list_any (spec.has_number u.father) (s.tasks ++ v ∷ [])) ≡ true
    by true is_none = grind (arith, is_none)
    by false is_other = grind (arith, common_steps, is_other, e, list_any-append (spec.has_number u.father) s.tasks (v ∷ []))

-- and where another task ended
lives_without : (s : spec.Tree) (t : TaskNo) (u : Task) → spec.has_father t u ≡ false → has_live_father s u ≡ true → has_live_father (spec.ended t s) u ≡ true
lives_without s t u other e =
    let kept = any-filter_same (spec.has_number u.father) (λ v. not (spec.has_number t v)) true (λ v same. grind (arith, same, other)) s.tasks in
    grind (arith, kept, e)

-- numbers are given in order, so a new task has a greater one than its father
younger_than_father : (s : spec.Tree) (father : TaskNo) → All (IsGiven s.last) s.tasks → spec.lives father s ≡ true → father.0 < s.last + 1
younger_than_father s father given live =
    let found = Any-from_list_any (spec.has_number father) s.tasks live in
    let low = (given found.0 found.1 found.2).1 in
    let here : (get_or s.tasks found.0 found.1).number.0 ≡ father.0 = ap (λ (u : Task). u.number.0) found.3 ∙ eqb-true found.1.number.0 father.0 found.4 in
    omega (arith, low, here)

pub begun_is_tree : (s : spec.Tree) (name : List ℕ) (father : TaskNo) → IsTree s → list_any (spec.has_name name) s.tasks ≡ false → length s.tasks < TASKS
    → spec.lives father s ≡ true → IsTree (spec.begun name father s)
begun_is_tree s name father tree free room live = record {
  few = grind (arith, common_steps, room);
  apart = all_pairs_push IsYounger s.tasks (spec.task (spec.next s) name father) tree.apart
      (λ k d lt. let given = tree.given k d lt in (omega (arith, given.1), other_name name s.tasks k d free lt));
  given = All-push (IsGiven (s.last + 1)) s.tasks (spec.task (spec.next s) name father)
      (λ k d lt. let given = tree.given k d lt in (given.0, omega (arith, given.1))) (omega arith, omega arith);
  fathers = All-push (λ u. has_live_father (spec.begun name father s) u ≡ true) s.tasks (spec.task (spec.next s) name father)
      (λ k d lt. still_lives s (get_or s.tasks k d) (spec.task (spec.next s) name father) (s.last + 1) (tree.fathers k d lt))
      (grind (arith, common_steps, live, list_any-append (spec.has_number father) s.tasks (spec.task (spec.next s) name father ∷ [])));
  older = All-push IsYoungerThanFather s.tasks (spec.task (spec.next s) name father) tree.older (younger_than_father s father tree.given live);
}

pub ended_is_tree : (s : spec.Tree) (t : TaskNo) → IsTree s → spec.son t s ≡ niltask → is_nil t ≡ false → IsTree (spec.ended t s)
ended_is_tree s t tree none some = record {
  few = let most = count_by-le-length (λ u. not (spec.has_number t u)) s.tasks in
      omega (arith, most, tree.few, length-filter (λ u. not (spec.has_number t u)) s.tasks);
  apart = AllPairs-filter IsYounger (λ u. not (spec.has_number t u)) s.tasks tree.apart;
  given = All-filter (λ u. not (spec.has_number t u)) (IsGiven s.last) s.tasks tree.given;
  fathers = All-filter (λ u. not (spec.has_number t u)) (λ u. has_live_father (spec.ended t s) u ≡ true) s.tasks
      (λ k d lt. lives_without s t (get_or s.tasks k d)
      (childless (spec.has_father t) s.tasks (λ j c less. (tree.given j c less).0) (grind (arith, none, some)) k d lt)
      (tree.fathers k d lt));
  older = All-filter (λ u. not (spec.has_number t u)) IsYoungerThanFather s.tasks tree.older;
}
