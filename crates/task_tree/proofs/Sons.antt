-- What a tree tells of the sons of a task.
use Rattle.std.proofs.Common.{◌≡◌, ℕ, suc, ◌+◌, ◌<◌, ◌≤◌, Bool, true, false, cond, List, [], ◌∷◌, length, map, filter, find, AllPairs, Some, nat_le, refl, ap, ◌∙◌, ⊎_elim, arith}
use Rattle.std.specs.List.{list_any, AllByRecursion}
use Rattle.std.proofs.lemmas.Bool.{false≢true, or_cases, or_left, or_right, eqb-true, false_from_ne_true}
use Rattle.std.proofs.lemmas.Bool.Decides.{nat_tests}
use Rattle.std.proofs.lemmas.List.Elements.{recursion_from_All}
use Rattle.task_numbers.specs.declared.number.TaskNo.{TaskNo}
use Rattle.task_tree.specs.declared.task.Task.{Task}
use Rattle.task_tree.specs.Tree as spec
use Rattle.task_tree.specs.Trees.{IsYounger}
use Rattle.task_tree.proofs.Members.{has, IsOnce, same_number}

abbrev pub sons_in : TaskNo → List Task → List TaskNo
sons_in t xs = map (λ u. u.number) (filter (spec.has_father t) xs)

-- numbers rise from each task to those behind it
abbrev pub Rises : List Task → Type 0
Rises [] = Unit {0}
Rises (x ∷ xs) = AllByRecursion (λ y. x.number.0 < y.number.0) xs × Rises xs

pub rising : (xs : List Task) → AllPairs IsYounger xs → Rises xs
rising [] apart = tt
rising (x ∷ xs) apart = (
  recursion_from_All (λ y. x.number.0 < y.number.0) xs (λ k d lt. (apart 0 (suc k) d (omega arith) (omega (arith, lt))).0),
  rising xs (λ i j d less lt. apart (suc i) (suc j) d (omega (arith, less)) (omega (arith, lt))),
)

-- numbers are different, and fathers have lower ones
pub record IsOrdered (xs : List Task) : Type 0 where
  pub rises : Rises xs
  pub older : AllByRecursion (λ u. u.father.0 < u.number.0) xs

ordered_rest : (x : Task) (xs : List Task) → IsOrdered (x ∷ xs) → IsOrdered xs
ordered_rest x xs ordered = record { rises = ordered.rises.1; older = ordered.older.1 }

higher : (n : ℕ) (w : TaskNo) (xs : List Task) → AllByRecursion (λ y. n < y.number.0) xs → list_any (spec.has_number w) xs ≡ true → n < w.0
higher n w [] all live = absurd (false≢true live)
higher n w (x ∷ xs) all live =
    ⊎_elim (λ here. let same = eqb-true x.number.0 w.0 here in omega (arith, all.0, same)) (λ later. higher n w xs all.1 later)
    (or_cases (spec.has_number w x) (list_any (spec.has_number w) xs) live)

pub sons_live : (t u : TaskNo) (xs : List Task) → has u (sons_in t xs) ≡ true → list_any (spec.has_number u) xs ≡ true
sons_live t u [] e = absurd (false≢true e)
sons_live t u (x ∷ xs) e = by (spec.has_father t x) e (sons_live t u xs)
  where
    by : (b : Bool) → has u (map (λ v. v.number) (cond b (x ∷ filter (spec.has_father t) xs) (filter (spec.has_father t) xs))) ≡ true
        → (has u (sons_in t xs) ≡ true → list_any (spec.has_number u) xs ≡ true) → list_any (spec.has_number u) (x ∷ xs) ≡ true
    by true e rest =
        ⊎_elim (λ here. or_left (spec.has_number u x) _ here) (λ later. or_right (spec.has_number u x) _ (rest later)) (or_cases (spec.has_number u x) (has u (sons_in t xs)) e)
    by false e rest = or_right (spec.has_number u x) _ (rest e)

-- u is a son of t where these are the tasks
pub record IsSon (xs : List Task) (t u : TaskNo) : Type 0 where
  pub younger : t.0 < u.0
  pub father : spec.father_of (find (spec.has_number u) xs) ≡ t

son_here : (x : Task) (xs : List Task) (t u : TaskNo) → x.father.0 < x.number.0 → spec.has_father t x ≡ true → spec.has_number u x ≡ true → IsSon (x ∷ xs) t u
son_here x xs t u older child here = record {
  younger = let of = eqb-true x.father.0 t.0 child in let same = eqb-true x.number.0 u.0 here in omega (arith, older, of, same);
  father = ap (λ b. spec.father_of (cond b (Some x) (find (spec.has_number u) xs))) here ∙ same_number x.father t child;
}

son_behind : (x : Task) (xs : List Task) (t u : TaskNo) → AllByRecursion (λ y. x.number.0 < y.number.0) xs → list_any (spec.has_number u) xs ≡ true → IsSon xs t u
    → IsSon (x ∷ xs) t u
son_behind x xs t u rises live son =
    let other : spec.has_number u x ≡ false = false_from_ne_true (spec.has_number u x)
    (λ same. let more = higher x.number.0 u xs rises live in let is = eqb-true x.number.0 u.0 same in absurd (omega (arith, more, is))) in
    record {
      younger = son.younger;
      father = ap (λ b. spec.father_of (cond b (Some x) (find (spec.has_number u) xs))) other ∙ son.father;
    }

pub sons_are : (t u : TaskNo) (xs : List Task) → IsOrdered xs → has u (sons_in t xs) ≡ true → IsSon xs t u
sons_are t u [] ordered e = absurd (false≢true e)
sons_are t u (x ∷ xs) ordered e = by (spec.has_father t x) refl e (sons_are t u xs (ordered_rest x xs ordered))
  where
    behind : (has u (sons_in t xs) ≡ true → IsSon xs t u) → has u (sons_in t xs) ≡ true → IsSon (x ∷ xs) t u
    behind rest e = son_behind x xs t u ordered.rises.0 (sons_live t u xs e) (rest e)

    by : (b : Bool) → spec.has_father t x ≡ b → has u (map (λ v. v.number) (cond b (x ∷ filter (spec.has_father t) xs) (filter (spec.has_father t) xs))) ≡ true
        → (has u (sons_in t xs) ≡ true → IsSon xs t u) → IsSon (x ∷ xs) t u
    by true child e rest = ⊎_elim (λ here. son_here x xs t u ordered.older.0 child here) (behind rest) (or_cases (spec.has_number u x) (has u (sons_in t xs)) e)
    by false other e rest = behind rest e

pub sons_once : (t : TaskNo) (xs : List Task) → Rises xs → IsOnce (sons_in t xs)
sons_once t [] rises = tt
sons_once t (x ∷ xs) rises = by (spec.has_father t x) (sons_once t xs rises.1)
  where
    by : (b : Bool) → IsOnce (sons_in t xs) → IsOnce (map (λ v. v.number) (cond b (x ∷ filter (spec.has_father t) xs) (filter (spec.has_father t) xs)))
    by true rest =
        (false_from_ne_true (has x.number (sons_in t xs)) (λ e. let more = higher x.number.0 x.number xs rises.0 (sons_live t x.number xs e) in absurd (omega (arith, more))), rest)
    by false rest = rest

-- how many tasks have this number or a greater one
abbrev pub from : ℕ → List Task → ℕ
from n [] = 0
from n (x ∷ xs) = cond (nat_le n x.number.0) 1 0 + from n xs

at_most_one : (b : Bool) → cond b 1 0 ≤ 1
at_most_one b = grind arith

one_fewer : (m n k : ℕ) → m ≤ n → cond (nat_le n k) 1 0 ≤ cond (nat_le m k) 1 0
one_fewer m n k le = grind (arith, nat_tests)

pub from-le-length : (n : ℕ) (xs : List Task) → from n xs ≤ length xs
from-le-length n [] = omega arith
from-le-length n (x ∷ xs) = let rest = from-le-length n xs in let one = at_most_one (nat_le n x.number.0) in omega (arith, rest, one)

fewer : (m n : ℕ) (xs : List Task) → m ≤ n → from n xs ≤ from m xs
fewer m n [] le = omega arith
fewer m n (x ∷ xs) le = let rest = fewer m n xs le in let one = one_fewer m n x.number.0 le in omega (arith, rest, one)

one_less : (m n k : ℕ) → m < n → k ≡ m → cond (nat_le n k) 1 0 < cond (nat_le m k) 1 0
one_less m n k less e = grind (arith, nat_tests)

-- beyond a task that lives there are fewer
pub fewer_beyond : (t : TaskNo) (n : ℕ) (xs : List Task) → list_any (spec.has_number t) xs ≡ true → t.0 < n → from n xs < from t.0 xs
fewer_beyond t n [] live less = absurd (false≢true live)
fewer_beyond t n (x ∷ xs) live less =
    ⊎_elim
    (λ here. let rest = fewer t.0 n xs (omega (arith, less)) in let one = one_less t.0 n x.number.0 less (eqb-true x.number.0 t.0 here) in omega (arith, rest, one))
    (λ later. let rest = fewer_beyond t n xs later less in let one = one_fewer t.0 n x.number.0 (omega (arith, less)) in omega (arith, rest, one))
    (or_cases (spec.has_number t x) (list_any (spec.has_number t) xs) live)
