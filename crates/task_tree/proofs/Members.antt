-- Which numbers are in a list, and in lists joined end to end.
use Rattle.std.proofs.Common.{◌≡◌, ℕ, Bool, true, false, ◌||◌, List, [], ◌∷◌, ◌++◌, length, get_or, ◌<◌, sym, refl, ap, ◌∙◌, ◌⊎◌, ⊎_elim, arith}
use Rattle.std.specs.List.{list_any, flat_map}
use Rattle.std.proofs.lemmas.Bool.{false≢true, or_cases, or_left, or_right, eqb-true, eq-eqb}
use Rattle.std.proofs.lemmas.Bool.Decides.{nat_tests}
use Rattle.std.proofs.lemmas.List.Folds.{list_any-append, list_any_at}
use Rattle.task_numbers.specs.declared.number.TaskNo.{TaskNo}
use Rattle.task_numbers.specs.Numbers.{is_task}
use Rattle.task_tree.specs.Tree.{number}

abbrev pub has : TaskNo → List TaskNo → Bool
has w xs = list_any (λ v. is_task v w) xs

-- no number is in both
abbrev pub Apart : List TaskNo → List TaskNo → Type 0
Apart xs ys = (w : TaskNo) → has w xs ≡ true → has w ys ≡ true → ⊥

pub same_number : (v w : TaskNo) → is_task v w ≡ true → v ≡ w
same_number v w e = ap number (eqb-true v.0 w.0 e)

pub is_itself : (v : TaskNo) → is_task v v ≡ true
is_itself v = eq-eqb v.0 v.0 refl

pub is_task_back : (v w : TaskNo) → is_task v w ≡ is_task w v
is_task_back v w = grind (arith, nat_tests)

pub not_both : (b : Bool) → b ≡ true → b ≡ false → ⊥
not_both b is isnt = false≢true (sym isnt ∙ is)

pub has-append : (w : TaskNo) (xs ys : List TaskNo) → has w (xs ++ ys) ≡ (has w xs || has w ys)
has-append w xs ys = list_any-append (λ v. is_task v w) xs ys

pub in_one : (w : TaskNo) (xs ys : List TaskNo) → has w (xs ++ ys) ≡ true → (has w xs ≡ true) ⊎ (has w ys ≡ true)
in_one w xs ys e = or_cases (has w xs) (has w ys) (sym (has-append w xs ys) ∙ e)

pub in_first : (w : TaskNo) (xs ys : List TaskNo) → has w xs ≡ true → has w (xs ++ ys) ≡ true
in_first w xs ys e = has-append w xs ys ∙ or_left (has w xs) (has w ys) e

pub in_second : (w : TaskNo) (xs ys : List TaskNo) → has w ys ≡ true → has w (xs ++ ys) ≡ true
in_second w xs ys e = has-append w xs ys ∙ or_right (has w xs) (has w ys) e

pub is_last : (t : TaskNo) (xs : List TaskNo) → has t (xs ++ t ∷ []) ≡ true
is_last t xs = in_second t xs (t ∷ []) (or_left (is_task t t) false (is_itself t))

-- the only one
pub is_one : (w t : TaskNo) → has w (t ∷ []) ≡ true → t ≡ w
is_one w t e = ⊎_elim (λ same. same_number t w same) (λ none. absurd (false≢true none)) (or_cases (is_task t w) false e)

pub has_at : (xs : List TaskNo) (k : ℕ) (d : TaskNo) → k < length xs → has (get_or xs k d) xs ≡ true
has_at xs k d lt = list_any_at (λ v. is_task v (get_or xs k d)) xs k d lt (is_itself (get_or xs k d))

pub in_all : (f : TaskNo → List TaskNo) (w u : TaskNo) (us : List TaskNo) → has u us ≡ true → has w (f u) ≡ true → has w (flat_map f us) ≡ true
in_all f w u [] one inside = absurd (false≢true one)
in_all f w u (v ∷ us) one inside =
    ⊎_elim
    (λ same. in_first w (f v) (flat_map f us) (ap (λ (x : TaskNo). has w (f x)) (same_number v u same) ∙ inside))
    (λ later. in_second w (f v) (flat_map f us) (in_all f w u us later inside))
    (or_cases (is_task v u) (has u us) one)

-- no number is in the list twice
abbrev pub IsOnce : List TaskNo → Type 0
IsOnce [] = Unit {0}
IsOnce (u ∷ us) = (has u us ≡ false) × IsOnce us

-- the part in which a number is
pub record IsInPart (f : TaskNo → List TaskNo) (us : List TaskNo) (w : TaskNo) : Type 0 where
  pub of : TaskNo
  pub one : has of us ≡ true
  pub inside : has w (f of) ≡ true

pub part : (f : TaskNo → List TaskNo) (w : TaskNo) (us : List TaskNo) → has w (flat_map f us) ≡ true → IsInPart f us w
part f w [] e = absurd (false≢true e)
part f w (v ∷ us) e =
    ⊎_elim
    (λ here. record { of = v; one = or_left (is_task v v) (has v us) (is_itself v); inside = here })
    (λ later. let p = part f w us later in record { of = p.of; one = or_right (is_task v p.of) (has p.of us) p.one; inside = p.inside })
    (in_one w (f v) (flat_map f us) e)
