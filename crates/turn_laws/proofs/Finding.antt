-- Tasks found by their numbers.
use Rattle.std.proofs.Common.{◌≡◌, ℕ, ◌+◌, ◌<◌, ◌≤◌, Bool, true, false, cond, not, ◌||◌, List, [], ◌∷◌, ◌++◌, length, map, filter, find, Option, Some, None}
use Rattle.std.proofs.Common.{refl, sym, ap, ◌∙◌, subst, ◌⊎◌, ⊎_elim, arith}
use Rattle.std.specs.Prelude.{AllPairs, nat_le}
use Rattle.std.specs.List.{AllByRecursion, list_any, flat_map}
use Rattle.std.proofs.lemmas.Bool.{false≢true, or_left, or_right, or_cases, or_parts, eqb-true}
use Rattle.std.proofs.lemmas.Bool.Decides.{nat_tests}
use Rattle.std.proofs.lemmas.List.Folds.{list_any-append}
use Rattle.std.proofs.lemmas.Option.{none-some, same_Some}
use Rattle.turn_laws.specs.Below.task_numbers.specs.declared.number.TaskNo.{TaskNo}
use Rattle.turn_laws.specs.Below.task_numbers.specs.Numbers.{is_task}
use Rattle.turn_laws.specs.Below.task_tree.specs.declared.task.Task.{Task}
use Rattle.turn_laws.specs.Below.task_tree.specs.Tree.{has_number, has_father}
use Rattle.turn_laws.specs.Below.task_tree.specs.Trees.{IsYounger}
use Rattle.turn_laws.proofs.Found.{same_task, itself, another, rest, behind_stay, pairs_behind}

pub find_is : (t : TaskNo) (xs : List Task) (x : Task) → find (has_number t) xs ≡ Some x → has_number t x ≡ true
find_is t [] x e = absurd (none-some x e)
find_is t (y ∷ xs) x e = by (has_number t y) refl e (λ later. find_is t xs x later)
  where
    by : (b : Bool) → has_number t y ≡ b → cond b (Some y) (find (has_number t) xs) ≡ Some x → (find (has_number t) xs ≡ Some x → has_number t x ≡ true)
        → has_number t x ≡ true
    by true is e later = ap (has_number t) (sym (same_Some y x e)) ∙ is
    by false is e later = later e

-- its number
pub number_is : (t : TaskNo) (xs : List Task) (x : Task) → find (has_number t) xs ≡ Some x → x.number ≡ t
number_is t xs x e = same_task x.number t (find_is t xs x e)

pub find_holds : (P : Task → Type 0) (t : TaskNo) (xs : List Task) (x : Task) → AllByRecursion P xs → find (has_number t) xs ≡ Some x → P x
find_holds P t [] x all e = absurd (none-some x e)
find_holds P t (y ∷ xs) x all e = by (has_number t y) e (λ later. find_holds P t xs x all.1 later)
  where
    by : (b : Bool) → cond b (Some y) (find (has_number t) xs) ≡ Some x → (find (has_number t) xs ≡ Some x → P x) → P x
    by true e later = subst P (same_Some y x e) all.0
    by false e later = later e

pub some_lives : (t : TaskNo) (xs : List Task) (x : Task) → find (has_number t) xs ≡ Some x → list_any (has_number t) xs ≡ true
some_lives t [] x e = absurd (none-some x e)
some_lives t (y ∷ xs) x e = by (has_number t y) e (λ later. some_lives t xs x later)
  where
    by : (b : Bool) → cond b (Some y) (find (has_number t) xs) ≡ Some x → (find (has_number t) xs ≡ Some x → list_any (has_number t) xs ≡ true)
        → (b || list_any (has_number t) xs) ≡ true
    by true e later = refl
    by false e later = later e

pub living : (t : TaskNo) (xs : List Task) → list_any (has_number t) xs ≡ true → (x : Task) × (find (has_number t) xs ≡ Some x)
living t [] live = absurd (false≢true live)
living t (y ∷ xs) live = by (has_number t y) live (λ later. living t xs later)
  where
    by : (b : Bool) → (b || list_any (has_number t) xs) ≡ true → (list_any (has_number t) xs ≡ true → (x : Task) × (find (has_number t) xs ≡ Some x))
        → (x : Task) × (cond b (Some y) (find (has_number t) xs) ≡ Some x)
    by true live later = (y, refl)
    by false live later = later live

pub none_finds : (t : TaskNo) (xs : List Task) → list_any (has_number t) xs ≡ false → find (has_number t) xs ≡ None
none_finds t [] dead = refl
none_finds t (y ∷ xs) dead =
    let both = or_parts (has_number t y) (list_any (has_number t) xs) dead in
    ap (λ b. cond b (Some y) (find (has_number t) xs)) both.0 ∙ none_finds t xs both.1

-- ---- one goes

pub find_rest : (t v : TaskNo) → is_task t v ≡ false → (xs : List Task) → find (has_number t) (rest v xs) ≡ find (has_number t) xs
find_rest t v other [] = refl
find_rest t v other (x ∷ xs) = by (has_number v x) refl (find_rest t v other xs)
  where
    by : (b : Bool) → has_number v x ≡ b → find (has_number t) (rest v xs) ≡ find (has_number t) xs
        → find (has_number t) (cond (not b) (x ∷ rest v xs) (rest v xs)) ≡ find (has_number t) (x ∷ xs)
    by true is later = later ∙ sym (ap (λ c. cond c (Some x) (find (has_number t) xs)) (another t v x other is))
    by false is later = ap (λ (r : Option Task). cond (has_number t x) (Some x) r) later

pub find_gone : (v : TaskNo) (xs : List Task) → find (has_number v) (rest v xs) ≡ None
find_gone v [] = refl
find_gone v (x ∷ xs) = by (has_number v x) refl (find_gone v xs)
  where
    by : (b : Bool) → has_number v x ≡ b → find (has_number v) (rest v xs) ≡ None → find (has_number v) (cond (not b) (x ∷ rest v xs) (rest v xs)) ≡ None
    by true is later = later
    by false is later = ap (λ c. cond c (Some x) (find (has_number v) (rest v xs))) is ∙ later

-- numbers are different
pub none_behind : (v : TaskNo) (x : Task) (xs : List Task) → has_number v x ≡ true → AllPairs IsYounger (x ∷ xs) → find (has_number v) xs ≡ None
none_behind v x xs is pairs = sym (ap (find (has_number v)) (behind_stay v x xs is pairs)) ∙ find_gone v xs

-- ---- one comes last

pub find_before : (t : TaskNo) (x : Task) → has_number t x ≡ false → (xs : List Task) → find (has_number t) (xs ++ x ∷ []) ≡ find (has_number t) xs
find_before t x other [] = ap (λ c. cond c (Some x) None) other
find_before t x other (y ∷ xs) = ap (λ (r : Option Task). cond (has_number t y) (Some y) r) (find_before t x other xs)

pub find_last : (t : TaskNo) (x : Task) → has_number t x ≡ true → (xs : List Task) → find (has_number t) xs ≡ None
    → find (has_number t) (xs ++ x ∷ []) ≡ Some x
find_last t x is [] none = ap (λ c. cond c (Some x) None) is
find_last t x is (y ∷ xs) none = by (has_number t y) none (λ later. find_last t x is xs later)
  where
    by : (b : Bool) → cond b (Some y) (find (has_number t) xs) ≡ None → (find (has_number t) xs ≡ None → find (has_number t) (xs ++ x ∷ []) ≡ Some x)
        → cond b (Some y) (find (has_number t) (xs ++ x ∷ [])) ≡ Some x
    by true none later = absurd (none-some y (sym none))
    by false none later = later none

-- ---- numbers in lists

abbrev pub has : TaskNo → List TaskNo → Bool
has w us = list_any (λ v. is_task v w) us

abbrev pub sons_in : TaskNo → List Task → List TaskNo
sons_in t xs = map (λ u. u.number) (filter (has_father t) xs)

-- a task that is found, and whose father is this
pub record Son (xs : List Task) (u v : TaskNo) : Type 0 where
  pub task : Task
  pub at : find (has_number v) xs ≡ Some task
  pub father : task.father ≡ u

son_behind : (x : Task) (xs : List Task) (u v : TaskNo) → AllPairs IsYounger (x ∷ xs) → Son xs u v → Son (x ∷ xs) u v
son_behind x xs u v pairs son = by (has_number v x) refl
  where
    by : (b : Bool) → has_number v x ≡ b → Son (x ∷ xs) u v
    by true is = absurd (none-some son.task (sym (none_behind v x xs is pairs) ∙ son.at))
    by false is = record {
      task = son.task;
      at = ap (λ c. cond c (Some x) (find (has_number v) xs)) is ∙ son.at;
      father = son.father;
    }

pub sons_are : (u v : TaskNo) (xs : List Task) → AllPairs IsYounger xs → has v (sons_in u xs) ≡ true → Son xs u v
sons_are u v [] pairs e = absurd (false≢true e)
sons_are u v (x ∷ xs) pairs e =
    by (has_father u x) refl e (λ later. son_behind x xs u v pairs (sons_are u v xs (pairs_behind x xs pairs) later))
  where
    here : (c : Bool) → has_number v x ≡ c → has_father u x ≡ true → (c || has v (sons_in u xs)) ≡ true
        → (has v (sons_in u xs) ≡ true → Son (x ∷ xs) u v) → Son (x ∷ xs) u v
    here true is child e later = record {
      task = x;
      at = ap (λ c. cond c (Some x) (find (has_number v) xs)) is;
      father = same_task x.father u child;
    }
    here false is child e later = later e

    by : (b : Bool) → has_father u x ≡ b → has v (map (λ w. w.number) (cond b (x ∷ filter (has_father u) xs) (filter (has_father u) xs))) ≡ true
        → (has v (sons_in u xs) ≡ true → Son (x ∷ xs) u v) → Son (x ∷ xs) u v
    by true child e later = here (has_number v x) refl child e later
    by false child e later = later e

pub is_son : (u v : TaskNo) (xs : List Task) → Son xs u v → has v (sons_in u xs) ≡ true
is_son u v [] son = absurd (none-some son.task son.at)
is_son u v (x ∷ xs) son =
    by (has_number v x) refl son.at (λ at. is_son u v xs (record { task = son.task; at = at; father = son.father }))
  where
    keep : (b : Bool) → has v (sons_in u xs) ≡ true
        → has v (map (λ w. w.number) (cond b (x ∷ filter (has_father u) xs) (filter (has_father u) xs))) ≡ true
    keep true e = or_right (is_task x.number v) _ e
    keep false e = e

    by : (b : Bool) → has_number v x ≡ b → cond b (Some x) (find (has_number v) xs) ≡ Some son.task
        → (find (has_number v) xs ≡ Some son.task → has v (sons_in u xs) ≡ true) → has v (sons_in u (x ∷ xs)) ≡ true
    by true is at later =
        let child : has_father u x ≡ true = ap (has_father u) (same_Some x son.task at) ∙ ap (λ (w : TaskNo). is_task w u) son.father ∙ itself u in
        ap (λ b. has v (map (λ (w : Task). w.number) (cond b (x ∷ filter (has_father u) xs) (filter (has_father u) xs)))) child
        ∙ or_left (is_task x.number v) _ is
    by false is at later = keep (has_father u x) (later at)

pub has-append : (w : TaskNo) (xs ys : List TaskNo) → has w (xs ++ ys) ≡ (has w xs || has w ys)
has-append w xs ys = list_any-append (λ v. is_task v w) xs ys

pub in_one : (w : TaskNo) (xs ys : List TaskNo) → has w (xs ++ ys) ≡ true → (has w xs ≡ true) ⊎ (has w ys ≡ true)
in_one w xs ys e = or_cases (has w xs) (has w ys) (sym (has-append w xs ys) ∙ e)

pub in_first : (w : TaskNo) (xs ys : List TaskNo) → has w xs ≡ true → has w (xs ++ ys) ≡ true
in_first w xs ys e = has-append w xs ys ∙ or_left (has w xs) (has w ys) e

pub in_second : (w : TaskNo) (xs ys : List TaskNo) → has w ys ≡ true → has w (xs ++ ys) ≡ true
in_second w xs ys e = has-append w xs ys ∙ or_right (has w xs) (has w ys) e

pub is_last : (t : TaskNo) (xs : List TaskNo) → has t (xs ++ t ∷ []) ≡ true
is_last t xs = in_second t xs (t ∷ []) (or_left (is_task t t) false (itself t))

-- the only one
pub is_one : (w t : TaskNo) → has w (t ∷ []) ≡ true → t ≡ w
is_one w t e = ⊎_elim (λ same. same_task t w same) (λ none. absurd (false≢true none)) (or_cases (is_task t w) false e)

pub in_all : (f : TaskNo → List TaskNo) (w u : TaskNo) (us : List TaskNo) → has u us ≡ true → has w (f u) ≡ true → has w (flat_map f us) ≡ true
in_all f w u [] one inside = absurd (false≢true one)
in_all f w u (v ∷ us) one inside =
    ⊎_elim
    (λ same. in_first w (f v) (flat_map f us) (ap (λ (x : TaskNo). has w (f x)) (same_task v u same) ∙ inside))
    (λ later. in_second w (f v) (flat_map f us) (in_all f w u us later inside))
    (or_cases (is_task v u) (has u us) one)

-- the part in which a number is
pub record InPart (f : TaskNo → List TaskNo) (us : List TaskNo) (w : TaskNo) : Type 0 where
  pub of : TaskNo
  pub one : has of us ≡ true
  pub inside : has w (f of) ≡ true

pub part : (f : TaskNo → List TaskNo) (w : TaskNo) (us : List TaskNo) → has w (flat_map f us) ≡ true → InPart f us w
part f w [] e = absurd (false≢true e)
part f w (v ∷ us) e =
    ⊎_elim
    (λ here. record { of = v; one = or_left (is_task v v) (has v us) (itself v); inside = here })
    (λ later. let p = part f w us later in record { of = p.of; one = or_right (is_task v p.of) (has p.of us) p.one; inside = p.inside })
    (in_one w (f v) (flat_map f us) e)

-- ---- how many tasks have this number or a greater one

abbrev pub from : ℕ → List Task → ℕ
from n [] = 0
from n (x ∷ xs) = cond (nat_le n x.number.0) 1 0 + from n xs

at_most_one : (b : Bool) → cond b 1 0 ≤ 1
at_most_one b = grind arith

one_fewer : (m n k : ℕ) → m ≤ n → cond (nat_le n k) 1 0 ≤ cond (nat_le m k) 1 0
one_fewer m n k le = grind (arith, nat_tests)

pub from-le-length : (n : ℕ) (xs : List Task) → from n xs ≤ length xs
from-le-length n [] = omega arith
from-le-length n (x ∷ xs) = let rest = from-le-length n xs in let one = at_most_one (nat_le n x.number.0) in omega (arith, rest, one)

fewer : (m n : ℕ) (xs : List Task) → m ≤ n → from n xs ≤ from m xs
fewer m n [] le = omega arith
fewer m n (x ∷ xs) le = let rest = fewer m n xs le in let one = one_fewer m n x.number.0 le in omega (arith, rest, one)

one_less : (m n k : ℕ) → m < n → k ≡ m → cond (nat_le n k) 1 0 < cond (nat_le m k) 1 0
one_less m n k less e = grind (arith, nat_tests)

-- beyond a task that lives there are fewer
pub fewer_beyond : (t : TaskNo) (n : ℕ) (xs : List Task) → list_any (has_number t) xs ≡ true → t.0 < n → from n xs < from t.0 xs
fewer_beyond t n [] live less = absurd (false≢true live)
fewer_beyond t n (x ∷ xs) live less =
    ⊎_elim
    (λ here. let rest = fewer t.0 n xs (omega (arith, less)) in let one = one_less t.0 n x.number.0 less (eqb-true x.number.0 t.0 here) in omega (arith, rest, one))
    (λ later. let rest = fewer_beyond t n xs later less in let one = one_fewer t.0 n x.number.0 (omega (arith, less)) in omega (arith, rest, one))
    (or_cases (has_number t x) (list_any (has_number t) xs) live)
