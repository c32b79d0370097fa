-- What a task has for itself, found by a walk along the tasks.
use Rattle.std.proofs.Common.{◌≡◌, ℕ, zero, suc, ◌+◌, ◌<◌, Bool, true, false, cond, not, ◌||◌, ltb, List, [], ◌∷◌, ◌++◌, length, filter, get_or, Option, Some, None}
use Rattle.std.proofs.Common.{refl, sym, ap, ◌∙◌, arith}
use Rattle.std.specs.Prelude.{slice_get, option_and_then, option_map, AllPairs}
use Rattle.std.specs.List.{list_any, position, position_or_len, remove}
use Rattle.std.proofs.lemmas.Bool.{false≢true, ltb-true, ltb-false, lt-ltb, le-ltb, or_parts, eqb-true, eq-eqb, ne_eqb}
use Rattle.std.proofs.lemmas.Option.{none-some, same_Some}
use Rattle.turn_laws.specs.Below.task_numbers.specs.declared.number.TaskNo.{TaskNo}
use Rattle.turn_laws.specs.Below.task_numbers.specs.Numbers.{is_task}
use Rattle.turn_laws.specs.Below.task_tree.specs.declared.task.Task.{Task}
use Rattle.turn_laws.specs.Below.task_tree.specs.Tree.{has_number}
use Rattle.turn_laws.specs.Below.task_tree.specs.Trees.{IsYounger}
use Rattle.system_meaning.specs.Tasks.{Own}
use Rattle.system_meaning.specs.Systems.{System, own, place, with_own, changed, changed_at}

-- ---- places

abbrev pub place_in : TaskNo → List Task → Option ℕ
place_in t [] = None
place_in t (x ∷ xs) = cond (has_number t x) (Some 0) (option_map (λ k. suc k) (place_in t xs))

one_on : (n l : ℕ) → cond (ltb (1 + n) (suc l)) (Some (1 + n)) None ≡ option_map (λ k. suc k) (cond (ltb n l) (Some n) None)
one_on n l = by (ltb n l) refl
  where
    by : (b : Bool) → ltb n l ≡ b → cond (ltb (1 + n) (suc l)) (Some (1 + n)) None ≡ option_map (λ k. suc k) (cond b (Some n) None)
    by true e =
        let less = ltb-true n l e in
        let more : 1 + n ≡ suc n = omega arith in
        ap (λ b. cond b (Some (1 + n)) None) (lt-ltb (1 + n) (suc l) (omega (arith, less))) ∙ ap (λ (k : ℕ). Some k) more
    by false e = let least = ltb-false n l e in ap (λ b. cond b (Some (1 + n)) None) (le-ltb (1 + n) (suc l) (omega (arith, least)))

pub place_is : (t : TaskNo) (xs : List Task) → position (has_number t) xs ≡ place_in t xs
place_is t [] = refl
place_is t (x ∷ xs) =
    by (has_number t x)
    (one_on (position_or_len (has_number t) xs) (length xs) ∙ ap (option_map (λ k. suc k)) (place_is t xs))
  where
    at : ℕ
    at = position_or_len (has_number t) xs

    by : (b : Bool) → cond (ltb (1 + at) (suc (length xs))) (Some (1 + at)) None ≡ option_map (λ k. suc k) (place_in t xs)
        → cond (ltb (cond (not b) (1 + at) 0) (suc (length xs))) (Some (cond (not b) (1 + at) 0)) None
        ≡ cond b (Some 0) (option_map (λ k. suc k) (place_in t xs))
    by true e = ap (λ b. cond b (Some 0) None) (lt-ltb 0 (suc (length xs)) (omega arith))
    by false e = e

-- ---- the walk

abbrev pub found : TaskNo → List Task → List Own → Option Own
found t [] os = None
found t (x ∷ xs) [] = None
found t (x ∷ xs) (o ∷ os) = cond (has_number t x) (Some o) (found t xs os)

none_got : (p : Option ℕ) → option_and_then (slice_get {X = Own} []) p ≡ None
none_got None = refl
none_got (Some k) = refl

one_later : (o : Own) (os : List Own) (p : Option ℕ) → option_and_then (slice_get (o ∷ os)) (option_map (λ k. suc k) p) ≡ option_and_then (slice_get os) p
one_later o os None = refl
one_later o os (Some k) = refl

found_at : (t : TaskNo) (xs : List Task) (os : List Own) → option_and_then (slice_get os) (place_in t xs) ≡ found t xs os
found_at t [] os = refl
found_at t (x ∷ xs) [] = none_got (place_in t (x ∷ xs))
found_at t (x ∷ xs) (o ∷ os) = by (has_number t x) (one_later o os (place_in t xs) ∙ found_at t xs os)
  where
    by : (b : Bool) → option_and_then (slice_get (o ∷ os)) (option_map (λ k. suc k) (place_in t xs)) ≡ found t xs os
        → option_and_then (slice_get (o ∷ os)) (cond b (Some 0) (option_map (λ k. suc k) (place_in t xs))) ≡ cond b (Some o) (found t xs os)
    by true e = refl
    by false e = e

pub own_found : (t : TaskNo) (s : System) → own t s ≡ found t s.shared.tree.tasks s.owns
own_found t s =
    ap (λ (p : Option ℕ). option_and_then (slice_get s.owns) p) (place_is t s.shared.tree.tasks) ∙ found_at t s.shared.tree.tasks s.owns

-- one that does not live has nothing, and one that does has something
pub none_found : (t : TaskNo) (xs : List Task) (os : List Own) → list_any (has_number t) xs ≡ false → found t xs os ≡ None
none_found t [] os dead = refl
none_found t (x ∷ xs) [] dead = refl
none_found t (x ∷ xs) (o ∷ os) dead =
    let both = or_parts (has_number t x) (list_any (has_number t) xs) dead in
    ap (λ b. cond b (Some o) (found t xs os)) both.0 ∙ none_found t xs os both.1

pub some_found : (t : TaskNo) (xs : List Task) (os : List Own) → length os ≡ length xs → list_any (has_number t) xs ≡ true → found t xs os ≡ None → ⊥
some_found t [] os long live none = false≢true live
some_found t (x ∷ xs) [] long live none = omega (arith, long)
some_found t (x ∷ xs) (o ∷ os) long live none = by (has_number t x) live none (λ lives nothing. some_found t xs os (omega (arith, long)) lives nothing)
  where
    by : (b : Bool) → (b || list_any (has_number t) xs) ≡ true → cond b (Some o) (found t xs os) ≡ None
        → (list_any (has_number t) xs ≡ true → found t xs os ≡ None → ⊥) → ⊥
    by true live none later = none-some o (sym none)
    by false live none later = later live none

-- what no one has it has not
pub found_has : (p : Own → Bool) (t : TaskNo) (xs : List Task) (os : List Own) (o : Own) → found t xs os ≡ Some o → list_any p os ≡ false → p o ≡ false
found_has p t [] os o is none = absurd (none-some o is)
found_has p t (x ∷ xs) [] o is none = absurd (none-some o is)
found_has p t (x ∷ xs) (y ∷ os) o is none = by (has_number t x) is (λ later. found_has p t xs os o later both.1)
  where
    both : (p y ≡ false) × (list_any p os ≡ false)
    both = or_parts (p y) (list_any p os) none

    by : (b : Bool) → cond b (Some y) (found t xs os) ≡ Some o → (found t xs os ≡ Some o → p o ≡ false) → p o ≡ false
    by true is later = ap p (sym (same_Some y o is)) ∙ both.0
    by false is later = later is

-- ---- numbers

pub same_task : (t u : TaskNo) → is_task t u ≡ true → t ≡ u
same_task t u e = ap (λ (n : ℕ). let v : TaskNo = record { 0 = n } in v) (eqb-true t.0 u.0 e)

pub itself : (t : TaskNo) → is_task t t ≡ true
itself t = eq-eqb t.0 t.0 refl

-- a task with one number has no other
pub another : (t u : TaskNo) (x : Task) → is_task t u ≡ false → has_number u x ≡ true → has_number t x ≡ false
another t u x other is =
    ne_eqb x.number.0 t.0
    (λ e. let same = eqb-true x.number.0 u.0 is in false≢true (sym other ∙ eq-eqb t.0 u.0 (sym e ∙ same)))

-- ---- what one has changes

abbrev pub changed_owns : Option ℕ → (Own → Own) → List Own → List Own
changed_owns None f os = os
changed_owns (Some k) f os = with_own k f os

as_changed : (p : Option ℕ) (f : Own → Own) (s : System) → changed_at p f s ≡ record s { owns = changed_owns p f s.owns }
as_changed None f s = refl
as_changed (Some k) f s = refl

pub changed_is : (t : TaskNo) (f : Own → Own) (s : System) → changed t f s ≡ record s { owns = changed_owns (place_in t s.shared.tree.tasks) f s.owns }
changed_is t f s =
    as_changed (place t s) f s
    ∙ ap (λ (p : Option ℕ). let after : System = record s { owns = changed_owns p f s.owns } in after) (place_is t s.shared.tree.tasks)

changed_later : (o : Own) (os : List Own) (p : Option ℕ) (f : Own → Own) → changed_owns (option_map (λ k. suc k) p) f (o ∷ os) ≡ o ∷ changed_owns p f os
changed_later o os None f = refl
changed_later o os (Some k) f = refl

none_changed : (p : Option ℕ) (f : Own → Own) → changed_owns p f [] ≡ []
none_changed None f = refl
none_changed (Some zero) f = refl
none_changed (Some (suc k)) f = refl

pub other_found : (t u : TaskNo) → is_task t u ≡ false → (f : Own → Own) (xs : List Task) (os : List Own)
    → found t xs (changed_owns (place_in u xs) f os) ≡ found t xs os
other_found t u other f [] os = refl
other_found t u other f (x ∷ xs) [] = ap (found t (x ∷ xs)) (none_changed (place_in u (x ∷ xs)) f)
other_found t u other f (x ∷ xs) (o ∷ os) = by (has_number u x) refl (other_found t u other f xs os)
  where
    by : (b : Bool) → has_number u x ≡ b → found t xs (changed_owns (place_in u xs) f os) ≡ found t xs os
        → found t (x ∷ xs) (changed_owns (cond b (Some 0) (option_map (λ k. suc k) (place_in u xs))) f (o ∷ os)) ≡ found t (x ∷ xs) (o ∷ os)
    by true is later =
        let diff = another t u x other is in
        ap (λ c. cond c (Some (f o)) (found t xs os)) diff ∙ sym (ap (λ c. cond c (Some o) (found t xs os)) diff)
    by false is later =
        ap (found t (x ∷ xs)) (changed_later o os (place_in u xs) f) ∙ ap (λ (r : Option Own). cond (has_number t x) (Some o) r) later

pub itself_found : (u : TaskNo) (f : Own → Own) (xs : List Task) (os : List Own)
    → found u xs (changed_owns (place_in u xs) f os) ≡ option_map f (found u xs os)
itself_found u f [] os = refl
itself_found u f (x ∷ xs) [] = ap (found u (x ∷ xs)) (none_changed (place_in u (x ∷ xs)) f)
itself_found u f (x ∷ xs) (o ∷ os) = by (has_number u x) refl (itself_found u f xs os)
  where
    by : (b : Bool) → has_number u x ≡ b → found u xs (changed_owns (place_in u xs) f os) ≡ option_map f (found u xs os)
        → found u (x ∷ xs) (changed_owns (cond b (Some 0) (option_map (λ k. suc k) (place_in u xs))) f (o ∷ os))
        ≡ option_map f (found u (x ∷ xs) (o ∷ os))
    by true is later =
        ap (λ c. cond c (Some (f o)) (found u xs os)) is ∙ sym (ap (λ c. option_map f (cond c (Some o) (found u xs os))) is)
    by false is later =
        ap (found u (x ∷ xs)) (changed_later o os (place_in u xs) f)
        ∙ ap (λ c. cond c (Some o) (found u xs (changed_owns (place_in u xs) f os))) is
        ∙ later
        ∙ sym (ap (λ c. option_map f (cond c (Some o) (found u xs os))) is)

pub length_changed : (p : Option ℕ) (f : Own → Own) (os : List Own) → length (changed_owns p f os) ≡ length os
length_changed None f os = refl
length_changed (Some k) f os = by k os
  where
    by : (k : ℕ) (os : List Own) → length (with_own k f os) ≡ length os
    by k [] = ap length (none_changed (Some k) f)
    by zero (o ∷ os) = refl
    by (suc k) (o ∷ os) = let rest = by k os in omega (arith, rest)

-- ---- one goes

abbrev pub without_own : Option ℕ → List Own → List Own
without_own None os = os
without_own (Some k) os = remove os k

abbrev pub rest : TaskNo → List Task → List Task
rest v xs = filter (λ (u : Task). not (has_number v u)) xs

-- a task that is older than all stays
all_stay : (v : TaskNo) (xs : List Task) → ((j : ℕ) (d : Task) → j < length xs → v.0 < (get_or xs j d).number.0) → rest v xs ≡ xs
all_stay v [] older = refl
all_stay v (x ∷ xs) older =
    let low = older zero x (omega arith) in
    ap (λ b. cond (not b) (x ∷ rest v xs) (rest v xs)) (ne_eqb x.number.0 v.0 (λ e. omega (arith, low, e)))
    ∙ ap (λ (ys : List Task). x ∷ ys) (all_stay v xs (λ j d low. older (suc j) d (omega (arith, low))))

pub behind_stay : (v : TaskNo) (x : Task) (xs : List Task) → has_number v x ≡ true → AllPairs IsYounger (x ∷ xs) → rest v xs ≡ xs
behind_stay v x xs is pairs =
    let same = eqb-true x.number.0 v.0 is in
    all_stay v xs (λ j d low. let less = (pairs zero (suc j) d (omega arith) (omega (arith, low))).0 in omega (arith, less, same))

pub pairs_behind : (x : Task) (xs : List Task) → AllPairs IsYounger (x ∷ xs) → AllPairs IsYounger xs
pairs_behind x xs pairs = λ i j d less low. pairs (suc i) (suc j) d (omega (arith, less)) (omega (arith, low))

none_without : (p : Option ℕ) → without_own p [] ≡ []
none_without None = refl
none_without (Some zero) = refl
none_without (Some (suc k)) = refl

found_nothing : (t : TaskNo) (xs : List Task) → found t xs [] ≡ None
found_nothing t [] = refl
found_nothing t (x ∷ xs) = refl

without_later : (o : Own) (os : List Own) (p : Option ℕ) → without_own (option_map (λ k. suc k) p) (o ∷ os) ≡ o ∷ without_own p os
without_later o os None = refl
without_later o os (Some k) = refl

pub found_left : (t v : TaskNo) → is_task t v ≡ false → (xs : List Task) (os : List Own) → AllPairs IsYounger xs
    → found t (rest v xs) (without_own (place_in v xs) os) ≡ found t xs os
found_left t v other [] os pairs = refl
found_left t v other (x ∷ xs) [] pairs =
    ap (found t (rest v (x ∷ xs))) (none_without (place_in v (x ∷ xs))) ∙ found_nothing t (rest v (x ∷ xs))
found_left t v other (x ∷ xs) (o ∷ os) pairs = by (has_number v x) refl (found_left t v other xs os (pairs_behind x xs pairs))
  where
    by : (b : Bool) → has_number v x ≡ b → found t (rest v xs) (without_own (place_in v xs) os) ≡ found t xs os
        → found t (cond (not b) (x ∷ rest v xs) (rest v xs)) (without_own (cond b (Some 0) (option_map (λ k. suc k) (place_in v xs))) (o ∷ os))
        ≡ found t (x ∷ xs) (o ∷ os)
    by true is later =
        ap (λ (ys : List Task). found t ys os) (behind_stay v x xs is pairs)
        ∙ sym (ap (λ c. cond c (Some o) (found t xs os)) (another t v x other is))
    by false is later =
        ap (found t (x ∷ rest v xs)) (without_later o os (place_in v xs)) ∙ ap (λ (r : Option Own). cond (has_number t x) (Some o) r) later

-- ---- one comes last

pub found_before : (t : TaskNo) (x : Task) → has_number t x ≡ false → (xs : List Task) (os : List Own) (o : Own) → length os ≡ length xs
    → found t (xs ++ x ∷ []) (os ++ o ∷ []) ≡ found t xs os
found_before t x other [] [] o long = ap (λ c. cond c (Some o) None) other
found_before t x other [] (y ∷ os) o long = absurd (omega (arith, long))
found_before t x other (y ∷ xs) [] o long = absurd (omega (arith, long))
found_before t x other (y ∷ xs) (p ∷ os) o long =
    ap (λ (r : Option Own). cond (has_number t y) (Some p) r) (found_before t x other xs os o (omega (arith, long)))

pub found_last : (t : TaskNo) (x : Task) → has_number t x ≡ true → (xs : List Task) (os : List Own) (o : Own) → list_any (has_number t) xs ≡ false
    → length os ≡ length xs → found t (xs ++ x ∷ []) (os ++ o ∷ []) ≡ Some o
found_last t x is [] [] o dead long = ap (λ c. cond c (Some o) None) is
found_last t x is [] (y ∷ os) o dead long = absurd (omega (arith, long))
found_last t x is (y ∷ xs) [] o dead long = absurd (omega (arith, long))
found_last t x is (y ∷ xs) (p ∷ os) o dead long =
    let both = or_parts (has_number t y) (list_any (has_number t) xs) dead in
    ap (λ c. cond c (Some p) (found t (xs ++ x ∷ []) (os ++ o ∷ []))) both.0 ∙ found_last t x is xs os o both.1 (omega (arith, long))
