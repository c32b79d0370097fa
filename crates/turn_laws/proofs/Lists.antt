-- Lists with something less or more.
use Rattle.std.proofs.Common.{◌≡◌, ℕ, zero, suc, ◌+◌, Bool, true, false, cond, not, ◌||◌, ltb, List, [], ◌∷◌, ◌++◌, length, map, filter, insert, Some, None}
use Rattle.std.proofs.Common.{refl, sym, ap, ◌∙◌, subst, arith}
use Rattle.std.specs.Prelude.{slice_get, option_map}
use Rattle.std.specs.List.{AllByRecursion, list_any, position, position_or_len, remove}
use Rattle.std.proofs.lemmas.Bool.{false≢true, ltb-true, ltb-false, lt-ltb, le-ltb, or_parts, or_right, ne_eqb, eq-eqb}
use Rattle.std.proofs.lemmas.List.Folds.{list_any-append}
use Rattle.std.proofs.lemmas.Option.{none-some, same_Some}
use Rattle.turn_laws.specs.Below.task_numbers.specs.declared.number.TaskNo.{TaskNo}
use Rattle.turn_laws.specs.Below.task_numbers.specs.Numbers.{is_task}
use Rattle.system_meaning.specs.Whole.{AreOnce}

pub turned : (t u : TaskNo) → is_task t u ≡ false → is_task u t ≡ false
turned t u e = ne_eqb u.0 t.0 (λ same. false≢true (sym e ∙ eq-eqb t.0 u.0 (sym same)))

pub neither : (a b : Bool) → a ≡ false → b ≡ false → (a || b) ≡ false
neither a b e f = ap (λ (x : Bool). x || b) e ∙ f

module _ {X : Type 0} where
  -- ---- what holds of all

  pub all_map : (P Q : X → Type 0) → ((x : X) → P x → Q x) → (xs : List X) → AllByRecursion P xs → AllByRecursion Q xs
  all_map P Q f [] h = tt
  all_map P Q f (x ∷ xs) h = (f x h.0, all_map P Q f xs h.1)

  -- of those at which a test fails
  pub all_where : (p : X → Bool) (P Q : X → Type 0) → ((x : X) → p x ≡ false → P x → Q x) → (xs : List X) → list_any p xs ≡ false → AllByRecursion P xs
      → AllByRecursion Q xs
  all_where p P Q f [] none h = tt
  all_where p P Q f (x ∷ xs) none h =
      let both = or_parts (p x) (list_any p xs) none in (f x both.0 h.0, all_where p P Q f xs both.1 h.1)

  pub none_all : (p : X → Bool) (xs : List X) → list_any p xs ≡ false → AllByRecursion (λ x. p x ≡ false) xs
  none_all p [] none = tt
  none_all p (x ∷ xs) none = let both = or_parts (p x) (list_any p xs) none in (both.0, none_all p xs both.1)

  pub all_none : (p : X → Bool) (xs : List X) → AllByRecursion (λ x. p x ≡ false) xs → list_any p xs ≡ false
  all_none p [] h = refl
  all_none p (x ∷ xs) h = neither (p x) (list_any p xs) h.0 (all_none p xs h.1)

  pub all_both : (P Q : X → Type 0) (xs : List X) → AllByRecursion P xs → AllByRecursion Q xs → AllByRecursion (λ x. P x × Q x) xs
  all_both P Q [] f g = tt
  all_both P Q (x ∷ xs) f g = ((f.0, g.0), all_both P Q xs f.1 g.1)

  pub all_filter : (P : X → Type 0) (p : X → Bool) (xs : List X) → AllByRecursion P xs → AllByRecursion P (filter p xs)
  all_filter P p [] h = tt
  all_filter P p (x ∷ xs) h = by (p x) (all_filter P p xs h.1)
    where
      by : (b : Bool) → AllByRecursion P (filter p xs) → AllByRecursion P (cond b (x ∷ filter p xs) (filter p xs))
      by true rest = (h.0, rest)
      by false rest = rest

  pub all_append : (P : X → Type 0) (xs ys : List X) → AllByRecursion P xs → AllByRecursion P ys → AllByRecursion P (xs ++ ys)
  all_append P [] ys f g = g
  all_append P (x ∷ xs) ys f g = (f.0, all_append P xs ys f.1 g)

  pub all_remove : (P : X → Type 0) (xs : List X) (k : ℕ) → AllByRecursion P xs → AllByRecursion P (remove xs k)
  all_remove P [] zero h = tt
  all_remove P [] (suc k) h = tt
  all_remove P (x ∷ xs) zero h = h.1
  all_remove P (x ∷ xs) (suc k) h = (h.0, all_remove P xs k h.1)

  pub all_insert : (P : X → Type 0) (xs : List X) (k : ℕ) (y : X) → P y → AllByRecursion P xs → AllByRecursion P (insert xs k y)
  all_insert P [] zero y one h = (one, tt)
  all_insert P [] (suc k) y one h = (one, tt)
  all_insert P (x ∷ xs) zero y one h = (one, h)
  all_insert P (x ∷ xs) (suc k) y one h = (h.0, all_insert P xs k y one h.1)

  pub all_at : (P : X → Type 0) (xs : List X) (k : ℕ) (x : X) → slice_get xs k ≡ Some x → AllByRecursion P xs → P x
  all_at P [] k x e h = absurd (none-some x e)
  all_at P (y ∷ ys) zero x e h = subst P (same_Some y x e) h.0
  all_at P (y ∷ ys) (suc k) x e h = all_at P ys k x e h.1

  -- ---- a test that none passes

  pub none_filter : (q p : X → Bool) (xs : List X) → list_any q xs ≡ false → list_any q (filter p xs) ≡ false
  none_filter q p xs none = all_none q (filter p xs) (all_filter (λ x. q x ≡ false) p xs (none_all q xs none))

  pub none_append : (q : X → Bool) (xs : List X) (y : X) → list_any q xs ≡ false → q y ≡ false → list_any q (xs ++ y ∷ []) ≡ false
  none_append q xs y none one = all_none q (xs ++ y ∷ []) (all_append (λ x. q x ≡ false) xs (y ∷ []) (none_all q xs none) (one, tt))

  pub none_remove : (q : X → Bool) (xs : List X) (k : ℕ) → list_any q xs ≡ false → list_any q (remove xs k) ≡ false
  none_remove q xs k none = all_none q (remove xs k) (all_remove (λ x. q x ≡ false) xs k (none_all q xs none))

  pub none_insert : (q : X → Bool) (xs : List X) (k : ℕ) (y : X) → list_any q xs ≡ false → q y ≡ false → list_any q (insert xs k y) ≡ false
  none_insert q xs k y none one = all_none q (insert xs k y) (all_insert (λ x. q x ≡ false) xs k y one (none_all q xs none))

  -- those at which the test fails are left
  pub none_left : (p : X → Bool) (xs : List X) → list_any p (filter (λ x. not (p x)) xs) ≡ false
  none_left p [] = refl
  none_left p (x ∷ xs) = by (p x) refl (none_left p xs)
    where
      by : (b : Bool) → p x ≡ b → list_any p (filter (λ x. not (p x)) xs) ≡ false
          → list_any p (cond (not b) (x ∷ filter (λ x. not (p x)) xs) (filter (λ x. not (p x)) xs)) ≡ false
      by true e rest = rest
      by false e rest = neither (p x) _ e rest

  -- one that passes
  pub some_of : (P : X → Type 0) (p : X → Bool) (xs : List X) → list_any p xs ≡ true → AllByRecursion P xs → (x : X) × (p x ≡ true) × P x
  some_of P p [] some h = absurd (false≢true some)
  some_of P p (x ∷ xs) some h = by (p x) refl some (λ later. some_of P p xs later h.1)
    where
      by : (b : Bool) → p x ≡ b → (b || list_any p xs) ≡ true → (list_any p xs ≡ true → (x : X) × (p x ≡ true) × P x) → (x : X) × (p x ≡ true) × P x
      by true e some later = (x, e, h.0)
      by false e some later = later some

  -- ---- no number twice

  pub away : (f : X → TaskNo) (t : TaskNo) (xs : List X) → list_any (λ x. is_task (f x) t) xs ≡ false → list_any (is_task t) (map f xs) ≡ false
  away f t [] none = refl
  away f t (x ∷ xs) none =
      let both = or_parts (is_task (f x) t) (list_any (λ x. is_task (f x) t) xs) none in
      neither (is_task t (f x)) _ (turned (f x) t both.0) (away f t xs both.1)

  pub near : (f : X → TaskNo) (t : TaskNo) (xs : List X) → list_any (is_task t) (map f xs) ≡ false → list_any (λ x. is_task (f x) t) xs ≡ false
  near f t [] none = refl
  near f t (x ∷ xs) none =
      let both = or_parts (is_task t (f x)) (list_any (is_task t) (map f xs)) none in
      neither (is_task (f x) t) _ (turned t (f x) both.0) (near f t xs both.1)

  pub once_filter : (f : X → TaskNo) (p : X → Bool) (xs : List X) → AreOnce (map f xs) → AreOnce (map f (filter p xs))
  once_filter f p [] h = tt
  once_filter f p (x ∷ xs) h = by (p x) (once_filter f p xs h.1)
    where
      by : (b : Bool) → AreOnce (map f (filter p xs)) → AreOnce (map f (cond b (x ∷ filter p xs) (filter p xs)))
      by true rest = (away f (f x) (filter p xs) (none_filter (λ y. is_task (f y) (f x)) p xs (near f (f x) xs h.0)), rest)
      by false rest = rest

  pub once_append : (f : X → TaskNo) (xs : List X) (y : X) → list_any (λ x. is_task (f x) (f y)) xs ≡ false → AreOnce (map f xs) → AreOnce (map f (xs ++ y ∷ []))
  once_append f [] y none h = (refl, tt)
  once_append f (x ∷ xs) y none h =
      let both = or_parts (is_task (f x) (f y)) (list_any (λ x. is_task (f x) (f y)) xs) none in (
        away f (f x) (xs ++ y ∷ []) (none_append (λ z. is_task (f z) (f x)) xs y (near f (f x) xs h.0) (turned (f x) (f y) both.0)),
        once_append f xs y both.1 h.1,
      )

  pub once_remove : (f : X → TaskNo) (xs : List X) (k : ℕ) → AreOnce (map f xs) → AreOnce (map f (remove xs k))
  once_remove f [] zero h = tt
  once_remove f [] (suc k) h = tt
  once_remove f (x ∷ xs) zero h = h.1
  once_remove f (x ∷ xs) (suc k) h =
      (away f (f x) (remove xs k) (none_remove (λ z. is_task (f z) (f x)) xs k (near f (f x) xs h.0)), once_remove f xs k h.1)

  pub once_insert : (f : X → TaskNo) (xs : List X) (k : ℕ) (y : X) → list_any (λ x. is_task (f x) (f y)) xs ≡ false → AreOnce (map f xs)
      → AreOnce (map f (insert xs k y))
  once_insert f [] zero y none h = (refl, tt)
  once_insert f [] (suc k) y none h = (refl, tt)
  once_insert f (x ∷ xs) zero y none h = (away f (f y) (x ∷ xs) none, h)
  once_insert f (x ∷ xs) (suc k) y none h =
      let both = or_parts (is_task (f x) (f y)) (list_any (λ x. is_task (f x) (f y)) xs) none in (
        away f (f x) (insert xs k y) (none_insert (λ z. is_task (f z) (f x)) xs k y (near f (f x) xs h.0) (turned (f x) (f y) both.0)),
        once_insert f xs k y both.1 h.1,
      )

  none_at : (f : X → TaskNo) (t : TaskNo) (xs : List X) (k : ℕ) (x : X) → slice_get xs k ≡ Some x → list_any (λ y. is_task (f y) t) xs ≡ false → is_task (f x) t ≡ false
  none_at f t xs k x e none = all_at (λ y. is_task (f y) t ≡ false) xs k x e (none_all (λ y. is_task (f y) t) xs none)

  -- the number of one is that of no other
  pub once_at : (f : X → TaskNo) (xs : List X) (k : ℕ) (x : X) → slice_get xs k ≡ Some x → AreOnce (map f xs)
      → list_any (λ y. is_task (f y) (f x)) (remove xs k) ≡ false
  once_at f [] k x e h = absurd (none-some x e)
  once_at f (y ∷ ys) zero x e h =
      subst (λ (z : X). list_any (λ v. is_task (f v) (f z)) ys ≡ false) (same_Some y x e) (near f (f y) ys h.0)
  once_at f (y ∷ ys) (suc k) x e h =
      neither (is_task (f y) (f x)) _ (turned (f x) (f y) (none_at f (f y) ys k x e (near f (f y) ys h.0))) (once_at f ys k x e h.1)

  -- ---- the first that passes

  position_more : (p : X → Bool) (x : X) (xs : List X) → position p (x ∷ xs) ≡ cond (p x) (Some 0) (option_map suc (position p xs))
  position_more p x xs = by (p x) (position_or_len p xs)
    where
      later : (k : ℕ) (b : Bool) → ltb k (length xs) ≡ b
          → cond (ltb (1 + k) (length (x ∷ xs))) (Some (1 + k)) None ≡ option_map suc (cond b (Some k) None)
      later k true e =
          let low = ltb-true k (length xs) e in
          let is : 1 + k ≡ suc k = omega arith in
          ap (λ b. cond b (Some (1 + k)) None) (lt-ltb (1 + k) (length (x ∷ xs)) (omega (arith, low))) ∙ ap Some is
      later k false e =
          let high = ltb-false k (length xs) e in
          ap (λ b. cond b (Some (1 + k)) None) (le-ltb (1 + k) (length (x ∷ xs)) (omega (arith, high)))

      by : (b : Bool) (k : ℕ) → cond (ltb (cond (not b) (1 + k) 0) (length (x ∷ xs))) (Some (cond (not b) (1 + k) 0)) None
          ≡ cond b (Some 0) (option_map suc (cond (ltb k (length xs)) (Some k) None))
      by true k = ap (λ b. cond b (Some 0) None) (lt-ltb 0 (length (x ∷ xs)) (omega arith))
      by false k = later k (ltb k (length xs)) refl

  pub data FirstPlace (p : X → Bool) (xs : List X) : Type 0 where
    at_none : position p xs ≡ None → FirstPlace p xs
    at_one : (k : ℕ) (x : X) → position p xs ≡ Some k → slice_get xs k ≡ Some x → p x ≡ true → FirstPlace p xs

  pub first_place : (p : X → Bool) (xs : List X) → FirstPlace p xs
  first_place p [] = at_none refl
  first_place p (x ∷ xs) = by (p x) refl (first_place p xs)
    where
      by : (b : Bool) → p x ≡ b → FirstPlace p xs → FirstPlace p (x ∷ xs)
      by true is rest = at_one 0 x (position_more p x xs ∙ ap (λ b. cond b (Some 0) (option_map suc (position p xs))) is) refl is
      by false is (at_none none) =
          at_none (position_more p x xs ∙ (ap (λ b. cond b (Some 0) (option_map suc (position p xs))) is ∙ ap (option_map suc) none))
      by false is (at_one k y at get passes) =
          at_one (suc k) y (position_more p x xs ∙ (ap (λ b. cond b (Some 0) (option_map suc (position p xs))) is ∙ ap (option_map suc) at)) get passes

module _ {X : Type 0} where
  pub all_mapped : (P : TaskNo → Type 0) (f : X → TaskNo) (xs : List X) → AllByRecursion (λ x. P (f x)) xs → AllByRecursion P (map f xs)
  all_mapped P f [] h = tt
  all_mapped P f (x ∷ xs) h = (h.0, all_mapped P f xs h.1)

  pub none_mapped : (p : TaskNo → Bool) (f : X → TaskNo) (xs : List X) → list_any (λ x. p (f x)) xs ≡ false → list_any p (map f xs) ≡ false
  none_mapped p f xs none = all_none p (map f xs) (all_mapped (λ v. p v ≡ false) f xs (none_all (λ x. p (f x)) xs none))

  -- those that pass are left
  pub all_passing : (P : X → Type 0) (p : X → Bool) (xs : List X) → AllByRecursion P xs → AllByRecursion (λ x. P x × (p x ≡ true)) (filter p xs)
  all_passing P p [] h = tt
  all_passing P p (x ∷ xs) h = by (p x) refl (all_passing P p xs h.1)
    where
      by : (b : Bool) → p x ≡ b → AllByRecursion (λ x. P x × (p x ≡ true)) (filter p xs)
          → AllByRecursion (λ x. P x × (p x ≡ true)) (cond b (x ∷ filter p xs) (filter p xs))
      by true e rest = ((h.0, e), rest)
      by false e rest = rest

  pub some_at : (p : X → Bool) (xs : List X) (k : ℕ) (x : X) → slice_get xs k ≡ Some x → p x ≡ true → list_any p xs ≡ true
  some_at p [] k x e is = absurd (none-some x e)
  some_at p (y ∷ ys) zero x e is = ap (λ (b : Bool). b || list_any p ys) (ap p (same_Some y x e) ∙ is)
  some_at p (y ∷ ys) (suc k) x e is = or_right (p y) (list_any p ys) (some_at p ys k x e is)

  -- where one passes, its number is that of none that does not
  pub once_other : (f : X → TaskNo) (p : X → Bool) (xs : List X) → AreOnce (map f xs)
      → AllByRecursion (λ x. p x ≡ true → list_any (λ y. is_task (f y) (f x)) (filter (λ y. not (p y)) xs) ≡ false) xs
  once_other f p [] h = tt
  once_other f p (x ∷ xs) h = (
    λ e. ap (λ b. list_any (λ y. is_task (f y) (f x)) (cond (not b) (x ∷ filter (λ y. not (p y)) xs) (filter (λ y. not (p y)) xs))) e
        ∙ none_filter (λ y. is_task (f y) (f x)) (λ y. not (p y)) xs (near f (f x) xs h.0),
    all_map
        (λ y. (is_task (f y) (f x) ≡ false) × (p y ≡ true → list_any (λ z. is_task (f z) (f y)) (filter (λ z. not (p z)) xs) ≡ false))
        (λ y. p y ≡ true → list_any (λ z. is_task (f z) (f y)) (filter (λ z. not (p z)) (x ∷ xs)) ≡ false)
        (λ y both e. by y both.0 (both.1 e) (p x)) xs
        (all_both (λ y. is_task (f y) (f x) ≡ false)
        (λ y. p y ≡ true → list_any (λ z. is_task (f z) (f y)) (filter (λ z. not (p z)) xs) ≡ false) xs
        (none_all (λ y. is_task (f y) (f x)) xs (near f (f x) xs h.0)) (once_other f p xs h.1)),
  )
    where
      by : (y : X) → is_task (f y) (f x) ≡ false → list_any (λ z. is_task (f z) (f y)) (filter (λ z. not (p z)) xs) ≡ false → (b : Bool)
          → list_any (λ z. is_task (f z) (f y)) (cond (not b) (x ∷ filter (λ z. not (p z)) xs) (filter (λ z. not (p z)) xs)) ≡ false
      by y other rest true = rest
      by y other rest false = neither (is_task (f x) (f y)) _ (turned (f y) (f x) other) rest

pub once_both : (ts us : List TaskNo) → AreOnce ts → AreOnce us → AllByRecursion (λ t. list_any (is_task t) us ≡ false) ts → AreOnce (ts ++ us)
once_both [] us a b apart = b
once_both (t ∷ ts) us a b apart =
    (list_any-append (is_task t) ts us ∙ neither (list_any (is_task t) ts) _ a.0 apart.0, once_both ts us a.1 b apart.1)
