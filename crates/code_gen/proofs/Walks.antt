-- A walk over the bodies that a command reaches: what is marked, and what waits.
use Rattle.std.proofs.Common.{◌≡◌, ℕ, zero, suc, ◌+◌, ◌<◌, ◌≤◌, Bool, true, false, cond, List, [], ◌∷◌, ◌++◌, length, replicate, Option, Some, None}
use Rattle.std.proofs.Common.{refl, sym, ap, ◌∙◌, subst, arith, ◌⊎◌, inl, inr}
use Rattle.std.specs.Prelude.{Contains, slice_get, slice_set, option_to_list}
use Rattle.std.proofs.lemmas.List.{append-nil, length-append, length-replicate, length-set}
use Rattle.std.proofs.lemmas.List.Elements.{Contains-append_left, Contains-append_right, Contains-append_cases, Contains-push, Contains-push_cases}
use Rattle.std.proofs.lemmas.Option.{slice_get-get_or, slice_get_within}
use Rattle.elan_types.specs.declared.core_phrase.Body.{Body}
use Rattle.elan_types.specs.declared.core_phrase.Core.{Core}
use Rattle.code_gen.specs.Names.{Names, in_units, in_content}
use Rattle.code_gen.specs.Reached.{IsReached, by_units, at_start, by_body}
use Rattle.code_gen.specs.walks.Marks.{is_marked, first_names, named_by, marks_after, names_after, AreMarks}

-- ---- marks

found : (ms : List Bool) (n : ℕ) → n < length ms → is_marked ms n ≡ true → slice_get ms n ≡ Some true
found ms n within e = slice_get-get_or ms n true within ∙ ap (λ b. Some b) e

set_itself : (ms : List Bool) (n : ℕ) → is_marked (slice_set ms n true) n ≡ true
set_itself [] n = refl
set_itself (m ∷ ms) zero = refl
set_itself (m ∷ ms) (suc n) = set_itself ms n

set_more : (ms : List Bool) (n k : ℕ) → is_marked ms k ≡ true → is_marked (slice_set ms n true) k ≡ true
set_more [] n k e = refl
set_more (m ∷ ms) zero zero e = refl
set_more (m ∷ ms) zero (suc k) e = e
set_more (m ∷ ms) (suc n) zero e = e
set_more (m ∷ ms) (suc n) (suc k) e = set_more ms n k e

set_only : (ms : List Bool) (n k : ℕ) → slice_get (slice_set ms n true) k ≡ Some true → (n ≡ k) ⊎ (slice_get ms k ≡ Some true)
set_only [] n k e = inr e
set_only (m ∷ ms) zero zero e = inl refl
set_only (m ∷ ms) zero (suc k) e = inr e
set_only (m ∷ ms) (suc n) zero e = inr e
set_only (m ∷ ms) (suc n) (suc k) e = elim (set_only ms n k e) [ inl h ↦ inl (ap (λ i. suc i) h) | inr h ↦ inr h ]

none_true : (count n : ℕ) → slice_get (replicate count false) n ≡ Some true → ⊥
none_true zero n e = cc
none_true (suc count) zero e = cc
none_true (suc count) (suc n) e = none_true count n e

unmarked_within : (ms : List Bool) (n : ℕ) → is_marked ms n ≡ false → n < length ms
unmarked_within [] n e = absurd cc
unmarked_within (m ∷ ms) zero e = omega arith
unmarked_within (m ∷ ms) (suc n) e = let h = unmarked_within ms n e in omega arith

-- ---- the work that is left: the bodies that are not marked, each with its names

abbrev pub work : List Bool → List Body → ℕ
work [] bs = 0
work (m ∷ ms) [] = 0
work (true ∷ ms) (b ∷ bs) = work ms bs
work (false ∷ ms) (b ∷ bs) = suc (length (in_content b.content) + work ms bs)

less_work : (ms : List Bool) (bs : List Body) (n : ℕ) → is_marked ms n ≡ false
    → work (slice_set ms n true) bs + length (named_by (slice_get bs n)) ≤ work ms bs
less_work [] bs n e = absurd cc
less_work (m ∷ ms) [] zero e = omega arith
less_work (m ∷ ms) [] (suc n) e = omega arith
less_work (true ∷ ms) (b ∷ bs) zero e = absurd cc
less_work (false ∷ ms) (b ∷ bs) zero e = omega arith
less_work (true ∷ ms) (b ∷ bs) (suc n) e = less_work ms bs n e
less_work (false ∷ ms) (b ∷ bs) (suc n) e = let h = less_work ms bs n e in omega arith

-- a turn that takes a name from those that wait has less work left
pub falls : (ms : List Bool) (bs : List Body) (ns : Names) (n : ℕ)
    → work (marks_after ms n) bs + length (ns ++ names_after ms bs n) < work ms bs + length (ns ++ n ∷ [])
falls ms bs ns n = by_mark (is_marked ms n) refl
  where
    by_mark : (b : Bool) → is_marked ms n ≡ b
        → work (cond b ms (slice_set ms n true)) bs + length (ns ++ cond b [] (named_by (slice_get bs n))) < work ms bs + length (ns ++ n ∷ [])
    by_mark true e =
        let more = length-append ns (n ∷ []) in
        let same = ap length (append-nil ns) in
        omega arith
    by_mark false e =
        let more = length-append ns (n ∷ []) in
        let some = length-append ns (named_by (slice_get bs n)) in
        let less = less_work ms bs n e in
        omega arith

-- ---- what holds at each turn

-- a body is marked, or waits
abbrev Known : List Bool → Names → ℕ → Type 0
Known ms ns n = (is_marked ms n ≡ true) ⊎ Contains ns n

pub record Walks (core : Core) (ms : List Bool) (ns : Names) : Type 0 where
  pub long : length ms ≡ length core.bodies
  pub marked : (n : ℕ) → slice_get ms n ≡ Some true → IsReached core n
  pub waiting : (n : ℕ) → Contains ns n → IsReached core n
  pub first : (n : ℕ) → Contains (first_names core) n → Known ms ns n
  pub further : (m n : ℕ) (b : Body) → slice_get ms m ≡ Some true → slice_get core.bodies m ≡ Some b → Contains (in_content b.content) n → Known ms ns n

none_there : {A : Type 0} (x : A) → Contains [] x → ⊥
none_there x h = omega (arith, h.1)

started : (o : Option ℕ) (n : ℕ) → Contains (option_to_list o) n → o ≡ Some n
started None n h = absurd (none_there n h)
started (Some m) n h = elim (Contains-push_cases [] m n h) [ inl g ↦ absurd (none_there n g) | inr e ↦ ap (λ i. Some i) e ]

starts : (o : Option ℕ) (n : ℕ) → o ≡ Some n → Contains (option_to_list o) n
starts None n e = absurd cc
starts (Some m) n e = let h : m ≡ n = cc in subst (λ i. Contains (m ∷ []) i) h (Contains-push [] m)

pub begins : (core : Core) (count : ℕ) → count ≡ length core.bodies → Walks core (replicate count false) (first_names core)
begins core count e = record {
  long = length-replicate count false ∙ e;
  marked = λ n h. absurd (none_true count n h);
  waiting = λ n h. elim (Contains-append_cases (in_units core.units) (option_to_list core.start) n h) [
    | inl g ↦ by_units n g
    | inr g ↦ at_start n (started core.start n g)
  ];
  first = λ n h. inr h;
  further = λ m n b h is c. absurd (none_true count m h);
}

module _ (core : Core) (ms : List Bool) (ns : Names) (n : ℕ) (w : Walks core ms (ns ++ n ∷ [])) where
  -- a body that was looked at before
  again : is_marked ms n ≡ true → Walks core ms (ns ++ [])
  again e = subst (Walks core ms) (sym (append-nil ns)) (record {
    long = w.long;
    marked = w.marked;
    waiting = λ k h. w.waiting k (Contains-append_left ns (n ∷ []) k h);
    first = λ k h. stays k (w.first k h);
    further = λ m k b h is c. stays k (w.further m k b h is c);
  })
    where
      stays : (k : ℕ) → Known ms (ns ++ n ∷ []) k → Known ms ns k
      stays k (inl h) = inl h
      stays k (inr h) = elim (Contains-push_cases ns n k h) [ inl g ↦ inr g | inr same ↦ inl (subst (λ i. is_marked ms i ≡ true) same e) ]

  module _ (e : is_marked ms n ≡ false) where
    more : Names
    more = named_by (slice_get core.bodies n)

    stays : (k : ℕ) → Known ms (ns ++ n ∷ []) k → Known (slice_set ms n true) (ns ++ named_by (slice_get core.bodies n)) k
    stays k (inl h) = inl (set_more ms n k h)
    stays k (inr h) = elim (Contains-push_cases ns n k h) [
      | inl g ↦ inr (Contains-append_left ns (named_by (slice_get core.bodies n)) k g)
      | inr same ↦ inl (subst (λ i. is_marked (slice_set ms n true) i ≡ true) same (set_itself ms n))
    ]

    is_reached : IsReached core n
    is_reached = w.waiting n (Contains-push ns n)

    named_reached : (o : Option Body) (k : ℕ) → slice_get core.bodies n ≡ o → Contains (named_by o) k → IsReached core k
    named_reached None k is h = absurd (none_there k h)
    named_reached (Some b) k is h = by_body n k b is_reached is h

    -- one that was not
    anew : Walks core (slice_set ms n true) (ns ++ named_by (slice_get core.bodies n))
    anew = record {
      long = length-set ms n true ∙ w.long;
      marked = λ k h. elim (set_only ms n k h) [ inl same ↦ subst (IsReached core) same is_reached | inr g ↦ w.marked k g ];
      waiting = λ k h. elim (Contains-append_cases ns (named_by (slice_get core.bodies n)) k h) [
        | inl g ↦ w.waiting k (Contains-append_left ns (n ∷ []) k g)
        | inr g ↦ named_reached (slice_get core.bodies n) k refl g
      ];
      first = λ k h. stays k (w.first k h);
      further = λ m k b h is c. elim (set_only ms n m h) [
        | inl same ↦ inr (Contains-append_right ns (named_by (slice_get core.bodies n)) k
            (subst (λ o. Contains (named_by o) k) (sym (ap (slice_get core.bodies) same ∙ is)) c))
        | inr g ↦ stays k (w.further m k b g is c)
      ];
    }

  pub turn : Walks core (marks_after ms n) (ns ++ names_after ms core.bodies n)
  turn = by_mark (is_marked ms n) refl
    where
      by_mark : (b : Bool) → is_marked ms n ≡ b → Walks core (cond b ms (slice_set ms n true)) (ns ++ cond b [] (named_by (slice_get core.bodies n)))
      by_mark true e = again e
      by_mark false e = anew e

-- ---- a turn as the code takes it, and the end

module _ (core : Core) (bodies : List Body) (ms new_ms : List Bool) (ns rest new_ns : Names) (n : ℕ) (same : bodies ≡ core.bodies)
    (first : ns ≡ rest ++ n ∷ []) (marks : new_ms ≡ marks_after ms n) (names : new_ns ≡ rest ++ names_after ms bodies n) where
  new_names : rest ++ names_after ms core.bodies n ≡ new_ns
  new_names = ap (λ (bs : List Body). rest ++ names_after ms bs n) (sym same) ∙ sym names

  pub goes_on : Walks core ms ns → Walks core new_ms new_ns
  goes_on w =
      subst (λ (l : List Bool). Walks core l new_ns) (sym marks)
      (subst (λ (l : Names). Walks core (marks_after ms n) l) new_names (turn core ms rest n (subst (λ (l : Names). Walks core ms l) first w)))

  pub is_less : work new_ms core.bodies + length new_ns < work ms core.bodies + length ns
  is_less =
      subst (λ (l : List Bool). work l core.bodies + length new_ns < work ms core.bodies + length ns) (sym marks)
      (subst (λ (l : Names). work (marks_after ms n) core.bodies + length l < work ms core.bodies + length ns) new_names
      (subst (λ (l : Names). work (marks_after ms n) core.bodies + length (rest ++ names_after ms core.bodies n) < work ms core.bodies + length l) (sym first)
      (falls ms core.bodies rest n)))

module _ (core : Core) (ms : List Bool) (w : Walks core ms []) where
  sure : (n : ℕ) → Known ms [] n → is_marked ms n ≡ true
  sure n (inl h) = h
  sure n (inr h) = absurd (none_there n h)

  reached : {n : ℕ} → IsReached core n → is_marked ms n ≡ true
  reached (by_units n h) = sure n (w.first n (Contains-append_left (in_units core.units) (option_to_list core.start) n h))
  reached (at_start n h) = sure n (w.first n (Contains-append_right (in_units core.units) (option_to_list core.start) n (starts core.start n h)))
  reached (by_body m n b r is h) =
      let within = slice_get_within core.bodies m b is in
      let same = w.long in
      sure n (w.further m n b (found ms m (omega arith) (reached r)) is h)

  only : (n : ℕ) → n < length core.bodies → is_marked ms n ≡ true → IsReached core n
  only n within e = let same = w.long in w.marked n (found ms n (omega arith) e)

  pub ends : AreMarks core ms
  ends = record { reached = λ n r. reached r; only = only }
