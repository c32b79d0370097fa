-- Marks, one call further in each turn: they tell from which refinements a chain of so many calls leads to one.
use Rattle.std.proofs.Common.{◌≡◌, ℕ, zero, suc, ◌+◌, ◌-◌, ◌<◌, Bool, true, false, ◌||◌, List, [], ◌∷◌, ◌++◌, map, length, refl, sym, ap, subst, ◌∙◌, arith}
use Rattle.std.specs.List.{list_any}
use Rattle.std.proofs.Common.{append_assoc, drop, get_or, drop-cons}
use Rattle.std.specs.Prelude.{slice_index_or, ◌==◌}
use Rattle.call_graph.specs.Chains.{leads}
use Rattle.call_graph.specs.walks.Marks.{mark_at, any_marked, marks_from, next_marks, equal_from, first_marks}

or_false : (b : Bool) → b ≡ (b || false)
or_false true = refl
or_false false = refl

-- ---- the marks, one by one

marks_at : (k : ℕ) (marks : List Bool) (r : ℕ) (calls : List (List ℕ)) (n j : ℕ) → j ≡ k + n
    → slice_index_or (marks_from k marks r calls) n (j == r) ≡ (j == r || any_marked marks r (slice_index_or calls n []))
marks_at k marks r [] n j e = or_false (j == r)
marks_at k marks r (cs ∷ rest) zero j e = ap (λ (m : ℕ). m == r || any_marked marks r cs) (let f : k ≡ j = omega (arith, e) in f)
marks_at k marks r (cs ∷ rest) (suc n) j e = marks_at (k + 1) marks r rest n j (omega (arith, e))

equal_at : (k count r n j : ℕ) → j ≡ k + n → slice_index_or (equal_from k count r) n (j == r) ≡ (j == r)
equal_at k zero r n j e = refl
equal_at k (suc count) r zero j e = ap (λ (m : ℕ). m == r) (let f : k ≡ j = omega (arith, e) in f)
equal_at k (suc count) r (suc n) j e = equal_at (k + 1) count r n j (omega (arith, e))

-- ---- what they tell

module _ (calls : List (List ℕ)) (r : ℕ) where
  -- A number is marked where a chain of at most so many calls leads from it to the refinement.
  abbrev pub Marked : ℕ → List Bool → Type 0
  Marked i marks = (n : ℕ) → mark_at marks r n ≡ leads i calls n r

  pub at_first : (count : ℕ) → Marked 0 (first_marks count r)
  at_first count n = equal_at 0 count r n n (omega arith)

  any_leads : (i : ℕ) (marks : List Bool) → Marked i marks → (cs : List ℕ) → any_marked marks r cs ≡ list_any (λ c. leads i calls c r) cs
  any_leads i marks h [] = refl
  any_leads i marks h (c ∷ cs) =
      ap (λ (b : Bool). b || any_marked marks r cs) (h c) ∙ ap (λ (b : Bool). leads i calls c r || b) (any_leads i marks h cs)

  pub further : (i : ℕ) (marks : List Bool) → Marked i marks → Marked (suc i) (next_marks marks r calls)
  further i marks h n =
      marks_at 0 marks r calls n n (omega arith)
      ∙ ap (λ (b : Bool). n == r || b) (any_leads i marks h (slice_index_or calls n []))

  -- where a turn changes nothing, no later one does
  pub stays : (i : ℕ) (marks : List Bool) → Marked i marks → next_marks marks r calls ≡ marks → (j m : ℕ) → m ≡ i + j → Marked m marks
  stays i marks h e zero m f = subst (λ (k : ℕ). Marked k marks) (let g : i ≡ m = omega (arith, f) in g) h
  stays i marks h e (suc j) m f =
      subst (λ (k : ℕ). Marked k marks) (let g : suc (i + j) ≡ m = omega (arith, f) in g)
      (subst (λ (l : List Bool). Marked (suc (i + j)) l) e (further (i + j) marks (stays i marks h e j (i + j) refl)))

-- ---- the lists, as they are made

equal_open : (k count r : ℕ) → k < count → equal_from k (count - k) r ≡ (k == r) ∷ equal_from (k + 1) (count - (k + 1)) r
equal_open k count r lt = ap (λ (m : ℕ). equal_from k m r) (let e : count - k ≡ suc (count - (k + 1)) = omega arith in e)

pub first_step : (all marks marks' : List Bool) (b : Bool) (k count r : ℕ) → k < count → marks' ≡ marks ++ b ∷ [] → b ≡ (k == r)
    → marks ++ equal_from k (count - k) r ≡ all → marks' ++ equal_from (k + 1) (count - (k + 1)) r ≡ all
first_step all marks marks' b k count r lt e f h =
    ap (λ (l : List Bool). l ++ equal_from (k + 1) (count - (k + 1)) r) (e ∙ ap (λ (c : Bool). marks ++ c ∷ []) f)
    ∙ append_assoc marks ((k == r) ∷ []) (equal_from (k + 1) (count - (k + 1)) r)
    ∙ ap (λ (l : List Bool). marks ++ l) (sym (equal_open k count r lt)) ∙ h

marks_open : (k : ℕ) (marks : List Bool) (r : ℕ) (calls : List (List ℕ)) (i : ℕ) (cs : List ℕ) → i < length calls → cs ≡ get_or calls i cs
    → marks_from k marks r (drop i calls) ≡ (k == r || any_marked marks r cs) ∷ marks_from (k + 1) marks r (drop (i + 1) calls)
marks_open k marks r calls i cs lt e =
    ap (marks_from k marks r) (drop-cons calls i cs lt ∙ ap (λ (l : List ℕ). l ∷ drop (suc i) calls) (sym e))
    ∙ ap (λ (m : ℕ). (k == r || any_marked marks r cs) ∷ marks_from (k + 1) marks r (drop m calls)) (let f : suc i ≡ i + 1 = omega arith in f)

pub next_step : (all next next' marks : List Bool) (b : Bool) (k r : ℕ) (calls : List (List ℕ)) (cs : List ℕ) → k < length calls → cs ≡ get_or calls k cs
    → next' ≡ next ++ b ∷ [] → b ≡ (k == r || any_marked marks r cs)
    → next ++ marks_from k marks r (drop k calls) ≡ all → next' ++ marks_from (k + 1) marks r (drop (k + 1) calls) ≡ all
next_step all next next' marks b k r calls cs lt i e f h =
    ap (λ (l : List Bool). l ++ marks_from (k + 1) marks r (drop (k + 1) calls)) (e ∙ ap (λ (c : Bool). next ++ c ∷ []) f)
    ∙ append_assoc next ((k == r || any_marked marks r cs) ∷ []) (marks_from (k + 1) marks r (drop (k + 1) calls))
    ∙ ap (λ (l : List Bool). next ++ l) (sym (marks_open k marks r calls k cs lt i)) ∙ h
