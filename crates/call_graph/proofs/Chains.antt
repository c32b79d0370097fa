-- A chain of calls, from its end on.
use Rattle.std.proofs.Common.{◌≡◌, ℕ, zero, suc, ◌+◌, Bool, true, false, ◌||◌, List, [], ◌∷◌, map, refl, ap, subst, ◌∙◌, arith}
use Rattle.std.specs.List.{list_any}
use Rattle.std.specs.Prelude.{slice_index_or, ◌==◌}
use Rattle.std.proofs.lemmas.Bool.Decides.{Decides-eqb}
use Rattle.call_graph.specs.Chains.{leads}

or_left : (a b : Bool) → a ≡ true → (a || b) ≡ true
or_left true b e = refl
or_left false b e = absurd cc

or_right : (a b : Bool) → b ≡ true → (a || b) ≡ true
or_right true b e = refl
or_right false b e = e

either : (a b c : Bool) → (b ≡ true → c ≡ true) → (a || b) ≡ true → (a || c) ≡ true
either true b c h e = refl
either false b c h e = h e

both : (a b c d : Bool) → (a ≡ true → b ≡ true) → (c ≡ true → d ≡ true) → (a || c) ≡ true → (b || d) ≡ true
both true b c d f g e = or_left b d (f refl)
both false b c d f g e = or_right b d (g e)

any_more : (p q : ℕ → Bool) → ((c : ℕ) → p c ≡ true → q c ≡ true) → (cs : List ℕ) → list_any p cs ≡ true → list_any q cs ≡ true
any_more p q h [] e = e
any_more p q h (c ∷ cs) e = both (p c) (q c) (list_any p cs) (list_any q cs) (h c) (any_more p q h cs) e

module _ (calls : List (List ℕ)) (r : ℕ) where
  -- a chain of so many calls is one of at most one more
  longer : (i n : ℕ) → leads i calls n r ≡ true → leads (suc i) calls n r ≡ true
  longer zero n e = or_left (n == r) (list_any (λ c. leads zero calls c r) (slice_index_or calls n [])) e
  longer (suc i) n e =
      either (n == r) (list_any (λ c. leads i calls c r) (slice_index_or calls n [])) (list_any (λ c. leads (suc i) calls c r) (slice_index_or calls n []))
      (any_more (λ c. leads i calls c r) (λ c. leads (suc i) calls c r) (longer i) (slice_index_or calls n [])) e

  pub as_long : (i j n m : ℕ) → m ≡ j + i → leads i calls n r ≡ true → leads m calls n r ≡ true
  as_long i zero n m f e = subst (λ (k : ℕ). leads k calls n r ≡ true) (let g : i ≡ m = omega (arith, f) in g) e
  as_long i (suc j) n m f e =
      subst (λ (k : ℕ). leads k calls n r ≡ true) (let g : suc (j + i) ≡ m = omega (arith, f) in g) (longer (j + i) n (as_long i j n (j + i) refl e))

  -- the end of a chain
  pub ends : leads 0 calls r r ≡ true
  ends = (Decides-eqb r r).1 refl

  -- one call before
  pub before : (i n c : ℕ) → leads i calls c r ≡ true → list_any (λ k. k == c) (slice_index_or calls n []) ≡ true → leads (suc i) calls n r ≡ true
  before i n c e h =
      or_right (n == r) (list_any (λ k. leads i calls k r) (slice_index_or calls n []))
      (any_more (λ k. k == c) (λ k. leads i calls k r) (λ k f. ap (λ (m : ℕ). leads i calls m r) ((Decides-eqb k c).0 f) ∙ e) (slice_index_or calls n []) h)
