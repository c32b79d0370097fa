-- No chain of calls leads to a body of a higher rank.
use Rattle.std.proofs.Common.{◌≡◌, ℕ, zero, suc, ◌+◌, ◌<◌, ◌≤◌, Bool, true, false, ◌&&◌, not, List, [], ◌∷◌, map, refl, ap, ◌∙◌, arith}
use Rattle.std.specs.List.{list_any}
use Rattle.std.specs.Prelude.{slice_index_or, ◌==◌, nat_lt}
use Rattle.call_graph.specs.Chains.{leads}
use Rattle.call_graph.specs.walks.Ranks.{rank_of, none_above, ranked_from, is_ranked}
use Rattle.call_graph.proofs.Unreached.{and_left, and_right, neither}
use Rattle.std.proofs.lemmas.Bool.{ltb-false}
use Rattle.std.proofs.lemmas.Bool.Decides.{Decides-eqb}

not_below : (a b : ℕ) → not (nat_lt a b) ≡ true → b ≤ a
not_below a b h = ltb-false a b (is_false (nat_lt a b) h)
  where
    is_false : (b : Bool) → not b ≡ true → b ≡ false
    is_false true e = absurd cc
    is_false false e = refl

calls_ranked : (ranks : List ℕ) (k : ℕ) (calls : List (List ℕ)) (n j : ℕ) → j ≡ k + n → ranked_from k ranks calls ≡ true
    → none_above ranks (rank_of ranks j) (slice_index_or calls n []) ≡ true
calls_ranked ranks k [] n j e h = refl
calls_ranked ranks k (cs ∷ rest) zero j e h =
    let f : j ≡ k = omega (arith, e) in
    ap (λ (i : ℕ). none_above ranks (rank_of ranks i) cs) f ∙ and_left (none_above ranks (rank_of ranks k) cs) (ranked_from (k + 1) ranks rest) h
calls_ranked ranks k (cs ∷ rest) (suc n) j e h =
    let f : j ≡ (k + 1) + n = omega (arith, e) in
    calls_ranked ranks (k + 1) rest n j f (and_right (none_above ranks (rank_of ranks k) cs) (ranked_from (k + 1) ranks rest) h)

-- one of a lower rank is another
other : (ranks : List ℕ) (n r : ℕ) → rank_of ranks n < rank_of ranks r → (n == r) ≡ false
other ranks n r lt = by_test (n == r) refl
  where
    by_test : (b : Bool) → (n == r) ≡ b → (n == r) ≡ false
    by_test true e = absurd (let f : n ≡ r = (Decides-eqb n r).0 e in let g : rank_of ranks n ≡ rank_of ranks r = ap (rank_of ranks) f in omega (arith, lt))
    by_test false e = e

none_leads : (ranks : List ℕ) (r k : ℕ) (test : ℕ → Bool) → ((c : ℕ) → rank_of ranks c < rank_of ranks r → test c ≡ false) → k < rank_of ranks r
    → (cs : List ℕ) → none_above ranks k cs ≡ true → list_any test cs ≡ false
none_leads ranks r k test h lt [] a = refl
none_leads ranks r k test h lt (c ∷ cs) a =
    let le : rank_of ranks c ≤ k = not_below k (rank_of ranks c) (and_left (not (nat_lt k (rank_of ranks c))) (none_above ranks k cs) a) in
    neither (test c) (list_any test cs) (h c (omega (arith, le, lt)))
    (none_leads ranks r k test h lt cs (and_right (not (nat_lt k (rank_of ranks c))) (none_above ranks k cs) a))

pub never_higher : (ranks : List ℕ) (calls : List (List ℕ)) (r : ℕ) → is_ranked ranks calls ≡ true → (i n : ℕ) → rank_of ranks n < rank_of ranks r
    → leads i calls n r ≡ false
never_higher ranks calls r ok zero n lt = other ranks n r lt
never_higher ranks calls r ok (suc i) n lt =
    let z : n ≡ 0 + n = omega arith in
    neither (n == r) (list_any (λ c. leads i calls c r) (slice_index_or calls n [])) (other ranks n r lt)
    (none_leads ranks r (rank_of ranks n) (λ c. leads i calls c r) (never_higher ranks calls r ok i) lt (slice_index_or calls n [])
    (calls_ranked ranks 0 calls n n z ok))

-- Without ranks no body calls one of a higher.
none_unranked : (cs : List ℕ) → none_above [] 0 cs ≡ true
none_unranked [] = refl
none_unranked (c ∷ cs) = none_unranked cs

pub unranked : (k : ℕ) (calls : List (List ℕ)) → ranked_from k [] calls ≡ true
unranked k [] = refl
unranked k (cs ∷ rest) = ap (λ (b : Bool). b && ranked_from (k + 1) [] rest) (none_unranked cs) ∙ unranked (k + 1) rest
