-- No chain of calls leaves marks that no call leaves.
use Rattle.std.proofs.Common.{◌≡◌, ℕ, zero, suc, ◌+◌, Bool, true, false, ◌||◌, ◌&&◌, not, if◌then◌else◌, List, [], ◌∷◌, map, refl, sym, ap, ◌∙◌, arith}
use Rattle.std.specs.List.{list_any}
use Rattle.std.specs.Prelude.{slice_index_or, ◌==◌}
use Rattle.call_graph.specs.Chains.{leads}
use Rattle.call_graph.specs.walks.Apart.{is_marked, is_safe, all_safe, closed_from, is_closed}

pub and_left : (a b : Bool) → (a && b) ≡ true → a ≡ true
and_left true b e = refl
and_left false b e = absurd cc

pub and_right : (a b : Bool) → (a && b) ≡ true → b ≡ true
and_right true b e = e
and_right false b e = absurd cc

not_true : (a : Bool) → not a ≡ true → a ≡ false
not_true true e = absurd cc
not_true false e = refl

pub neither : (a b : Bool) → a ≡ false → b ≡ false → (a || b) ≡ false
neither true b e f = absurd cc
neither false b e f = f

where_marked : (a b : Bool) → a ≡ true → (if a then b else true) ≡ true → b ≡ true
where_marked true b e f = f
where_marked false b e f = absurd cc

calls_safe : (marks : List Bool) (r k : ℕ) (calls : List (List ℕ)) (n j : ℕ) → j ≡ k + n → closed_from k marks r calls ≡ true → is_marked marks j ≡ true
    → all_safe marks r (slice_index_or calls n []) ≡ true
calls_safe marks r k [] n j e h m = refl
calls_safe marks r k (cs ∷ rest) zero j e h m =
    let f : j ≡ k = omega (arith, e) in
    where_marked (is_marked marks k) (all_safe marks r cs) (sym (ap (is_marked marks) f) ∙ m)
    (and_left (if is_marked marks k then all_safe marks r cs else true) (closed_from (k + 1) marks r rest) h)
calls_safe marks r k (cs ∷ rest) (suc n) j e h m =
    let f : j ≡ (k + 1) + n = omega (arith, e) in
    calls_safe marks r (k + 1) rest n j f (and_right (if is_marked marks k then all_safe marks r cs else true) (closed_from (k + 1) marks r rest) h) m

none_is : (marks : List Bool) (r : ℕ) (test : ℕ → Bool) → ((c : ℕ) → is_safe marks r c ≡ true → test c ≡ false) → (cs : List ℕ)
    → all_safe marks r cs ≡ true → list_any test cs ≡ false
none_is marks r test h [] s = refl
none_is marks r test h (c ∷ cs) s =
    neither (test c) (list_any test cs) (h c (and_left (is_safe marks r c) (all_safe marks r cs) s))
    (none_is marks r test h cs (and_right (is_safe marks r c) (all_safe marks r cs) s))

pub apart : (calls : List (List ℕ)) (marks : List Bool) (r : ℕ) → is_closed marks r calls ≡ true → (i n : ℕ) → is_safe marks r n ≡ true
    → leads i calls n r ≡ false
apart calls marks r closed zero n s = not_true (n == r) (and_left (not (n == r)) (is_marked marks n) s)
apart calls marks r closed (suc i) n s =
    let z : n ≡ 0 + n = omega arith in
    let marked = and_right (not (n == r)) (is_marked marks n) s in
    neither (n == r) (list_any (λ c. leads i calls c r) (slice_index_or calls n [])) (not_true (n == r) (and_left (not (n == r)) (is_marked marks n) s))
    (none_is marks r (λ c. leads i calls c r) (apart calls marks r closed i) (slice_index_or calls n []) (calls_safe marks r 0 calls n n z closed marked))
