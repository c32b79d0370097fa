-- How deep lists are.
use Rattle.std.proofs.Common.{◌≡◌, ℕ, max, List, [], ◌∷◌, ◌++◌, map, arith}
use Rattle.elan_grammar.specs.Depth.{deepest}

pub deepest_one : {A : Type 0} (d : A → ℕ) (x : A) → deepest (map d (x ∷ [])) ≡ d x
deepest_one d x = omega arith

pub deepest_push : {A : Type 0} (d : A → ℕ) (xs : List A) (x : A) → deepest (map d (xs ++ x ∷ [])) ≡ max (deepest (map d xs)) (d x)
deepest_push d [] x = omega arith
deepest_push d (y ∷ xs) x =
    let h = deepest_push d xs x in
    omega (arith, h)

pub ruleset deepens = (deepest_one, deepest_push)
