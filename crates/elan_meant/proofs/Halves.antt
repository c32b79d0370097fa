-- A pair whose halves are known.
use Rattle.std.proofs.Common.{◌≡◌, ap, ◌∙◌}
use Rattle.std.specs.Prelude.{Result, Ok, Err, IfOk}

pub pair_is : {A B E : Type 0} (r : Result (A × B) E) (x : A) (y : B) → IfOk r (λ p. (p.0 ≡ x) × (p.1 ≡ y)) → IfOk r (λ p. p ≡ (x, y))
pair_is (Ok p) x y e = ap (λ a. (a, p.1)) e.0 ∙ ap (λ b. (x, b)) e.1
pair_is (Err f) x y e = tt
