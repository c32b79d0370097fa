-- The variables of a request among its operands.
use Rattle.std.proofs.Common.{◌≡◌, ℕ, zero, suc, List, [], ◌∷◌, ◌++◌, map, Some, refl}
use Rattle.std.specs.Prelude.{slice_get}
use Rattle.eu_base.specs.declared.address.Addr.{Addr}
use Rattle.eu_base.specs.declared.value.Kind.{Kind}
use Rattle.eu_base.specs.Cells.{IsCell}
use Rattle.code_form.specs.declared.operand.Operand.{Operand}
use Rattle.code_form.specs.declared.operand.Operand.TheVariants.{Value as Of, Place as At, Aggregate}
use Rattle.code_form.specs.Valid.{cell_place, FitsKinds}

-- each of them is the place of a cell
pub place_there : (ks : List Kind) (os : List Operand) (n : ℕ) (k : Kind) → FitsKinds os (map cell_place ks ++ []) → slice_get ks n ≡ Some k
    → (a : Addr) × (slice_get os n ≡ Some (At a)) × IsCell a
place_there [] os n k is e = let f : ⊥ = cc in absurd f
place_there (j ∷ ks) [] n k is e = absurd is
place_there (j ∷ ks) (Of v ∷ os) n k is e = absurd is.0
place_there (j ∷ ks) (At a ∷ os) zero k is e = (a, refl, is.0)
place_there (j ∷ ks) (At a ∷ os) (suc n) k is e = place_there ks os n k is.1 e
place_there (j ∷ ks) (Aggregate vs ∷ os) n k is e = absurd is.0
