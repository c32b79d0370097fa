-- Lists of shapes that are told to be the same, one by one.
use Rattle.std.proofs.Common.{◌≡◌, ◌≢◌, Bool, true, false, ◌&&◌, List, [], ◌∷◌, length, map, refl, ap, ◌∙◌, arith}
use Rattle.eu_base.specs.declared.shape.Shape.{Shape}
use Rattle.eu_base.specs.Shapes.{same_shape, are_parts}

-- of another number they are not
no_parts : (f : Bool) → f && false ≡ false
no_parts true = refl
no_parts false = refl

pub parts_apart : (parts others : List Shape) → length parts ≢ length others → are_parts (map same_shape parts) others ≡ false
parts_apart [] [] ne = absurd (ne refl)
parts_apart [] (o ∷ others) ne = refl
parts_apart (p ∷ parts) [] ne = refl
parts_apart (p ∷ parts) (o ∷ others) ne =
    ap (λ (b : Bool). same_shape p o && b) (parts_apart parts others (λ e. ne (omega (arith, e)))) ∙ no_parts (same_shape p o)
