-- The kinds of some of many shapes.
use Rattle.std.proofs.Common.{◌≡◌, ℕ, suc, ◌+◌, ◌<◌, List, [], ◌∷◌, ◌++◌, length, take, drop, refl, sym, ap, ◌∙◌, append_assoc, append-nil}
use Rattle.std.specs.Prelude.{get_or}
use Rattle.std.proofs.Math.Seq.{drop-cons}
use Rattle.std.proofs.lemmas.List.{take-append-drop, take_more}
use Rattle.eu_base.specs.declared.shape.Shape.{Shape}
use Rattle.eu_base.specs.Shapes.{cell_kinds}
use Rattle.cell_kinds.specs.Kinds.{all_kinds}

pub kinds_append : (xs ys : List Shape) → all_kinds (xs ++ ys) ≡ all_kinds xs ++ all_kinds ys
kinds_append [] ys = refl
kinds_append (x ∷ xs) ys = ap (λ l. cell_kinds x ++ l) (kinds_append xs ys) ∙ sym (append_assoc (cell_kinds x) (all_kinds xs) (all_kinds ys))

-- those of one shape more
pub kinds_more : (xs : List Shape) (i : ℕ) (x d : Shape) → i < length xs → x ≡ get_or xs i d
    → all_kinds (take (i + 1) xs) ≡ all_kinds (take i xs) ++ cell_kinds x
kinds_more xs i x d lt is =
    ap all_kinds (take_more xs i d lt) ∙ kinds_append (take i xs) (get_or xs i d ∷ [])
    ∙ ap (λ l. all_kinds (take i xs) ++ l) (append-nil (cell_kinds (get_or xs i d)) ∙ ap cell_kinds (sym is))

-- those before a shape, its own, and those behind it
pub kinds_around : (xs : List Shape) (i : ℕ) (x d : Shape) → i < length xs → x ≡ get_or xs i d
    → all_kinds xs ≡ all_kinds (take i xs) ++ (cell_kinds x ++ all_kinds (drop (suc i) xs))
kinds_around xs i x d lt is =
    ap all_kinds (sym (take-append-drop i xs) ∙ ap (λ l. take i xs ++ l) (drop-cons xs i d lt))
    ∙ kinds_append (take i xs) (get_or xs i d ∷ drop (suc i) xs)
    ∙ ap (λ s. all_kinds (take i xs) ++ (cell_kinds s ++ all_kinds (drop (suc i) xs))) (sym is)
