-- A cell of a shape, by its number.
use Rattle.std.specs.Prelude.{ℕ, zero, suc, Bool, false, List, [], ◌∷◌, replicate, Result, Ok, Err}
use Rattle.eu_base.specs.declared.value.Kind.{Kind}
use Rattle.eu_base.specs.Values.{same_kind}
use Rattle.eu_base.specs.Shapes.{joined}

-- its kind; or, where there are fewer cells, how many cells further on it is
abbrev pub found_in : List Kind → ℕ → Result Kind ℕ
found_in [] n = Err n
found_in (k ∷ ks) zero = Ok k
found_in (k ∷ ks) (suc n) = found_in ks n

-- in a row of so many items
abbrev pub found_in_row : ℕ → List Kind → ℕ → Result Kind ℕ
found_in_row count item n = found_in (joined (replicate count item)) n

-- it was found, and is of a kind
abbrev pub kind_is : Kind → Result Kind ℕ → Bool
kind_is k (Ok j) = same_kind k j
kind_is k (Err n) = false
