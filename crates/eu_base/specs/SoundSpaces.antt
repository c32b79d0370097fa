-- Data spaces whose values are of the kinds of their cells, under numbers and with type numbers that fit.
use Rattle.std.specs.Prelude.{◌≤◌, List, [], ◌∷◌, length, Option, Some, None}
use Rattle.std.specs.List.{AllByRecursion}
use Rattle.std.specs.Int.{w16}
use Rattle.std.specs.Int.RustNames.{FitsSigned}
use Rattle.eu_base.specs.declared.value.Kind.{Kind}
use Rattle.eu_base.specs.declared.value.Value.{Value}
use Rattle.eu_base.specs.declared.shape.Shape.{Shape}
use Rattle.eu_base.specs.Shapes.{cell_kinds}
use Rattle.eu_base.specs.declared.address.TheConstants.{CELLS}
use Rattle.eu_base.specs.Values.{IsOf}
use Rattle.eu_base.specs.Requests.{Answer}
use Rattle.eu_base.specs.DataSpaces.{Space, Spaces, last_number}

abbrev pub shape_kinds : Option Shape → List Kind
shape_kinds None = []
shape_kinds (Some shape) = cell_kinds shape

-- one value of its kind for each cell
pub data AreOf : List Kind → List Value → Type 0 where
  none : AreOf [] []
  one : {k : Kind} {v : Value} {ks : List Kind} {vs : List Value} → IsOf k v → AreOf ks vs → AreOf (k ∷ ks) (v ∷ vs)

-- a type number of 16 bits, and a value for each cell of the shape
pub record IsSpace (space : Space) : Type 0 where
  pub kind : FitsSigned w16 space.kind
  pub values : AreOf (shape_kinds space.shape) space.values

-- each that lives is one, and numbers have 32 bits: the last one that was given, and those in the directory
pub record AreSpaces (spaces : Spaces) : Type 0 where
  pub each : AllByRecursion (λ e. IsSpace e.1) spaces.live
  pub given : spaces.last ≤ last_number
  pub named : AllByRecursion (λ e. e.1.0 ≤ last_number) spaces.names

-- a data space can come from another task: it is one, and has no more cells than there can be
pub record CanCome (content : Space) : Type 0 where
  pub space : IsSpace content
  pub fits : length (shape_kinds content.shape) ≤ CELLS

-- so it is with what comes with answers
abbrev pub AllCanCome : List Answer → Type 0
AllCanCome answers = AllByRecursion (λ (a : Answer). CanCome a.content) answers

-- whether a value is given, and of its kind
abbrev pub GivesOf : Option Kind → Option Value → Type 0
GivesOf None given = Unit {0}
GivesOf (Some k) None = ⊥
GivesOf (Some k) (Some v) = IsOf k v
