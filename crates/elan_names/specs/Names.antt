-- Names in the order in which they are declared.
use Rattle.std.specs.Prelude.{ℕ, ℤ, ◌+◌, Bool, true, false, List, [], ◌∷◌, length, map, flat_map, Option, Some, None, if◌then◌else◌}
use Rattle.std.specs.Str.{bytes_eq}
use Rattle.eu_base.specs.declared.value.Kind.{Kind}
use Rattle.eu_base.specs.Shapes.{cell_kinds}
use Rattle.elan_types.specs.declared.elan_type.ElanType.{ElanType}
use Rattle.elan_types.specs.declared.elan_type.ElanType.TheVariants as types
use Rattle.elan_types.specs.declared.elan_type.Parameter.{Parameter}
use Rattle.elan_types.specs.Types.{held_const, formal_of, shape_in}
use Rattle.elan_types.specs.Typing.{cells_of}
use Rattle.elan_names.specs.declared.denoter.Denoter.TheVariants as denoter
use Rattle.elan_names.specs.declared.entry.Denotes.{Denotes}
use Rattle.elan_names.specs.declared.entry.Denotes.TheVariants as denotes
use Rattle.elan_names.specs.declared.entry.Entry.{Entry}

-- what is held under a name: a variable or constant, the data space to which a BOUND variable is bound, or what a parameter is given;
-- PROCs, refinements and denoters hold nothing
abbrev pub held : Denotes → List Parameter
held (denotes.Variable t) = held_const t ∷ []
held (denotes.Constant t) = held_const t ∷ []
held (denotes.Bound t) = held_const types.Dataspace ∷ []
held (denotes.Parameter p) = p ∷ []
held denotes.Procedure = []
held denotes.Refinement = []
held (denotes.Denoter d) = []

-- the number of cells of what is held: those of each value, and one for the place that a VAR parameter holds
abbrev pub cells_held : Denotes → ℕ
cells_held d = length (flat_map (λ p. cells_of (formal_of p)) (held d))

-- the first declaration of a name, with the number of cells of what is held before it
abbrev pub first_from : ℕ → List Entry → List ℕ → Option (ℕ × Entry)
first_from k [] x = None
first_from k (e ∷ es) x = if bytes_eq e.name x then Some (k, e) else first_from (k + cells_held e.denotes) es x

abbrev pub first_named : List Entry → List ℕ → Option (ℕ × Entry)
first_named = first_from 0

-- what is held under all of these
abbrev pub all_held : List Entry → List Parameter
all_held es = flat_map (λ e. held e.denotes) es

abbrev pub types_of : List Parameter → List ElanType
types_of ps = map (λ p. p.of) ps

-- the kinds of the cells of variables and constants
abbrev pub variables_of : List Entry → List Kind
variables_of es = flat_map (λ t. cell_kinds (shape_in t)) (types_of (all_held es))

abbrev pub is_refinement : Denotes → Bool
is_refinement denotes.Refinement = true
is_refinement _ = false

-- the number that LET gives the name to
abbrev pub number_of_denoter : Denotes → Option ℤ
number_of_denoter (denotes.Denoter (denoter.Number n)) = Some n
number_of_denoter _ = None
