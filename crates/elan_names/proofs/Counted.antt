-- How many cells a declaration holds, and how many are before it.
use Rattle.std.proofs.Common.{◌≡◌, List, [], ◌++◌, map, length, sym, ap, ◌∙◌}
use Rattle.std.proofs.lemmas.List.{append-nil, length-map}
use Rattle.eu_base.specs.declared.value.Kind.TheVariants as kinds
use Rattle.eu_base.specs.declared.shape.Shape.{Shape}
use Rattle.eu_base.specs.Shapes.{cell_kinds}
use Rattle.elan_types.specs.declared.elan_type.ElanType.{ElanType}
use Rattle.elan_types.specs.declared.elan_type.ElanType.TheVariants as types
use Rattle.elan_types.specs.declared.elan_type.Parameter.{Parameter}
use Rattle.elan_types.specs.Types.{shape_in, formal_of, cells}
use Rattle.elan_types.specs.Typing.{Held, OfKind, cells_of}
use Rattle.elan_types.proofs.Shapes.{cell_is}
use Rattle.elan_types.proofs.Types.{cells_kinds, type_shape}
use Rattle.elan_names.specs.declared.entry.Denotes.TheVariants as denotes
use Rattle.elan_names.specs.Names.{cells_held}

pub given_cells : (p : Parameter) → cells_held (denotes.Parameter p) ≡ length (cells_of (formal_of p))
given_cells p = ap (λ (hs : List Held). length hs) (append-nil (cells_of (formal_of p)))

pub value_cells : (t : ElanType) → length (map OfKind (cell_kinds (shape_in t)) ++ []) ≡ cells t
value_cells t =
    ap (λ (hs : List Held). length hs) (append-nil (map OfKind (cell_kinds (shape_in t)))) ∙ length-map (cell_kinds (shape_in t)) OfKind ∙ cells_kinds t

-- A BOUND variable holds the number of a data space.
pub bound_cells : length (map OfKind (cell_kinds (shape_in types.Dataspace)) ++ []) ≡ 1
bound_cells =
    value_cells types.Dataspace ∙ sym (cells_kinds types.Dataspace) ∙ ap (λ (s : Shape). length (cell_kinds s)) (type_shape kinds.Space)
    ∙ ap length (cell_is kinds.Space)
