-- What is held under names, its types, and the kinds of its cells.
use Rattle.std.proofs.Common.{◌≡◌, List, [], ◌∷◌, ◌++◌, refl, sym, ap, ◌∙◌, append_assoc}
use Rattle.std.specs.Prelude.{flat_map}
use Rattle.std.proofs.lemmas.List.{append-nil}
use Rattle.eu_base.specs.declared.value.Kind.{Kind}
use Rattle.eu_base.specs.declared.value.Kind.TheVariants as kinds
use Rattle.eu_base.specs.declared.shape.Shape.{Shape}
use Rattle.eu_base.specs.declared.shape.Shape.TheVariants as shape
use Rattle.eu_base.specs.Shapes.{cell_kinds}
use Rattle.elan_types.specs.declared.elan_type.ElanType.{ElanType}
use Rattle.elan_types.specs.declared.elan_type.ElanType.TheVariants as types
use Rattle.elan_types.specs.declared.elan_type.Parameter.{Parameter}
use Rattle.elan_types.specs.Types.{shape_in}
use Rattle.elan_types.proofs.Types.{type_shape}
use Rattle.elan_names.specs.declared.entry.Entry.{Entry}
use Rattle.elan_scope.specs.Scope.{held, all_held, types_of}

abbrev kinds_in : List ElanType → List Kind
kinds_in ts = flat_map (λ t. cell_kinds (shape_in t)) ts

pub one_more : (ks : List Kind) (t : ElanType) → ks ++ (cell_kinds (shape_in t) ++ []) ≡ ks ++ cell_kinds (shape_in t)
one_more ks t = ap (λ (js : List Kind). ks ++ js) (append-nil (cell_kinds (shape_in t)))

-- A BOUND variable holds a data space.
pub bound_more : (ks : List Kind) → ks ++ (cell_kinds (shape_in types.Dataspace) ++ []) ≡ ks ++ cell_kinds (shape.Cell kinds.Space)
bound_more ks = one_more ks types.Dataspace ∙ ap (λ (s : Shape). ks ++ cell_kinds s) (type_shape kinds.Space)

pub types_append : (xs ys : List Parameter) → types_of (xs ++ ys) ≡ types_of xs ++ types_of ys
types_append [] ys = refl
types_append (x ∷ xs) ys = ap (λ (l : List ElanType). x.of ∷ l) (types_append xs ys)

pub kinds_append : (xs ys : List Parameter) → kinds_in (types_of (xs ++ ys)) ≡ kinds_in (types_of xs) ++ kinds_in (types_of ys)
kinds_append [] ys = refl
kinds_append (x ∷ xs) ys =
    ap (λ (l : List Kind). cell_kinds (shape_in x.of) ++ l) (kinds_append xs ys)
    ∙ sym (append_assoc (cell_kinds (shape_in x.of)) (kinds_in (types_of xs)) (kinds_in (types_of ys)))

pub held_append : (es gs : List Entry) → all_held (es ++ gs) ≡ all_held es ++ all_held gs
held_append [] gs = refl
held_append (e ∷ es) gs =
    ap (λ (ps : List Parameter). held e.denotes ++ ps) (held_append es gs) ∙ sym (append_assoc (held e.denotes) (all_held es) (all_held gs))
