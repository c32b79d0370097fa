-- Units declare variables and constants, and no parameters.
use Rattle.std.proofs.Common.{◌≡◌, List, [], ◌∷◌, ◌++◌, map, refl, sym, ap, ◌∙◌}
use Rattle.std.specs.Prelude.{flat_map}
use Rattle.elan_tree.specs.declared.phrase.Unit.{Unit as Statement}
use Rattle.elan_types.specs.declared.elan_type.ElanType.{ElanType}
use Rattle.elan_types.specs.declared.elan_type.Parameter.{Parameter}
use Rattle.elan_types.specs.Types.{held_const}
use Rattle.elan_tree.specs.declared.tree.Refinement.{Refinement}
use Rattle.elan_walk.specs.declared.node.Held.TheVariants.{Variable, Constant, Bound}
use Rattle.elan_walk.specs.Nodes as nodes
use Rattle.elan_walk.specs.Nodes.{Node, alone, other, sign, of_type, item, let_name, abbreviation, new_type, content}
use Rattle.elan_names.specs.declared.entry.Denotes.{Denotes}
use Rattle.elan_names.specs.declared.entry.Denotes.TheVariants as denotes
use Rattle.elan_names.specs.declared.entry.Entry.{Entry}
use Rattle.elan_scope.specs.Scope.{held, all_held, types_of}
use Rattle.type_names.specs.Declarations as d
use Rattle.elan_names.specs.declared.type_name.TypeName.{TypeName}
use Rattle.type_names.specs.Bodies.{refinement_names}
use Rattle.type_names.proofs.Held.{types_append}

abbrev One : Denotes → Type 0
One (denotes.Parameter p) = ⊥
One _ = Unit {0}

abbrev Plain : List Entry → Type 0
Plain [] = Unit {0}
Plain (e ∷ es) = One e.denotes × Plain es

append : (xs ys : List Entry) → Plain xs → Plain ys → Plain (xs ++ ys)
append [] ys h k = k
append (x ∷ xs) ys h k = (h.0, append xs ys h.1 k)

module _ (ts : List TypeName) where
  node_plain : (n : Node) → Plain (d.declared ts n)
  node_plain (item Variable of n) = (tt, tt)
  node_plain (item Constant of n) = (tt, tt)
  node_plain (item Bound of n) = (tt, tt)
  node_plain (let_name n c) = (tt, tt)
  node_plain (alone n) = tt
  node_plain (other n) = tt
  node_plain (sign o) = tt
  node_plain (of_type of) = tt
  node_plain (abbreviation n of) = tt
  node_plain (new_type at n of) = tt
  node_plain (content of) = tt

  nodes_plain : (ns : List Node) → Plain (flat_map (d.declared ts) ns)
  nodes_plain [] = tt
  nodes_plain (n ∷ ns) = append (d.declared ts n) (flat_map (d.declared ts) ns) (node_plain n) (nodes_plain ns)

  units_plain : (us : List Statement) → Plain (d.in_units ts us)
  units_plain us = nodes_plain (nodes.in_units us)

  refinements_plain : (rs : List Refinement) → Plain (refinement_names ts rs)
  refinements_plain [] = tt
  refinements_plain (r ∷ rs) = (tt, append (d.in_units ts r.units) (refinement_names ts rs) (units_plain r.units) (refinements_plain rs))

held_plain : (a : Denotes) → One a → held a ≡ map held_const (types_of (held a))
held_plain (denotes.Variable t) h = refl
held_plain (denotes.Constant t) h = refl
held_plain (denotes.Bound t) h = refl
held_plain (denotes.Parameter p) h = absurd h
held_plain denotes.Procedure h = refl
held_plain denotes.Refinement h = refl
held_plain (denotes.Denoter d) h = refl

map_append : (xs ys : List ElanType) → map held_const (xs ++ ys) ≡ map held_const xs ++ map held_const ys
map_append [] ys = refl
map_append (x ∷ xs) ys = ap (λ (l : List Parameter). held_const x ∷ l) (map_append xs ys)

all_held_plain : (es : List Entry) → Plain es → all_held es ≡ map held_const (types_of (all_held es))
all_held_plain [] h = refl
all_held_plain (e ∷ es) h =
    ap (λ (l : List Parameter). l ++ all_held es) (held_plain e.denotes h.0)
    ∙ ap (λ (l : List Parameter). map held_const (types_of (held e.denotes)) ++ l) (all_held_plain es h.1)
    ∙ sym (ap (map held_const) (types_append (held e.denotes) (all_held es)) ∙ map_append (types_of (held e.denotes)) (types_of (all_held es)))

-- what a body declares is held as variables and constants are
pub own_held : (ts : List TypeName) (us : List Statement) (rs : List Refinement)
    → all_held (d.in_units ts us ++ refinement_names ts rs) ≡ map held_const (types_of (all_held (d.in_units ts us ++ refinement_names ts rs)))
own_held ts us rs =
    all_held_plain (d.in_units ts us ++ refinement_names ts rs) (append (d.in_units ts us) (refinement_names ts rs) (units_plain ts us) (refinements_plain ts rs))
