-- What the names of a level and of its bodies hold: each part of it has a cell, and in a level all are values.
use Rattle.std.proofs.Common.{◌≡◌, ℕ, true, false, List, [], ◌∷◌, ◌++◌, refl, sym, subst}
use Rattle.std.specs.Prelude.{flat_map}
use Rattle.elan_types.specs.declared.elan_type.Parameter.{Parameter}
use Rattle.elan_types.proofs.Sized.{is_sized_type}
use Rattle.elan_tree.specs.declared.written_type.Name.{Name}
use Rattle.elan_tree.specs.declared.written_type.TypePhrase.{TypePhrase}
use Rattle.elan_tree.specs.declared.written_type.Formal.{Formal}
use Rattle.elan_tree.specs.declared.tree.Body.{Body}
use Rattle.elan_tree.specs.declared.tree.Refinement.{Refinement}
use Rattle.elan_tree.specs.declared.tree.Level.{Level}
use Rattle.elan_tree.specs.declared.tree.LevelUnit.{LevelUnit}
use Rattle.elan_tree.specs.declared.tree.LevelUnit.TheVariants as level
use Rattle.elan_walk.specs.declared.node.Held.{Held}
use Rattle.elan_walk.specs.declared.node.Held.TheVariants.{Variable, Constant, Bound}
use Rattle.elan_walk.specs.Nodes as nodes
use Rattle.elan_walk.specs.Nodes.{Node, alone, other, sign, of_type, item, let_name, abbreviation, new_type, content}
use Rattle.elan_names.specs.declared.denoter.Denoter.{Denoter}
use Rattle.elan_names.specs.declared.entry.Denotes.TheVariants as denotes
use Rattle.elan_names.specs.declared.entry.Entry.{Entry}
use Rattle.elan_names.specs.declared.type_name.TypeName.{TypeName}
use Rattle.elan_scope.specs.Scope.{all_held}
use Rattle.type_names.specs.Types.{body_definitions, body_types}
use Rattle.type_names.proofs.Sized.{SizedNames, type_sized, seen_sized}
use Rattle.type_names.specs.Declarations as d
use Rattle.type_names.specs.Bodies as b
use Rattle.type_names.proofs.Held.{held_append}
use Rattle.elan_check.specs.Below.elan_rules.proofs.TypedCalls.{AllSized, AllConst}

-- what holds of nothing, of two lists together, of each name of a declaration, and of names that hold nothing, where these names of types can be seen
module _ (P : List Entry → Type 0) (nothing : P []) (append : (es gs : List Entry) → P es → P gs → P (es ++ gs)) (ts : List TypeName)
    (one : (at : ℕ) (x : List ℕ) (h : Held) (of : TypePhrase) → P (record { at = at; name = x; denotes = d.held_as ts h of } ∷ []))
    (given : (at : ℕ) (x : List ℕ) (c : Denoter) → P (record { at = at; name = x; denotes = denotes.Denoter c } ∷ []))
    (refined : (at : ℕ) (x : List ℕ) → P (record { at = at; name = x; denotes = denotes.Refinement } ∷ []))
    (called : (at : ℕ) (x : List ℕ) → P (record { at = at; name = x; denotes = denotes.Procedure } ∷ [])) where
  node_held : (n : Node) → P (d.declared ts n)
  node_held (item h of n) = one n.at n.text h of
  node_held (let_name n c) = given n.at n.text (d.denoter c)
  node_held (alone n) = nothing
  node_held (other n) = nothing
  node_held (sign o) = nothing
  node_held (of_type of) = nothing
  node_held (content of) = nothing
  node_held (abbreviation n of) = nothing
  node_held (new_type at n of) = nothing

  nodes_held : (ns : List Node) → P (flat_map (d.declared ts) ns)
  nodes_held [] = nothing
  nodes_held (n ∷ ns) = append (d.declared ts n) (flat_map (d.declared ts) ns) (node_held n) (nodes_held ns)

  refinements_held : (rs : List Refinement) → P (b.refinement_names ts rs)
  refinements_held [] = nothing
  refinements_held (r ∷ rs) =
      let e : Entry = record { at = r.name.at; name = r.name.text; denotes = denotes.Refinement } in
      append (e ∷ d.in_units ts r.units) (b.refinement_names ts rs)
      (append (e ∷ []) (d.in_units ts r.units) (refined r.name.at r.name.text) (nodes_held (nodes.in_units r.units))) (refinements_held rs)

  unit_held : (u : LevelUnit) → P (b.unit_names ts u)
  unit_held (level.Plain u) = nodes_held (nodes.in_unit u)
  unit_held (level.NewType at n of) = nothing
  unit_held (level.Proc at r n [] v) = called n.at n.text
  unit_held (level.Proc at r n (f ∷ fs) v) = nothing
  unit_held (level.Op at r n fs v) = nothing

  units_held : (us : List LevelUnit) → P (flat_map (b.unit_names ts) us)
  units_held [] = nothing
  units_held (u ∷ us) = append (b.unit_names ts u) (flat_map (b.unit_names ts) us) (unit_held u) (units_held us)

  level_held : (w : Level) → P (b.names_in ts w)
  level_held w = append (flat_map (b.unit_names ts) w.units) (b.refinement_names ts w.refinements) (units_held w.units) (refinements_held w.refinements)

  own_held : (v : Body) → P (b.own_names ts v)
  own_held v = append (d.in_units ts v.units) (b.refinement_names ts v.refinements) (nodes_held (nodes.in_units v.units)) (refinements_held v.refinements)

-- ---- values

abbrev HoldConst : List Entry → Type 0
HoldConst es = AllConst (all_held es)

const_append : (ps qs : List Parameter) → AllConst ps → AllConst qs → AllConst (ps ++ qs)
const_append [] qs h k = k
const_append (p ∷ ps) qs h k = (h.0, const_append ps qs h.1 k)

both_const : (es gs : List Entry) → HoldConst es → HoldConst gs → HoldConst (es ++ gs)
both_const es gs h k = subst AllConst (sym (held_append es gs)) (const_append (all_held es) (all_held gs) h k)

one_const : (ts : List TypeName) (at : ℕ) (x : List ℕ) (h : Held) (of : TypePhrase)
    → HoldConst (record { at = at; name = x; denotes = d.held_as ts h of } ∷ [])
one_const ts at x Variable of = (refl, tt)
one_const ts at x Constant of = (refl, tt)
one_const ts at x Bound of = (refl, tt)

pub level_const : (ts : List TypeName) (w : Level) → AllConst (all_held (b.names_in ts w))
level_const ts w = level_held HoldConst tt both_const ts (one_const ts) (λ at x c. tt) (λ at x. tt) (λ at x. tt) w

-- ---- types of which each part has a cell

sized_append : (es gs : List Entry) → AllSized es → AllSized gs → AllSized (es ++ gs)
sized_append [] gs h k = k
sized_append (e ∷ es) gs h k = (h.0, sized_append es gs h.1 k)

one_sized : (ts : List TypeName) → SizedNames ts → (at : ℕ) (x : List ℕ) (h : Held) (of : TypePhrase)
    → AllSized (record { at = at; name = x; denotes = d.held_as ts h of } ∷ [])
one_sized ts z at x Variable of = ((type_sized ts z of false).0, tt)
one_sized ts z at x Constant of = ((type_sized ts z of false).0, tt)
one_sized ts z at x Bound of = (type_sized ts z of true, tt)

pub level_sized : (ts : List TypeName) → SizedNames ts → (w : Level) → AllSized (b.names_in ts w)
level_sized ts z w = level_held AllSized tt sized_append ts (one_sized ts z) (λ at x c. (tt, tt)) (λ at x. (tt, tt)) (λ at x. (tt, tt)) w

named_sized : (ns : List Name) (q : Parameter) → is_sized_type q.of ≡ true → AllSized (b.named_as ns (denotes.Parameter q))
named_sized [] q z = tt
named_sized (n ∷ ns) q z = (z, named_sized ns q z)

parameters_sized : (ts : List TypeName) → SizedNames ts → (fs : List Formal) → AllSized (b.parameter_names ts fs)
parameters_sized ts z [] = tt
parameters_sized ts z (f ∷ fs) =
    let own = b.named_as f.names (denotes.Parameter (b.parameter ts f)) in
    sized_append own (b.parameter_names ts fs) (named_sized f.names (b.parameter ts f) (type_sized ts z f.of false).0) (parameters_sized ts z fs)

-- what bodies hold, where these types are declared around
abbrev pub BodiesSized : List TypeName → Type 0
BodiesSized ts = (fs : List Formal) (v : Body) → AllSized (b.body_names ts fs v)

pub bodies_sized : (ts : List TypeName) → SizedNames ts → BodiesSized ts
bodies_sized ts z fs v =
    let here = body_types ts fs v ++ ts in
    let inside = seen_sized 0 ts (body_definitions fs v) z in
    sized_append (b.parameter_names ts fs) (b.own_names here v) (parameters_sized ts z fs)
    (own_held AllSized tt sized_append here (one_sized here inside) (λ at x c. (tt, tt)) (λ at x. (tt, tt)) (λ at x. (tt, tt)) v)
