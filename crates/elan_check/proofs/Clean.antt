-- Where no type breaks a rule, no name and no heading has a type without meaning.
use Rattle.std.proofs.Common.{◌≡◌, ℕ, zero, suc, Bool, true, false, ◌||◌, List, [], ◌∷◌, ◌++◌, Option, Some, None, refl, subst}
use Rattle.std.specs.Prelude.{flat_map, map, slice_get}
use Rattle.elan_types.specs.declared.elan_type.Parameter.{Parameter}
use Rattle.elan_types.specs.declared.elan_type.ElanType.TheVariants.{Dataspace}
use Rattle.elan_types.specs.Types.{is_open}
use Rattle.elan_types.proofs.Types.{dataspace_closed}
use Rattle.elan_tree.specs.declared.written_type.Name.{Name}
use Rattle.elan_tree.specs.declared.written_type.Constant.TheVariants as constants
use Rattle.elan_tree.specs.declared.written_type.Formal.{Formal}
use Rattle.elan_tree.specs.declared.written_type.TypePhrase.{TypePhrase}
use Rattle.elan_tree.specs.declared.tree.Body.{Body}
use Rattle.elan_tree.specs.declared.tree.Refinement.{Refinement}
use Rattle.elan_tree.specs.declared.tree.Level.{Level}
use Rattle.elan_tree.specs.declared.tree.LevelUnit.{LevelUnit}
use Rattle.elan_tree.specs.declared.tree.LevelUnit.TheVariants as level
use Rattle.elan_walk.specs.declared.node.Held.TheVariants.{Variable, Constant, Bound}
use Rattle.elan_walk.specs.Nodes as nodes
use Rattle.elan_walk.specs.Nodes.{Node, alone, other, sign, of_type, item, let_name, abbreviation, new_type, content}
use Rattle.elan_names.specs.declared.entry.Denotes.{Denotes}
use Rattle.elan_names.specs.declared.entry.Denotes.TheVariants as denotes
use Rattle.elan_names.specs.declared.entry.Entry.{Entry}
use Rattle.elan_names.specs.declared.type_name.TypeName.{TypeName}
use Rattle.elan_scope.specs.Ruled.{Fault}
use Rattle.elan_scope.specs.Scope.{held, all_held, has_open, is_open_result}
use Rattle.elan_check.specs.Below.value_rules.specs.Calls.{holds_open}
use Rattle.elan_walk.specs.declared.definition.Definition.{Definition}
use Rattle.elan_walk.specs.Definitions as definitions
use Rattle.type_names.specs.Types as names
use Rattle.type_names.specs.Types.{meant, look, type_in, defined_by, first_from, names_of, body_definitions, parameter_definitions, refinement_definitions, in_refinements}
use Rattle.type_names.specs.Types.{unit_definitions, level_definitions, level_types, body_types}
use Rattle.type_names.specs.Faults.{Here, here, node_faults, nodes_faults, named_faults, or_named, written_faults, unit_faults, routine_faults, level_faults}
use Rattle.type_names.proofs.Sound.{Mean, Sound, written_means, names_mean, seen_mean}
use Rattle.type_names.specs.Declarations as d
use Rattle.type_names.specs.Bodies as b

-- ---- lists

pub none_both : {A : Type 0} (xs ys : List A) → xs ++ ys ≡ [] → (xs ≡ []) × (ys ≡ [])
none_both [] ys e = (refl, e)
none_both (x ∷ xs) ys e = absurd cc

neither : (p q : Bool) → (p || q) ≡ false → (p ≡ false) × (q ≡ false)
neither true q e = absurd cc
neither false q e = (refl, e)

or_false : (p q : Bool) → p ≡ false → q ≡ false → (p || q) ≡ false
or_false p q h k = cc

-- ---- nodes that break no rule of types

module _ (h : Here) where
  abbrev pub Clean : List Node → Type 0
  Clean [] = Unit {0}
  Clean (n ∷ ns) = (node_faults h n ≡ []) × Clean ns

  pub clean_of : (ns : List Node) → nodes_faults h ns ≡ [] → Clean ns
  clean_of [] e = tt
  clean_of (n ∷ ns) e = let p = none_both (node_faults h n) (nodes_faults h ns) e in (p.0, clean_of ns p.1)

  pub clean_both : (ms ns : List Node) → Clean (ms ++ ns) → Clean ms × Clean ns
  clean_both [] ns c = (tt, c)
  clean_both (m ∷ ms) ns c = let r = clean_both ms ns c.1 in ((c.0, r.0), r.1)

  -- ---- types

  phrase_means : Mean h.seen → (of : TypePhrase) (inside : Bool) → written_faults h of inside ≡ [] → is_open (meant (look h.seen) of inside) ≡ false
  phrase_means m of inside e = written_means h m of inside e

  -- ---- definitions

  abbrev pub AllSound : List Definition → Type 0
  AllSound [] = Unit {0}
  AllSound (e ∷ ds) = Sound h e × AllSound ds

  sound_append : (ds es : List Definition) → AllSound ds → AllSound es → AllSound (ds ++ es)
  sound_append [] es s t = t
  sound_append (e ∷ ds) es s t = (s.0, sound_append ds es s.1 t)

  sound_at : (ds : List Definition) (i : ℕ) (e : Definition) → AllSound ds → slice_get ds i ≡ Some e → Sound h e
  sound_at [] i e s g = absurd cc
  sound_at (a ∷ ds) zero e s g = let q : a ≡ e = cc in subst (λ (z : Definition). Sound h z) q s.0
  sound_at (a ∷ ds) (suc i) e s g = sound_at ds i e s.1 g

  or_none : (fs gs : List Fault) → or_named h fs gs ≡ [] → (fs ≡ []) × (gs ≡ [])
  or_none [] gs e = (refl, e)
  or_none (f ∷ fs) gs e = absurd cc

  node_sound : (n : Node) → node_faults h n ≡ [] → AllSound (defined_by n)
  node_sound (abbreviation n of) e =
      let p = or_none (written_faults h of true) (named_faults h n.at of (first_from 0 h.definitions n.text)) e in ((p.1, p.0), tt)
  node_sound (new_type at n of) e =
      let p = or_none (written_faults h of true) (named_faults h at of (first_from 0 h.definitions n.text)) e in ((p.1, p.0), tt)
  node_sound (let_name n (constants.Number at k)) e = (tt, tt)
  node_sound (let_name n (constants.Text at x)) e = (tt, tt)
  node_sound (let_name n (constants.Truth at c)) e = (tt, tt)
  node_sound (item k of n) e = (tt, tt)
  node_sound (alone n) e = tt
  node_sound (other n) e = tt
  node_sound (sign o) e = tt
  node_sound (of_type of) e = tt
  node_sound (content of) e = tt

  nodes_sound : (ns : List Node) → Clean ns → AllSound (flat_map defined_by ns)
  nodes_sound [] c = tt
  nodes_sound (n ∷ ns) c = sound_append (defined_by n) (flat_map defined_by ns) (node_sound n c.0) (nodes_sound ns c.1)

  -- The names of parameters, PROCs and refinements denote no types.
  named_sound : (ns : List Name) → AllSound (flat_map definitions.other ns)
  named_sound [] = tt
  named_sound (n ∷ ns) = (tt, named_sound ns)

  parameters_sound : (fs : List Formal) → AllSound (parameter_definitions fs)
  parameters_sound [] = tt
  parameters_sound (f ∷ fs) = sound_append (flat_map definitions.other f.names) (parameter_definitions fs) (named_sound f.names) (parameters_sound fs)

  refinements_sound : (rs : List Refinement) → Clean (nodes.refinements rs) → AllSound (refinement_definitions rs)
  refinements_sound [] c = tt
  refinements_sound (r ∷ rs) c =
      let p = clean_both (nodes.in_units r.units) (nodes.refinements rs) c.1 in
      (tt, sound_append (names.in_units r.units) (refinement_definitions rs) (nodes_sound (nodes.in_units r.units) p.0) (refinements_sound rs p.1))

  inside_sound : (rs : List Refinement) → Clean (nodes.refinements rs) → AllSound (in_refinements rs)
  inside_sound [] c = tt
  inside_sound (r ∷ rs) c =
      let p = clean_both (nodes.in_units r.units) (nodes.refinements rs) c.1 in
      sound_append (names.in_units r.units) (in_refinements rs) (nodes_sound (nodes.in_units r.units) p.0) (inside_sound rs p.1)

-- ---- names whose types have meaning

abbrev pub Closed : List Entry → Type 0
Closed [] = Unit {0}
Closed (e ∷ es) = (holds_open e.denotes ≡ false) × Closed es

closed_append : (es gs : List Entry) → Closed es → Closed gs → Closed (es ++ gs)
closed_append [] gs c k = k
closed_append (e ∷ es) gs c k = (c.0, closed_append es gs c.1 k)

open_append : (ps qs : List Parameter) → has_open ps ≡ false → has_open qs ≡ false → has_open (ps ++ qs) ≡ false
open_append [] qs h k = k
open_append (p ∷ ps) qs h k =
    let n = neither (is_open p.of) (has_open ps) h in or_false (is_open p.of) (has_open (ps ++ qs)) n.0 (open_append ps qs n.1 k)

-- A BOUND variable holds a data space.
one_held : (d : Denotes) → holds_open d ≡ false → has_open (held d) ≡ false
one_held (denotes.Variable t) e = e
one_held (denotes.Constant t) e = e
one_held (denotes.Bound t) e = or_false (is_open Dataspace) false dataspace_closed refl
one_held (denotes.Parameter p) e = e
one_held denotes.Procedure e = e
one_held denotes.Refinement e = e
one_held (denotes.Denoter c) e = e

held_closed : (es : List Entry) → Closed es → has_open (all_held es) ≡ false
held_closed [] c = refl
held_closed (e ∷ es) c = open_append (held e.denotes) (all_held es) (one_held e.denotes c.0) (held_closed es c.1)

module _ (h : Here) (m : Mean h.seen) where
  one_closed : (of : TypePhrase) → written_faults h of false ≡ [] → (is_open (type_in h.seen of) || false) ≡ false
  one_closed of e = or_false (is_open (type_in h.seen of)) false (phrase_means h m of false e) refl

  node_closed : (n : Node) → node_faults h n ≡ [] → Closed (d.declared h.seen n)
  node_closed (item Variable of n) e = (one_closed of e, tt)
  node_closed (item Constant of n) e = (one_closed of e, tt)
  node_closed (item Bound of n) e = (phrase_means h m of true e, tt)
  node_closed (let_name n c) e = (refl, tt)
  node_closed (alone n) e = tt
  node_closed (other n) e = tt
  node_closed (sign o) e = tt
  node_closed (of_type of) e = tt
  node_closed (abbreviation n of) e = tt
  node_closed (new_type at n of) e = tt
  node_closed (content of) e = tt

  nodes_closed : (ns : List Node) → Clean h ns → Closed (flat_map (d.declared h.seen) ns)
  nodes_closed [] c = tt
  nodes_closed (n ∷ ns) c = closed_append (d.declared h.seen n) (flat_map (d.declared h.seen) ns) (node_closed n c.0) (nodes_closed ns c.1)

  refinements_closed : (rs : List Refinement) → Clean h (nodes.refinements rs) → Closed (b.refinement_names h.seen rs)
  refinements_closed [] c = tt
  refinements_closed (r ∷ rs) c =
      let p = clean_both h (nodes.in_units r.units) (nodes.refinements rs) c.1 in
      (refl, closed_append (d.in_units h.seen r.units) (b.refinement_names h.seen rs) (nodes_closed (nodes.in_units r.units) p.0) (refinements_closed rs p.1))

  named_closed : (ns : List Name) (q : Parameter) → is_open q.of ≡ false → Closed (b.named_as ns (denotes.Parameter q))
  named_closed [] q e = tt
  named_closed (n ∷ ns) q e = (or_false (is_open q.of) false e refl, named_closed ns q e)

  formals_closed : (fs : List Formal) → Clean h (nodes.formals fs) → Closed (b.parameter_names h.seen fs)
  formals_closed [] c = tt
  formals_closed (f ∷ fs) c =
      let p = clean_both h (map other f.names) (nodes.formals fs) c.1 in
      closed_append (b.named_as f.names (denotes.Parameter (b.parameter h.seen f))) (b.parameter_names h.seen fs)
      (named_closed f.names (b.parameter h.seen f) (phrase_means h m f.of false c.0)) (formals_closed fs p.1)

  result_closed : (r : Option TypePhrase) → Clean h (nodes.result r) → is_open_result (b.result h.seen r) ≡ false
  result_closed None c = refl
  result_closed (Some of) c = phrase_means h m of false c.0

-- ---- a level

pub mean_none : Mean []
mean_none x t e = absurd cc

procedure_closed : (n : Name) (fs : List Formal) → Closed (b.procedure_name n fs)
procedure_closed n [] = (refl, tt)
procedure_closed n (f ∷ fs) = tt

-- where own types are numbered from this number on, and these are declared around
module _ (first : ℕ) (around : List TypeName) (around_means : Mean around) (w : Level) (faultless : level_faults first around w ≡ []) where
  abbrev ds : List Definition
  ds = level_definitions w

  abbrev pub ts : List TypeName
  ts = level_types first around w

  abbrev rs : List Refinement
  rs = w.refinements

  -- what is known in the level
  abbrev outer : Here
  outer = here first around ds rs

  outer_clean : (ns : List Node) → nodes_faults outer ns ≡ [] → Clean outer ns
  outer_clean ns e = clean_of outer ns e

  abbrev pub RoutineClean : Option TypePhrase → List Formal → Body → Type 0
  RoutineClean r fs v =
      Clean outer (nodes.result r ++ nodes.formals fs)
      × Clean (here 0 ts (body_definitions fs v) []) (nodes.in_units v.units ++ nodes.refinements v.refinements)

  -- a unit of a level breaks no rule of types
  abbrev pub UnitClean : LevelUnit → Type 0
  UnitClean (level.Plain u) = Clean outer (nodes.in_unit u)
  UnitClean (level.NewType at n of) = Clean outer (new_type at n of ∷ [])
  UnitClean (level.Proc at r n fs v) = RoutineClean r fs v
  UnitClean (level.Op at r n fs v) = RoutineClean r fs v

  abbrev pub AllUnits : List LevelUnit → Type 0
  AllUnits [] = Unit {0}
  AllUnits (v ∷ vs) = UnitClean v × AllUnits vs

  routine_clean : (r : Option TypePhrase) (fs : List Formal) (v : Body) → routine_faults first around ds rs r fs v ≡ [] → RoutineClean r fs v
  routine_clean r fs v e =
      let p =
      none_both (nodes_faults (here first around ds rs) (nodes.result r ++ nodes.formals fs))
      (nodes_faults (here 0 ts (body_definitions fs v) []) (nodes.in_units v.units ++ nodes.refinements v.refinements)) e in (
        outer_clean (nodes.result r ++ nodes.formals fs) p.0,
        clean_of (here 0 ts (body_definitions fs v) []) (nodes.in_units v.units ++ nodes.refinements v.refinements) p.1,
      )

  unit_clean : (v : LevelUnit) → unit_faults first around ds rs v ≡ [] → UnitClean v
  unit_clean (level.Plain u) e = outer_clean (nodes.in_unit u) e
  unit_clean (level.NewType at n of) e = outer_clean (new_type at n of ∷ []) e
  unit_clean (level.Proc at r n fs v) e = routine_clean r fs v e
  unit_clean (level.Op at r n fs v) e = routine_clean r fs v e

  units_clean : (vs : List LevelUnit) → flat_map (unit_faults first around ds rs) vs ≡ [] → AllUnits vs
  units_clean [] e = tt
  units_clean (v ∷ vs) e = let p = none_both (unit_faults first around ds rs v) (flat_map (unit_faults first around ds rs) vs) e in (unit_clean v p.0, units_clean vs p.1)

  both_parts : (flat_map (unit_faults first around ds rs) w.units ≡ []) × (nodes_faults (here first around ds rs) (nodes.refinements w.refinements) ≡ [])
  both_parts = none_both (flat_map (unit_faults first around ds rs) w.units) (nodes_faults (here first around ds rs) (nodes.refinements w.refinements)) faultless

  pub all_clean : AllUnits w.units
  all_clean = units_clean w.units both_parts.0

  refinements_clean : Clean outer (nodes.refinements w.refinements)
  refinements_clean = outer_clean (nodes.refinements w.refinements) both_parts.1

  -- ---- its types have meaning

  unit_sound : (v : LevelUnit) → UnitClean v → AllSound outer (unit_definitions v)
  unit_sound (level.Plain u) c = nodes_sound outer (nodes.in_unit u) c
  unit_sound (level.NewType at n of) c = node_sound outer (new_type at n of) c.0
  unit_sound (level.Proc at r n [] v) c = (tt, tt)
  unit_sound (level.Proc at r n (f ∷ fs) v) c = tt
  unit_sound (level.Op at r n fs v) c = tt

  units_sound : (vs : List LevelUnit) → AllUnits vs → AllSound outer (flat_map unit_definitions vs)
  units_sound [] c = tt
  units_sound (v ∷ vs) c = sound_append outer (unit_definitions v) (flat_map unit_definitions vs) (unit_sound v c.0) (units_sound vs c.1)

  level_sound : AllSound outer ds
  level_sound =
      sound_append outer (flat_map unit_definitions w.units) (in_refinements rs) (units_sound w.units all_clean) (inside_sound outer rs refinements_clean)

  sound_here : (i : ℕ) (e : Definition) → slice_get ds i ≡ Some e → Sound (here first around ds rs) e
  sound_here i e g = sound_at outer ds i e level_sound g

  pub own_mean : Mean (names_of first around ds)
  own_mean = names_mean first around ds rs around_means sound_here

  pub level_means : Mean ts
  level_means = seen_mean first around ds rs around_means sound_here

  -- ---- its names have types with meaning

  unit_closed : (v : LevelUnit) → UnitClean v → Closed (b.unit_names ts v)
  unit_closed (level.Plain u) c = nodes_closed outer level_means (nodes.in_unit u) c
  unit_closed (level.NewType at n of) c = tt
  unit_closed (level.Proc at r n fs v) c = procedure_closed n fs
  unit_closed (level.Op at r n fs v) c = tt

  units_closed : (vs : List LevelUnit) → AllUnits vs → Closed (flat_map (b.unit_names ts) vs)
  units_closed [] c = tt
  units_closed (v ∷ vs) c = closed_append (b.unit_names ts v) (flat_map (b.unit_names ts) vs) (unit_closed v c.0) (units_closed vs c.1)

  pub level_closed : Closed (b.names_in ts w)
  level_closed =
      closed_append (flat_map (b.unit_names ts) w.units) (b.refinement_names ts w.refinements) (units_closed w.units all_clean)
      (refinements_closed outer level_means w.refinements refinements_clean)

  -- ---- PROCs and OPs

  module _ (r : Option TypePhrase) (fs : List Formal) (v : Body) (c : RoutineClean r fs v) where
    abbrev inner : Here
    inner = here 0 ts (body_definitions fs v) []

    heading_clean : Clean outer (nodes.result r) × Clean outer (nodes.formals fs)
    heading_clean = clean_both outer (nodes.result r) (nodes.formals fs) c.0

    body_clean : Clean inner (nodes.in_units v.units) × Clean inner (nodes.refinements v.refinements)
    body_clean = clean_both inner (nodes.in_units v.units) (nodes.refinements v.refinements) c.1

    body_sound : AllSound inner (body_definitions fs v)
    body_sound =
        sound_append inner (parameter_definitions fs ++ names.in_units v.units) (refinement_definitions v.refinements)
        (sound_append inner (parameter_definitions fs) (names.in_units v.units) (parameters_sound inner fs) (nodes_sound inner (nodes.in_units v.units) body_clean.0))
        (refinements_sound inner v.refinements body_clean.1)

    sound_inside : (i : ℕ) (e : Definition) → slice_get (body_definitions fs v) i ≡ Some e → Sound inner e
    sound_inside i e g = sound_at inner (body_definitions fs v) i e body_sound g

    pub body_means : Mean (body_types ts fs v)
    body_means = names_mean 0 ts (body_definitions fs v) [] level_means sound_inside

    inner_means : Mean inner.seen
    inner_means = seen_mean 0 ts (body_definitions fs v) [] level_means sound_inside

    pub parameters_closed : has_open (b.parameters ts fs) ≡ false
    parameters_closed = held_closed (b.parameter_names ts fs) (formals_closed outer level_means fs heading_clean.1)

    pub delivers_closed : is_open_result (b.result ts r) ≡ false
    delivers_closed = result_closed outer level_means r heading_clean.0

    pub body_closed : Closed (b.body_names ts fs v)
    body_closed =
        closed_append (b.parameter_names ts fs) (b.own_names (body_types ts fs v ++ ts) v) (formals_closed outer level_means fs heading_clean.1)
        (closed_append (d.in_units inner.seen v.units) (b.refinement_names inner.seen v.refinements)
        (nodes_closed inner inner_means (nodes.in_units v.units) body_clean.0) (refinements_closed inner inner_means v.refinements body_clean.1))
