-- The faults of types stand in text order.
use Rattle.std.proofs.Common.{◌≡◌, ℕ, ℤ, Bool, true, false, ◌&&◌, not, if◌then◌else◌, List, [], ◌∷◌, ◌++◌, Option, Some, None, refl, sym, ap, subst, ◌∙◌}
use Rattle.std.proofs.Common.{append_assoc}
use Rattle.std.specs.Prelude.{map, flat_map}
use Rattle.std.specs.List.{list_any}
use Rattle.std.specs.Str.{bytes_eq}
use Rattle.std.specs.Option.{is_some}
use Rattle.elan_types.specs.declared.elan_type.ElanType.{ElanType}
use Rattle.elan_types.specs.declared.elan_type.ElanType.TheVariants as elan
use Rattle.elan_types.specs.declared.elan_type.FieldType.{FieldType}
use Rattle.elan_types.specs.Types.{is_open, is_too_large}
use Rattle.elan_types.specs.declared.why.Why.TheVariants.{Unknown, Doubled, WrongType, WrongPlace, TooLarge}
use Rattle.elan_tree.specs.declared.written_type.Name.{Name}
use Rattle.elan_tree.specs.declared.written_type.TypePhrase.{TypePhrase}
use Rattle.elan_tree.specs.declared.written_type.TypePhrase.TheOpen as type
use Rattle.elan_tree.specs.declared.written_type.TypePhrase.TheOpen.{TypePhrase-F, Field-F}
use Rattle.elan_tree.specs.declared.written_type.TypePhrase.TheFolds.{ind-TypePhrase, map-TypePhrase, map-Field, fold-roll-TypePhrase, fold-roll-Field}
use Rattle.elan_tree.specs.declared.written_type.Field.{Field, roll-Field}
use Rattle.elan_tree.specs.declared.written_type.Size.{Size}
use Rattle.elan_tree.specs.declared.written_type.Size.TheVariants as sizes
use Rattle.elan_tree.specs.declared.written_type.Formal.{Formal}
use Rattle.elan_tree.specs.declared.tree.Body.{Body}
use Rattle.elan_tree.specs.declared.tree.Refinement.{Refinement}
use Rattle.elan_tree.specs.declared.tree.Level.{Level}
use Rattle.elan_tree.specs.declared.tree.LevelUnit.{LevelUnit}
use Rattle.elan_tree.specs.declared.tree.LevelUnit.TheVariants as level
use Rattle.elan_tree.specs.declared.tree.Tree.{Tree}
use Rattle.elan_tree.specs.declared.tree.Tree.TheVariants as tree
use Rattle.elan_laws.specs.Below.elan_walk.specs.Nodes as nodes
use Rattle.elan_laws.specs.Below.elan_walk.specs.Nodes.{Node, alone, other, sign, of_type, item, let_name, abbreviation, new_type, content}
use Rattle.elan_laws.specs.Below.elan_names.specs.declared.type_name.TypeName.{TypeName}
use Rattle.elan_laws.specs.Below.elan_names.specs.declared.type_name.Named.{Named}
use Rattle.elan_laws.specs.Below.elan_names.specs.declared.type_name.Named.TheVariants as named
use Rattle.elan_laws.specs.Below.elan_scope.specs.declared.env.Env.{Env}
use Rattle.elan_laws.specs.Below.elan_scope.specs.Ruled.{Fault}
use Rattle.elan_laws.specs.Below.elan_scope.specs.Shown.{shown_types}
use Rattle.elan_laws.specs.Below.elan_walk.specs.declared.definition.Definition.{Definition}
use Rattle.elan_laws.specs.Below.type_names.specs.Types.{first_from, names_of, body_definitions, level_definitions, look, size_in, size_of, is_broken}
use Rattle.elan_laws.specs.Below.type_names.specs.Faults as faults
use Rattle.elan_laws.specs.Below.type_names.specs.Faults.{Here, here, Judged, JudgedFields}
use Rattle.elan_check.specs.Text.{faults as text_faults}
use Rattle.elan_laws.specs.Places as at
use Rattle.elan_laws.specs.Places.{type_places}
use Rattle.elan_laws.specs.Order.{Follows, ends}
use Rattle.elan_laws.proofs.Through.{behind, beside, before, later, all_of_it}

-- ---- the places of faults

abbrev pub told_at : List Fault → List ℕ
told_at fs = map (λ (f : Fault). f.0) fs

told_append : (fs gs : List Fault) → told_at (fs ++ gs) ≡ told_at fs ++ told_at gs
told_append [] gs = refl
told_append (f ∷ fs) gs = ap (λ (ns : List ℕ). f.0 ∷ ns) (told_append fs gs)

two_lists : (fs gs : List Fault) {ns ms : List ℕ} → Follows (told_at fs) ns → Follows (told_at gs) ms → Follows (told_at (fs ++ gs)) (ns ++ ms)
two_lists fs gs {ns} {ms} h k = subst (λ (l : List ℕ). Follows l (ns ++ ms)) (sym (told_append fs gs)) (beside h k)

-- a fault that may be told
may_tell : (a : ℕ) (b : Bool) (g : Fault) → g.0 ≡ a → Follows (told_at (if b then g ∷ [] else [])) (a ∷ [])
may_tell a true g e = subst (λ (n : ℕ). Follows (g.0 ∷ []) (n ∷ [])) e (all_of_it (g.0 ∷ []))
may_tell a false g e = ends (a ∷ [])

may_not_tell : (a : ℕ) (b : Bool) (g : Fault) → g.0 ≡ a → Follows (told_at (if b then [] else g ∷ [])) (a ∷ [])
may_not_tell a true g e = ends (a ∷ [])
may_not_tell a false g e = may_tell a true g e

one_of_two : (a : ℕ) (b : Bool) (f g : Fault) → f.0 ≡ a → g.0 ≡ a → Follows (told_at (if b then f ∷ [] else g ∷ [])) (a ∷ [])
one_of_two a true f g e i = may_tell a true f e
one_of_two a false f g e i = may_tell a true g i

-- ---- nodes

abbrev types_in : List Node → List ℕ
types_in ns = flat_map at.node_types ns

types_append : (xs ys : List Node) → types_in (xs ++ ys) ≡ types_in xs ++ types_in ys
types_append [] ys = refl
types_append (x ∷ xs) ys =
    ap (λ (ns : List ℕ). at.node_types x ++ ns) (types_append xs ys) ∙ sym (append_assoc (at.node_types x) (types_in xs) (types_in ys))

-- where these names can be seen, and these are the refinements of the level
module _ (seen : List TypeName) (rs : List Refinement) where
  abbrev WrittenFollows : TypePhrase → Type 0
  WrittenFollows of = (inside : Bool) → Follows (told_at (faults.judged seen rs of inside).faults) (at.type_phrase of)

  -- the faults of the type of fields, and behind them those of their names, where these stand before
  abbrev FieldFollows : Field → Type 0
  FieldFollows f = (earlier : List (List ℕ))
      → Follows (told_at ((faults.judged_fields seen rs f).faults ++ faults.doubled_names earlier (faults.judged_fields seen rs f).names)) (at.field f)

  abbrev WrittenOne : Type 0
  WrittenOne = (of : TypePhrase) × WrittenFollows of

  abbrev FieldOne : Type 0
  FieldOne = (f : Field) × FieldFollows f

  name_follows : (n : Name) (o : Option Named) → Follows (told_at (faults.name_faults seen rs n o)) (n.at ∷ [])
  name_follows n None = all_of_it (n.at ∷ [])
  name_follows n (Some (named.Of t)) = ends (n.at ∷ [])
  name_follows n (Some (named.Size k)) = all_of_it (n.at ∷ [])
  name_follows n (Some named.Other) = all_of_it (n.at ∷ [])

  range_follows : (a : ℕ) (n : ℤ) → Follows (told_at (faults.size_range a n)) (a ∷ [])
  range_follows a n = may_not_tell a (is_some (size_in n)) (a, TooLarge) refl

  size_follows : (size : Size) → Follows (told_at (faults.size_faults seen rs size)) (at.size_place size ∷ [])
  size_follows (sizes.Number a n) = range_follows a n
  size_follows (sizes.Named n) = by_name (look seen n.text)
    where
      by_name : (o : Option Named) → Follows (told_at (faults.size_named_fault seen rs n o)) (n.at ∷ [])
      by_name None = one_of_two n.at (faults.is_known seen rs n.text) (n.at, WrongType) (n.at, Unknown) refl refl
      by_name (Some (named.Of t)) = all_of_it (n.at ∷ [])
      by_name (Some (named.Size k)) = range_follows n.at k
      by_name (Some named.Other) = all_of_it (n.at ∷ [])

  large_follows : (a : ℕ) (sound : Bool) (t : ElanType) → Follows (told_at (faults.large_fault a sound t)) (a ∷ [])
  large_follows a sound t = may_tell a (sound && is_too_large t) (a, TooLarge) refl

  row_fault_follows : (a : ℕ) (o : Option ℕ) (t : ElanType) → Follows (told_at (faults.row_fault a o t)) (a ∷ [])
  row_fault_follows a None t = ends (a ∷ [])
  row_fault_follows a (Some n) t = large_follows a (not (is_open t)) (elan.Row n t)

  structure_follows : (a : ℕ) (fs : List FieldType) → Follows (told_at (faults.structure_fault a fs)) (a ∷ [])
  structure_follows a [] = all_of_it (a ∷ [])
  structure_follows a (f ∷ fs) = large_follows a (not (is_broken (f ∷ fs))) (elan.Struct (f ∷ fs))

  doubled_follow : (earlier : List (List ℕ)) (ns : List Name) → Follows (told_at (faults.doubled_names earlier ns)) (at.names ns)
  doubled_follow earlier [] = ends []
  doubled_follow earlier (n ∷ ns) =
      two_lists (faults.doubled_name earlier n) (faults.doubled_names (earlier ++ n.text ∷ []) ns)
      (may_tell n.at (list_any (λ x. bytes_eq x n.text) earlier) (n.at, Doubled) refl) (doubled_follow (earlier ++ n.text ∷ []) ns)

  fields_follow : (earlier : List (List ℕ)) (fs : List FieldOne)
      → Follows (told_at (faults.fields_faults earlier (map (faults.judged_fields seen rs) (map (λ e. e.0) fs)))) (at.all (map at.field (map (λ e. e.0) fs)))
  fields_follow earlier [] = ends []
  fields_follow earlier (f ∷ fs) =
      let j = faults.judged_fields seen rs f.0 in
      let further = earlier ++ map (λ (n : Name). n.text) j.names in
      two_lists (j.faults ++ faults.doubled_names earlier j.names) (faults.fields_faults further (map (faults.judged_fields seen rs) (map (λ e. e.0) fs)))
      (f.1 earlier) (fields_follow further fs)

  written_here : (y : TypePhrase-F WrittenOne FieldOne) (inside : Bool)
      → Follows (told_at (faults.judged_step seen rs
      (map-TypePhrase _ _ _ _ (faults.judged seen rs) (faults.judged_fields seen rs) (map-TypePhrase _ _ _ _ (λ e. e.0) (λ e. e.0) y)) inside).faults)
      (at.written_step (map-TypePhrase _ _ _ _ at.type_phrase at.field (map-TypePhrase _ _ _ _ (λ e. e.0) (λ e. e.0) y)))
  written_here (type.Int a) inside = ends []
  written_here (type.Bool a) inside = ends []
  written_here (type.Text a) inside = ends []
  written_here (type.Task a) inside = ends []
  written_here (type.Dataspace a) true = all_of_it (a ∷ [])
  written_here (type.Dataspace a) false = ends (a ∷ [])
  written_here (type.Named n) inside = name_follows n (look seen n.text)
  written_here (type.Row a size of) inside =
      let o = size_of (look seen) size in
      let j = faults.judged seen rs of.0 true in
      two_lists (faults.row_fault a o j.of ++ faults.size_faults seen rs size) j.faults
      (two_lists (faults.row_fault a o j.of) (faults.size_faults seen rs size) (row_fault_follows a o j.of) (size_follows size)) (of.1 true)
  written_here (type.Struct a fields) inside =
      let js = map (faults.judged_fields seen rs) (map (λ e. e.0) fields) in
      let fs = flat_map (λ (f : JudgedFields). f.fields) js in
      two_lists (faults.structure_fault a fs) (faults.fields_faults [] js) (structure_follows a fs) (fields_follow [] fields)

  field_here : (y : Field-F WrittenOne FieldOne) (earlier : List (List ℕ))
      → Follows (told_at ((faults.judged seen rs y.of.0 true).faults ++ faults.doubled_names earlier y.names)) (at.type_phrase y.of.0 ++ at.names y.names)
  field_here y earlier =
      two_lists (faults.judged seen rs y.of.0 true).faults (faults.doubled_names earlier y.names) (y.of.1 true) (doubled_follow earlier y.names)

  field_follows : (y : Field-F WrittenOne FieldOne) → FieldFollows (roll-Field (map-Field _ _ _ _ (λ e. e.0) (λ e. e.0) y))
  field_follows y earlier =
      let z = map-Field _ _ _ _ (λ e. e.0) (λ e. e.0) y in
      let judged_so = fold-roll-Field (Bool → Judged) JudgedFields (faults.judged_step seen rs) (faults.judged_fields_step seen rs) z in
      let placed_so = fold-roll-Field (List ℕ) (List ℕ) at.written_step at.field_step z in
      let j = faults.judged_fields seen rs (roll-Field z) in
      subst (Follows (told_at (j.faults ++ faults.doubled_names earlier j.names))) (sym placed_so)
      (subst (λ (j : JudgedFields). Follows (told_at (j.faults ++ faults.doubled_names earlier j.names)) (at.type_phrase y.of.0 ++ at.names y.names))
      (sym judged_so) (field_here y earlier))

  written_follows : (of : TypePhrase) → WrittenFollows of
  written_follows =
      ind-TypePhrase WrittenFollows FieldFollows
      (λ x y is. rw (← is) (rw (fold-roll-TypePhrase (Bool → Judged) JudgedFields, fold-roll-TypePhrase (List ℕ) (List ℕ)) (written_here y)))
      (λ x y is. rw (← is) (field_follows y))

module _ (h : Here) where
  named_follows : (a : ℕ) (of : TypePhrase) (o : Option (ℕ × Definition)) → Follows (told_at (faults.named_faults h a of o)) (a ∷ [])
  named_follows a of None = ends (a ∷ [])
  named_follows a of (Some d) = may_tell a (faults.contains_itself h a of d) (a, WrongPlace) refl

  or_follows : (a : ℕ) (fs gs : List Fault) (ns : List ℕ) → Follows (told_at fs) ns → Follows (told_at gs) (a ∷ [])
      → Follows (told_at (faults.or_named h fs gs)) (a ∷ ns)
  or_follows a [] gs ns h k = before ns k
  or_follows a (f ∷ fs) gs ns h k = later a h

  type_follows : (of : TypePhrase) (inside : Bool) → Follows (told_at (faults.written_faults h of inside)) (at.type_phrase of)
  type_follows of inside = written_follows h.seen h.refinements of inside

  definition_follows : (a : ℕ) (n : Name) (of : TypePhrase) → Follows (told_at (faults.definition_faults h a n of)) (a ∷ at.type_phrase of)
  definition_follows a n of =
      let o = first_from 0 h.definitions n.text in
      or_follows a (faults.written_faults h of true) (faults.named_faults h a of o) (at.type_phrase of) (type_follows of true) (named_follows a of o)

  node_follows : (n : Node) → Follows (told_at (faults.node_faults h n)) (at.node_types n)
  node_follows (of_type of) = type_follows of false
  node_follows (content of) = type_follows of true
  node_follows (item held of n) = type_follows of (faults.is_inside held)
  node_follows (abbreviation n of) = definition_follows n.at n of
  node_follows (new_type a n of) = definition_follows a n of
  node_follows (alone n) = ends []
  node_follows (other n) = ends []
  node_follows (sign o) = ends []
  node_follows (let_name n c) = ends []

  nodes_follow : (ns : List Node) → Follows (told_at (faults.nodes_faults h ns)) (types_in ns)
  nodes_follow [] = ends []
  nodes_follow (n ∷ ns) = two_lists (faults.node_faults h n) (faults.nodes_faults h ns) (node_follows n) (nodes_follow ns)

-- ---- PROCs and OPs

grouped : (a b c d : List ℕ) → (a ++ b) ++ (c ++ d) ≡ a ++ ((b ++ c) ++ d)
grouped a b c d = append_assoc a b (c ++ d) ∙ sym (ap (λ (l : List ℕ). a ++ l) (append_assoc b c d))

-- where own types are numbered from this number on, and these names are declared around
module _ (first : ℕ) (around : List TypeName) (ds : List Definition) (rs : List Refinement) (r : Option TypePhrase) (fs : List Formal) (b : Body) where
  abbrev given : List Node
  given = nodes.formals fs

  abbrev units : List Node
  units = nodes.in_units b.units

  abbrev rest : List Node
  rest = nodes.refinements b.refinements

  body_types_are : types_in (nodes.result r) ++ types_in (nodes.body fs b)
      ≡ types_in (nodes.result r) ++ ((types_in given ++ types_in units) ++ types_in rest)
  body_types_are =
      ap (λ (l : List ℕ). types_in (nodes.result r) ++ l)
      (types_append (given ++ units) rest ∙ ap (λ (l : List ℕ). l ++ types_in rest) (types_append given units))

  routine_follows : Follows (told_at (faults.routine_faults first around ds rs r fs b)) (types_in (nodes.result r) ++ types_in (nodes.body fs b))
  routine_follows =
      let heading = here first around ds rs in
      let inside = here 0 (names_of first around ds ++ around) (body_definitions fs b) [] in
      subst (Follows (told_at (faults.routine_faults first around ds rs r fs b)))
      (grouped (types_in (nodes.result r)) (types_in given) (types_in units) (types_in rest) ∙ sym body_types_are)
      (two_lists (faults.nodes_faults heading (nodes.result r ++ given)) (faults.nodes_faults inside (units ++ rest))
      (subst (Follows (told_at (faults.nodes_faults heading (nodes.result r ++ given)))) (types_append (nodes.result r) given)
      (nodes_follow heading (nodes.result r ++ given)))
      (subst (Follows (told_at (faults.nodes_faults inside (units ++ rest)))) (types_append units rest) (nodes_follow inside (units ++ rest))))

-- ---- the level

module _ (first : ℕ) (around : List TypeName) (ds : List Definition) (rs : List Refinement) where
  unit_follows : (u : LevelUnit) → Follows (told_at (faults.unit_faults first around ds rs u)) (types_in (nodes.level_unit u))
  unit_follows (level.Plain u) = nodes_follow (here first around ds rs) (nodes.in_unit u)
  unit_follows (level.NewType a n of) = nodes_follow (here first around ds rs) (new_type a n of ∷ [])
  unit_follows (level.Proc a r n fs b) =
      subst (Follows (told_at (faults.routine_faults first around ds rs r fs b))) (sym (types_append (nodes.result r) (other n ∷ nodes.body fs b)))
      (routine_follows first around ds rs r fs b)
  unit_follows (level.Op a r n fs b) =
      subst (Follows (told_at (faults.routine_faults first around ds rs r fs b))) (sym (types_append (nodes.result r) (sign n.operator ∷ nodes.body fs b)))
      (routine_follows first around ds rs r fs b)

  units_follow : (us : List LevelUnit) → Follows (told_at (flat_map (faults.unit_faults first around ds rs) us)) (types_in (flat_map nodes.level_unit us))
  units_follow [] = ends []
  units_follow (u ∷ us) =
      subst (Follows (told_at (faults.unit_faults first around ds rs u ++ flat_map (faults.unit_faults first around ds rs) us)))
      (sym (types_append (nodes.level_unit u) (flat_map nodes.level_unit us)))
      (two_lists (faults.unit_faults first around ds rs u) (flat_map (faults.unit_faults first around ds rs) us) (unit_follows u) (units_follow us))

level_follows : (first : ℕ) (around : List TypeName) (w : Level) → Follows (told_at (faults.level_faults first around w)) (types_in (nodes.in_level w))
level_follows first around w =
    let ds = level_definitions w in
    let rs = w.refinements in
    let units = flat_map nodes.level_unit w.units in
    let rest = nodes.refinements rs in
    subst (Follows (told_at (faults.level_faults first around w))) (sym (types_append units rest))
    (two_lists (flat_map (faults.unit_faults first around ds rs) w.units) (faults.nodes_faults (here first around ds rs) rest)
    (units_follow first around ds rs w.units) (nodes_follow (here first around ds rs) rest))

-- Where a packet names what it shows, no type is written.
pub faults_follow : (env : Env) (t : Tree) → Follows (told_at (text_faults env t)) (type_places t)
faults_follow env (tree.Program w) = level_follows env.types (shown_types env) w
faults_follow env (tree.Packet a n exports w) =
    let shown = flat_map nodes.export exports in
    subst (Follows (told_at (text_faults env (tree.Packet a n exports w)))) (sym (types_append shown (nodes.in_level w)))
    (behind (types_in shown) (level_follows env.types (shown_types env) w))
