-- All declarations of a text are found.
use Rattle.std.proofs.Common.{◌≡◌, ℕ, suc, ◌+◌, true, ◌&&◌, List, [], ◌∷◌, ◌++◌, Option, Some, None, refl, inl, inr}
use Rattle.std.specs.Prelude.{map, flat_map}
use Rattle.std.specs.Str.{bytes_eq}
use lib.Pointwise.{pointwise}
use Rattle.elan_types.specs.declared.elan_type.ElanType.{ElanType}
use Rattle.elan_types.specs.Types.{same_type}
use Rattle.elan_types.proofs.Types.{same_type_self}
use Rattle.elan_laws.specs.Below.elan_names.specs.declared.type_name.TypeName.{TypeName}
use Rattle.elan_laws.specs.Below.type_names.specs.Types as types
use Rattle.elan_laws.specs.Below.elan_walk.specs.declared.definition.Definition.{Definition}
use Rattle.elan_tree.specs.declared.written_type.Name.{Name}
use Rattle.elan_tree.specs.declared.written_type.TypePhrase.{TypePhrase}
use Rattle.elan_tree.specs.declared.written_type.Formal.{Formal}
use Rattle.elan_tree.specs.declared.tree.Body.{Body}
use Rattle.elan_tree.specs.declared.tree.Refinement.{Refinement}
use Rattle.elan_tree.specs.declared.tree.LevelUnit.{LevelUnit}
use Rattle.elan_tree.specs.declared.tree.LevelUnit.TheVariants as level
use Rattle.elan_tree.specs.declared.tree.Export.{Export}
use Rattle.elan_tree.specs.declared.tree.Level.{Level}
use Rattle.elan_tree.specs.declared.tree.Tree.{Tree}
use Rattle.elan_laws.specs.Below.elan_walk.specs.Nodes as nodes
use Rattle.elan_laws.specs.Below.elan_walk.specs.Nodes.{Node}
use Rattle.elan_laws.specs.Below.elan_walk.specs.Operators.{operator_text}
use Rattle.elan_laws.specs.Below.elan_names.specs.declared.entry.Denotes.{Denotes}
use Rattle.elan_laws.specs.Below.elan_names.specs.declared.entry.Denotes.TheVariants as denotes
use Rattle.elan_laws.specs.Below.elan_names.specs.declared.entry.Entry.{Entry}
use Rattle.elan_laws.specs.Below.elan_scope.specs.declared.env.Env.{Env}
use Rattle.elan_laws.specs.Below.elan_scope.specs.declared.scope.Home.{Home}
use Rattle.elan_laws.specs.Below.elan_scope.specs.declared.scope.Scope.{Scope}
use Rattle.elan_laws.specs.Below.elan_scope.specs.Shown.{shown_types}
use Rattle.elan_laws.specs.Below.elan_names.specs.declared.heading.Sort.{Sort}
use Rattle.elan_laws.specs.Below.elan_names.specs.declared.heading.Sort.TheVariants.{Procedure, Operator}
use Rattle.elan_laws.specs.Below.elan_scope.specs.declared.delivery.Delivery.TheVariants.{Open}
use Rattle.elan_laws.specs.Below.elan_scope.specs.Scope.{is_alike}
use Rattle.elan_laws.specs.Below.elan_scope.specs.Scope.{same_sort, types_of}
use Rattle.elan_laws.specs.Below.elan_scope.specs.Known.{delivered}
use Rattle.elan_laws.specs.Below.elan_scope.specs.Phrase as form
use Rattle.elan_laws.specs.Below.elan_scope.specs.Phrase.{Phrase, leaf, all_of}
use Rattle.elan_laws.specs.Below.type_names.specs.Declarations as d
use Rattle.elan_laws.specs.Below.type_names.specs.Bodies as b
use Rattle.elan_laws.specs.Below.elan_judge.specs.Level as l
use Rattle.elan_laws.specs.Served.{AreServed, AllServed}
use Rattle.elan_laws.proofs.Declared.{NamedType, AllNamed, AllDefined, Fine, unit_alone_found, body_units_found}
use Rattle.elan_laws.proofs.LookUps.{Has, in_first, in_second, Defines, defined_first, defined_second, refined, type_named, type_seen, bytes_self, named, own}
use Rattle.elan_laws.proofs.LookUps.{HasHeading, heading_first, heading_second, heading_is, both_true, SubHeadings, Bodies}
use Rattle.elan_laws.proofs.LookUps.{bodies_of, lead_append, nodes_lead, formals_lead, refinements_lead, units_lead}
use Rattle.elan_laws.specs.Below.type_names.specs.walks.Headings.{all_headings}
use Rattle.elan_laws.specs.Below.elan_judge.specs.walks.Units.{level_units}

abbrev Sub : Scope → List Entry → Type 0
Sub z es = (x : List ℕ) → Has es x → Has (own z) x

abbrev SubTypes : Scope → List Definition → Type 0
SubTypes z ds = (x : List ℕ) → Defines ds x → NamedType z x

all_named : (z : Scope) (es : List Entry) → Sub z es → AllNamed z es
all_named z [] f = tt
all_named z (e ∷ es) f = (named z e.name (f e.name (inl refl)), all_named z es (λ x h. f x (inr h)))

all_defined : (z : Scope) (ds : List Definition) → SubTypes z ds → AllDefined z ds
all_defined z [] f = tt
all_defined z (e ∷ es) f = (f e.name (inl refl), all_defined z es (λ x h. f x (inr h)))

fine : (z : Scope) (ts : List TypeName) (ns : List Node) → Sub z (flat_map (d.declared ts) ns) → SubTypes z (flat_map types.defined_by ns) → Fine z ts ns
fine z ts ns f g = (all_named z (flat_map (d.declared ts) ns) f, all_defined z (flat_map types.defined_by ns) g)

append_found : (ps qs : List Phrase) → AllServed (all_of ps) → AllServed (all_of qs) → AllServed (all_of (ps ++ qs))
append_found [] qs h g = g
append_found (p ∷ ps) qs h g = (h.0, append_found ps qs h.1 g)

-- ---- parameters

names_found : (z : Scope) (ns : List Name) (p : Denotes) → Sub z (b.named_as ns p) → AllServed (all_of (map (l.declares z) ns))
names_found z [] p f = tt
names_found z (n ∷ ns) p f = ((named z n.text (f n.text (inl refl)), tt), names_found z ns p (λ x h. f x (inr h)))

formals_found : (z : Scope) (ts : List TypeName) (fs : List Formal) → Sub z (b.parameter_names ts fs) → AllServed (all_of (l.declare_parameters z fs))
formals_found z ts [] f = tt
formals_found z ts (g ∷ fs) f =
    let p = denotes.Parameter (b.parameter ts g) in
    let own_ones = b.named_as g.names p in
    append_found (map (l.declares z) g.names) (l.declare_parameters z fs)
    (names_found z g.names p (λ x i. f x (in_first own_ones (b.parameter_names ts fs) x i)))
    (formals_found z ts fs (λ x i. f x (in_second own_ones (b.parameter_names ts fs) x i)))

-- ---- refinements

refinements_found : (z : Scope) (ts : List TypeName) (bodies : Bodies z) (k : ℕ) (rs : List Refinement) → Sub z (b.refinement_names ts rs)
    → SubTypes z (types.in_refinements rs) → AllServed (all_of (l.refinements z k rs))
refinements_found z ts bodies k [] f g = tt
refinements_found z ts bodies k (r ∷ rs) f g =
    let us = d.in_units ts r.units in
    let ds = types.in_units r.units in
    let inside =
    fine (l.refinement_scope z k) ts (nodes.in_units r.units) (λ x i. f x (inr (in_first us (b.refinement_names ts rs) x i)))
    (λ x i. g x (defined_first ds (types.in_refinements rs) x i)) in (
      (tt, ((named z r.name.text (f r.name.text (inl refl)), tt), (body_units_found (l.refinement_scope z k) ts bodies Open r.units inside, tt))),
      refinements_found z ts bodies (suc k) rs (λ x i. f x (inr (in_second us (b.refinement_names ts rs) x i)))
          (λ x i. g x (defined_second ds (types.in_refinements rs) x i)),
    )

-- ---- alike headings

sort_self : (sort : Sort) → same_sort sort sort ≡ true
sort_self Procedure = refl
sort_self Operator = refl

types_self : (ts : List ElanType) → pointwise same_type ts ts ≡ true
types_self [] = refl
types_self (t ∷ ts) = both_true (same_type t t) (pointwise same_type ts ts) (same_type_self t) (types_self ts)

-- a heading is alike to itself
alike : (ts : List TypeName) (sort : Sort) (at : ℕ) (x : List ℕ) (fs : List Formal) (r : Option TypePhrase)
    → is_alike sort x (types_of (b.parameters ts fs)) (b.routine_heading ts sort at x fs r) ≡ true
alike ts sort at x fs r =
    let ps = types_of (b.parameters ts fs) in
    both_true (bytes_eq x x) (same_sort sort sort && pointwise same_type ps ps) (bytes_self x)
    (both_true (same_sort sort sort) (pointwise same_type ps ps) (sort_self sort) (types_self ps))

-- ---- PROCs and OPs

module _ (s : Scope) (k : ℕ) (at : ℕ) (x : List ℕ) (r : Option TypePhrase) (fs : List Formal) (w : Body) where
  abbrev inner : Scope
  inner = l.inner s k at x r fs w

  -- the names of types that can be seen in it
  abbrev seen : List TypeName
  seen = types.body_types s.types fs w ++ s.types

  body_defined : SubTypes inner (types.body_definitions fs w)
  body_defined = λ y j. type_named 0 s.types (types.body_definitions fs w) y j

  routine_found : (sort : Sort) (names : List Phrase) → AllServed (all_of names) → HasHeading s.headings (b.routine_heading s.types sort at x fs r)
      → SubHeadings s (b.refinement_headings (Some k) w.refinements) → AreServed (l.routine s k at x r fs w sort names)
  routine_found sort names f i g =
      let given = b.parameter_names s.types fs in
      let units = d.in_units seen w.units in
      let rest = b.refinement_names seen w.refinements in
      let cs = types.parameter_definitions fs in
      let ds = types.in_units w.units in
      let es = types.refinement_definitions w.refinements in
      let ps = types_of (b.parameters s.types fs) in
      let lead =
      lead_append inner given (units ++ rest) (formals_lead s.types inner fs)
      (lead_append inner units rest (nodes_lead seen inner (nodes.in_units w.units)) (refinements_lead seen inner (Some k) w.refinements refl g)) in
      let bodies = bodies_of inner lead in
      let body =
      body_units_found inner seen bodies (delivered (b.result s.types r)) w.units
      (fine inner seen (nodes.in_units w.units) (λ y j. in_second given (units ++ rest) y (in_first units rest y j))
      (λ y j. body_defined y (defined_first (cs ++ ds) es y (defined_second cs ds y j)))) in
      let refined =
      refinements_found inner seen bodies (suc k) w.refinements (λ y j. in_second given (units ++ rest) y (in_second units rest y j))
      (λ y j. body_defined y (defined_second (cs ++ ds) es y (refined w.refinements y j))) in
      let formals = formals_found inner s.types fs (λ y j. in_first given (units ++ rest) y j) in
      let missing = l.is_missing (b.result s.types r) (l.body_units s k at x r fs w) in
      let marked = leaf at (form.heading s sort x (b.parameters s.types fs) (b.result s.types r) missing) in
      let heading =
      heading_is 0 (is_alike sort x ps) s.headings (b.routine_heading s.types sort at x fs r) i (alike s.types sort at x fs r) in (
        tt,
        append_found (l.heading_phrases s k at x r fs w sort names) (l.body_phrases s k at x r fs w)
            (append_found names (marked ∷ l.declare_parameters inner fs) f ((heading, tt), formals)) ((tt, (body, tt)), refined),
      )

procedure_found : (s : Scope) (n : Name) (fs : List Formal) → Sub s (b.procedure_name n fs) → AllServed (all_of (l.procedure_name s n fs))
procedure_found s n [] f = ((named s n.text (f n.text (inl refl)), tt), tt)
procedure_found s n (g ∷ fs) f = tt

-- ---- the level

unit_found : (s : Scope) (bodies : Bodies s) (k : ℕ) (u : LevelUnit) → Sub s (b.unit_names s.types u) → SubTypes s (types.unit_definitions u)
    → SubHeadings s (b.unit_headings s.types k u) → AreServed (l.level_unit s k u)
unit_found s bodies k (level.Plain u) f h g = unit_alone_found s s.types bodies u (fine s s.types (nodes.in_unit u) f h)
unit_found s bodies k (level.Proc at r n fs w) f h g =
    routine_found s k n.at n.text r fs w Procedure (l.procedure_name s n fs) (procedure_found s n fs f)
    (g (b.routine_heading s.types Procedure n.at n.text fs r) (inl refl)) (λ y i. g y (inr i))
unit_found s bodies k (level.Op at r n fs w) f h g =
    routine_found s k n.at (operator_text n.operator) r fs w Operator [] tt
    (g (b.routine_heading s.types Operator n.at (operator_text n.operator) fs r) (inl refl)) (λ y i. g y (inr i))
unit_found s bodies k (level.NewType at n of) f h g = (h n.text (inl refl), tt)

units_found : (s : Scope) (bodies : Bodies s) (k : ℕ) (us : List LevelUnit) → Sub s (flat_map (b.unit_names s.types) us)
    → SubTypes s (flat_map types.unit_definitions us) → SubHeadings s (all_headings s.types k us) → AllServed (all_of (level_units s k us))
units_found s bodies k [] f h g = tt
units_found s bodies k (u ∷ us) f h g =
    let own_ones = b.unit_names s.types u in
    let others = flat_map (b.unit_names s.types) us in
    let ds = types.unit_definitions u in
    let es = flat_map types.unit_definitions us in
    let heads = b.unit_headings s.types k u in
    let rest = all_headings s.types (k + b.bodies_in u) us in (
      unit_found s bodies k u (λ x i. f x (in_first own_ones others x i)) (λ x i. h x (defined_first ds es x i))
          (λ x i. g x (heading_first heads rest x i)),
      units_found s bodies (k + b.bodies_in u) us (λ x i. f x (in_second own_ones others x i)) (λ x i. h x (defined_second ds es x i))
          (λ x i. g x (heading_second heads rest x i)),
    )

-- What a packet shows asks for nothing.
exports_found : (s : Scope) (w : Level) (earlier : List (List ℕ)) (es : List Export) → AllServed (all_of (l.exports s w earlier es))
exports_found s w earlier [] = tt
exports_found s w earlier (e ∷ es) = ((tt, tt), exports_found s w (earlier ++ l.export_name e ∷ []) es)

level_found : (env : Env) (home : Home) (w : Level) → AllServed (all_of (l.level_parts (l.level_scope env home w) w))
level_found env home w =
    let s = l.level_scope env home w in
    let ts = s.types in
    let units = flat_map (b.unit_names ts) w.units in
    let rest = b.refinement_names ts w.refinements in
    let ds = flat_map types.unit_definitions w.units in
    let es = types.in_refinements w.refinements in
    let heads = all_headings ts 0 w.units in
    let others = b.refinement_headings None w.refinements in
    let lead =
    lead_append s units rest (units_lead ts s w.units) (refinements_lead ts s None w.refinements refl (λ g i. heading_second heads others g i)) in
    let bodies = bodies_of s lead in
    let defined : SubTypes s (types.level_definitions w) = λ x i. type_seen env.types (shown_types env) (types.level_definitions w) x i in
    append_found (level_units s 0 w.units) (l.refinements s (b.bodies_of_units w.units) w.refinements)
    (units_found s bodies 0 w.units (λ x i. in_first units rest x i) (λ x i. defined x (defined_first ds es x i)) (λ x i. heading_first heads others x i))
    (refinements_found s ts bodies (b.bodies_of_units w.units) w.refinements (λ x i. in_second units rest x i)
    (λ x i. defined x (defined_second ds es x i)))

pub text_found : (env : Env) (t : Tree) → AreServed (l.text env t)
text_found env t =
    let s = l.text_scope env t in
    let w = l.level_in t in (
      tt,
      append_found (l.exports s w [] (l.exports_in t)) (l.level_parts s w) (exports_found s w [] (l.exports_in t)) (level_found env (l.home_of env t) w),
    )
