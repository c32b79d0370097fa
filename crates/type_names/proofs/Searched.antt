-- A search finds the first fault of all nodes that it sees.
use Rattle.std.proofs.Common.{◌≡◌, ℕ, List, [], ◌∷◌, ◌++◌, Bool, false, Option, Some, None, sym, ap, subst, ◌∙◌}
use Rattle.elan_walk.specs.Nodes.{Node}
use Rattle.std.specs.Prelude.{Result, Ok, Err, IfOk, flat_map}
use Rattle.elan_walk.specs.Walk.{went, Seen}
use Rattle.elan_scope.specs.Ruled.{Fault}
use Rattle.elan_walk.specs.Nodes as nodes
use Rattle.elan_names.specs.declared.type_name.TypeName.{TypeName}
use Rattle.elan_tree.specs.declared.written_type.TypePhrase.{TypePhrase}
use Rattle.elan_tree.specs.declared.written_type.Formal.{Formal}
use Rattle.elan_tree.specs.declared.tree.Refinement.{Refinement}
use Rattle.elan_tree.specs.declared.tree.Body.{Body}
use Rattle.elan_tree.specs.declared.tree.Level.{Level}
use Rattle.elan_tree.specs.declared.tree.LevelUnit.{LevelUnit}
use Rattle.elan_walk.specs.declared.definition.Definition.{Definition}
use Rattle.type_names.specs.declared.scope_types.ScopeTypes.{ScopeTypes}
use Rattle.type_names.specs.declared.fault.InLevel.{InLevel}
use Rattle.type_names.specs.declared.search.Search.{Search}
use Rattle.type_names.specs.Types.{names_of, body_definitions, level_definitions}
use Rattle.type_names.specs.Faults.{Here, here, first_fault, node_faults, nodes_faults, unit_faults, routine_faults, level_faults}
use Rattle.type_names.specs.walks.Seen.{AreOf, plainly, known_in, Knows, earlier, here_of, with_fault, searched, Finds}
use Rattle.type_names.proofs.Told.{first_append, earlier_none, earlier_three}

abbrev with_first : Search → Option Fault → Search
with_first s f =
    record { alloc = s.alloc; here = s.here; around = s.around; refinements = s.refinements; first = f; wanted = s.wanted }

pub found : (s : Search) (ns : List Node) → went searched s ns ≡ with_fault s (first_fault (nodes_faults (here_of s) ns))
found s [] = sym (ap (with_first s) (earlier_none s.first))
found s (n ∷ ns) =
    found (searched s n) ns
    ∙ ap (with_first s) (earlier_three s.first (first_fault (node_faults (here_of s) n)) (first_fault (nodes_faults (here_of s) ns)))
    ∙ sym (ap (with_fault s) (first_append (node_faults (here_of s) n) (nodes_faults (here_of s) ns)))

abbrev pub is_wanted : Search → Bool
is_wanted s = s.wanted

-- what a search has found that began with nothing
pub met_found : {E : Type 0} (types : ScopeTypes) (around : List TypeName) (rs : List Refinement) (s t : Search) (ns : List Node)
    (r : Result (Option Fault) E) → s.here.now ≡ types → s.around.now ≡ around → s.refinements.now ≡ rs → s.first ≡ None
    → Seen is_wanted searched ns s t → IfOk r (λ f. (t.wanted ≡ false) × (f ≡ t.first)) → Finds (nodes_faults (plainly types around rs) ns) r
met_found types around rs s t ns (Ok f) i j k e seen h =
    h.1 ∙ ap (λ (u : Search). u.first) ((seen h.0).1 ∙ found s ns)
    ∙ ap (λ (g : Option Fault). earlier g (first_fault (nodes_faults (here_of s) ns))) e
    ∙ ap (λ (u : ScopeTypes). first_fault (nodes_faults (plainly u s.around.now s.refinements.now) ns)) i
    ∙ ap (λ (ts : List TypeName). first_fault (nodes_faults (plainly types ts s.refinements.now) ns)) j
    ∙ ap (λ (us : List Refinement). first_fault (nodes_faults (plainly types around us) ns)) k
met_found types around rs s t ns (Err x) i j k e seen h = tt

-- ---- one list behind another

pub none_first : {E : Type 0} (xs ys : List Fault) (r : Result (Option Fault) E) → None ≡ first_fault xs → Finds ys r → Finds (xs ++ ys) r
none_first xs ys (Ok f) e h = h ∙ ap (λ (g : Option Fault). earlier g (first_fault ys)) e ∙ sym (first_append xs ys)
none_first xs ys (Err x) e h = tt

pub some_first : (xs ys : List Fault) (f : Fault) → Some f ≡ first_fault xs → Some f ≡ first_fault (xs ++ ys)
some_first xs ys f e = ap (λ (g : Option Fault). earlier g (first_fault ys)) e ∙ sym (first_append xs ys)

-- ---- scopes

pub here_is : (first : ℕ) (around : List TypeName) (ds : List Definition) (rs : List Refinement) (types : ScopeTypes) → AreOf first around ds types
    → plainly types around rs ≡ here first around ds rs
here_is first around ds rs types e =
    ap (λ (ns : List TypeName). record { seen = ns ++ around; definitions = types.definitions; calls = types.calls; refinements = rs }) e.0
    ∙ ap (λ (d : List Definition). record { seen = names_of first around ds ++ around; definitions = d; calls = types.calls; refinements = rs }) e.1
    ∙ ap (λ (c : List (List ℕ)). record { seen = names_of first around ds ++ around; definitions = ds; calls = c; refinements = rs }) e.2

abbrev first_in : InLevel → ℕ
first_in level = level.around.first

abbrev around_in : InLevel → List TypeName
around_in level = level.around.names.now

abbrev refined_in : InLevel → List Refinement
refined_in level = level.refined.now

module _ {E : Type 0} (ds : List Definition) (level : InLevel) (e : Knows ds level) where
  pub in_level : (ns : List Node) (r : Result (Option Fault) E) → Finds (nodes_faults (known_in level) ns) r
      → Finds (nodes_faults (here (first_in level) (around_in level) ds (refined_in level)) ns) r
  in_level ns r h = subst (λ (k : Here). Finds (nodes_faults k ns) r) (here_is (first_in level) (around_in level) ds (refined_in level) level.types.now e.0) h

  pub routine_none : (here' : ScopeTypes) (bs : List Definition) (of : Option TypePhrase) (fs : List Formal) (b : Body)
      (r : Result (Option Fault) E) → None ≡ first_fault (nodes_faults (known_in level) (nodes.result of ++ nodes.formals fs))
      → bs ≡ body_definitions fs b → AreOf 0 level.seen.now bs here'
      → Finds (nodes_faults (plainly here' level.seen.now []) (nodes.in_units b.units ++ nodes.refinements b.refinements)) r
      → Finds (routine_faults (first_in level) (around_in level) ds (refined_in level) of fs b) r
  routine_none here' bs of fs b r n j k h =
      none_first (nodes_faults (here (first_in level) (around_in level) ds (refined_in level)) (nodes.result of ++ nodes.formals fs))
      (nodes_faults (here 0 (names_of (first_in level) (around_in level) ds ++ around_in level) (body_definitions fs b) []) (nodes.in_units b.units ++ nodes.refinements b.refinements)) r
      (n ∙ ap (λ (q : Here). first_fault (nodes_faults q (nodes.result of ++ nodes.formals fs))) (here_is (first_in level) (around_in level) ds (refined_in level) level.types.now e.0))
      (subst (λ (q : Here). Finds (nodes_faults q (nodes.in_units b.units ++ nodes.refinements b.refinements)) r)
      (here_is 0 level.seen.now bs [] here' k ∙ ap (λ (ts : List TypeName). here 0 ts bs []) e.1
      ∙ ap (λ (cs : List Definition). here 0 (names_of (first_in level) (around_in level) ds ++ around_in level) cs []) j) h)

pub level_none : {E : Type 0} (level : InLevel) (l : Level) (ds : List Definition) (r : Result (Option Fault) E)
    → ds ≡ level_definitions l → level.refined.now ≡ l.refinements → Knows ds level
    → None ≡ first_fault (flat_map (unit_faults level.around.first level.around.names.now ds level.refined.now) l.units)
    → Finds (nodes_faults (known_in level) (nodes.refinements level.refined.now)) r
    → Finds (level_faults level.around.first level.around.names.now l) r
level_none level l ds r d i e n h =
    let first = level.around.first in
    let around = level.around.names.now in
    let rs = level.refined.now in
    subst (λ (es : List Definition). Finds (flat_map (unit_faults first around es l.refinements) l.units
    ++ nodes_faults (here first around es l.refinements) (nodes.refinements l.refinements)) r) d
    (subst (λ (us : List Refinement). Finds (flat_map (unit_faults first around ds us) l.units
    ++ nodes_faults (here first around ds us) (nodes.refinements us)) r) i
    (none_first (flat_map (unit_faults first around ds rs) l.units) (nodes_faults (here first around ds rs) (nodes.refinements rs)) r n
    (in_level ds level e (nodes.refinements rs) r h)))

-- ---- units in turn

pub some_turn : (f : LevelUnit → List Fault) (us rest : List LevelUnit) (u : LevelUnit) (x : Fault) (o : Option Fault) → us ≡ u ∷ rest
    → Some x ≡ first_fault (f u) → first_fault (flat_map f us) ≡ o → Some x ≡ o
some_turn f us rest u x o e h i =
    some_first (f u) (flat_map f rest) x h ∙ sym (ap (λ (vs : List LevelUnit). first_fault (flat_map f vs)) e) ∙ i

pub none_turn : (f : LevelUnit → List Fault) (us rest : List LevelUnit) (u : LevelUnit) (o : Option Fault) → us ≡ u ∷ rest → None ≡ first_fault (f u)
    → first_fault (flat_map f us) ≡ o → first_fault (flat_map f rest) ≡ o
none_turn f us rest u o e h i =
    ap (λ (g : Option Fault). earlier g (first_fault (flat_map f rest))) h
    ∙ sym (first_append (f u) (flat_map f rest)) ∙ sym (ap (λ (vs : List LevelUnit). first_fault (flat_map f vs)) e) ∙ i
