-- What is declared is found, and a refinement that is found is a body.
use Rattle.std.proofs.Common.{◌≡◌, ℕ, ◌+◌, Bool, true, false, ◌&&◌, if◌then◌else◌, List, [], ◌∷◌, ◌++◌, Option, Some}
use Rattle.elan_laws.specs.Below.elan_names.specs.declared.entry.Denotes.TheVariants as denotes
use Rattle.std.specs.Prelude.{flat_map}
use Rattle.std.proofs.Common.{None, refl, sym, ap, subst, ◌∙◌, ◌⊎◌, inl, inr}
use Rattle.std.specs.Prelude.{option_and_then, option_map, option_to_list, slice_get, map}
use Rattle.std.specs.Option.{is_some}
use Rattle.std.specs.Str.{bytes_eq}
use Rattle.std.proofs.lemmas.Slice.Eq.{bytes_eq-Decides}
use Rattle.elan_types.specs.Typing.{same_home}
use Rattle.elan_tree.specs.declared.written_type.Name.{Name}
use Rattle.elan_tree.specs.declared.written_type.Formal.{Formal}
use Rattle.elan_tree.specs.declared.tree.Refinement.{Refinement}
use Rattle.elan_tree.specs.declared.tree.LevelUnit.{LevelUnit}
use Rattle.elan_tree.specs.declared.tree.LevelUnit.TheVariants as level
use Rattle.elan_laws.specs.Below.elan_walk.specs.Nodes as nodes
use Rattle.elan_laws.specs.Below.elan_walk.specs.Nodes.{Node}
use Rattle.elan_laws.specs.Below.elan_names.specs.declared.entry.Entry.{Entry}
use Rattle.elan_laws.specs.Below.elan_scope.specs.declared.scope.Scope.{Scope}
use Rattle.elan_laws.specs.Below.elan_scope.specs.declared.scope.Within.{Within}
use Rattle.elan_laws.specs.Below.elan_scope.specs.declared.scope.Home.{Home}
use Rattle.elan_laws.specs.Below.elan_names.specs.declared.heading.Heading.{Heading}
use Rattle.std.specs.Option.{option_or}
use Rattle.elan_laws.specs.Below.elan_names.specs.Names.{cells_held}
use Rattle.elan_laws.specs.Below.elan_scope.specs.Scope.{first_from, find, found, found_in, from_inside, routine_layer, level_layer, packet_layer, predefined_layer}
use Rattle.elan_laws.specs.Below.elan_names.specs.declared.interface.Inserted.{Inserted}
use Rattle.elan_laws.specs.Below.elan_scope.specs.walks.Seen.{found_in_packets, found_around, found_within}
use Rattle.elan_laws.specs.Below.elan_scope.proofs.Layers.{found_as}
use Rattle.elan_laws.specs.Below.elan_names.proofs.Named.{first_heading_from}
use Rattle.elan_laws.specs.Below.elan_scope.specs.Scope.{first_heading, is_refinement, is_refined, number_in, number_of, refinement_in}
use Rattle.elan_laws.specs.Below.elan_scope.specs.Scope.{Found}
use Rattle.elan_laws.specs.Below.elan_scope.specs.declared.scope.Home.TheVariants.{Routine as of_routine}
use Rattle.elan_laws.specs.Below.elan_names.specs.declared.heading.What.TheVariants as what
use Rattle.elan_laws.specs.Below.elan_walk.specs.declared.node.Held.TheVariants.{Variable, Constant, Bound}
use Rattle.std.proofs.lemmas.Bool.Decides.{Decides-eqb}
use Rattle.elan_laws.specs.Below.type_names.specs.Declarations as d
use Rattle.elan_laws.specs.Below.elan_names.specs.declared.type_name.TypeName.{TypeName}
use Rattle.elan_laws.specs.Below.elan_names.specs.Types.{first_type}
use Rattle.elan_laws.specs.Below.type_names.specs.Types.{type_name, names_from, names_of, in_units, in_refinements, refinement_definitions}
use Rattle.elan_laws.specs.Below.type_names.proofs.Looked.{look_append}
use Rattle.elan_laws.specs.Below.elan_walk.specs.declared.definition.Definition.{Definition}
use Rattle.elan_laws.specs.Below.type_names.specs.Bodies as b
use Rattle.elan_laws.specs.Served.{HasBody}
use Rattle.elan_types.specs.declared.elan_type.Parameter.{Parameter}
use Rattle.elan_laws.proofs.Declared.{Named}

-- ---- look-ups

abbrev pub Any : {A : Type 0} → (A → Type 0) → List A → Type 0
Any P [] = ⊥
Any P (x ∷ xs) = P x ⊎ Any P xs

any_first : {A : Type 0} (P : A → Type 0) (xs ys : List A) → Any P xs → Any P (xs ++ ys)
any_first P [] ys h = absurd h
any_first P (x ∷ xs) ys h =
    elim h [
      | inl i ↦ inl i
      | inr i ↦ inr (any_first P xs ys i)
    ]

any_second : {A : Type 0} (P : A → Type 0) (xs ys : List A) → Any P ys → Any P (xs ++ ys)
any_second P [] ys h = h
any_second P (x ∷ xs) ys h = inr (any_second P xs ys h)

any_behind : {A : Type 0} (P : A → Type 0) (xs ys zs : List A) → (Any P ys → Any P zs) → Any P (xs ++ ys) → Any P (xs ++ zs)
any_behind P [] ys zs f h = f h
any_behind P (x ∷ xs) ys zs f h =
    elim h [
      | inl i ↦ inl i
      | inr i ↦ inr (any_behind P xs ys zs f i)
    ]

abbrev pub Has : List Entry → List ℕ → Type 0
Has es x = Any (λ (e : Entry). e.name ≡ x) es

pub in_first : (xs ys : List Entry) (x : List ℕ) → Has xs x → Has (xs ++ ys) x
in_first xs ys x h = any_first (λ (e : Entry). e.name ≡ x) xs ys h

pub in_second : (xs ys : List Entry) (x : List ℕ) → Has ys x → Has (xs ++ ys) x
in_second xs ys x h = any_second (λ (e : Entry). e.name ≡ x) xs ys h

-- These define that name.
abbrev pub Defines : List Definition → List ℕ → Type 0
Defines ds x = Any (λ (e : Definition). e.name ≡ x) ds

pub defined_first : (xs ys : List Definition) (x : List ℕ) → Defines xs x → Defines (xs ++ ys) x
defined_first xs ys x h = any_first (λ (e : Definition). e.name ≡ x) xs ys h

pub defined_second : (xs ys : List Definition) (x : List ℕ) → Defines ys x → Defines (xs ++ ys) x
defined_second xs ys x h = any_second (λ (e : Definition). e.name ≡ x) xs ys h

-- what refinements declare is defined with their names
pub refined : (rs : List Refinement) (x : List ℕ) → Defines (in_refinements rs) x → Defines (refinement_definitions rs) x
refined [] x h = absurd h
refined (r ∷ rs) x h =
    inr
    (any_behind (λ (e : Definition). e.name ≡ x) (in_units r.units) (in_refinements rs) (refinement_definitions rs) (refined rs x) h)

pub bytes_self : (x : List ℕ) → bytes_eq x x ≡ true
bytes_self x = (bytes_eq-Decides x x).1 refl

false_is_true : (c : Bool) → c ≡ false → c ≡ true → ⊥
false_is_true c e g = cc

first_is : (k : ℕ) (es : List Entry) (x : List ℕ) → Has es x → is_some (first_from k es x) ≡ true
first_is k [] x h = absurd h
first_is k (e ∷ es) x h =
    by_test (bytes_eq e.name x) refl
    (elim h [
      | inl g ↦ inl (subst (λ (y : List ℕ). bytes_eq e.name y ≡ true) g (bytes_self e.name))
      | inr g ↦ inr (first_is (k + cells_held e.denotes) es x g)
    ])
  where
    by_test : (c : Bool) → bytes_eq e.name x ≡ c → (bytes_eq e.name x ≡ true) ⊎ (is_some (first_from (k + cells_held e.denotes) es x) ≡ true)
        → is_some (if c then Some (k, e) else first_from (k + cells_held e.denotes) es x) ≡ true
    by_test true i g = refl
    by_test false i g =
        elim g [
          | inl j ↦ absurd (false_is_true (bytes_eq e.name x) i j)
          | inr j ↦ j
        ]

found_is : (home : Home) (o : Option (ℕ × Entry)) → is_some o ≡ true → is_some (found_in home o) ≡ true
found_is home None h = absurd cc
found_is home (Some f) h = refl

abbrev pub names_in : Option Within → List Entry → List Entry
names_in None es = es
names_in (Some w) es = w.names

-- the names of the scope in which a phrase stands
abbrev pub own : Scope → List Entry
own z = names_in z.routine z.level

named_by : (z : Scope) (w : Option Within) (x : List ℕ) → Has (names_in w z.level) x
    → is_some (option_and_then (found x) (slice_get (option_to_list (option_map routine_layer w)
    ++ level_layer z ∷ (map packet_layer z.packets ++ predefined_layer ∷ [])) 0)) ≡ true
named_by z None x h = found_is z.home (first_from 0 z.level x) (first_is 0 z.level x h)
named_by z (Some w) x h = found_is of_routine (first_from 0 w.names x) (first_is 0 w.names x h)

pub named : (z : Scope) (x : List ℕ) → Has (own z) x → Named z x
named z x h = named_by z z.routine x h

-- ---- names of types

type_from : (first : ℕ) (around : List TypeName) (all : List Definition) (k : ℕ) (ds : List Definition) (x : List ℕ) → Defines ds x
    → is_some (first_type x (names_from first around all k ds)) ≡ true
type_from first around all k [] x h = absurd h
type_from first around all k (e ∷ es) x h =
    by_test (bytes_eq e.name x) refl
    (elim h [
      | inl g ↦ inl (subst (λ (y : List ℕ). bytes_eq e.name y ≡ true) g (bytes_self e.name))
      | inr g ↦ inr (type_from first around all (k + 1) es x g)
    ])
  where
    by_test : (c : Bool) → bytes_eq e.name x ≡ c
        → (bytes_eq e.name x ≡ true) ⊎ (is_some (first_type x (names_from first around all (k + 1) es)) ≡ true)
        → is_some (if c then Some (type_name first around all k e) else first_type x (names_from first around all (k + 1) es)) ≡ true
    by_test true i g = refl
    by_test false i g =
        elim g [
          | inl j ↦ absurd (false_is_true (bytes_eq e.name x) i j)
          | inr j ↦ j
        ]

pub type_named : (first : ℕ) (around : List TypeName) (ds : List Definition) (x : List ℕ) → Defines ds x
    → is_some (first_type x (names_of first around ds)) ≡ true
type_named first around ds x h = type_from first around ds 0 ds x h

-- before the names that are declared around
pub type_seen : (first : ℕ) (around : List TypeName) (ds : List Definition) (x : List ℕ) → Defines ds x
    → is_some (first_type x (names_of first around ds ++ around)) ≡ true
type_seen first around ds x h =
    ap is_some (look_append x (names_of first around ds) around)
    ∙ or_found (first_type x (names_of first around ds)) (first_type x around) (type_named first around ds x h)
  where
    or_found : (o p : Option TypeName) → is_some o ≡ true → is_some (option_or o p) ≡ true
    or_found None p e = absurd cc
    or_found (Some t) p e = refl

pub both_true : (c e : Bool) → c ≡ true → e ≡ true → (c && e) ≡ true
both_true true e f g = g
both_true false e f g = absurd cc

-- ---- headings

abbrev pub HasHeading : List Heading → Heading → Type 0
HasHeading [] h = ⊥
HasHeading (g ∷ gs) h = (g ≡ h) ⊎ HasHeading gs h

pub heading_first : (gs hs : List Heading) (h : Heading) → HasHeading gs h → HasHeading (gs ++ hs) h
heading_first [] hs h i = absurd i
heading_first (g ∷ gs) hs h i =
    elim i [
      | inl e ↦ inl e
      | inr e ↦ inr (heading_first gs hs h e)
    ]

pub heading_second : (gs hs : List Heading) (h : Heading) → HasHeading hs h → HasHeading (gs ++ hs) h
heading_second [] hs h i = i
heading_second (g ∷ gs) hs h i = inr (heading_second gs hs h i)

pub heading_is : (n : ℕ) (test : Heading → Bool) (hs : List Heading) (h : Heading) → HasHeading hs h → test h ≡ true
    → is_some (first_heading_from n test hs) ≡ true
heading_is n test [] h i e = absurd i
heading_is n test (g ∷ gs) h i e =
    by_test (test g) refl
    (elim i [
      | inl j ↦ inl (ap test j ∙ e)
      | inr j ↦ inr (heading_is (n + 1) test gs h j e)
    ])
  where
    by_test : (c : Bool) → test g ≡ c → (test g ≡ true) ⊎ (is_some (first_heading_from (n + 1) test gs) ≡ true)
        → is_some (if c then Some (n, g) else first_heading_from (n + 1) test gs) ≡ true
    by_test true f k = refl
    by_test false f k =
        elim k [
          | inl j ↦ absurd (false_is_true (test g) f j)
          | inr j ↦ j
        ]

abbrev pub SubHeadings : Scope → List Heading → Type 0
SubHeadings z hs = (h : Heading) → HasHeading hs h → HasHeading z.headings h

-- ---- refinements are bodies

abbrev pub IsBody : Scope → List ℕ → Type 0
IsBody z x = is_some (number_in (first_heading (is_refined (number_of z.routine) x) z.headings)) ≡ true

-- where a name is found that denotes a refinement, there is a body of that name
abbrev Leads : Scope → List ℕ → Option Found → Type 0
Leads z x None = Unit {0}
Leads z x (Some f) = is_refinement f.denotes ≡ true → IsBody z x

abbrev BodyFound : Scope → List ℕ → Option Found → Option Found → Type 0
BodyFound z x None o = Unit {0}
BodyFound z x (Some f) o = is_refinement f.denotes ≡ true → is_some (refinement_in z x o) ≡ true

leads_found : (z : Scope) (x : List ℕ) (o : Option Found) → Leads z x o → BodyFound z x o o
leads_found z x None h = tt
leads_found z x (Some f) h =
    λ r. subst (λ (c : Bool). is_some (if c then number_in (first_heading (is_refined (number_of z.routine) x) z.headings) else None) ≡ true) (sym r) (h r)

or_leads : (z : Scope) (x : List ℕ) (o p : Option Found) → Leads z x o → Leads z x p → Leads z x (option_or o p)
or_leads z x None p h g = g
or_leads z x (Some f) p h g = h

-- From inside a PROC or OP no refinement of the level is seen.
inside_leads : (z : Scope) (x : List ℕ) (o : Option Found) → Leads z x (from_inside o)
inside_leads z x None = tt
inside_leads z x (Some f) = by_test (is_refinement f.denotes) refl
  where
    by_test : (c : Bool) → is_refinement f.denotes ≡ c → Leads z x (if c then None else Some f)
    by_test true e = tt
    by_test false e = λ r. absurd (false_is_true (is_refinement f.denotes) e r)

-- Each entry that is a refinement has a body.
abbrev pub AllLead : Scope → List Entry → Type 0
AllLead z [] = Unit {0}
AllLead z (e ∷ es) = (is_refinement e.denotes ≡ true → IsBody z e.name) × AllLead z es

pub lead_append : (z : Scope) (es gs : List Entry) → AllLead z es → AllLead z gs → AllLead z (es ++ gs)
lead_append z [] gs h g = g
lead_append z (e ∷ es) gs h g = (h.0, lead_append z es gs h.1 g)

found_leads : (z : Scope) (x : List ℕ) (home : Home) (k : ℕ) (es : List Entry) → AllLead z es → Leads z x (found_in home (first_from k es x))
found_leads z x home k [] h = tt
found_leads z x home k (e ∷ es) h = by_test (bytes_eq e.name x) refl (found_leads z x home (k + cells_held e.denotes) es h.1)
  where
    by_test : (c : Bool) → bytes_eq e.name x ≡ c → Leads z x (found_in home (first_from (k + cells_held e.denotes) es x))
        → Leads z x (found_in home (if c then Some (k, e) else first_from (k + cells_held e.denotes) es x))
    by_test true i g = λ r. subst (IsBody z) ((bytes_eq-Decides e.name x).0 i) (h.0 r)
    by_test false i g = g

-- No refinement of a packet is seen.
packets_lead : (z : Scope) (x : List ℕ) (ps : List Inserted) → Leads z x (found_in_packets x ps)
packets_lead z x [] = tt
packets_lead z x (p ∷ ps) =
    or_leads z x (from_inside (found x (packet_layer p))) (found_in_packets x ps) (inside_leads z x (found x (packet_layer p))) (packets_lead z x ps)

around_leads : (z : Scope) (x : List ℕ) (w : Option Within) → AllLead z (names_in w z.level) → Leads z x (found_around x w z)
around_leads z x None h = found_leads z x z.home 0 z.level h
around_leads z x (Some w) h =
    or_leads z x (found_in of_routine (first_from 0 w.names x)) (from_inside (found_in z.home (first_from 0 z.level x)))
    (found_leads z x of_routine 0 w.names h) (inside_leads z x (found_in z.home (first_from 0 z.level x)))

find_leads : (z : Scope) (x : List ℕ) → AllLead z (own z) → Leads z x (find z x)
find_leads z x h =
    subst (Leads z x) (sym (found_as x z))
    (or_leads z x (found_within x z) (found_in_packets x z.packets) (around_leads z x z.routine h) (packets_lead z x z.packets))

abbrev pub Bodies : Scope → Type 0
Bodies z = (x : List ℕ) → HasBody z x (find z x)

has_body : (z : Scope) (x : List ℕ) (o : Option Found) → BodyFound z x o (find z x) → HasBody z x o
has_body z x None h = tt
has_body z x (Some f) h = h

pub bodies_of : (z : Scope) → AllLead z (own z) → Bodies z
bodies_of z h = λ x. has_body z x (find z x) (leads_found z x (find z x) (find_leads z x h))

-- ---- declarations that are refinements

home_self : (home : Option ℕ) → same_home home home ≡ true
home_self None = refl
home_self (Some n) = (Decides-eqb n n).1 refl

-- where these names of types can be seen
module _ (ts : List TypeName) where
  node_leads : (z : Scope) (n : Node) → AllLead z (d.declared ts n)
  node_leads z (nodes.item Variable of n) = (λ r. absurd cc, tt)
  node_leads z (nodes.item Constant of n) = (λ r. absurd cc, tt)
  node_leads z (nodes.item Bound of n) = (λ r. absurd cc, tt)
  node_leads z (nodes.alone n) = tt
  node_leads z (nodes.other n) = tt
  node_leads z (nodes.sign o) = tt
  node_leads z (nodes.of_type of) = tt
  node_leads z (nodes.let_name n c) = (λ r. absurd cc, tt)
  node_leads z (nodes.abbreviation n of) = tt
  node_leads z (nodes.new_type at n of) = tt
  node_leads z (nodes.content of) = tt

  pub nodes_lead : (z : Scope) (ns : List Node) → AllLead z (flat_map (d.declared ts) ns)
  nodes_lead z [] = tt
  nodes_lead z (n ∷ ns) = lead_append z (d.declared ts n) (flat_map (d.declared ts) ns) (node_leads z n) (nodes_lead z ns)

  named_lead : (z : Scope) (ns : List Name) (p : Parameter) → AllLead z (b.named_as ns (denotes.Parameter p))
  named_lead z [] p = tt
  named_lead z (n ∷ ns) p = (λ r. absurd cc, named_lead z ns p)

  pub formals_lead : (z : Scope) (fs : List Formal) → AllLead z (b.parameter_names ts fs)
  formals_lead z [] = tt
  formals_lead z (f ∷ fs) =
      lead_append z (b.named_as f.names (denotes.Parameter (b.parameter ts f))) (b.parameter_names ts fs) (named_lead z f.names (b.parameter ts f))
      (formals_lead z fs)

  pub refinements_lead : (z : Scope) (home : Option ℕ) (rs : List Refinement) → number_of z.routine ≡ home → SubHeadings z (b.refinement_headings home rs)
      → AllLead z (b.refinement_names ts rs)
  refinements_lead z home [] e f = tt
  refinements_lead z home (r ∷ rs) e f =
      let h : Heading = record { at = r.name.at; name = r.name.text; what = what.Refinement home } in
      let test = is_refined (number_of z.routine) r.name.text in
      let passes : is_refined home r.name.text h ≡ true =
      both_true (bytes_eq r.name.text r.name.text) (same_home home home) (bytes_self r.name.text) (home_self home) in
      let found =
      heading_is 0 test z.headings h (f h (inl refl)) (subst (λ (o : Option ℕ). is_refined o r.name.text h ≡ true) (sym e) passes) in
      let rest =
      lead_append z (d.in_units ts r.units) (b.refinement_names ts rs) (nodes_lead z (nodes.in_units r.units))
      (refinements_lead z home rs e (λ g i. f g (inr i))) in
      (λ q. numbered (first_heading test z.headings) found, rest)
    where
      numbered : (o : Option (ℕ × Heading)) → is_some o ≡ true → is_some (number_in o) ≡ true
      numbered None i = absurd cc
      numbered (Some g) i = refl

  unit_leads : (s : Scope) (u : LevelUnit) → AllLead s (b.unit_names ts u)
  unit_leads s (level.Plain u) = nodes_lead s (nodes.in_unit u)
  unit_leads s (level.Proc at r n [] w) = (λ q. absurd cc, tt)
  unit_leads s (level.Proc at r n (f ∷ fs) w) = tt
  unit_leads s (level.Op at r n fs w) = tt
  unit_leads s (level.NewType at n of) = tt

  pub units_lead : (s : Scope) (us : List LevelUnit) → AllLead s (flat_map (b.unit_names ts) us)
  units_lead s [] = tt
  units_lead s (u ∷ us) = lead_append s (b.unit_names ts u) (flat_map (b.unit_names ts) us) (unit_leads s u) (units_lead s us)
