-- The headings of a level, the units of its bodies, and the bodies of its meaning stand side by side.
use Rattle.std.proofs.Common.{◌≡◌, ℕ, suc, ◌+◌, Bool, true, false, if◌then◌else◌, List, [], ◌∷◌, ◌++◌, map, length, Option, Some, None, refl, sym, ap, subst}
use Rattle.elan_scope.specs.Scope.{types_of, variables_of}
use Rattle.std.proofs.Common.{◌∙◌, arith, append_assoc}
use Rattle.std.specs.Prelude.{slice_get, nat_eq, flat_map}
use Rattle.std.proofs.lemmas.List.{map-append}
use Rattle.std.specs.List.{list_any}
use Rattle.std.specs.Str.{bytes_eq}
use Rattle.elan_tree.specs.declared.tree.Export.{Export}
use Rattle.elan_tree.specs.declared.tree.Level.{Level}
use Rattle.elan_meant.specs.Parts as p
use Rattle.elan_types.specs.declared.elan_type.ElanType.{ElanType}
use Rattle.elan_types.specs.declared.elan_type.Parameter.{Parameter}
use Rattle.elan_types.specs.declared.core_phrase.Scope.{Scope as Owner}
use Rattle.elan_types.specs.declared.core_phrase.Scope.TheVariants as owner
use Rattle.elan_types.specs.declared.core_phrase.Body.{Body}
use Rattle.elan_types.specs.declared.why.Why.TheVariants.{Doubled}
use Rattle.eu_base.specs.declared.value.Kind.{Kind}
use Rattle.elan_types.specs.declared.core_phrase.Formal as core
use Rattle.elan_types.specs.Typing.{Held, OfKind, cells_of, frame_of, scope_of}
use Rattle.eu_base.specs.Shapes.{cell_kinds}
use Rattle.elan_types.specs.Types.{held_const, shape_in, formal_of}
use Rattle.elan_tree.specs.declared.written_type.Name.{Name}
use Rattle.elan_tree.specs.declared.written_type.TypePhrase.{TypePhrase}
use Rattle.elan_tree.specs.declared.written_type.Formal.{Formal}
use Rattle.elan_tree.specs.declared.tree.Body.{Body as Written}
use Rattle.elan_tree.specs.declared.tree.Refinement.{Refinement as Refined}
use Rattle.elan_names.specs.declared.entry.Denotes.{Denotes}
use Rattle.elan_names.specs.declared.entry.Denotes.TheVariants as denotes
use Rattle.elan_names.specs.declared.entry.Entry.{Entry}
use Rattle.elan_names.specs.declared.interface.Inserted.{Inserted}
use Rattle.elan_names.specs.declared.heading.Sort.{Sort}
use Rattle.elan_names.specs.declared.heading.What.{What}
use Rattle.elan_names.specs.declared.heading.What.TheVariants.{Routine, Refinement}
use Rattle.elan_names.specs.declared.heading.Heading.{Heading}
use Rattle.elan_meant.specs.declared.meant.Meant.{Meant}
use Rattle.elan_meant.specs.declared.meant.Meant.TheVariants.{Done, Bodies}
use Rattle.elan_scope.specs.Scope as scope
use Rattle.elan_scope.specs.Scope.{number_of, all_held, held}
use Rattle.elan_scope.specs.declared.scope.Scope.{Scope}
use Rattle.elan_scope.specs.declared.scope.Within.{Within}
use Rattle.elan_scope.specs.declared.scope.Home.{Home}
use Rattle.elan_scope.specs.Scope.{Found}
use Rattle.type_names.specs.Bodies as b
use Rattle.type_names.specs.Types.{body_types}
use Rattle.elan_names.specs.declared.type_name.TypeName.{TypeName}
use Rattle.elan_scope.specs.Scope.{has_open}
use Rattle.type_names.specs.Bodies.{parameters, result, frame, parameter_names, own_names, body_names, refinement_headings, bodies_in, unit_headings}
use Rattle.elan_scope.specs.Phrase as form
use Rattle.elan_scope.specs.Phrase.{plain, Phrase, phrase, Parts, none, part, all_of, leaf}
use Rattle.elan_scope.specs.Ruled.{Ruled, gives, before}
use Rattle.elan_scope.specs.declared.delivery.Delivery.TheVariants.{Open}
use Rattle.elan_scope.specs.Known.{delivered}
use Rattle.elan_judge.specs.Refinements.{stated}
use Rattle.elan_scope.specs.declared.known.Known.{Known}
use Rattle.elan_check.specs.Below.value_rules.specs.Calls as calls
use Rattle.elan_check.specs.Below.elan_rules.specs.Units as u
use Rattle.elan_meant.specs.Verdict as verdict
use Rattle.elan_check.specs.Below.elan_rules.specs.Rules.{ruled}
use Rattle.elan_judge.specs.Shape as shape
use Rattle.elan_judge.specs.Level as l
use Rattle.elan_check.specs.Below.elan_rules.specs.Meaning.{judged, judged_all}
use Rattle.elan_check.specs.Below.elan_rules.proofs.First.{bind_gives, before_gives, gives_is}
use Rattle.elan_judge.proofs.InScope.{InScope, body_units_in}
use Rattle.elan_judge.proofs.Inferred.{unless_gives}
use Rattle.type_names.proofs.Held.{held_append}
use Rattle.type_names.proofs.OwnNames.{own_held}
use Rattle.std.specs.Option.{option_map_or}
use Rattle.elan_check.specs.Below.elan_rules.proofs.TypedPerformed.{owner_with, behind}
use Rattle.elan_check.specs.Below.elan_rules.proofs.TypedCalls.{held_cells, AllSized}
use Rattle.elan_check.proofs.HeldTypes.{BodiesSized}

-- ---- lists

pub split : (kn : Known) (xs ys : List Phrase) (ms : List Meant) → judged_all kn (all_of (xs ++ ys)) ≡ gives ms
    → (as' : List Meant) × (bs : List Meant) × (judged_all kn (all_of xs) ≡ gives as') × (judged_all kn (all_of ys) ≡ gives bs) × (ms ≡ as' ++ bs)
split kn [] ys ms e = ([], ms, refl, e, refl)
split kn (x ∷ xs) ys ms e =
    let q = before_gives (judged kn x) (judged_all kn (all_of (xs ++ ys))) ms e in
    let r = split kn xs ys q.1 q.3 in (
      q.0 ∷ r.0,
      r.1,
      ap (λ (c : Ruled Meant). before c (judged_all kn (all_of xs))) q.2 ∙ ap (λ (c : Ruled (List Meant)). before (gives q.0) c) r.2,
      r.3,
      q.4 ∙ ap (λ (ns : List Meant). q.0 ∷ ns) r.4,
    )

pub bodies_append : (ms ns : List Meant) → u.bodies_of (ms ++ ns) ≡ u.bodies_of ms ++ u.bodies_of ns
bodies_append [] ns = refl
bodies_append (m ∷ ms) ns =
    ap (λ (bs : List Body). u.bodies_in m ++ bs) (bodies_append ms ns) ∙ sym (append_assoc (u.bodies_in m) (u.bodies_of ms) (u.bodies_of ns))

-- the frame of a body has the cells of what its names hold
abbrev cells : List Parameter → List Held
cells ps = flat_map cells_of (map formal_of ps)

cells_append : (ps qs : List Parameter) → cells (ps ++ qs) ≡ cells ps ++ cells qs
cells_append [] qs = refl
cells_append (p ∷ ps) qs =
    ap (λ (hs : List Held). cells_of (formal_of p) ++ hs) (cells_append ps qs) ∙ sym (append_assoc (cells_of (formal_of p)) (cells ps) (cells qs))

abbrev kinds : List ElanType → List Kind
kinds ts = flat_map (λ t. cell_kinds (shape_in t)) ts

const_cells : (ts : List ElanType) → cells (map held_const ts) ≡ map OfKind (kinds ts)
const_cells [] = refl
const_cells (t ∷ ts) =
    ap (λ (hs : List Held). map OfKind (cell_kinds (shape_in t)) ++ hs) (const_cells ts) ∙ sym (map-append OfKind (cell_kinds (shape_in t)) (kinds ts))

frame_held : (ts : List TypeName) (fs : List Formal) (w : Written) → frame_of (frame ts fs w) ≡ held_cells (body_names ts fs w)
frame_held ts fs w =
    let here = body_types ts fs w ++ ts in
    let us = types_of (all_held (own_names here w)) in
    ap (λ (hs : List Held). cells (parameters ts fs) ++ hs) (sym (ap cells (own_held here w.units w.refinements) ∙ const_cells us))
    ∙ sym (cells_append (parameters ts fs) (all_held (own_names here w))) ∙ ap cells (sym (held_append (parameter_names ts fs) (own_names here w)))

-- ---- rows

-- what the units of a body mean is its content
abbrev pub Made : ℕ → What → Meant → Body → Type 0
Made before (Routine sort ps r) m b = (vs : List Kind) × (b.scope ≡ owner.Own (map formal_of ps) vs) × (b.content ≡ u.content_as r m)
Made before (Refinement home) m b = (b.scope ≡ owner_with (behind before home)) × (b.content ≡ u.content_of m)

abbrev pub Inside : ℕ → List Body → List Body → Type 0
Inside k bs all = (i : ℕ) (b : Body) → slice_get bs i ≡ Some b → slice_get all (k + i) ≡ Some b

-- the PROC or OP, before whose level there are so many bodies, has what its names hold, and each part of that has a cell
abbrev pub Frames : ℕ → List Body → Option Within → Type 0
Frames before all None = Unit {0}
Frames before all (Some v) =
    (fs : List core.Formal) × (vs : List Kind) × (scope_of (slice_get all (before + v.number)) ≡ Some (owner.Own fs vs))
    × (frame_of (owner.Own fs vs) ≡ held_cells v.names) × AllSized v.names

-- what a scope tells that is the same in all of its bodies: the names of the level, and what stands around it
abbrev pub surroundings : Scope → List Entry × List Inserted × ℕ × Home
surroundings z = (z.level, z.packets, z.bodies_before, z.home)

abbrev pub within : ℕ → List Entry → List TypeName → Option Within
within n names types = Some (record { number = n; names = names; types = types })

abbrev pub Stands : ℕ → List Body → ℕ → What → Scope → Body → Type 0
Stands before all n (Routine sort ps r) z b =
    (names : List Entry) × (types : List TypeName) × (z.routine ≡ within n names types) × (z.refinement ≡ None) × (frame_of b.scope ≡ held_cells names)
    × AllSized names
Stands before all n (Refinement home) z b = (z.refinement ≡ Some n) × (number_of z.routine ≡ home) × Frames before all z.routine

module _ (kn : Known) (s : Scope) (all : List Body) where
  pub record Row (n : ℕ) (h : Heading) (p : Phrase) (b : Body) : Type 0 where
    pub meant : Meant
    pub means : judged kn p ≡ gives meant
    pub list : List (Option Phrase)
    pub is_list : p ≡ shape.units (stated h.what) list
    pub made : Made s.bodies_before h.what meant b
    pub scope : Scope
    pub in_scope : InScope scope p
    pub headings : scope.headings ≡ s.headings
    pub level : surroundings scope ≡ surroundings s
    pub stands : Stands s.bodies_before all n h.what scope b

  abbrev pub Rows : ℕ → List Heading → List Phrase → List Body → Type 0
  Rows n [] [] [] = Unit {0}
  Rows n (h ∷ hs) (p ∷ ps) (b ∷ bs) = Row n h p b × Rows (suc n) hs ps bs
  Rows n [] [] (b ∷ bs) = ⊥
  Rows n [] (p ∷ ps) bs = ⊥
  Rows n (h ∷ hs) [] bs = ⊥
  Rows n (h ∷ hs) (p ∷ ps) [] = ⊥

  pub rows_append : (n m : ℕ) (hs gs : List Heading) (ps qs : List Phrase) (bs cs : List Body) → m ≡ n + length bs → Rows n hs ps bs → Rows m gs qs cs
      → Rows n (hs ++ gs) (ps ++ qs) (bs ++ cs)
  rows_append n m [] gs [] qs [] cs e h k = subst (λ (i : ℕ). Rows i gs qs cs) (let z : n + 0 ≡ n = omega arith in e ∙ z) k
  rows_append n m (g ∷ hs) gs (p ∷ ps) qs (b ∷ bs) cs e h k =
      (h.0, rows_append (suc n) m hs gs ps qs bs cs (let z : n + suc (length bs) ≡ suc n + length bs = omega arith in e ∙ z) h.1 k)
  rows_append n m [] gs [] qs (b ∷ bs) cs e h k = absurd h
  rows_append n m [] gs (p ∷ ps) qs bs cs e h k = absurd h
  rows_append n m (g ∷ hs) gs [] qs bs cs e h k = absurd h
  rows_append n m (g ∷ hs) gs (p ∷ ps) qs [] cs e h k = absurd h

  -- ---- refinements

  owner_is : (z : Scope) → surroundings z ≡ surroundings s → l.owner_of z ≡ owner_with (behind s.bodies_before (number_of z.routine))
  owner_is z e =
      ap (λ (n : ℕ). option_map_or (λ (v : Within). owner.Of (n + v.number)) z.routine owner.Level)
      (ap (λ (a : List Entry × List Inserted × ℕ × Home). a.2) e) ∙ by_routine z.routine
    where
      by_routine : (o : Option Within) → option_map_or (λ (v : Within). owner.Of (s.bodies_before + v.number)) o owner.Level
          ≡ owner_with (behind s.bodies_before (number_of o))
      by_routine None = refl
      by_routine (Some v) = refl

  two_bodies : (o : Owner) (ms : List Meant) (m n v : Meant) → ms ≡ n ∷ v ∷ [] → ruled kn 0 (plain (form.refinement o)) ms ≡ gives m
      → m ≡ u.body_with o (u.content_of v)
  two_bodies o ms m n v e h = sym (gives_is (u.body_with o (u.content_of v)) m (ap (ruled kn 0 (plain (form.refinement o))) (sym e) ∙ h))

  pub refinement_rows : (z : Scope) (k : ℕ) (rs : List Refined) (ms : List Meant) → z.headings ≡ s.headings → surroundings z ≡ surroundings s → Frames s.bodies_before all z.routine →
      judged_all kn (all_of (l.refinements z k rs)) ≡ gives ms
      → Rows k (refinement_headings (number_of z.routine) rs) (l.all_refined_units z k rs) (u.bodies_of ms)
  refinement_rows z k [] ms hh hl fr e = subst (λ (ns : List Meant). Rows k [] [] (u.bodies_of ns)) (gives_is [] ms e) tt
  refinement_rows z k (r ∷ rs) ms hh hl fr e =
      let q = before_gives (judged kn (l.refinement z k r)) (judged_all kn (all_of (l.refinements z (suc k) rs))) ms e in
      let a =
      bind_gives (judged_all kn (part (l.declares z r.name) (part (l.refined_units z k r) none)))
      (ruled kn 0 (plain (form.refinement (l.owner_of z)))) q.0 q.2
      in
      let c = before_gives (judged kn (l.declares z r.name)) (judged_all kn (part (l.refined_units z k r) none)) a.0 a.1 in
      let d = before_gives (judged kn (l.refined_units z k r)) (gives []) c.1 c.3 in
      let two : a.0 ≡ c.0 ∷ d.0 ∷ [] = c.4 ∙ ap (λ (ns : List Meant). c.0 ∷ ns) (d.4 ∙ ap (λ (ns : List Meant). d.0 ∷ ns) (sym (gives_is [] d.1 d.3))) in
      let made : q.0 ≡ u.body_with (l.owner_of z) (u.content_of d.0) = two_bodies (l.owner_of z) a.0 q.0 c.0 d.0 two a.2 in
      subst (λ (ns : List Meant). Rows k (refinement_headings (number_of z.routine) (r ∷ rs)) (l.all_refined_units z k (r ∷ rs)) (u.bodies_of ns)) (sym q.4)
      (subst (λ (m : Meant). Rows k (refinement_headings (number_of z.routine) (r ∷ rs)) (l.all_refined_units z k (r ∷ rs)) (u.bodies_in m ++ u.bodies_of q.1))
      (sym made) (
        record {
          meant = d.0;
          means = d.2;
          list = map (shape.unit (l.refinement_scope z k)) r.units;
          is_list = refl;
          made = (owner_is z hl, refl);
          scope = l.refinement_scope z k;
          in_scope = body_units_in (l.refinement_scope z k) Open r.units;
          headings = hh;
          level = hl;
          stands = (refl, refl, fr);
        },
        refinement_rows z (suc k) rs q.1 hh hl fr q.3,
      ))

  -- ---- phrases without bodies

  abbrev Quiet : Phrase → Type 0
  Quiet p = (m : Meant) → judged kn p ≡ gives m → u.bodies_in m ≡ []

  abbrev AllQuiet : List Phrase → Type 0
  AllQuiet [] = Unit {0}
  AllQuiet (p ∷ ps) = Quiet p × AllQuiet ps

  quiet_append : (ps qs : List Phrase) → AllQuiet ps → AllQuiet qs → AllQuiet (ps ++ qs)
  quiet_append [] qs h k = k
  quiet_append (p ∷ ps) qs h k = (h.0, quiet_append ps qs h.1 k)

  quiet_bodies : (ps : List Phrase) (ms : List Meant) → AllQuiet ps → judged_all kn (all_of ps) ≡ gives ms → u.bodies_of ms ≡ []
  quiet_bodies [] ms h e = ap u.bodies_of (sym (gives_is [] ms e))
  quiet_bodies (p ∷ ps) ms h e =
      let q = before_gives (judged kn p) (judged_all kn (all_of ps)) ms e in
      ap u.bodies_of q.4 ∙ ap (λ (bs : List Body). bs ++ u.bodies_of q.1) (h.0 q.0 q.2) ∙ quiet_bodies ps q.1 h.1 q.3

  declared_as_quiet : (at : ℕ) (home : Home) (n : ℕ) (d : Denotes) → u.bodies_in (calls.declared_as at home n d) ≡ []
  declared_as_quiet at home n (denotes.Variable t) = refl
  declared_as_quiet at home n (denotes.Constant t) = refl
  declared_as_quiet at home n (denotes.Bound t) = refl
  declared_as_quiet at home n (denotes.Parameter p) = refl
  declared_as_quiet at home n denotes.Procedure = refl
  declared_as_quiet at home n denotes.Refinement = refl
  declared_as_quiet at home n (denotes.Denoter q) = refl

  declared_quiet : (at : ℕ) (o : Option Found) (m : Meant) → verdict.told (calls.declared at o) ≡ gives m → u.bodies_in m ≡ []
  declared_quiet at None m e = absurd cc
  declared_quiet at (Some f) m e = by_test (nat_eq f.at at) e
    where
      by_test : (c : Bool) → verdict.told (if c then verdict.gives (calls.declared_as at f.home f.number f.denotes) else verdict.breaks (at, Doubled)) ≡ gives m
          → u.bodies_in m ≡ []
      by_test true h = ap u.bodies_in (sym (gives_is (calls.declared_as at f.home f.number f.denotes) m h)) ∙ declared_as_quiet at f.home f.number f.denotes
      by_test false h = absurd cc

  declares_quiet : (z : Scope) (n : Name) → Quiet (l.declares z n)
  declares_quiet z n m e =
      declared_quiet n.at (scope.find_own z n.text) m
      (unless_gives (calls.declares_open n.at (scope.find_own z n.text)) (verdict.told (calls.declared n.at (scope.find_own z n.text))) m e)

  all_declare_quiet : (z : Scope) (ns : List Name) → AllQuiet (map (l.declares z) ns)
  all_declare_quiet z [] = tt
  all_declare_quiet z (n ∷ ns) = (declares_quiet z n, all_declare_quiet z ns)

  parameters_quiet : (z : Scope) (fs : List Formal) → AllQuiet (l.declare_parameters z fs)
  parameters_quiet z [] = tt
  parameters_quiet z (f ∷ fs) = quiet_append (map (l.declares z) f.names) (l.declare_parameters z fs) (all_declare_quiet z f.names) (parameters_quiet z fs)

  headed_as_quiet : (at : ℕ) (missing : Bool) (m : Meant) → verdict.told (calls.headed_as at missing) ≡ gives m → u.bodies_in m ≡ []
  headed_as_quiet at true m e = absurd cc
  headed_as_quiet at false m e = ap u.bodies_in (sym (gives_is (Done []) m e))

  headed_quiet : (at : ℕ) (missing : Bool) (o : Option (ℕ × Heading)) (m : Meant) → verdict.told (calls.headed at missing o) ≡ gives m → u.bodies_in m ≡ []
  headed_quiet at missing None m e = absurd cc
  headed_quiet at missing (Some h) m e = by_test (nat_eq h.1.at at) e
    where
      by_test : (c : Bool) → verdict.told (if c then calls.headed_as at missing else verdict.breaks (at, Doubled)) ≡ gives m → u.bodies_in m ≡ []
      by_test true h = headed_as_quiet at missing m h
      by_test false h = absurd cc

  heading_quiet : (at : ℕ) (ps : List Parameter) (r : Option ElanType) (missing : Bool) (o : Option (ℕ × Heading)) (m : Meant)
      → calls.heading_ruled at ps r missing o ≡ gives m → u.bodies_in m ≡ []
  heading_quiet at ps r missing o m e =
      by_test (has_open ps) (unless_gives (calls.heading_open ps r (calls.heading at ps missing o)) (verdict.told (calls.heading at ps missing o)) m e)
    where
      by_test : (c : Bool) → verdict.told (if c then calls.headed_as at missing else calls.headed at missing o) ≡ gives m → u.bodies_in m ≡ []
      by_test true h = headed_as_quiet at missing m h
      by_test false h = headed_quiet at missing o m h

  type_named_quiet : (at : ℕ) (o : Option TypeName) (m : Meant) → verdict.told (calls.type_declared at o) ≡ gives m → u.bodies_in m ≡ []
  type_named_quiet at None m e = absurd cc
  type_named_quiet at (Some t) m e = by_test (nat_eq t.at at) e
    where
      by_test : (c : Bool) → verdict.told (if c then verdict.gives (Done []) else verdict.breaks (at, Doubled)) ≡ gives m → u.bodies_in m ≡ []
      by_test true h = ap u.bodies_in (sym (gives_is (Done []) m h))
      by_test false h = absurd cc

  -- the name of a type
  pub type_quiet : (n : Name) → Quiet (leaf n.at (form.type_name s n.text))
  type_quiet n m e =
      type_named_quiet n.at (scope.find_own_type s n.text) m
      (unless_gives (calls.is_open_type n.at (scope.find_own_type s n.text)) (verdict.told (calls.type_declared n.at (scope.find_own_type s n.text))) m e)

  -- ---- what a packet shows

  -- A name that it shows does nothing.
  exported_done : (at : ℕ) (doubled : Bool) (may : Option Bool) (m : Meant) → verdict.told (calls.exported at doubled may) ≡ gives m → m ≡ Done []
  exported_done at true may m e = absurd cc
  exported_done at false None m e = absurd cc
  exported_done at false (Some false) m e = absurd cc
  exported_done at false (Some true) m e = sym (gives_is (Done []) m e)

  pub exports_quiet : (w : Level) (earlier : List (List ℕ)) (es : List Export) (ms : List Meant) → judged_all kn (all_of (l.exports s w earlier es)) ≡ gives ms
      → (p.actions_of ms ≡ []) × (u.bodies_of ms ≡ [])
  exports_quiet w earlier [] ms e = (ap p.actions_of (sym (gives_is [] ms e)), ap u.bodies_of (sym (gives_is [] ms e)))
  exports_quiet w earlier (x ∷ es) ms e =
      let doubled = list_any (λ y. bytes_eq y (l.export_name x)) earlier in
      let may = l.may_show s w (l.export_name x) in
      let rest = l.exports s w (earlier ++ l.export_name x ∷ []) es in
      let q = before_gives (judged kn (leaf (l.export_place x) (form.exported doubled may))) (judged_all kn (all_of rest)) ms e in
      let r = exports_quiet w (earlier ++ l.export_name x ∷ []) es q.1 q.3 in
      let done = exported_done (l.export_place x) doubled may q.0 q.2 in (
        ap p.actions_of q.4 ∙ ap (λ (m : Meant). p.actions m ++ p.actions_of q.1) done ∙ r.0,
        ap u.bodies_of q.4 ∙ ap (λ (m : Meant). u.bodies_in m ++ u.bodies_of q.1) done ∙ r.1,
      )

  pub procedure_quiet : (n : Name) (fs : List Formal) → AllQuiet (l.procedure_name s n fs)
  procedure_quiet n [] = (declares_quiet s n, tt)
  procedure_quiet n (f ∷ fs) = tt

  -- ---- PROCs and OPs

  module _ (k : ℕ) (at : ℕ) (x : List ℕ) (t : Option TypePhrase) (fs : List Formal) (w : Written) where
    abbrev own : Owner
    own = frame s.types fs w

    abbrev inner : Scope
    inner = l.inner s k at x t fs w

    one_body : (r : Option ElanType) (ms : List Meant) (m v : Meant) → ms ≡ v ∷ [] → ruled kn 0 (plain (form.body own r)) ms ≡ gives m
        → m ≡ u.body_with own (u.content_as r v)
    one_body r ms m v e h = sym (gives_is (u.body_with own (u.content_as r v)) m (ap (ruled kn 0 (plain (form.body own r))) (sym e) ∙ h))

    pub routine_rows : BodiesSized s.types → (sort : Sort) (names : List Phrase) (m : Meant) → AllQuiet names → judged kn (l.routine s k at x t fs w sort names) ≡ gives m
        → Inside (s.bodies_before + k) (u.bodies_in m) all →
        Rows k (b.routine_heading s.types sort at x fs t ∷ refinement_headings (Some k) w.refinements) (l.routine_units s k at x t fs w) (u.bodies_in m)
    routine_rows sized sort names m quiet e inside =
        let q =
        bind_gives (judged_all kn (all_of (l.heading_phrases s k at x t fs w sort names ++ l.body_phrases s k at x t fs w)))
        (ruled kn 0 (plain form.routine)) m e in
        let p = split kn (l.heading_phrases s k at x t fs w sort names) (l.body_phrases s k at x t fs w) q.0 q.1 in
        let silent : u.bodies_of p.0 ≡ [] =
        quiet_bodies (l.heading_phrases s k at x t fs w sort names) p.0
        (quiet_append names (leaf at (form.heading s sort x (parameters s.types fs) (result s.types t) (l.is_missing (result s.types t) (l.body_units s k at x t fs w)))
        ∷ l.declare_parameters inner fs) quiet (
          heading_quiet at (parameters s.types fs) (result s.types t) (l.is_missing (result s.types t) (l.body_units s k at x t fs w))
              (scope.first_heading (scope.is_alike sort x (scope.types_of (parameters s.types fs))) s.headings),
          parameters_quiet inner fs,
        )) p.2 in
        let a = before_gives (judged kn (l.own_body s k at x t fs w)) (judged_all kn (all_of (l.refinements inner (suc k) w.refinements))) p.1 p.3 in
        let c = bind_gives (judged_all kn (part (l.own_units s k at x t fs w) none)) (ruled kn 0 (plain (form.body own (result s.types t)))) a.0 a.2 in
        let d = before_gives (judged kn (l.own_units s k at x t fs w)) (gives []) c.0 c.1 in
        let one : c.0 ≡ d.0 ∷ [] = d.4 ∙ ap (λ (ns : List Meant). d.0 ∷ ns) (sym (gives_is [] d.1 d.3)) in
        let made = one_body (result s.types t) c.0 a.0 d.0 one c.2 in
        let body : Body = record { scope = own; content = u.content_as (result s.types t) d.0 } in
        let is : u.bodies_in m ≡ body ∷ u.bodies_of a.1 =
        ap u.bodies_in (sym (gives_is (Bodies (u.bodies_of q.0)) m q.2)) ∙ ap u.bodies_of p.4 ∙ bodies_append p.0 p.1
        ∙ ap (λ (bs : List Body). bs ++ u.bodies_of p.1) silent ∙ ap u.bodies_of a.4 ∙ ap (λ (n : Meant). u.bodies_in n ++ u.bodies_of a.1) made in
        let here : slice_get all (s.bodies_before + k) ≡ Some body =
        (let z : s.bodies_before + k + 0 ≡ s.bodies_before + k = omega arith in ap (slice_get all) (sym z) ∙ inside 0 body (ap (λ (bs : List Body). slice_get bs 0) is)) in
        subst (λ (bs : List Body). Rows k (b.routine_heading s.types sort at x fs t ∷ refinement_headings (Some k) w.refinements) (l.routine_units s k at x t fs w) bs)
        (sym is) (
          record {
            meant = d.0;
            means = d.2;
            list = l.body_units s k at x t fs w;
            is_list = refl;
            made = (variables_of (own_names (body_types s.types fs w ++ s.types) w), refl, refl);
            scope = inner;
            in_scope = body_units_in inner (delivered (result s.types t)) w.units;
            headings = refl;
            level = refl;
            stands = (body_names s.types fs w, body_types s.types fs w, refl, refl, frame_held s.types fs w, sized fs w);
          },
          refinement_rows inner (suc k) w.refinements a.1 refl refl (
            map formal_of (parameters s.types fs),
            variables_of (own_names (body_types s.types fs w ++ s.types) w),
            ap scope_of here,
            frame_held s.types fs w,
            sized fs w,
          ) a.3,
        )
