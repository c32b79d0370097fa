-- The core of a text is well typed.
use Rattle.std.proofs.Common.{inl, inr, ◌≡◌, ℕ, suc, ◌+◌, true, List, [], ◌∷◌, ◌++◌, length, Option, Some, None, refl, sym, ap, subst, ◌∙◌, arith}
use Rattle.std.specs.Prelude.{slice_get, map, option_map}
use Rattle.eu_base.specs.declared.value.Kind.{Kind}
use Rattle.elan_types.specs.declared.core_phrase.Formal.{Formal}
use Rattle.elan_types.specs.Types.{shape_in, formal_of}
use Rattle.elan_types.specs.declared.elan_type.ElanType.{ElanType}
use Rattle.elan_types.specs.declared.elan_type.Parameter.{Parameter}
use Rattle.elan_types.specs.declared.core_phrase.Action.{Action}
use Rattle.elan_types.specs.declared.core_phrase.Content.{Content}
use Rattle.elan_types.specs.declared.core_phrase.Scope.{Scope as Owner}
use Rattle.elan_types.specs.declared.core_phrase.Scope.TheVariants as owner
use Rattle.elan_types.specs.declared.core_phrase.Body.{Body}
use Rattle.elan_types.specs.declared.core_phrase.Core.{Core}
use Rattle.elan_types.specs.Typing.{Home, frame_of, frame_at, frame_in, scope_of, owner_at, owner as owner_in, result_of_content, is_content_typed, IsScope}
use Rattle.elan_types.specs.Typing.{Outside, IsWellTyped}
use Rattle.elan_check.proofs.SameCore.{core_made}
use Rattle.elan_check.proofs.Sound.{bare, IsSound, at_either, all_fit, outside_in, level_held}
use Rattle.elan_check.proofs.Weakening.{content_stays, scope_stays}
use Rattle.type_names.specs.Types.{level_definitions}
use Rattle.type_names.proofs.Sized.{SizedNames, seen_sized as names_sized}
use Rattle.elan_scope.specs.Shown.{shown_types}
use Rattle.elan_check.specs.Text.{Means, inserted, declared, core_of, bodies_known}
use Rattle.elan_check.proofs.Bodies.{known_is}
use Rattle.elan_tree.specs.declared.tree.Refinement.{Refinement as Refined}
use Rattle.elan_tree.specs.declared.tree.Level.{Level as Written}
use Rattle.elan_tree.specs.declared.tree.LevelUnit.{LevelUnit}
use Rattle.elan_tree.specs.declared.tree.LevelUnit.TheVariants as level
use Rattle.elan_tree.specs.declared.tree.Tree.{Tree}
use Rattle.elan_scope.specs.declared.env.Env.{Env}
use Rattle.elan_scope.specs.declared.delivery.Delivery.{Delivery}
use Rattle.elan_scope.specs.declared.delivery.Delivery.TheVariants.{Open, Nothing}
use Rattle.elan_names.specs.declared.entry.Entry.{Entry}
use Rattle.elan_names.specs.declared.heading.Sort.{Sort}
use Rattle.elan_names.specs.declared.heading.Sort.TheVariants.{Procedure, Operator}
use Rattle.elan_names.specs.declared.heading.What.{What}
use Rattle.elan_names.specs.declared.heading.What.TheVariants.{Routine, Refinement}
use Rattle.elan_names.specs.declared.heading.Heading.{Heading}
use Rattle.elan_meant.specs.declared.meant.Meant.{Meant}
use Rattle.elan_meant.specs.declared.meant.Meant.TheVariants.{Absent, Variable, Value, Done, Left, Labels, Bodies, Level, Start}
use Rattle.std.specs.Option.{option_or}
use Rattle.elan_scope.specs.Scope.{number_of}
use Rattle.elan_scope.specs.declared.scope.Scope.{Scope}
use Rattle.elan_scope.specs.declared.scope.Within.{Within}
use Rattle.elan_names.specs.declared.type_name.TypeName.{TypeName}
use Rattle.type_names.specs.Bodies as b
use Rattle.elan_scope.specs.Phrase as form
use Rattle.elan_scope.specs.Phrase.{plain, Phrase, phrase, Parts, none, part, all_of, around}
use Rattle.elan_scope.specs.Ruled.{gives}
use Rattle.elan_scope.specs.Known.{delivery_at}
use Rattle.elan_scope.specs.declared.known.Known.{Known}
use Rattle.elan_walk.specs.Operators.{operator_text}
use Rattle.elan_meant.specs.Parts as p
use Rattle.elan_check.specs.Below.elan_rules.specs.Units as u
use Rattle.elan_check.specs.Below.elan_rules.specs.Rules.{ruled}
use Rattle.elan_judge.specs.Shape as shape
use Rattle.elan_judge.specs.Level as l
use Rattle.elan_check.specs.Below.elan_rules.specs.Meaning.{judged, judged_all}
use Rattle.elan_judge.specs.Refinements.{stated, delivery_of, known_of}
use Rattle.elan_check.specs.Below.elan_rules.proofs.First.{bind_gives, before_gives, gives_is}
use Rattle.elan_judge.proofs.InScope.{statement_in}
use Rattle.elan_check.specs.Below.elan_rules.proofs.TypeEquations.{Stand}
use Rattle.elan_check.specs.Below.elan_rules.proofs.Typed as ty
use Rattle.elan_check.specs.Below.elan_rules.proofs.TypedUnits.{content_as_good, content_of_good}
use Rattle.elan_check.specs.Below.elan_rules.proofs.TypedPerformed.{owner_with, behind, Headed, Delivering, BodyFits, Fitting}
use Rattle.elan_check.specs.Below.elan_rules.proofs.TypedCalls.{held_cells, AllSized, FrameIs, WithinSized, HeldThere, AllFit, Fits}
use Rattle.elan_names.specs.declared.interface.Inserted.{Inserted}
use Rattle.elan_scope.specs.declared.scope.Home.{Home as HeldIn}
use Rattle.elan_check.proofs.HeldTypes.{BodiesSized, level_sized, bodies_sized}
use Rattle.elan_judge.proofs.TypedRules.{good}
use Rattle.elan_judge.proofs.Counts.{all_headings_count}
use Rattle.elan_judge.proofs.Settled.{told_found, refinement_found}
use Rattle.elan_check.proofs.Aligned.{Made, surroundings, Inside, Frames, within, Stands, Row, Rows, rows_append, refinement_rows, split, bodies_append, exports_quiet}
use Rattle.elan_check.proofs.LevelRows.{at_behind, units_rows, rows_count, inside_first, row_of_heading, heading_of_body}
use Rattle.type_names.specs.walks.Headings.{all_headings}
use Rattle.elan_judge.specs.walks.Units.{all_unit_bodies, level_units}

-- ---- what a body delivers

content_result : (o : Option ElanType) (m : Meant) (c : Content) → c ≡ u.content_as o m → result_of_content c ≡ option_map shape_in o
content_result None m c e = ap result_of_content e
content_result (Some t) m c e = ap result_of_content e

headed_of : (n : ℕ) (w : What) (m : Meant) (c : Body) → Made n w m c → Headed n w c
headed_of n (Routine sort ps r) m c h = (h.0, h.1, content_result r m c.content h.2)
headed_of n (Refinement home) m c h = h.0

told_delivers : (o : Option ElanType) (c : Body) → result_of_content c.content ≡ option_map shape_in o → Delivering (stated (Routine Procedure [] o)) c
told_delivers None c e = e
told_delivers (Some t) c e = e

content_delivers : (m : Meant) (c : Body) → c.content ≡ u.content_of m → Delivering (delivery_of m) c
content_delivers Absent c e = ap result_of_content e
content_delivers (Variable at t x) c e = ap result_of_content e
content_delivers (Value at t v) c e = ap result_of_content e
content_delivers (Done as') c e = ap result_of_content e
content_delivers (Left as') c e = ap result_of_content e
content_delivers (Labels ns) c e = ap result_of_content e
content_delivers (Start k) c e = ap result_of_content e
content_delivers (Bodies bs) c e = ap result_of_content e
content_delivers (Level us bs) c e = ap result_of_content e

told_known : (sort : Sort) (ps : List Parameter) (o : Option ElanType) → stated (Routine sort ps o) ≡ Open → ⊥
told_known sort ps None e = absurd cc
told_known sort ps (Some t) e = absurd cc

told_routine : (sort : Sort) (ps : List Parameter) (o : Option ElanType) → stated (Routine Procedure [] o) ≡ stated (Routine sort ps o)
told_routine sort ps None = refl
told_routine sort ps (Some t) = refl

-- ---- the core of a level

module _ (env : Env) (sound : IsSound env) (t : Tree) (us : List Action) (own : List Body) where
  abbrev w : Written
  w = l.level_in t

  abbrev s : Scope
  s = l.text_scope env t

  abbrev hs : List Heading
  hs = s.headings

  abbrev ps : List Phrase
  ps = l.level_bodies s w

  abbrev kn : Known
  kn = known_of hs ps

  abbrev before : ℕ
  before = length env.bodies

  abbrev all : List Body
  all = env.bodies ++ own

  abbrev outside : Outside
  outside = outside_in env t

  abbrev after_units : ℕ
  after_units = b.bodies_of_units w.units

  abbrev shown : List Phrase
  shown = l.exports s w [] (l.exports_in t)

  abbrev MeansText : Type 0
  MeansText = judged kn (l.text env t) ≡ gives (Level us own)

  seen_sized : SizedNames s.types
  seen_sized = names_sized env.types (shown_types env) (level_definitions w) sound.sized

  sized_level : AllSized s.level
  sized_level = level_sized s.types seen_sized w

  sized_inside : BodiesSized s.types
  sized_inside = bodies_sized s.types seen_sized

  -- the meanings of the units, and of the refinements
  abbrev Parts2 : Type 0
  Parts2 =
      (ms : List Meant) × (ns : List Meant) × (judged_all kn (all_of (level_units s 0 w.units)) ≡ gives ms)
      × (judged_all kn (all_of (l.refinements s after_units w.refinements)) ≡ gives ns) × (us ≡ p.actions_of ms ++ p.actions_of ns)
      × (own ≡ u.bodies_of ms ++ u.bodies_of ns)

  actions_append : (ms ns : List Meant) → p.actions_of (ms ++ ns) ≡ p.actions_of ms ++ p.actions_of ns
  actions_append [] ns = refl
  actions_append (m ∷ ms) ns =
      ap (λ (as' : List Action). p.actions m ++ as') (actions_append ms ns) ∙ sym (assoc (p.actions m) (p.actions_of ms) (p.actions_of ns))
    where
      assoc : (xs ys zs : List Action) → xs ++ ys ++ zs ≡ xs ++ (ys ++ zs)
      assoc [] ys zs = refl
      assoc (x ∷ xs) ys zs = ap (λ (as' : List Action). x ∷ as') (assoc xs ys zs)

  units_is : (as' bs : List Action) (cs ds : List Body) → Level as' cs ≡ Level bs ds → bs ≡ as'
  units_is as' bs cs ds e = cc

  bodies_is : (as' bs : List Action) (cs ds : List Body) → Level as' cs ≡ Level bs ds → ds ≡ cs
  bodies_is as' bs cs ds e = cc

  parts : MeansText → Parts2
  parts e =
      let q = bind_gives (judged_all kn (all_of (shown ++ l.level_parts s w))) (ruled kn 0 (plain form.level)) (Level us own) e in
      let x = split kn shown (l.level_parts s w) q.0 q.1 in
      let quiet = exports_quiet kn s all w [] (l.exports_in t) x.0 x.2 in
      let r = split kn (level_units s 0 w.units) (l.refinements s after_units w.refinements) x.1 x.3 in
      let whole = gives_is (Level (p.actions_of q.0) (u.bodies_of q.0)) (Level us own) q.2 in (
        r.0,
        r.1,
        r.2,
        r.3,
        units_is (p.actions_of q.0) us (u.bodies_of q.0) own whole ∙ ap p.actions_of x.4 ∙ actions_append x.0 x.1
            ∙ ap (λ (as' : List Action). as' ++ p.actions_of x.1) quiet.0 ∙ ap p.actions_of r.4 ∙ actions_append r.0 r.1,
        bodies_is (p.actions_of q.0) us (u.bodies_of q.0) own whole ∙ ap u.bodies_of x.4 ∙ bodies_append x.0 x.1
            ∙ ap (λ (bs : List Body). bs ++ u.bodies_of x.1) quiet.1 ∙ ap u.bodies_of r.4 ∙ bodies_append r.0 r.1,
      )

  abbrev AllRows : Type 0
  AllRows = Rows kn s all 0 hs ps own

  rows : Parts2 → AllRows
  rows q =
      let inside : Inside (before + 0) (u.bodies_of q.0 ++ u.bodies_of q.1) all =
      subst (λ (bs : List Body). Inside (before + 0) bs all) q.5
      (λ i c e. let z : before + 0 + i ≡ before + i = omega arith in ap (slice_get all) z ∙ at_behind env.bodies own i ∙ e) in
      let first = units_rows kn s all sized_inside 0 w.units q.0 q.2 (inside_first (before + 0) (u.bodies_of q.0) (u.bodies_of q.1) all inside) in
      let count : length (u.bodies_of q.0) ≡ after_units =
      rows_count kn s all 0 (all_headings s.types 0 w.units) (all_unit_bodies s 0 w.units) (u.bodies_of q.0) first ∙ all_headings_count s.types 0 w.units in
      let rest = refinement_rows kn s all s after_units w.refinements q.1 refl refl tt q.3 in
      let z : 0 + length (u.bodies_of q.0) ≡ length (u.bodies_of q.0) = omega arith in
      subst (λ (bs : List Body). Rows kn s all 0 hs ps bs) (sym q.5)
      (rows_append kn s all 0 after_units (all_headings s.types 0 w.units) (b.refinement_headings None w.refinements) (all_unit_bodies s 0 w.units)
      (l.all_refined_units s after_units w.refinements) (u.bodies_of q.0) (u.bodies_of q.1) (sym count ∙ sym z) first rest)

  -- ---- bodies as their headings tell

  row_at : AllRows → (n : ℕ) (h : Heading) → slice_get hs n ≡ Some h
      → (q : Phrase) × (c : Body) × (slice_get ps n ≡ Some q) × (slice_get own n ≡ Some c) × Row kn s all n h q c
  row_at rs n h e =
      let r = row_of_heading kn s all 0 hs ps own n h rs e in
      let z : 0 + n ≡ n = omega arith in
      (r.0, r.1, r.2, r.3, subst (λ (m : ℕ). Row kn s all m h r.0 r.1) z r.4)

  delivers_as : (n : ℕ) (h : Heading) (q : Phrase) (c : Body) (m : Meant) (list : List (Option Phrase)) (what : What) → h.what ≡ what → slice_get hs n ≡ Some h
      → slice_get ps n ≡ Some q → judged kn q ≡ gives m → q ≡ shape.units (stated h.what) list → Made before what m c → Delivering (delivery_at kn n) c
  delivers_as n h q c m list (Routine sort params r) e i j g is made =
      let known : delivery_at kn n ≡ stated (Routine sort params r) =
      told_found hs ps n h q i j (λ o. told_known sort params r (ap stated (sym e) ∙ o)) ∙ ap stated e in
      subst (λ (d : Delivery). Delivering d c) (told_routine sort params r ∙ sym known) (told_delivers r c (content_result r m c.content made.2))
  delivers_as n h q c m list (Refinement home) e i j g is made =
      subst (λ (d : Delivery). Delivering d c)
      (sym (refinement_found hs ps n h q i j list m (ap stated e) (is ∙ ap (λ (d : Delivery). shape.units d list) (ap stated e)) g))
      (content_delivers m c made.1)

  bodies_fit : AllRows → (n : ℕ) (h : Heading) → slice_get hs n ≡ Some h → BodyFits before (slice_get all (before + n)) h (delivery_at kn n)
  bodies_fit rs n h e =
      let r = row_at rs n h e in
      record {
        body = r.1;
        is = at_behind env.bodies own n ∙ r.3;
        headed = headed_of before h.what r.4.meant r.1 r.4.made;
        delivers = delivers_as n h r.0 r.1 r.4.meant r.4.list h.what refl e r.2 r.4.means r.4.is_list r.4.made;
      }

  -- ---- the scopes fit

  abbrev pub level_stand : Stand
  level_stand = record { outside = outside; bodies = all; home = None }

  -- in the body of the level with this number
  abbrev stand : ℕ → Stand
  stand n = record { outside = outside; bodies = all; home = Some (before + n) }

  -- The same is told in the scope of each body.
  held_there : (z : Scope) (n : ℕ) → surroundings z ≡ surroundings s → HeldThere (stand n) z.home z.level
  held_there z n e = subst (λ (a : List Entry × List Inserted × ℕ × HeldIn). HeldThere (stand n) a.3 a.0) (sym e) (level_held env t (stand n) refl)

  packets_fit : (here : Stand) → here.outside ≡ outside → here.bodies ≡ all → AllFit here env.inserted
  packets_fit here e f =
      all_fit (bare env) here env.inserted
      (inserted env t, ap (λ (o : Outside). o.packets) e) (own, f) sound.fit

  packets_there : (z : Scope) (n : ℕ) → surroundings z ≡ surroundings s → AllFit (stand n) z.packets
  packets_there z n e =
      subst (λ (a : List Entry × List Inserted × ℕ × HeldIn). AllFit (stand n) a.1) (sym e) (packets_fit (stand n) refl refl)

  before_is : (z : Scope) → surroundings z ≡ surroundings s → z.bodies_before ≡ before
  before_is z e = ap (λ (a : List Entry × List Inserted × ℕ × HeldIn). a.2) e

  behind_in : (z : Scope) → surroundings z ≡ surroundings s → (o : Option ℕ) → behind before o ≡ behind z.bodies_before o
  behind_in z e o = ap (λ (n : ℕ). behind n o) (sym (before_is z e))

  level_fits : AllRows → Fits level_stand s kn
  level_fits rs =
      record {
        packets = packets_fit level_stand refl refl;
        level = level_held env t level_stand refl;
        sized = sized_level;
        frame_sized = tt;
        frame = tt;
        owner_is = refl;
        home_is = refl;
        part_of = λ r q e f. absurd cc;
        bodies = bodies_fit rs;
      }

  sized_at : (z : Scope) → surroundings z ≡ surroundings s → AllSized z.level
  sized_at z e = subst (λ (a : List Entry × List Inserted × ℕ × HeldIn). AllSized a.0) (sym e) sized_level

  bodies_at : AllRows → (z : Scope) → z.headings ≡ s.headings → surroundings z ≡ surroundings s → (n : ℕ) (h : Heading)
      → slice_get z.headings n ≡ Some h → BodyFits z.bodies_before (slice_get all (z.bodies_before + n)) h (delivery_at kn n)
  bodies_at rs z zh zl n h e =
      subst (λ (b : ℕ). BodyFits b (slice_get all (b + n)) h (delivery_at kn n)) (sym (before_is z zl))
      (bodies_fit rs n h (ap (λ (g : List Heading). slice_get g n) (sym zh) ∙ e))

  sized_frame : (v : Option Within) → Frames before all v → WithinSized v
  sized_frame None f = tt
  sized_frame (Some v) f = f.4

  owner_here : (n : ℕ) (c : Body) → slice_get all n ≡ Some c → owner_in all (Some n) ≡ owner_at n (Some c.scope)
  owner_here n c e = ap (λ (o : Option Body). owner_at n (scope_of o)) e

  frame_here : (n : ℕ) (c : Body) → slice_get all n ≡ Some c → frame_in all (Some n) ≡ frame_of c.scope
  frame_here n c e = ap (λ (o : Option Body). frame_at (scope_of o)) e

  routine_fits : AllRows → (n : ℕ) (c : Body) (z : Scope) (fs : List Formal) (ks : List Kind) (names : List Entry) (types : List TypeName)
      → slice_get all (before + n) ≡ Some c → z.headings ≡ s.headings → surroundings z ≡ surroundings s → c.scope ≡ owner.Own fs ks → z.routine ≡ within n names types
      → z.refinement ≡ None → frame_of c.scope ≡ held_cells names → AllSized names → Fits (stand n) z kn
  routine_fits rs n c z fs ks names types i zh zl is_own rt rf fr si =
      let owned : owner_in all (Some (before + n)) ≡ Some (before + n) =
      owner_here (before + n) c i ∙ ap (λ (o : Owner). owner_at (before + n) (Some o)) is_own in
      record {
        packets = packets_there z n zl;
        level = held_there z n zl;
        sized = sized_at z zl;
        frame_sized = subst WithinSized (sym rt) si;
        frame = subst (λ (v : Option Within). FrameIs (frame_in all (owner_in all (Some (before + n)))) v) (sym rt)
            (ap (frame_in all) owned ∙ frame_here (before + n) c i ∙ fr);
        owner_is = owned ∙ sym (ap (behind before) (ap number_of rt)) ∙ behind_in z zl (number_of z.routine);
        home_is =
            sym (ap (behind before) (ap (λ (o : Option ℕ). option_or o (number_of z.routine)) rf ∙ ap number_of rt))
            ∙ behind_in z zl (option_or z.refinement (number_of z.routine));
        part_of = λ r q e f. absurd (none_some r (sym rf ∙ e));
        bodies = bodies_at rs z zh zl;
      }
    where
      none_some : (r : ℕ) → None ≡ Some r → ⊥
      none_some r e = cc

  refined_frame : (n : ℕ) (home : Option ℕ) (v : Option Within) → number_of v ≡ home → Frames before all v
      → FrameIs (frame_in all (owner_at n (Some (owner_with (behind before home))))) v
  refined_frame n home None e f = tt
  refined_frame n home (Some v) e f =
      subst (λ (o : Option ℕ). frame_in all (owner_at n (Some (owner_with (behind before o)))) ≡ held_cells v.names) e
      (ap frame_at f.2 ∙ f.3)

  refined_owner : (n : ℕ) (home : Option ℕ) → owner_at n (Some (owner_with home)) ≡ home
  refined_owner n None = refl
  refined_owner n (Some q) = refl

  refinement_fits : AllRows → (n : ℕ) (c : Body) (z : Scope) (home : Option ℕ) → slice_get all (before + n) ≡ Some c → z.headings ≡ s.headings
      → surroundings z ≡ surroundings s → c.scope ≡ owner_with (behind before home) → z.refinement ≡ Some n → number_of z.routine ≡ home
      → Frames before all z.routine → Fits (stand n) z kn
  refinement_fits rs n c z home i zh zl is_own rf rt fr =
      let k = before + n in
      let owned : owner_in all (Some k) ≡ owner_at k (Some (owner_with (behind before home))) =
      owner_here k c i ∙ ap (λ (o : Owner). owner_at k (Some o)) is_own in
      record {
        packets = packets_there z n zl;
        level = held_there z n zl;
        sized = sized_at z zl;
        frame_sized = sized_frame z.routine fr;
        frame = subst (λ (o : Home). FrameIs (frame_in all o) z.routine) (sym owned) (refined_frame k home z.routine rt fr);
        owner_is = owned ∙ refined_owner k (behind before home) ∙ ap (behind before) (sym rt) ∙ behind_in z zl (number_of z.routine);
        home_is =
            sym (ap (behind before) (ap (λ (o : Option ℕ). option_or o (number_of z.routine)) rf))
            ∙ behind_in z zl (option_or z.refinement (number_of z.routine));
        part_of =
            λ r q e f.
            subst (λ (b : ℕ). scope_of (slice_get all (b + r)) ≡ Some (owner.Of (b + q))) (sym (before_is z zl))
            (ap (λ (m : ℕ). scope_of (slice_get all (before + m))) (same r (sym e ∙ rf)) ∙ ap scope_of i
            ∙ ap (λ (o : Owner). Some o) (is_own ∙ ap (λ (o : Option ℕ). owner_with (behind before o)) (sym rt ∙ f)));
        bodies = bodies_at rs z zh zl;
      }
    where
      same : (r : ℕ) → Some r ≡ Some n → r ≡ n
      same r e = cc

  row_fits : AllRows → (n : ℕ) (what : What) (m : Meant) (c : Body) (z : Scope) → slice_get all (before + n) ≡ Some c → z.headings ≡ s.headings
      → surroundings z ≡ surroundings s → Made before what m c → Stands before all n what z c → Fits (stand n) z kn
  row_fits rs n (Routine sort params r) m c z i zh zl made st = routine_fits rs n c z (map formal_of params) made.0 st.0 st.1 i zh zl made.1 st.2 st.3 st.4 st.5
  row_fits rs n (Refinement home) m c z i zh zl made st = refinement_fits rs n c z home i zh zl made.0 st.0 st.1 st.2

  -- ---- the content of bodies

  content_typed : (n : ℕ) (what : What) (m : Meant) (c : Body) → Made before what m c → ty.Good (stand n) m → is_content_typed outside all (Some (before + n)) c.content ≡ true
  content_typed n (Routine sort params r) m c made g =
      subst (λ (x : Content). is_content_typed outside all (Some (before + n)) x ≡ true) (sym made.2) (content_as_good (stand n) r m g)
  content_typed n (Refinement home) m c made g = subst (λ (x : Content). is_content_typed outside all (Some (before + n)) x ≡ true) (sym made.1)
      (content_of_good (stand n) m g)

  body_typed : AllRows → (n : ℕ) (c : Body) → slice_get own n ≡ Some c → is_content_typed outside all (Some (before + n)) c.content ≡ true
  body_typed rs n c e =
      let g = heading_of_body kn s all 0 hs ps own n c rs e in
      let r = row_at rs n g.0 g.1 in
      let same : r.1 ≡ c = same_body r.1 c (sym r.3 ∙ e) in
      subst (λ (d : Body). is_content_typed outside all (Some (before + n)) d.content ≡ true) same
      (content_typed n g.0.what r.4.meant r.1 r.4.made
      (good (stand n) r.4.scope kn
      (row_fits rs n g.0.what r.4.meant r.1 r.4.scope (at_behind env.bodies own n ∙ r.3) r.4.headings r.4.level r.4.made r.4.stands) r.0 r.4.meant
      r.4.in_scope r.4.means))
    where
      same_body : (d f : Body) → Some d ≡ Some f → d ≡ f
      same_body d f e = cc

  owned : (q : ℕ) (o : Option Body) (fs : List Formal) (ks : List Kind) → slice_get all q ≡ o → scope_of o ≡ Some (owner.Own fs ks)
      → IsScope all (owner.Of q)
  owned q None fs ks e f = absurd cc
  owned q (Some d) fs ks e f = let g : d.scope ≡ owner.Own fs ks = cc in (d, (fs, (ks, e, g)))

  refined_scope : (home : Option ℕ) (v : Option Within) → number_of v ≡ home → Frames before all v → IsScope all (owner_with (behind before home))
  refined_scope None v e f = tt
  refined_scope (Some q) None e f = absurd cc
  refined_scope (Some q) (Some v) e f =
      let g : v.number ≡ q = cc in
      subst (λ (n : ℕ). IsScope all (owner.Of (before + n))) g (owned (before + v.number) (slice_get all (before + v.number)) f.0 f.1 refl f.2)

  row_scope : (n : ℕ) (what : What) (m : Meant) (c : Body) (z : Scope) → Made before what m c → Stands before all n what z c → IsScope all c.scope
  row_scope n (Routine sort params r) m c z made st = subst (IsScope all) (sym made.1) tt
  row_scope n (Refinement home) m c z made st = subst (IsScope all) (sym made.0) (refined_scope home z.routine st.1 st.2)

  body_scope : AllRows → (n : ℕ) (c : Body) → slice_get own n ≡ Some c → IsScope all c.scope
  body_scope rs n c e =
      let g = heading_of_body kn s all 0 hs ps own n c rs e in
      let r = row_at rs n g.0 g.1 in
      let same : r.1 ≡ c = same_body r.1 c (sym r.3 ∙ e) in
      subst (λ (d : Body). IsScope all d.scope) same (row_scope n g.0.what r.4.meant r.1 r.4.scope r.4.made r.4.stands)
    where
      same_body : (d f : Body) → Some d ≡ Some f → d ≡ f
      same_body d f e = cc

  -- those of the packets, and behind them those of the level

  all_typed : AllRows → (n : ℕ) (c : Body) → slice_get all n ≡ Some c → is_content_typed outside all (Some n) c.content ≡ true
  all_typed rs n c e =
      elim (at_either env.bodies own n c e) [
        | inl f ↦ content_stays (bare env).outside outside (inserted env t, refl) (declared env t, refl) env.bodies own n c f c.content (sound.typed n c f)
        | inr f ↦ subst (λ (m : ℕ). is_content_typed outside all (Some m) c.content ≡ true) (sym f.1) (body_typed rs f.0 c f.2)
      ]

  all_scopes : AllRows → (n : ℕ) (c : Body) → slice_get all n ≡ Some c → IsScope all c.scope
  all_scopes rs n c e =
      elim (at_either env.bodies own n c e) [
        | inl f ↦ scope_stays (bare env).outside outside (inserted env t, refl) (declared env t, refl) env.bodies own c.scope (sound.scopes n c f)
        | inr f ↦ body_scope rs f.0 c f.2
      ]

  -- ---- the units of the level

  abbrev AllTyped : List Action → Type 0
  AllTyped = ty.AllTyped level_stand

  bodies_typed : (m : Meant) (bs : List Body) → gives (Bodies bs) ≡ gives m → AllTyped (p.actions m)
  bodies_typed m bs e = subst (λ (n : Meant). AllTyped (p.actions n)) (gives_is (Bodies bs) m e) refl

  unit_typed : Fits level_stand s kn → (k : ℕ) (v : LevelUnit) (m : Meant) → judged kn (l.level_unit s k v) ≡ gives m → AllTyped (p.actions m)
  unit_typed f k (level.Plain v) m e =
      ty.actions_typed level_stand m (good level_stand s kn f (shape.role Nothing (shape.written (shape.unit s v))) m (statement_in s Nothing v) e)
  unit_typed f k (level.Proc at r n fs x) m e =
      let q =
      bind_gives (judged_all kn
      (all_of (l.heading_phrases s k n.at n.text r fs x Procedure (l.procedure_name s n fs) ++ l.body_phrases s k n.at n.text r fs x)))
      (ruled kn 0 (plain form.routine)) m e in bodies_typed m (u.bodies_of q.0) q.2
  unit_typed f k (level.Op at r n fs x) m e =
      let q =
      bind_gives (judged_all kn
      (all_of (l.heading_phrases s k n.at (operator_text n.operator) r fs x Operator [] ++ l.body_phrases s k n.at (operator_text n.operator) r fs x)))
      (ruled kn 0 (plain form.routine)) m e in bodies_typed m (u.bodies_of q.0) q.2
  unit_typed f k (level.NewType at n of) m e =
      ty.actions_typed level_stand m (good level_stand s kn f (l.level_unit s k (level.NewType at n of)) m (refl, tt) e)

  units_typed : Fits level_stand s kn → (k : ℕ) (ws : List LevelUnit) (ms : List Meant) → judged_all kn (all_of (level_units s k ws)) ≡ gives ms
      → AllTyped (p.actions_of ms)
  units_typed f k [] ms e = subst (λ (ns : List Meant). AllTyped (p.actions_of ns)) (gives_is [] ms e) refl
  units_typed f k (v ∷ ws) ms e =
      let q = before_gives (judged kn (l.level_unit s k v)) (judged_all kn (all_of (level_units s (k + b.bodies_in v) ws))) ms e in
      subst (λ (ns : List Meant). AllTyped (p.actions_of ns)) (sym q.4)
      (ty.append_typed level_stand (p.actions q.0) (p.actions_of q.1) (unit_typed f k v q.0 q.2) (units_typed f (k + b.bodies_in v) ws q.1 q.3))

  refined_typed : (o : Owner) (ms : List Meant) (m : Meant) → ruled kn 0 (plain (form.refinement o)) ms ≡ gives m → AllTyped (p.actions m)
  refined_typed o ms m e = subst (λ (x : Meant). AllTyped (p.actions x)) (gives_is (u.body_with o (u.content_of (p.nth ms 1))) m e) refl

  refinements_typed : (k : ℕ) (rs : List Refined) (ms : List Meant) → judged_all kn (all_of (l.refinements s k rs)) ≡ gives ms → AllTyped (p.actions_of ms)
  refinements_typed k [] ms e = subst (λ (ns : List Meant). AllTyped (p.actions_of ns)) (gives_is [] ms e) refl
  refinements_typed k (r ∷ rs) ms e =
      let q = before_gives (judged kn (l.refinement s k r)) (judged_all kn (all_of (l.refinements s (suc k) rs))) ms e in
      let c =
      bind_gives (judged_all kn (part (l.declares s r.name) (part (l.refined_units s k r) none)))
      (ruled kn 0 (plain (form.refinement (l.owner_of s)))) q.0 q.2
      in
      subst (λ (ns : List Meant). AllTyped (p.actions_of ns)) (sym q.4)
      (ty.append_typed level_stand (p.actions q.0) (p.actions_of q.1) (refined_typed (l.owner_of s) c.0 q.0 c.2)
      (refinements_typed (suc k) rs q.1 q.3))

  pub text_typed : MeansText → IsWellTyped (core_of env t us own)
  text_typed e =
      let q = parts e in
      let rs = rows q in
      record {
        typed =
            subst AllTyped (sym q.4)
            (ty.append_typed level_stand (p.actions_of q.0) (p.actions_of q.1) (units_typed (level_fits rs) 0 w.units q.0 q.2)
            (refinements_typed after_units w.refinements q.1 q.3));
        scopes = all_scopes rs;
        bodies = all_typed rs;
        starts = tt;
      }

  -- Its bodies are those that its headings tell of.
  pub text_fits : MeansText → Fitting level_stand before before hs
  text_fits e = λ n h i. (delivery_at kn n, bodies_fit (rows (parts e)) n h i)

-- what a text means is well typed
pub known_phrases : (env : Env) (t : Tree) (c : Core) (h : Means env t c) → judged (bodies_known env t) (l.text env t) ≡ gives (Level c.units h.own)
known_phrases env t c h = subst (λ (k : Known). judged k (l.text env t) ≡ gives (Level c.units h.own)) (known_is env t) h.phrases

pub well_typed : (env : Env) → IsSound env → (t : Tree) (c : Core) → Means env t c → IsWellTyped c
well_typed env sound t c h =
    subst IsWellTyped (core_made env t c h.own h.packets h.inserted h.variables h.bodies h.start)
    (text_typed env sound t c.units h.own (known_phrases env t c h))
