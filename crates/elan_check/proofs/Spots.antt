-- Where no phrase of a level breaks a rule, none hangs on another one.
use Rattle.std.proofs.Common.{◌≡◌, ℕ, zero, suc, ◌+◌, Bool, false, ◌||◌, ◌&&◌, List, [], ◌∷◌, ◌++◌, map, length, Option, Some, None, refl, sym, ap, subst, ◌∙◌, inl}
use Rattle.std.proofs.Common.{inr, arith}
use Rattle.std.specs.Prelude.{slice_get, slice_index_or}
use Rattle.std.specs.List.{list_any}
use Rattle.std.specs.Str.{bytes_eq}
use Rattle.elan_types.specs.declared.elan_type.ElanType.{ElanType}
use Rattle.elan_types.specs.declared.elan_type.Parameter.{Parameter}
use Rattle.elan_types.specs.declared.core_phrase.Scope.{Scope as Owner}
use Rattle.elan_meant.specs.declared.meant.Meant.{Meant}
use Rattle.elan_tree.specs.declared.written_type.Name.{Name}
use Rattle.elan_tree.specs.declared.written_type.TypePhrase.{TypePhrase}
use Rattle.elan_tree.specs.declared.written_type.Formal.{Formal}
use Rattle.elan_tree.specs.declared.tree.Body.{Body as Written}
use Rattle.elan_tree.specs.declared.tree.Export.{Export}
use Rattle.elan_tree.specs.declared.tree.Refinement.{Refinement as Refined}
use Rattle.elan_tree.specs.declared.tree.Tree.{Tree}
use Rattle.elan_tree.specs.declared.tree.Level.{Level}
use Rattle.elan_tree.specs.declared.tree.LevelUnit.{LevelUnit}
use Rattle.elan_tree.specs.declared.tree.LevelUnit.TheVariants as level
use Rattle.elan_scope.specs.declared.delivery.Delivery.TheVariants.{Open, Nothing}
use Rattle.elan_names.specs.declared.heading.Sort.{Sort}
use Rattle.elan_names.specs.declared.heading.Sort.TheVariants.{Procedure, Operator}
use Rattle.elan_names.specs.declared.heading.What.TheVariants.{Routine}
use Rattle.elan_names.specs.declared.heading.Heading.{Heading}
use Rattle.elan_scope.specs.declared.scope.Scope.{Scope}
use Rattle.elan_scope.specs.declared.env.Env.{Env}
use Rattle.elan_scope.specs.Shown.{shown_types}
use Rattle.type_names.specs.Bodies as b
use Rattle.type_names.specs.Bodies.{parameters, result, frame}
use Rattle.elan_walk.specs.Operators.{operator_text}
use Rattle.elan_scope.specs.Phrase as form
use Rattle.elan_scope.specs.Phrase.{Plain, plain, Phrase, none, part, all_of, row, leaf}
use Rattle.elan_scope.specs.Ruled.{Ruled, hangs}
use Rattle.elan_scope.specs.Known.{delivered, delivery_at, leads_back}
use Rattle.elan_scope.specs.declared.known.Known.{Known}
use Rattle.elan_check.specs.Below.elan_rules.specs.Rules.{rule, ruled, hangs_on}
use Rattle.elan_judge.specs.Shape as shape
use Rattle.elan_judge.specs.Level as l
use Rattle.elan_check.specs.Below.elan_rules.specs.Meaning.{judged, judged_all}
use Rattle.elan_judge.specs.Refinements.{stated, called_in, known_of}
use Rattle.elan_check.specs.Below.elan_rules.proofs.First.{Faultless, whole, open_one, bind_faultless, before_faultless}
use Rattle.elan_judge.proofs.InScope.{InScope, body_units_in, statement_in}
use Rattle.elan_meant.proofs.Told.{told_never_hangs}
use Rattle.elan_check.specs.Below.call_graph.proofs.Walks.{In, Call, no_walk}
use Rattle.elan_judge.proofs.Settled.{open_last, calls_are}
use Rattle.elan_judge.proofs.Counts.{unit_headings_count, all_headings_count}
use Rattle.elan_judge.proofs.Places.{same_length}
use Rattle.elan_check.proofs.Hanging.{before_both, bind_hangs, before_hangs, IsHeaded, Leaf, leaf_of, body_leaf, clear}
use Rattle.elan_check.proofs.Closed.{ScopeClosed, PacketsClosed, HeadingsClosed, nothing_hangs}
use Rattle.elan_check.proofs.Clean as clean
use Rattle.type_names.proofs.Sound.{Mean}
use Rattle.elan_check.specs.Text.{faults}
use Rattle.elan_scope.specs.Scope.{has_open, is_open_result}
use Rattle.elan_check.specs.Below.value_rules.specs.Calls.{heading_open}
use Rattle.elan_meant.specs.Verdict.{Verdict, told, is_given}
use Rattle.type_names.specs.walks.Headings.{all_headings}
use Rattle.elan_judge.specs.walks.Units.{all_unit_bodies, level_units}

module _ (kn : Known) (s : Scope) where
  -- the units of a body without fault, in their scope
  pub record Spot (n : ℕ) (h : Heading) (p : Phrase) : Type 0 where
    pub scope : Scope
    pub in_scope : InScope scope p
    pub headings : scope.headings ≡ s.headings
    pub stands : stated h.what ≡ Open → scope.refinement ≡ Some n
    pub closed : ScopeClosed scope
    pub faultless : Faultless (judged kn p)

  abbrev pub Spots : ℕ → List Heading → List Phrase → Type 0
  Spots n [] [] = Unit {0}
  Spots n (h ∷ hs) (p ∷ ps) = Spot n h p × Spots (suc n) hs ps
  Spots n [] (p ∷ ps) = ⊥
  Spots n (h ∷ hs) [] = ⊥

  spots_append : (n m : ℕ) (hs gs : List Heading) (ps qs : List Phrase) → m ≡ n + length hs → Spots n hs ps → Spots m gs qs → Spots n (hs ++ gs) (ps ++ qs)
  spots_append n m [] gs [] qs e h k = subst (λ (i : ℕ). Spots i gs qs) (let z : n + 0 ≡ n = omega arith in e ∙ z) k
  spots_append n m (g ∷ hs) gs (p ∷ ps) qs e h k =
      (h.0, spots_append (suc n) m hs gs ps qs (let z : n + suc (length hs) ≡ suc n + length hs = omega arith in e ∙ z) h.1 k)
  spots_append n m [] gs (p ∷ ps) qs e h k = absurd h
  spots_append n m (g ∷ hs) gs [] qs e h k = absurd h

  pub spots_count : (n : ℕ) (hs : List Heading) (ps : List Phrase) → Spots n hs ps → length ps ≡ length hs
  spots_count n [] [] h = refl
  spots_count n (g ∷ hs) (p ∷ ps) h = ap suc (spots_count (suc n) hs ps h.1)
  spots_count n [] (p ∷ ps) h = absurd h
  spots_count n (g ∷ hs) [] h = absurd h

  pub spot_at : (n : ℕ) (hs : List Heading) (ps : List Phrase) (i : ℕ) (h : Heading) → Spots n hs ps → slice_get hs i ≡ Some h
      → (p : Phrase) × (slice_get ps i ≡ Some p) × Spot (n + i) h p
  spot_at n [] ps i h r e = absurd cc
  spot_at n (g ∷ hs) [] i h r e = absurd r
  spot_at n (g ∷ hs) (p ∷ ps) zero h r e =
      let j : g ≡ h = cc in
      let z : n + 0 ≡ n = omega arith in
      (p, refl, subst (λ (m : ℕ). Spot m h p) (sym z) (subst (λ (y : Heading). Spot n y p) j r.0))
  spot_at n (g ∷ hs) (p ∷ ps) (suc i) h r e =
      let k = spot_at (suc n) hs ps i h r.1 e in
      let z : n + suc i ≡ suc n + i = omega arith in
      (k.0, k.1, subst (λ (m : ℕ). Spot m h k.0) (sym z) k.2)

  split : (xs ys : List Phrase) → Faultless (judged_all kn (all_of (xs ++ ys))) → Faultless (judged_all kn (all_of xs)) × Faultless (judged_all kn (all_of ys))
  split [] ys f = (whole_one, f)
    where
      whole_one : Faultless (judged_all kn none)
      whole_one = whole []
  split (x ∷ xs) ys f =
      let g = before_faultless kn (judged kn x) (judged_all kn (all_of (xs ++ ys))) f in
      let h = split xs ys g.1 in
      (before_both (judged kn x) (judged_all kn (all_of xs)) g.0 h.0, h.1)

  -- ---- refinements

  refined_closed : (z : Scope) (k : ℕ) → ScopeClosed z → ScopeClosed (l.refinement_scope z k)
  refined_closed z k c = record { packets = c.packets; level = c.level; routine = c.routine; headings = c.headings; types = c.types }

  refinement_spots : (z : Scope) → ScopeClosed z → (k : ℕ) (home : Option ℕ) (rs : List Refined) → z.headings ≡ s.headings
      → Faultless (judged_all kn (all_of (l.refinements z k rs))) → Spots k (b.refinement_headings home rs) (l.all_refined_units z k rs)
  refinement_spots z cl k home [] hh f = tt
  refinement_spots z cl k home (r ∷ rs) hh f =
      let g = before_faultless kn (judged kn (l.refinement z k r)) (judged_all kn (all_of (l.refinements z (suc k) rs))) f in
      let a =
      bind_faultless kn (judged_all kn (part (l.declares z r.name) (part (l.refined_units z k r) none)))
      (ruled kn 0 (plain (form.refinement (l.owner_of z))))
      g.0 in
      let c = before_faultless kn (judged kn (l.declares z r.name)) (judged_all kn (part (l.refined_units z k r) none)) a in
      let d = before_faultless kn (judged kn (l.refined_units z k r)) (judged_all kn none) c.1 in (
        record {
          scope = l.refinement_scope z k;
          in_scope = body_units_in (l.refinement_scope z k) Open r.units;
          headings = hh;
          stands = λ e. refl;
          closed = refined_closed z k cl;
          faultless = d.0;
        },
        refinement_spots z cl (suc k) home rs hh g.1,
      )

  told_never : (sort : Sort) (o : Option ElanType) (params : List Parameter) (n : ℕ) (z : Scope) → stated (Routine sort params o) ≡ Open → z.refinement ≡ Some n
  told_never sort None params n z e = absurd cc
  told_never sort (Some t) params n z e = absurd cc

  -- ---- what hangs in a level

  -- a phrase in it, in a scope with these headings, hangs
  abbrev HangsIn : Type 0
  HangsIn = (z : Scope) × (p : Phrase) × InScope z p × (z.headings ≡ s.headings) × (judged kn p ≡ hangs) × ScopeClosed z

  abbrev AllLead : List Phrase → Type 0
  AllLead [] = Unit {0}
  AllLead (p ∷ ps) = (judged kn p ≡ hangs → HangsIn) × AllLead ps

  lead_append : (ps qs : List Phrase) → AllLead ps → AllLead qs → AllLead (ps ++ qs)
  lead_append [] qs h k = k
  lead_append (p ∷ ps) qs h k = (h.0, lead_append ps qs h.1 k)

  list_hangs : (ps : List Phrase) → AllLead ps → judged_all kn (all_of ps) ≡ hangs → HangsIn
  list_hangs [] h e = absurd cc
  list_hangs (p ∷ ps) h e =
      elim (before_hangs (judged kn p) (judged_all kn (all_of ps)) e) [
        | inl i ↦ h.0 i
        | inr i ↦ list_hangs ps h.1 i
      ]

  phrase_hangs : (at : ℕ) (f : Plain) (ps : List Phrase) → ((ms : List Meant) → hangs_on at f ms ≡ false) → AllLead ps → judged kn (row at f ps) ≡ hangs → HangsIn
  phrase_hangs at f ps never h e =
      elim (bind_hangs (judged_all kn (all_of ps)) (ruled kn at (plain f)) e) [
        | inl g ↦ list_hangs ps h g
        | inr g ↦ absurd (told_never_hangs (rule at f g.0) (clear (hangs_on at f g.0) (told (rule at f g.0)) (never g.0) g.1))
      ]

  declares_lead : (z : Scope) → ScopeClosed z → (n : Name) → judged kn (l.declares z n) ≡ hangs → HangsIn
  declares_lead z cl n e = phrase_hangs n.at (form.declares z n.text) [] (λ ms. nothing_hangs z cl n.at (form.declares z n.text) refl ms) tt e

  all_declare_lead : (z : Scope) → ScopeClosed z → (ns : List Name) → AllLead (map (l.declares z) ns)
  all_declare_lead z cl [] = tt
  all_declare_lead z cl (n ∷ ns) = (declares_lead z cl n, all_declare_lead z cl ns)

  parameters_lead : (z : Scope) → ScopeClosed z → (fs : List Formal) → AllLead (l.declare_parameters z fs)
  parameters_lead z cl [] = tt
  parameters_lead z cl (f ∷ fs) =
      lead_append (map (l.declares z) f.names) (l.declare_parameters z fs) (all_declare_lead z cl f.names) (parameters_lead z cl fs)

  procedure_lead : ScopeClosed s → (n : Name) (fs : List Formal) → AllLead (l.procedure_name s n fs)
  procedure_lead cl n [] = (declares_lead s cl n, tt)
  procedure_lead cl n (f ∷ fs) = tt

  refinements_lead : (z : Scope) → ScopeClosed z → (k : ℕ) (rs : List Refined) → z.headings ≡ s.headings → AllLead (l.refinements z k rs)
  refinements_lead z cl k [] hh = tt
  refinements_lead z cl k (r ∷ rs) hh = (
    λ e. phrase_hangs 0 (form.refinement (l.owner_of z)) (l.declares z r.name ∷ l.refined_units z k r ∷ []) (λ ms. refl) (
      declares_lead z cl r.name,
      (
        (λ i. (
          l.refinement_scope z k,
          l.refined_units z k r,
          body_units_in (l.refinement_scope z k) Open r.units,
          hh,
          i,
          refined_closed z k cl,
        )),
        tt,
      ),
    ) e,
    refinements_lead z cl (suc k) rs hh,
  )

  -- ---- PROCs and OPs

  -- the types of a heading have meaning, and so have those of the body
  abbrev pub RoutineClosed : ℕ → Option TypePhrase → List Formal → Written → Type 0
  RoutineClosed k t fs w =
      (has_open (parameters s.types fs) ≡ false)
      × (is_open_result (result s.types t) ≡ false)
      × ScopeClosed (b.routine_scope s (b.body_within s.types k fs w))

  module _ (k : ℕ) (at : ℕ) (x : List ℕ) (t : Option TypePhrase) (fs : List Formal) (w : Written) (rc : RoutineClosed k t fs w) where
    abbrev inner : Scope
    inner = l.inner s k at x t fs w

    routine_spots : (sort : Sort) (names : List Phrase) → Faultless (judged kn (l.routine s k at x t fs w sort names))
        → Spots k (b.routine_heading s.types sort at x fs t ∷ b.refinement_headings (Some k) w.refinements) (l.routine_units s k at x t fs w)
    routine_spots sort names f =
        let g =
        bind_faultless kn (judged_all kn (all_of (l.heading_phrases s k at x t fs w sort names ++ l.body_phrases s k at x t fs w)))
        (ruled kn 0 (plain form.routine)) f
        in
        let h = split (l.heading_phrases s k at x t fs w sort names) (l.body_phrases s k at x t fs w) g in
        let a = before_faultless kn (judged kn (l.own_body s k at x t fs w)) (judged_all kn (all_of (l.refinements inner (suc k) w.refinements))) h.1 in
        let c = bind_faultless kn (judged_all kn (part (l.own_units s k at x t fs w) none)) (ruled kn 0 (plain (form.body own_owner (result s.types t)))) a.0 in
        let d = before_faultless kn (judged kn (l.own_units s k at x t fs w)) (judged_all kn none) c in (
          record {
            scope = inner;
            in_scope = body_units_in inner (delivered (result s.types t)) w.units;
            headings = refl;
            stands = told_never sort (result s.types t) (parameters s.types fs) k inner;
            closed = rc.2;
            faultless = d.0;
          },
          refinement_spots inner rc.2 (suc k) (Some k) w.refinements refl a.1,
        )
      where
        own_owner : Owner
        own_owner = frame s.types fs w

    routine_lead : (sort : Sort) (names : List Phrase) → AllLead names → judged kn (l.routine s k at x t fs w sort names) ≡ hangs → HangsIn
    routine_lead sort names h e =
        phrase_hangs 0 form.routine (l.heading_phrases s k at x t fs w sort names ++ l.body_phrases s k at x t fs w) (λ ms. refl)
        (lead_append (l.heading_phrases s k at x t fs w sort names) (l.body_phrases s k at x t fs w)
        (lead_append names (heading_leaf ∷ l.declare_parameters inner fs) h
        ((λ i. phrase_hangs at heading_form [] (λ ms. heading_never (rule at heading_form ms)) tt i), parameters_lead inner rc.2 fs)) (
          (λ i. phrase_hangs 0 body_form (l.own_units s k at x t fs w ∷ []) (λ ms. refl)
              ((λ j. (inner, l.own_units s k at x t fs w, body_units_in inner (delivered (result s.types t)) w.units, refl, j, rc.2)), tt) i),
          refinements_lead inner rc.2 (suc k) w.refinements refl,
        )) e
      where
        heading_form : Plain
        heading_form =
            form.heading s sort x (parameters s.types fs) (result s.types t) (l.is_missing (result s.types t) (l.body_units s k at x t fs w))

        heading_leaf : Phrase
        heading_leaf = leaf at heading_form

        heading_never : (v : Verdict Meant) → heading_open (parameters s.types fs) (result s.types t) v ≡ false
        heading_never v =
            ap (λ (c : Bool). (c || is_open_result (result s.types t)) && is_given v) rc.0 ∙ ap (λ (c : Bool). c && is_given v) rc.1

        body_form : Plain
        body_form = form.body (frame s.types fs w) (result s.types t)

  -- ---- units

  abbrev pub UnitClosed : ℕ → LevelUnit → Type 0
  UnitClosed k (level.Plain v) = Unit {0}
  UnitClosed k (level.Proc at r n fs w) = RoutineClosed k r fs w
  UnitClosed k (level.Op at r n fs w) = RoutineClosed k r fs w
  UnitClosed k (level.NewType at n of) = Unit {0}

  abbrev pub UnitsClosed : ℕ → List LevelUnit → Type 0
  UnitsClosed k [] = Unit {0}
  UnitsClosed k (v ∷ vs) = UnitClosed k v × UnitsClosed (k + b.bodies_in v) vs

  unit_spots : (k : ℕ) (v : LevelUnit) → UnitClosed k v → Faultless (judged kn (l.level_unit s k v))
      → Spots k (b.unit_headings s.types k v) (l.unit_bodies s k v)
  unit_spots k (level.Plain v) c f = tt
  unit_spots k (level.Proc at r n fs w) c f = routine_spots k n.at n.text r fs w c Procedure (l.procedure_name s n fs) f
  unit_spots k (level.Op at r n fs w) c f = routine_spots k n.at (operator_text n.operator) r fs w c Operator [] f
  unit_spots k (level.NewType at n of) c f = tt

  units_spots : (k : ℕ) (vs : List LevelUnit) → UnitsClosed k vs → Faultless (judged_all kn (all_of (level_units s k vs)))
      → Spots k (all_headings s.types k vs) (all_unit_bodies s k vs)
  units_spots k [] c f = tt
  units_spots k (v ∷ vs) c f =
      let g = before_faultless kn (judged kn (l.level_unit s k v)) (judged_all kn (all_of (level_units s (k + b.bodies_in v) vs))) f in
      spots_append k (k + b.bodies_in v) (b.unit_headings s.types k v) (all_headings s.types (k + b.bodies_in v) vs) (l.unit_bodies s k v)
      (all_unit_bodies s (k + b.bodies_in v) vs) (ap (λ (n : ℕ). k + n) (sym (unit_headings_count s.types k v))) (unit_spots k v c.0 g.0)
      (units_spots (k + b.bodies_in v) vs c.1 g.1)

  unit_lead : ScopeClosed s → (k : ℕ) (v : LevelUnit) → UnitClosed k v → judged kn (l.level_unit s k v) ≡ hangs → HangsIn
  unit_lead cl k (level.Plain v) c e = (s, shape.role Nothing (shape.written (shape.unit s v)), statement_in s Nothing v, refl, e, cl)
  unit_lead cl k (level.Proc at r n fs w) c e = routine_lead k n.at n.text r fs w c Procedure (l.procedure_name s n fs) (procedure_lead cl n fs) e
  unit_lead cl k (level.Op at r n fs w) c e = routine_lead k n.at (operator_text n.operator) r fs w c Operator [] tt e
  unit_lead cl k (level.NewType at n of) c e =
      phrase_hangs n.at (form.type_name s n.text) [] (λ ms. nothing_hangs s cl n.at (form.type_name s n.text) refl ms) tt e

  units_lead : ScopeClosed s → (k : ℕ) (vs : List LevelUnit) → UnitsClosed k vs → AllLead (level_units s k vs)
  units_lead cl k [] c = tt
  units_lead cl k (v ∷ vs) c = (unit_lead cl k v c.0, units_lead cl (k + b.bodies_in v) vs c.1)

  -- Nothing that a packet shows hangs.
  exports_lead : (w : Level) (earlier : List (List ℕ)) (es : List Export) → AllLead (l.exports s w earlier es)
  exports_lead w earlier [] = tt
  exports_lead w earlier (x ∷ es) = (
    (λ i. phrase_hangs (l.export_place x)
        (form.exported (list_any (λ y. bytes_eq y (l.export_name x)) earlier) (l.may_show s w (l.export_name x))) [] (λ ms. refl) tt i),
    exports_lead w (earlier ++ l.export_name x ∷ []) es,
  )

  abbrev parts_with : Level → List Export → List Phrase
  parts_with w es = l.exports s w [] es ++ l.level_parts s w

  pub level_lead : (w : Level) (es : List Export) → ScopeClosed s → UnitsClosed 0 w.units → judged kn (row 0 form.level (parts_with w es)) ≡ hangs → HangsIn
  level_lead w es cl c e =
      phrase_hangs 0 form.level (parts_with w es) (λ ms. refl)
      (lead_append (l.exports s w [] es) (l.level_parts s w) (exports_lead w [] es)
      (lead_append (level_units s 0 w.units) (l.refinements s (b.bodies_of_units w.units) w.refinements) (units_lead cl 0 w.units c)
      (refinements_lead s cl (b.bodies_of_units w.units) w.refinements refl))) e

  pub level_spots : (w : Level) (es : List Export) → ScopeClosed s → UnitsClosed 0 w.units → Faultless (judged kn (row 0 form.level (parts_with w es)))
      → Spots 0 (b.headings_in s.types w) (l.level_bodies s w)
  level_spots w es cl c f =
      let g = bind_faultless kn (judged_all kn (all_of (parts_with w es))) (ruled kn 0 (plain form.level)) f in
      let h = split (level_units s 0 w.units) (l.refinements s (b.bodies_of_units w.units) w.refinements) (split (l.exports s w [] es) (l.level_parts s w) g).1 in
      let z : 0 + length (all_headings s.types 0 w.units) ≡ length (all_headings s.types 0 w.units) = omega arith in
      spots_append 0 (b.bodies_of_units w.units) (all_headings s.types 0 w.units) (b.refinement_headings None w.refinements) (all_unit_bodies s 0 w.units)
      (l.all_refined_units s (b.bodies_of_units w.units) w.refinements) (sym (all_headings_count s.types 0 w.units) ∙ sym z) (units_spots 0 w.units c h.0)
      (refinement_spots s cl (b.bodies_of_units w.units) None w.refinements refl h.1)

-- ---- a level

map_length : (ps : List Phrase) → length (map called_in ps) ≡ length ps
map_length [] = refl
map_length (p ∷ ps) = ap suc (map_length ps)

called_at : (ps : List Phrase) (i : ℕ) (p : Phrase) → slice_get ps i ≡ Some p → slice_index_or (map called_in ps) i [] ≡ called_in p
called_at [] i p e = absurd cc
called_at (q ∷ ps) zero p e = let h : q ≡ p = cc in ap called_in h
called_at (q ∷ ps) (suc i) p e = called_at ps i p e

module _ (env : Env) (t : Tree) where
  abbrev w : Level
  w = l.level_in t

  abbrev s : Scope
  s = l.text_scope env t

  abbrev hs : List Heading
  hs = s.headings

  abbrev ps : List Phrase
  ps = l.level_bodies s w

  abbrev kn : Known
  kn = known_of hs ps

  abbrev calls : List (List ℕ)
  calls = kn.calls

  abbrev Goes : ℕ → Type 0
  Goes c = IsHeaded hs c × (delivery_at kn c ≡ Open)

  leaf_goes : (z : Scope) (ns : List ℕ) → z.headings ≡ s.headings → (g : Leaf kn z ns) → Goes g.0
  leaf_goes z ns e g = (subst (λ (gs : List Heading). IsHeaded gs g.0) e g.4, g.2)

  counted : Spots kn s 0 hs ps → length calls ≡ length hs
  counted sp = ap length (calls_are hs ps (length hs)) ∙ map_length ps ∙ spots_count kn s 0 hs ps sp

  step : Spots kn s 0 hs ps → (c : ℕ) → Goes c → Call calls (length calls) Goes c
  step sp c g =
      let h = g.0 in
      let t = spot_at kn s 0 hs ps c h.0 sp h.1 in
      let z : 0 + c ≡ c = omega arith in
      let spot = subst (λ (m : ℕ). Spot kn s m h.0 t.0) z t.2 in
      let f = body_leaf kn spot.scope spot.closed t.0 spot.in_scope spot.faultless (open_last hs ps c h.0 t.0 h.1 t.1 g.1) in
      let back = ap (λ (o : Option ℕ). leads_back kn f.0 o) (sym (spot.stands h.2)) ∙ f.3 in
      record {
        to = f.0;
        called = subst (In f.0) (sym (ap (λ (cs : List (List ℕ)). slice_index_or cs c []) (calls_are hs ps (length hs)) ∙ called_at ps c t.0 t.1)) f.1;
        away = back;
        goes = leaf_goes spot.scope (called_in t.0) spot.headings f;
      }

  small : Spots kn s 0 hs ps → (c : ℕ) → Goes c → (marks : List Bool) → length marks ≡ length calls → (m : Bool) × (slice_get marks c ≡ Some m)
  small sp c g marks e = same_length hs marks c g.0.0 g.0.1 (e ∙ counted sp)

  -- ---- types have meaning

  module _ (packets : PacketsClosed env.inserted) (means : Mean (shown_types env)) (faultless : faults env t ≡ []) where
    abbrev all_clean : clean.AllUnits env.types (shown_types env) means w faultless w.units
    all_clean = clean.all_clean env.types (shown_types env) means w faultless

    refined_headings : (home : Option ℕ) (rs : List Refined) → HeadingsClosed (b.refinement_headings home rs)
    refined_headings home [] = tt
    refined_headings home (r ∷ rs) = (tt, refined_headings home rs)

    headings_append : (gs is : List Heading) → HeadingsClosed gs → HeadingsClosed is → HeadingsClosed (gs ++ is)
    headings_append [] is h k = k
    headings_append (g ∷ gs) is h k = (h.0, headings_append gs is h.1 k)

    routine_headings : (k : ℕ) (r : Option TypePhrase) (fs : List Formal) (v : Written) → clean.RoutineClean env.types (shown_types env) means w faultless r fs v
        → (sort : Sort) (at : ℕ) (x : List ℕ)
        → HeadingsClosed (b.routine_heading s.types sort at x fs r ∷ b.refinement_headings (Some k) v.refinements)
    routine_headings k r fs v c sort at x =
        ((clean.parameters_closed env.types (shown_types env) means w faultless r fs v c, clean.delivers_closed env.types (shown_types env) means w faultless r fs v c), refined_headings (Some k) v.refinements)

    unit_headings : (k : ℕ) (v : LevelUnit) → clean.UnitClean env.types (shown_types env) means w faultless v → HeadingsClosed (b.unit_headings s.types k v)
    unit_headings k (level.Plain u) c = tt
    unit_headings k (level.NewType at n of) c = tt
    unit_headings k (level.Proc at r n fs v) c = routine_headings k r fs v c Procedure n.at n.text
    unit_headings k (level.Op at r n fs v) c = routine_headings k r fs v c Operator n.at (operator_text n.operator)

    units_headings : (k : ℕ) (vs : List LevelUnit) → clean.AllUnits env.types (shown_types env) means w faultless vs → HeadingsClosed (all_headings s.types k vs)
    units_headings k [] c = tt
    units_headings k (v ∷ vs) c =
        headings_append (b.unit_headings s.types k v) (all_headings s.types (k + b.bodies_in v) vs) (unit_headings k v c.0)
        (units_headings (k + b.bodies_in v) vs c.1)

    all_closed : HeadingsClosed hs
    all_closed =
        headings_append (all_headings s.types 0 w.units) (b.refinement_headings None w.refinements)
        (units_headings 0 w.units all_clean) (refined_headings None w.refinements)

    level_is_closed : ScopeClosed s
    level_is_closed = record {
      packets = packets;
      level = clean.level_closed env.types (shown_types env) means w faultless;
      routine = tt;
      headings = all_closed;
      types = clean.level_means env.types (shown_types env) means w faultless;
    }

    routine_closed : (k : ℕ) (r : Option TypePhrase) (fs : List Formal) (v : Written) → clean.RoutineClean env.types (shown_types env) means w faultless r fs v
        → RoutineClosed kn s k r fs v
    routine_closed k r fs v c = (
      clean.parameters_closed env.types (shown_types env) means w faultless r fs v c,
      clean.delivers_closed env.types (shown_types env) means w faultless r fs v c,
      record {
        packets = packets;
        level = clean.level_closed env.types (shown_types env) means w faultless;
        routine = clean.body_closed env.types (shown_types env) means w faultless r fs v c;
        headings = all_closed;
        types = clean.body_means env.types (shown_types env) means w faultless r fs v c;
      },
    )

    unit_is_closed : (k : ℕ) (v : LevelUnit) → clean.UnitClean env.types (shown_types env) means w faultless v → UnitClosed kn s k v
    unit_is_closed k (level.Plain u) c = tt
    unit_is_closed k (level.NewType at n of) c = tt
    unit_is_closed k (level.Proc at r n fs v) c = routine_closed k r fs v c
    unit_is_closed k (level.Op at r n fs v) c = routine_closed k r fs v c

    units_are_closed : (k : ℕ) (vs : List LevelUnit) → clean.AllUnits env.types (shown_types env) means w faultless vs → UnitsClosed kn s k vs
    units_are_closed k [] c = tt
    units_are_closed k (v ∷ vs) c = (unit_is_closed k v c.0, units_are_closed (k + b.bodies_in v) vs c.1)

    pub never_hangs : judged kn (l.text env t) ≡ hangs → ⊥
    never_hangs e =
        let f : Faultless (judged kn (l.text env t)) = subst (λ (q : Ruled Meant). Faultless q) (sym e) open_one in
        let cl = level_is_closed in
        let us = units_are_closed 0 w.units all_clean in
        let sp : Spots kn s 0 hs ps = level_spots kn s w (l.exports_in t) cl us f in
        let h = level_lead kn s w (l.exports_in t) cl us e in
        let g = leaf_of kn h.0 h.5 h.1 h.2 h.4 in
        no_walk calls (length calls) (λ f c. Goes c) (λ f c. step sp c) (λ f c. small sp c) hs (sym (counted sp)) g.0
        (leaf_goes h.0 (called_in h.1) h.3 g)
