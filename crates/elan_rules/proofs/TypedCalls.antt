-- Names, calls and LEAVE have the shapes that they ask for.
-- This file is long since one record, what a scope tells of the bodies, is the premise of all that stands in it.
use Rattle.std.proofs.Common.{◌≡◌, ℕ, Bool, true, false, if◌then◌else◌, ◌||◌, List, [], ◌∷◌, ◌++◌, ◌+◌, suc, length, drop, arith, map, Option, Some, None, refl}
use Rattle.std.proofs.Common.{sym, ap, subst, ◌∙◌}
use Rattle.elan_types.specs.declared.elan_type.ElanType.{ElanType}
use Rattle.elan_types.specs.declared.elan_type.ElanType.TheVariants.{Dataspace}
use Rattle.elan_types.specs.declared.core_phrase.PlacePhrase.{PlacePhrase}
use Rattle.elan_types.specs.declared.core_phrase.ValuePhrase.{ValuePhrase}
use Rattle.elan_types.specs.declared.core_phrase.ValuePhrase.TheVariants as value
use Rattle.elan_types.specs.declared.core_phrase.Action.{Action}
use Rattle.elan_types.specs.declared.core_phrase.Action.TheVariants as action
use Rattle.elan_meant.specs.declared.meant.Meant.{Meant}
use Rattle.elan_scope.specs.declared.scope.Usage.{Usage}
use Rattle.elan_scope.specs.declared.scope.Usage.TheVariants as usage
use Rattle.elan_meant.specs.declared.meant.Meant.TheVariants.{Absent, Variable, Value, Done, Left, Labels, Bodies, Level, Start}
use Rattle.std.specs.Prelude.{slice_get, nat_eq, option_and_then, option_map, option_to_list, ◌==◌, ◌&&◌}
use lib.Seq.{drop-drop}
use Rattle.std.proofs.Common.{append-nil}
use Rattle.std.specs.Str.{bytes_eq}
use Rattle.elan_types.specs.declared.core_phrase.Access.{Access}
use Rattle.elan_types.specs.declared.core_phrase.Access.TheVariants.{Const, Var}
use Rattle.elan_types.specs.declared.elan_type.Parameter.{Parameter}
use Rattle.eu_base.specs.declared.value.Kind.{Kind}
use Rattle.eu_base.specs.declared.value.Kind.TheVariants as kinds
use Rattle.eu_base.specs.declared.shape.Shape.{Shape}
use Rattle.elan_types.specs.Types.{shape_in, formal_of, held_const}
use Rattle.elan_types.specs.declared.core_phrase.Exit.{Exit}
use Rattle.elan_types.specs.declared.core_phrase.Exit.TheVariants as exits
use Rattle.elan_types.specs.declared.core_phrase.Scope.{Scope as Owner}
use Rattle.elan_types.specs.declared.core_phrase.Scope.TheVariants as owner
use Rattle.elan_types.specs.declared.core_phrase.Body.{Body}
use Rattle.elan_types.specs.Typing.{Home as InBody, Typed, Held, OfKind, cells_of, starts, if_true, same_home}
use Rattle.elan_types.specs.Typing.{result_of_content, result_of, scope_of, refines, leaves_without, leaves_with, left_from, around, frame_in}
use Rattle.elan_types.specs.Typing.{owner as owner_in}
use Rattle.elan_types.proofs.Shapes.{same_shape_self}
use Rattle.elan_scope.specs.declared.delivery.Delivery.{Delivery}
use Rattle.elan_scope.specs.declared.delivery.Delivery.TheVariants.{Open, Nothing, Of}
use Rattle.elan_names.specs.declared.entry.Denotes.{Denotes}
use Rattle.elan_names.specs.declared.entry.Denotes.TheVariants as denotes
use Rattle.elan_names.specs.declared.entry.Entry.{Entry}
use Rattle.elan_names.specs.declared.heading.Sort.{Sort}
use Rattle.elan_names.specs.declared.heading.Sort.TheVariants.{Procedure}
use Rattle.elan_names.specs.declared.heading.What.{What}
use Rattle.elan_names.specs.declared.heading.What.TheVariants.{Routine, Refinement}
use Rattle.elan_names.specs.declared.heading.Heading.{Heading}
use Rattle.elan_scope.specs.Scope as scope
use Rattle.std.specs.Option.{option_or}
use Rattle.elan_scope.specs.Scope.{Callable, number_of, held, all_held, types_of, variables_of}
use Rattle.elan_scope.specs.declared.scope.Scope.{Scope}
use Rattle.elan_scope.specs.declared.scope.Within.{Within}
use Rattle.elan_scope.specs.declared.scope.Home.{Home}
use Rattle.elan_scope.specs.Scope.{Found}
use Rattle.elan_scope.specs.declared.scope.Home.TheVariants.{Level as of_level, Routine as of_routine, Packet as of_packet}
use Rattle.elan_scope.specs.Known.{delivery_at, leads_back}
use Rattle.elan_scope.specs.declared.known.Known.{Known}
use Rattle.elan_names.specs.Predefined.{predefined}
use Rattle.elan_scope.proofs.Layers.{called_as, found_as}
use Rattle.elan_scope.specs.walks.Seen.{called_in_packets, found_in_packets, found_around, found_within}
use Rattle.elan_names.specs.declared.interface.Inserted.{Inserted}
use Rattle.elan_names.specs.Interfaces.{exports}
use Rattle.elan_names.proofs.Named.{first_heading_from, and_right}
use Rattle.elan_meant.specs.Operands.{delivers, fit, takes, chosen}
use Rattle.eu_base.specs.Shapes.{cell_kinds}
use Rattle.elan_types.specs.declared.core_phrase.PlacePhrase.TheVariants as place
use Rattle.elan_types.proofs.Sized.{is_sized, is_sized_type, sized_cell, sized_starts}
pub use Rattle.elan_rules.proofs.HeldCells.{IsContent, Sized, AllSized, AllConst, held_cells}
use Rattle.elan_rules.proofs.HeldCells.{HeldAt, found_held, found_sized, held_first, values_at, kinds_at, no_place, place_at, level_cells, starts_first}
use Rattle.elan_rules.proofs.Typed as ty
use Rattle.elan_rules.proofs.Typed.{same_type_is, type_shape, has_self, agree_self, only_if_holds, both, and_true, Gives, MayGive, on_if, on_bind, on_told, on_either}
use Rattle.value_rules.specs.Calls as r
use Rattle.value_rules.specs.Values.{denoter}
use Rattle.elan_rules.proofs.TypedUnits.{denoter_good}
use Rattle.value_rules.specs.walks.Steps as walk
use Rattle.elan_rules.proofs.TypeEquations.{Stand, typed, cells, frame, variable_is, packet_is, local_is, parameter_is, content_is, refer_is, action_refer_is, leave_is, leave_with_is}
use Rattle.std.proofs.lemmas.Bool.Decides.{Decides-eqb}
use Rattle.elan_rules.proofs.TypedPerformed.{owner_with, behind, Headed, Delivering, BodyFits, Fitting, MayCall, none_holds, has_holds, own_calls, predefined_calls}
use Rattle.elan_rules.proofs.TypedPerformed.{first_calls, else_calls, called_good, predefined_performs}
use Rattle.eu_base.specs.declared.request.RequestName.TheVariants as requests
use Rattle.elan_names.specs.declared.predefined.Predefined.TheVariants.{Request}
use Rattle.elan_meant.specs.Parts as p

-- ---- look-ups

heading_at : (k : ℕ) (test : Heading → Bool) (hs : List Heading) (b : ℕ × Heading) → first_heading_from k test hs ≡ Some b
    → (i : ℕ) × (b.0 ≡ k + i) × (slice_get hs i ≡ Some b.1) × (test b.1 ≡ true)
heading_at k test [] b e = absurd cc
heading_at k test (h ∷ hs) b e = by_test (heading_at (k + 1) test hs b) (test h) refl e
  where
    by_test : (first_heading_from (k + 1) test hs ≡ Some b → (i : ℕ) × (b.0 ≡ k + 1 + i) × (slice_get hs i ≡ Some b.1) × (test b.1 ≡ true)) → (c : Bool)
        → test h ≡ c → (if c then Some (k, h) else first_heading_from (k + 1) test hs) ≡ Some b
        → (i : ℕ) × (b.0 ≡ k + i) × (slice_get (h ∷ hs) i ≡ Some b.1) × (test b.1 ≡ true)
    by_test rest true t g =
        let j : (k, h) ≡ b = cc in (
          0,
          (let i : b.0 ≡ k = sym (ap (λ (q : ℕ × Heading). q.0) j) in omega arith),
          ap (λ (q : ℕ × Heading). Some q.1) j,
          subst (λ (q : ℕ × Heading). test q.1 ≡ true) j t,
        )
    by_test rest false t g = let j = rest g in (suc j.0, (let i = j.1 in omega arith), j.2, j.3)

pub first_at : (test : Heading → Bool) (hs : List Heading) (b : ℕ × Heading) → scope.first_heading test hs ≡ Some b
    → (slice_get hs b.0 ≡ Some b.1) × (test b.1 ≡ true)
first_at test hs b e =
    let h = heading_at 0 test hs b e in
    let i : b.0 ≡ h.0 = (let j = h.1 in omega arith) in
    (subst (λ (n : ℕ). slice_get hs n ≡ Some b.1) (sym i) h.2, h.3)

-- ---- bodies as their headings tell

abbrev pub FrameIs : List Held → Option Within → Type 0
FrameIs hs None = Unit {0}
FrameIs hs (Some v) = hs ≡ held_cells v.names

abbrev pub WithinSized : Option Within → Type 0
WithinSized None = Unit {0}
WithinSized (Some v) = AllSized v.names

-- the cells that are held somewhere
abbrev pub home_cells : Stand → Home → List Held
home_cells here of_level = map OfKind here.outside.variables
home_cells here (of_packet before) = map OfKind (drop before here.outside.packets)
home_cells here of_routine = frame here

-- These declarations are held there first.
abbrev pub HeldThere : Stand → Home → List Entry → Type 0
HeldThere here home es = (rest : List Held) × (home_cells here home ≡ held_cells es ++ rest)

-- The bodies and variables of a packet are those that it shows.
pub record PacketFits (here : Stand) (p : Inserted) : Type 0 where
  pub held : HeldThere here (of_packet p.cells_before) p.interface.names
  pub sized : AllSized p.interface.names
  pub bodies : Fitting here p.bodies_before p.bodies_before p.interface.headings

abbrev pub AllFit : Stand → List Inserted → Type 0
AllFit here [] = Unit {0}
AllFit here (p ∷ ps) = PacketFits here p × AllFit here ps

-- The bodies are those that a scope tells of.
pub record Fits (here : Stand) (s : Scope) (k : Known) : Type 0 where
  pub packets : AllFit here s.packets
  -- what the level and the routine hold
  pub level : HeldThere here s.home s.level
  pub sized : AllSized s.level
  pub frame_sized : WithinSized s.routine
  pub frame : FrameIs (frame_in here.bodies (owner_in here.bodies here.home)) s.routine
  pub owner_is : owner_in here.bodies here.home ≡ behind s.bodies_before (number_of s.routine)
  pub home_is : here.home ≡ behind s.bodies_before (option_or s.refinement (number_of s.routine))
  pub part_of : (r q : ℕ) → s.refinement ≡ Some r → number_of s.routine ≡ Some q
      → scope_of (slice_get here.bodies (s.bodies_before + r)) ≡ Some (owner.Of (s.bodies_before + q))
  pub bodies : (n : ℕ) (h : Heading) → slice_get s.headings n ≡ Some h
      → BodyFits s.bodies_before (slice_get here.bodies (s.bodies_before + n)) h (delivery_at k n)

same_behind : (b n m : ℕ) → (n == m) ≡ true → (b + n == b + m) ≡ true
same_behind b n m e = ap (λ (k : ℕ). b + n == b + k) (sym ((Decides-eqb n m).0 e)) ∙ (Decides-eqb (b + n) (b + n)).1 refl

module _ (here : Stand) where
  abbrev Has : Shape → ValuePhrase → Type 0
  Has = ty.Has here

  abbrev AllTyped : List Action → Type 0
  AllTyped = ty.AllTyped here

  abbrev Good : Meant → Type 0
  Good = ty.Good here

  abbrev AllGood : List Meant → Type 0
  AllGood = ty.AllGood here

  -- ---- what stands at places

  -- The cells of what is held begin at this number.
  abbrev AtHome : Home → ℕ → Parameter → Type 0
  AtHome home n q = (rest : List Held) × (drop n (home_cells here home) ≡ cells_of (formal_of q) ++ rest)

  abbrev Stays : Shape → PlacePhrase → Type 0
  Stays = ty.Lies here

  lies_by : (s : Shape) (x : PlacePhrase) (ks : List Kind) → cells here x ≡ cell_kinds s ++ ks → is_sized s ≡ true → Stays s x
  lies_by s x ks e z = (ap (starts (cell_kinds s)) e ∙ starts_first s ks z, z)

  place_lies : (home : Home) (n : ℕ) (t : ElanType) (a : Access) → AtHome home n (record { of = t; access = a }) → is_sized_type t ≡ true
      → Stays (shape_in t) (r.place_in home n a)
  place_lies of_level n t Const h z =
      lies_by (shape_in t) (place.Variable n) _ (variable_is here n ∙ kinds_at (cell_kinds (shape_in t)) here.outside.variables h.0 n h.1) z
  place_lies of_level n t Var h z = absurd (no_place (cell_kinds (shape_in t)) here.outside.variables h.0 n h.1)
  place_lies (of_packet b) n t Const h z =
      lies_by (shape_in t) (place.Packet (b + n)) _
      (packet_is here (b + n) ∙ sym (drop-drop n b here.outside.packets)
      ∙ kinds_at (cell_kinds (shape_in t)) (drop b here.outside.packets) h.0 n h.1) z
  place_lies (of_packet b) n t Var h z = absurd (no_place (cell_kinds (shape_in t)) (drop b here.outside.packets) h.0 n h.1)
  place_lies of_routine n t Const h z =
      lies_by (shape_in t) (place.Local n) _ (local_is here n ∙ values_at (cell_kinds (shape_in t)) (frame here) h.0 n h.1) z
  place_lies of_routine n t Var h z =
      lies_by (shape_in t) (place.Parameter n) [] (parameter_is here n ∙ place_at (cell_kinds (shape_in t)) (frame here) h.0 n h.1) z

  constant_good : (at : ℕ) (t : ElanType) (x : PlacePhrase) → Stays (shape_in t) x → Good (r.constant at t x)
  constant_good at t x h = ty.load_typed here (shape_in t) x h.0

  parameter_good : (at : ℕ) (t : ElanType) (a : Access) (x : PlacePhrase) → Stays (shape_in t) x → Good (r.parameter at t a x)
  parameter_good at t Const x h = constant_good at t x h
  parameter_good at t Var x h = h

  -- a BOUND variable, and the content of its data space
  space_sized : is_sized_type Dataspace ≡ true
  space_sized = ap is_sized (type_shape kinds.Space) ∙ sized_cell kinds.Space

  bound_good : (at : ℕ) (t : ElanType) (x : PlacePhrase) → Stays (shape_in Dataspace) x → IsContent t → Good (r.bound at t x)
  bound_good at t x h c =
      let s = shape_in t in
      let there = ty.cell_there here kinds.Space x (subst (λ (z : Shape). ty.Stands here z x) (type_shape kinds.Space) h.0) in
      let open_is = content_is here x s ∙ ap (λ (b : Bool). if_true b (cell_kinds s)) (and_true _ _ there c.1) in
      (ap (starts (cell_kinds s)) open_is ∙ sized_starts s c.0, c.0)

  module _ (s : Scope) (k : Known) (fits : Fits here s k) where
    -- What is held under a name stands there, each part of it in a cell.
    abbrev Lies : Home → ℕ → Denotes → Type 0
    Lies home n (denotes.Variable t) = AtHome home n (held_const t) × (is_sized_type t ≡ true)
    Lies home n (denotes.Constant t) = AtHome home n (held_const t) × (is_sized_type t ≡ true)
    Lies home n (denotes.Bound t) = AtHome home n (held_const Dataspace) × IsContent t
    Lies home n (denotes.Parameter q) = AtHome home n q × (is_sized_type q.of ≡ true)
    Lies home n denotes.Procedure = Unit {0}
    Lies home n denotes.Refinement = Unit {0}
    Lies home n (denotes.Denoter d) = Unit {0}

    held_lies : (home : Home) (n : ℕ) (d : Denotes) → HeldAt (held d) (home_cells here home) n → Sized d → Lies home n d
    held_lies home n (denotes.Variable t) h z = (held_first (held_const t) [] (home_cells here home) n h, z)
    held_lies home n (denotes.Constant t) h z = (held_first (held_const t) [] (home_cells here home) n h, z)
    held_lies home n (denotes.Bound t) h z = (held_first (held_const Dataspace) [] (home_cells here home) n h, z)
    held_lies home n (denotes.Parameter q) h z = (held_first q [] (home_cells here home) n h, z)
    held_lies home n denotes.Procedure h z = tt
    held_lies home n denotes.Refinement h z = tt
    held_lies home n (denotes.Denoter d) h z = tt

    entry_lies : (home : Home) (es : List Entry) (f : ℕ × Entry) (x : List ℕ) → HeldThere here home es → AllSized es
        → scope.first_named es x ≡ Some f → Lies home f.0 f.1.denotes
    entry_lies home es f x h z e =
        held_lies home f.0 f.1.denotes
        (subst (λ (hs : List Held). HeldAt (held f.1.denotes) hs f.0) (sym h.1) (found_held h.0 es x f e))
        (found_sized es x f z e)

    abbrev FoundLies : Option Found → Type 0
    FoundLies None = Unit {0}
    FoundLies (Some f) = Lies f.home f.number f.denotes

    names_lie : (home : Home) (es : List Entry) (o : Option (ℕ × Entry)) (x : List ℕ) → HeldThere here home es → AllSized es
        → scope.first_named es x ≡ o → FoundLies (scope.found_in home o)
    names_lie home es None x h z e = tt
    names_lie home es (Some f) x h z e = entry_lies home es f x h z e

    level_lies : (x : List ℕ) → FoundLies (scope.found_in s.home (scope.first_named s.level x))
    level_lies x = names_lie s.home s.level (scope.first_named s.level x) x fits.level fits.sized refl

    inside_lies : (o : Option Found) → FoundLies o → FoundLies (scope.from_inside o)
    inside_lies None h = tt
    inside_lies (Some f) h = by_test (scope.is_refinement f.denotes)
      where
        by_test : (b : Bool) → FoundLies (if b then None else Some f)
        by_test true = tt
        by_test false = h

    else_lies : (o q : Option Found) → FoundLies o → FoundLies q → FoundLies (option_or o q)
    else_lies None q h i = i
    else_lies (Some f) q h i = h

    seen_lies : (b : Bool) (o : Option Found) → FoundLies o → FoundLies (if b then o else None)
    seen_lies true o h = h
    seen_lies false o h = tt

    packets_lie : (x : List ℕ) (ps : List Inserted) → AllFit here ps → FoundLies (found_in_packets x ps)
    packets_lie x [] h = tt
    packets_lie x (p ∷ ps) h =
        let o = scope.found_in (of_packet p.cells_before) (scope.first_named p.interface.names x) in
        let shown = if exports p.interface x then o else None in
        else_lies (scope.from_inside shown) (found_in_packets x ps)
        (inside_lies shown (seen_lies (exports p.interface x) o
        (names_lie (of_packet p.cells_before) p.interface.names (scope.first_named p.interface.names x) x h.0.held h.0.sized refl)))
        (packets_lie x ps h.1)

    within_lies : (v : Option Within) (x : List ℕ) → FrameIs (frame here) v → WithinSized v → FoundLies (found_around x v s)
    within_lies None x h z = level_lies x
    within_lies (Some v) x h z =
        else_lies (scope.found_in of_routine (scope.first_named v.names x))
        (scope.from_inside (scope.found_in s.home (scope.first_named s.level x)))
        (names_lie of_routine v.names (scope.first_named v.names x) x ([], h ∙ sym (append-nil (held_cells v.names))) z refl)
        (inside_lies (scope.found_in s.home (scope.first_named s.level x)) (level_lies x))

    find_lies : (x : List ℕ) → FoundLies (scope.find s x)
    find_lies x =
        subst FoundLies (sym (found_as x s))
        (else_lies (found_within x s) (found_in_packets x s.packets) (within_lies s.routine x fits.frame fits.frame_sized) (packets_lie x s.packets fits.packets))

    abbrev layers_with : Option Within → List scope.Layer
    layers_with v = option_to_list (option_map scope.routine_layer v) ++ scope.level_layer s ∷ (map scope.packet_layer s.packets ++ scope.predefined_layer ∷ [])

    own_lies_from : (v : Option Within) (x : List ℕ) → FrameIs (frame here) v → WithinSized v
        → FoundLies (option_and_then (scope.found x) (slice_get (layers_with v) 0))
    own_lies_from None x h z = level_lies x
    own_lies_from (Some v) x h z =
        names_lie of_routine v.names (scope.first_named v.names x) x ([], h ∙ sym (append-nil (held_cells v.names))) z refl

    -- ---- what is called

    headings_fit : Fitting here s.bodies_before s.bodies_before s.headings
    headings_fit i h e = (delivery_at k i, fits.bodies i h e)

    module _ (test : Callable → Bool) where
      -- what is seen of some, which may be called
      seen_calls : (sees : List ℕ → Bool) (cs : List Callable) → MayCall here (λ c. sees c.name && test c) (scope.first (λ c. sees c.name && test c) cs)
          → MayCall here test (scope.first (λ c. sees c.name && test c) cs)
      seen_calls sees cs h = by_found (scope.first (λ c. sees c.name && test c) cs) h
        where
          by_found : (o : Option Callable) → MayCall here (λ c. sees c.name && test c) o → MayCall here test o
          by_found None i = tt
          by_found (Some c) i = (i.0, and_right (sees c.name) (test c) i.1)

      packets_call : (ps : List Inserted) → AllFit here ps → MayCall here test (called_in_packets test ps)
      packets_call [] h = tt
      packets_call (p ∷ ps) h =
          let cs = scope.own_callables p.bodies_before p.interface.headings in
          let seen = λ (c : Callable). exports p.interface c.name && test c in
          else_calls here test (scope.first seen cs) (called_in_packets test ps)
          (seen_calls (exports p.interface) cs
          (first_calls here seen cs (own_calls here p.bodies_before p.bodies_before p.interface.headings h.0.bodies)))
          (packets_call ps h.1)

    chosen_good : (sort : Sort) (x : List ℕ) (ms : List Meant) → MayCall here (takes sort x ms) (chosen s sort x ms)
    chosen_good sort x ms =
        let test = takes sort x ms in
        subst (MayCall here test) (sym (called_as test s))
        (else_calls here test (scope.first test (scope.own_callables s.bodies_before s.headings))
        (option_or (called_in_packets test s.packets) (scope.first test (map scope.predefined_callable predefined)))
        (first_calls here test (scope.own_callables s.bodies_before s.headings) (own_calls here s.bodies_before s.bodies_before s.headings headings_fit))
        (else_calls here test (called_in_packets test s.packets) (scope.first test (map scope.predefined_callable predefined))
        (packets_call test s.packets fits.packets)
        (first_calls here test (map scope.predefined_callable predefined) (predefined_calls here predefined))))

    applied_as_good : (at : ℕ) (known : Bool) (sort : Sort) (x : List ℕ) (ms : List Meant) (o : Option Callable) → MayCall here (takes sort x ms) o
        → AllGood ms → Gives Good (r.applied_as at known ms o)
    applied_as_good at known sort x ms (Some c) h g = called_good here at c ms h.0 g (both _ _ h.1).1
    applied_as_good at known sort x ms None h g = on_if Good known _ _ (λ e. tt) (λ e. tt)

    -- `begin` is as every request
    begun_good : (at n : ℕ) (ms : List Meant) → AllGood ms → Gives Good (r.begun at n ms)
    begun_good at n ms g =
        on_if Good (fit (r.begins n).parameters ms) _ _ (λ e. called_good here at (r.begins n) ms (predefined_performs here (Request (requests.Begin n))) g e)
        (λ e. tt)

    pub applied_good : (at : ℕ) (sort : Sort) (x : List ℕ) (ms : List Meant) → AllGood ms → Gives Good (r.applied at s sort x ms)
    applied_good at sort x ms g = by_start (r.start_among ms)
      where
        by_start : (o : Option ℕ) → Gives Good (r.applied_or at s sort x ms o)
        by_start (Some n) = begun_good at n (p.nth ms 0 ∷ p.nth ms 2 ∷ []) (ty.nth_good here ms 0 g, (ty.nth_good here ms 2 g, tt))
        by_start None =
            applied_as_good at (r.is_begin sort x (length ms) || scope.is_known s sort x (length ms)) sort x ms (chosen s sort x ms) (chosen_good sort x ms) g

    -- a start procedure is no phrase that has a shape
    pub start_named_good : (at : ℕ) (x : List ℕ) → Gives Good (r.start_named at s x)
    start_named_good at x = by_number (r.start_of s x)
      where
        by_number : (o : Option ℕ) → Gives Good (r.start_as at (r.is_name_known s x) o)
        by_number (Some n) = tt
        by_number None = on_if Good (r.is_name_known s x) _ _ (λ e. tt) (λ e. tt)

    -- ---- refinements

    refines_same : (o q : Option ℕ) → same_home o q ≡ true → refines (behind s.bodies_before o) (Some (owner_with (behind s.bodies_before q))) ≡ true
    refines_same None None e = refl
    refines_same None (Some n) e = absurd cc
    refines_same (Some n) None e = absurd cc
    refines_same (Some n) (Some m) e = same_behind s.bodies_before n m e

    refined_owner : (w : What) (b : Body) → scope.is_refinement_of (number_of s.routine) w ≡ true → Headed s.bodies_before w b
        → refines (behind s.bodies_before (number_of s.routine)) (Some b.scope) ≡ true
    refined_owner (Routine sort ps o) b e h = absurd cc
    refined_owner (Refinement home) b e h = ap (λ (z : Owner). refines (behind s.bodies_before (number_of s.routine)) (Some z)) h ∙ refines_same (number_of s.routine) home e

    refines_holds : (n : ℕ) (b : Body) → slice_get here.bodies n ≡ Some b → refines (behind s.bodies_before (number_of s.routine)) (Some b.scope) ≡ true
        → refines (owner_in here.bodies here.home) (scope_of (slice_get here.bodies n)) ≡ true
    refines_holds n b e h =
        ap (λ (o : Option ℕ). refines o (scope_of (slice_get here.bodies n))) fits.owner_is
        ∙ ap (λ (c : Option Body). refines (behind s.bodies_before (number_of s.routine)) (scope_of c)) e ∙ h

    referred_good : (at n : ℕ) (b : Body) (d : Delivery) → slice_get here.bodies n ≡ Some b → refines (behind s.bodies_before (number_of s.routine)) (Some b.scope) ≡ true
        → Delivering d b → MayGive Good (r.referred at n d)
    referred_good at n b Open e o h = tt
    referred_good at n b Nothing e o h =
        ty.single_typed here (action.Refer n) (action_refer_is here n ∙ and_true _ _ (refines_holds n b e o) (none_holds here n b e h))
    referred_good at n b (Of t) e o h =
        let z = shape_in t in refer_is here n z ∙ only_if_holds _ _ z (and_true _ _ (refines_holds n b e o) (has_holds here n b z e h)) refl

    -- a name that denotes a refinement has one of the scope
    abbrev IsRefined : Option ℕ → Type 0
    IsRefined None = Unit {0}
    IsRefined (Some n) = (h : Heading) × (slice_get s.headings n ≡ Some h) × (scope.is_refinement_of (number_of s.routine) h.what ≡ true)

    number_refined : (x : List ℕ) (o : Option (ℕ × Heading)) → scope.first_heading (scope.is_refined (number_of s.routine) x) s.headings ≡ o
        → IsRefined (scope.number_in o)
    number_refined x None e = tt
    number_refined x (Some b) e = let h = first_at (scope.is_refined (number_of s.routine) x) s.headings b e in (b.1, h.0, (both _ _ h.1).1)

    in_refined : (x : List ℕ) (o : Option Found) → IsRefined (scope.refinement_in s x o)
    in_refined x None = tt
    in_refined x (Some f) = by_test (scope.is_refinement f.denotes)
      where
        by_test : (b : Bool) → IsRefined (if b then scope.number_in (scope.first_heading (scope.is_refined (number_of s.routine) x) s.headings) else None)
        by_test true = number_refined x (scope.first_heading (scope.is_refined (number_of s.routine) x) s.headings) refl
        by_test false = tt

    refined_good : (at : ℕ) (o : Option ℕ) → IsRefined o → MayGive Good (r.refined k at s o)
    refined_good at None h = tt
    refined_good at (Some n) h =
        let f = fits.bodies n h.0 h.1 in
        on_either Good (leads_back k n s.refinement) _ _ tt
        (referred_good at (s.bodies_before + n) f.body (delivery_at k n) f.is (refined_owner h.0.what f.body h.2 f.headed) f.delivers)

    used_good : (u : Usage) (at : ℕ) (o : Option ℕ) → IsRefined o → MayGive Good (r.refined_as k u at s o)
    used_good usage.Expression at o h = refined_good at o h
    used_good usage.Counter at o h = tt

    -- ---- identifiers

    denoted_good : (u : Usage) (at : ℕ) (x : List ℕ) (home : Home) (n : ℕ) (d : Denotes) → Lies home n d → MayGive Good (r.denoted k u at s x home n d)
    denoted_good u at x home n (denotes.Variable t) h = place_lies home n t Const h.0 h.1
    denoted_good u at x home n (denotes.Constant t) h = constant_good at t (r.place_in home n Const) (place_lies home n t Const h.0 h.1)
    denoted_good u at x home n (denotes.Bound t) h = bound_good at t (r.place_in home n Const) (place_lies home n Dataspace Const h.0 space_sized) h.1
    denoted_good u at x home n (denotes.Parameter q) h = parameter_good at q.of q.access (r.place_in home n q.access) (place_lies home n q.of q.access h.0 h.1)
    denoted_good u at x home n denotes.Procedure h = on_told Good (r.applied at s Procedure x []) (applied_good at Procedure x [] tt)
    denoted_good u at x home n denotes.Refinement h = used_good u at (scope.refinement_named s x) (in_refined x (scope.find s x))
    denoted_good u at x home n (denotes.Denoter q) h = on_told Good (denoter at q) (denoter_good here at q)

    named_as_good : (u : Usage) (at : ℕ) (x : List ℕ) (o : Option Found) → FoundLies o → MayGive Good (r.named k u at s x o)
    named_as_good u at x None h = on_told Good (r.applied at s Procedure x []) (applied_good at Procedure x [] tt)
    named_as_good u at x (Some f) h = denoted_good u at x f.home f.number f.denotes h

    pub named_good : (u : Usage) (at : ℕ) (x : List ℕ) → MayGive Good (r.named k u at s x (scope.find s x))
    named_good u at x = named_as_good u at x (scope.find s x) (find_lies x)

    declared_as_good : (at : ℕ) (home : Home) (n : ℕ) (d : Denotes) → Lies home n d → Good (r.declared_as at home n d)
    declared_as_good at home n (denotes.Variable t) h = place_lies home n t Const h.0 h.1
    declared_as_good at home n (denotes.Constant t) h = place_lies home n t Const h.0 h.1
    declared_as_good at home n (denotes.Bound t) h = bound_good at t (r.place_in home n Const) (place_lies home n Dataspace Const h.0 space_sized) h.1
    declared_as_good at home n (denotes.Parameter q) h = refl
    declared_as_good at home n denotes.Procedure h = refl
    declared_as_good at home n denotes.Refinement h = refl
    declared_as_good at home n (denotes.Denoter q) h = refl

    declared_in_good : (at : ℕ) (o : Option Found) → FoundLies o → Gives Good (r.declared at o)
    declared_in_good at None h = tt
    declared_in_good at (Some f) h = on_if Good (nat_eq f.at at) _ _ (λ e. declared_as_good at f.home f.number f.denotes h) (λ e. tt)

    pub declared_good : (at : ℕ) (x : List ℕ) → Gives Good (r.declared at (scope.find_own s x))
    declared_good at x = declared_in_good at (scope.find_own s x) (own_lies_from s.routine x fits.frame fits.frame_sized)

    -- ---- LEAVE

    abbrev Leaves : Option (Exit × ℕ) → Type 0
    Leaves None = Unit {0}
    Leaves (Some e) = (h : Heading) × (slice_get s.headings e.1 ≡ Some h) × (left_from here.bodies e.0 here.home ≡ result_of (slice_get here.bodies (s.bodies_before + e.1)))

    named_heading : (o : Option ℕ) (x : List ℕ) (n : ℕ) → scope.body_named s.headings o x ≡ Some n
        → (h : Heading) × (slice_get s.headings n ≡ Some h) × (o ≡ Some n)
    named_heading None x n e = absurd cc
    named_heading (Some m) x n e = by_heading (slice_get s.headings m) refl e
      where
        by_heading : (q : Option Heading) → slice_get s.headings m ≡ q → (if scope.is_named x q then Some m else None) ≡ Some n
            → (h : Heading) × (slice_get s.headings n ≡ Some h) × (Some m ≡ Some n)
        by_heading None i j = absurd cc
        by_heading (Some h) i j = by_test (bytes_eq h.name x) j
          where
            by_test : (b : Bool) → (if b then Some m else None) ≡ Some n → (h : Heading) × (slice_get s.headings n ≡ Some h) × (Some m ≡ Some n)
            by_test true c = let d : m ≡ n = cc in (h, subst (λ (l : ℕ). slice_get s.headings l ≡ Some h) d i, c)
            by_test false c = absurd cc

    body_left : (o : Option ℕ) (x : List ℕ) (q : Option ℕ) → scope.body_named s.headings o x ≡ q → ((n : ℕ) → o ≡ Some n → here.home ≡ Some (s.bodies_before + n))
        → Leaves (scope.left_by exits.Body q)
    body_left o x None e i = tt
    body_left o x (Some n) e i =
        let h = named_heading o x n e in
        (h.0, h.1, ap (λ (z : InBody). left_from here.bodies exits.Body z) (i n h.2))

    around_left : (n m : ℕ) → here.home ≡ Some m → scope_of (slice_get here.bodies m) ≡ Some (owner.Of n)
        → left_from here.bodies exits.Around here.home ≡ result_of (slice_get here.bodies n)
    around_left n m e o = ap (λ (z : InBody). left_from here.bodies exits.Around z) e ∙ ap (around here.bodies) o

    routine_left : (z : Option ℕ) (x : List ℕ) (q : Option ℕ) → s.refinement ≡ z → scope.body_named s.headings (number_of s.routine) x ≡ q
        → Leaves (scope.left_by (scope.exit_from z) q)
    routine_left z x None i e = tt
    routine_left None x (Some n) i e =
        let h = named_heading (number_of s.routine) x n e in
        (h.0, h.1, ap (λ (y : InBody). left_from here.bodies exits.Body y) (fits.home_is ∙ ap (λ (y : Option ℕ). behind s.bodies_before (option_or y (number_of s.routine))) i ∙ ap (behind s.bodies_before) h.2))
    routine_left (Some m) x (Some n) i e =
        let h = named_heading (number_of s.routine) x n e in
        (h.0, h.1, around_left (s.bodies_before + n) (s.bodies_before + m) (fits.home_is ∙ ap (λ (y : Option ℕ). behind s.bodies_before (option_or y (number_of s.routine))) i) (fits.part_of m n i h.2))

    refinement_home : (n : ℕ) → s.refinement ≡ Some n → here.home ≡ Some (s.bodies_before + n)
    refinement_home n e = fits.home_is ∙ ap (λ (y : Option ℕ). behind s.bodies_before (option_or y (number_of s.routine))) e

    else_leaves : (o q : Option (Exit × ℕ)) → Leaves o → Leaves q → Leaves (option_or o q)
    else_leaves None q h i = i
    else_leaves (Some e) q h i = h

    left_leaves : (x : List ℕ) → Leaves (scope.left s x)
    left_leaves x =
        else_leaves (scope.left_by exits.Body (scope.body_named s.headings s.refinement x))
        (scope.left_by (scope.exit_from s.refinement) (scope.body_named s.headings (number_of s.routine) x))
        (body_left s.refinement x (scope.body_named s.headings s.refinement x) refl refinement_home)
        (routine_left s.refinement x (scope.body_named s.headings (number_of s.routine) x) refl refl)

    left_result : (e : Exit) (n : ℕ) (b : Body) (o : Typed) → left_from here.bodies e here.home ≡ result_of (slice_get here.bodies n)
        → slice_get here.bodies n ≡ Some b → result_of_content b.content ≡ o → left_from here.bodies e here.home ≡ Some o
    left_result e n b o h i j = h ∙ ap result_of i ∙ ap (λ (a : Typed). Some a) j

    leave_typed : (e : Exit) → left_from here.bodies e here.home ≡ Some None → typed here (action.Leave e) ≡ true
    leave_typed e h = leave_is here e ∙ ap leaves_without h

    leave_with_typed : (e : Exit) (z : Shape) (v : ValuePhrase) → left_from here.bodies e here.home ≡ Some (Some z) → Has z v
        → typed here (action.LeaveWith e z v) ≡ true
    leave_with_typed e z v h g = leave_with_is here e z v ∙ and_true _ _ (has_self z _ g) (ap (leaves_with z) h ∙ same_shape_self z)

    delivered_leave : (e : Exit) (t : ElanType) (m : Meant) → left_from here.bodies e here.home ≡ Some (Some (shape_in t)) → Good m → delivers t m ≡ true
        → typed here (walk.leave_of e m) ≡ true
    delivered_leave e t Absent h g d = absurd cc
    delivered_leave e t (Variable at u x) h g d =
        let z = shape_in u in
        leave_with_typed e z (value.Load x z) (h ∙ ap (λ (w : ElanType). Some (Some (shape_in w))) (same_type_is t u d)) (ty.load_typed here z x g.0)
    delivered_leave e t (Value at u v) h g d = leave_with_typed e (shape_in u) v (h ∙ ap (λ (w : ElanType). Some (Some (shape_in w))) (same_type_is t u d)) g
    delivered_leave e t (Done as') h g d = absurd cc
    delivered_leave e t (Left as') h g d = absurd cc
    delivered_leave e t (Labels ns) h g d = absurd cc
    delivered_leave e t (Start k) h g d = absurd cc
    delivered_leave e t (Bodies bs) h g d = absurd cc
    delivered_leave e t (Level us bs) h g d = absurd cc

    leave_of_typed : (e : Exit) (n : ℕ) (b : Body) (d : Delivery) (m : Meant) → left_from here.bodies e here.home ≡ result_of (slice_get here.bodies n)
        → slice_get here.bodies n ≡ Some b → Delivering d b → Good m → r.agrees d m ≡ true → typed here (walk.leave_of e m) ≡ true
    leave_of_typed e n b Open m h i j g a = absurd j
    leave_of_typed e n b Nothing Absent h i j g a = leave_typed e (left_result e n b None h i j)
    leave_of_typed e n b Nothing (Variable at u x) h i j g a = absurd cc
    leave_of_typed e n b Nothing (Value at u v) h i j g a = absurd cc
    leave_of_typed e n b Nothing (Done as') h i j g a = absurd cc
    leave_of_typed e n b Nothing (Left as') h i j g a = absurd cc
    leave_of_typed e n b Nothing (Labels ns) h i j g a = absurd cc
    leave_of_typed e n b Nothing (Start k) h i j g a = absurd cc
    leave_of_typed e n b Nothing (Bodies bs) h i j g a = absurd cc
    leave_of_typed e n b Nothing (Level us bs) h i j g a = absurd cc
    leave_of_typed e n b (Of t) m h i j g a = delivered_leave e t m (left_result e n b (Some (shape_in t)) h i j) g a

    leaving_as_good : (at : ℕ) (o : Option (Exit × ℕ)) (m : Meant) → Leaves o → Good m → Gives Good (r.leaving k at o m)
    leaving_as_good at None m h g = tt
    leaving_as_good at (Some e) m h g =
        let f = fits.bodies e.1 h.0 h.1 in
        on_if Good (r.agrees (delivery_at k e.1) m) _ _
        (λ a. ty.unit_typed here (walk.leave_of e.0 m ∷ [])
        (ty.single_typed here (walk.leave_of e.0 m) (leave_of_typed e.0 (s.bodies_before + e.1) f.body (delivery_at k e.1) m h.2 f.is f.delivers g a))) (λ a. tt)

    pub leaving_good : (at : ℕ) (x : List ℕ) (m : Meant) → Good m → Gives Good (r.leaving k at (scope.left s x) m)
    leaving_good at x m g = leaving_as_good at (scope.left s x) m (left_leaves x) g
