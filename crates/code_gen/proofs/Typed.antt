-- A core stays well typed where bodies that it does not reach are emptied: typing sees of other bodies their scopes and results alone.
use Rattle.std.proofs.Common.{◌≡◌, ℕ, ◌&&◌, Bool, true, List, map, drop, Option, Some, None, refl, sym, ap, ◌∙◌, subst, ◌⊎◌, inl, inr}
use Rattle.std.specs.Prelude.{slice_get, option_map}
use Rattle.std.proofs.Math.Path.{fun_ext}
use Rattle.eu_base.specs.declared.value.Kind.{Kind}
use Rattle.elan_types.specs.declared.core_phrase.Exit.{Exit}
use Rattle.elan_types.specs.declared.core_phrase.Exit.TheVariants as exits
use Rattle.elan_types.specs.declared.core_phrase.Scope.{Scope}
use Rattle.elan_types.specs.declared.core_phrase.Scope.TheVariants.{Own, Of, Level}
use Rattle.elan_types.specs.declared.core_phrase.Content.{Content}
use Rattle.elan_types.specs.declared.core_phrase.Content.TheVariants as contents
use Rattle.elan_types.specs.declared.core_phrase.Body.{Body}
use Rattle.elan_types.specs.declared.core_phrase.Core.{Core}
use Rattle.elan_types.specs.declared.core_phrase.Action.{Action}
use Rattle.elan_types.specs.declared.core_phrase.ValuePhrase.{ValuePhrase}
use Rattle.elan_types.specs.declared.core_phrase.ValuePhrase.TheVariants as values
use Rattle.elan_types.specs.declared.core_phrase.Action.TheOpen as t
use Rattle.elan_types.specs.declared.core_phrase.Action.TheOpen.{Action-F, PlacePhrase-F, ValuePhrase-F}
use Rattle.elan_types.specs.declared.core_phrase.Action.TheFolds.{fold-Action, fold-ValuePhrase, fold-roll-ValuePhrase}
use Rattle.elan_types.specs.Typing.{Typed, Taken, Held, Home, Outside, has_shape, only_if, all_true, is_none, leaves_without, leaves_with, scope_of}
use Rattle.elan_types.specs.Typing.{result_of, delivered_by, taken_by, refines, values_held, place_held, owner_at, frame_at, owner, frame_in, around, left_from}
use Rattle.elan_types.specs.Typing.{place_kinds_step, value_kind_step, actual_kind_step, value_arm_kind_step, action_typed_step, arm_typed_step}
use Rattle.elan_types.specs.Typing.{phrase_shape, is_typed, is_content_typed, outside_of, IsScope, StartsSo, IsWellTyped}
use Rattle.elan_types.proofs.Shapes.{same_shape_self}
use Rattle.code_gen.specs.Reached.{IsReached, at_start, nothing_in, emptied, with_bodies}
use Rattle.code_gen.proofs.Same.{ap2, ap3}

-- what typing sees of bodies
pub record SeenAlike (made bodies : List Body) : Type 0 where
  pub scopes : (n : ℕ) → scope_of (slice_get made n) ≡ scope_of (slice_get bodies n)
  pub results : (n : ℕ) → result_of (slice_get made n) ≡ result_of (slice_get bodies n)
  pub delivers : (n : ℕ) → delivered_by (slice_get made n) ≡ delivered_by (slice_get bodies n)

module _ (made bodies : List Body) (alike : SeenAlike made bodies) where
  around_same : (s : Option Scope) → around made s ≡ around bodies s
  around_same None = refl
  around_same (Some (Own parameters variables)) = refl
  around_same (Some (Of p)) = alike.results p
  around_same (Some Level) = refl

  left_same : (e : Exit) (home : Home) → left_from made e home ≡ left_from bodies e home
  left_same e None = refl
  left_same exits.Body (Some n) = alike.results n
  left_same exits.Around (Some n) = ap (around made) (alike.scopes n) ∙ around_same (scope_of (slice_get bodies n))

  owner_same : (home : Home) → owner made home ≡ owner bodies home
  owner_same None = refl
  owner_same (Some n) = ap (owner_at n) (alike.scopes n)

  frame_same : (home : Home) → frame_in made home ≡ frame_in bodies home
  frame_same None = refl
  frame_same (Some n) = ap frame_at (alike.scopes n)

  module _ (outside : Outside) (home : Home) where
    frame_here_same : frame_in made (owner made home) ≡ frame_in bodies (owner bodies home)
    frame_here_same = ap (frame_in made) (owner_same home) ∙ frame_same (owner bodies home)

    place_here : (y : PlacePhrase-F Bool Taken (List Kind) Typed Bool Typed) → place_kinds_step outside made home y ≡ place_kinds_step outside bodies home y
    place_here (t.Variable n) = refl
    place_here (t.Packet n) = refl
    place_here (t.Local n) = ap (λ (hs : List Held). values_held (drop n hs)) frame_here_same
    place_here (t.Parameter n) = ap (λ (hs : List Held). place_held (slice_get hs n)) frame_here_same
    place_here (t.Item p a items) = refl
    place_here (t.Field p before) = refl
    place_here (t.Content p s) = refl

    value_here : (y : ValuePhrase-F Bool Taken (List Kind) Typed Bool Typed) → value_kind_step outside made home y ≡ value_kind_step outside bodies home y
    value_here (t.ValuePhrase::Call p as' s) = ap2 (λ o d. only_if (taken_by o as' && has_shape s d) (Some s)) (alike.scopes p) (alike.delivers p)
    value_here (t.ValuePhrase::Refer p s) =
        ap3 (λ h o d. only_if (refines h o && has_shape s d) (Some s)) (owner_same home) (alike.scopes p) (alike.delivers p)
    value_here _ = refl

    action_here : (y : Action-F Bool Taken (List Kind) Typed Bool Typed) → action_typed_step outside made home y ≡ action_typed_step outside bodies home y
    action_here (t.Action::Call p as') = ap2 (λ o d. taken_by o as' && is_none d) (alike.scopes p) (alike.delivers p)
    action_here (t.Action::Refer p) = ap3 (λ h o d. refines h o && is_none d) (owner_same home) (alike.scopes p) (alike.delivers p)
    action_here (t.Leave e) = ap leaves_without (left_same e home)
    action_here (t.LeaveWith e s a) = ap (λ l. has_shape s a && leaves_with s l) (left_same e home)
    action_here _ = refl

    shape_same : phrase_shape outside made home ≡ phrase_shape outside bodies home
    shape_same =
        ap3 {D = ValuePhrase → Typed}
        (λ a p v. fold-ValuePhrase Bool Taken (List Kind) Typed Bool Typed a (actual_kind_step outside bodies home) p v (arm_typed_step outside bodies home)
        (value_arm_kind_step outside bodies home))
        (fun_ext action_here) (fun_ext place_here) (fun_ext value_here)

    pub typed_same : is_typed outside made home ≡ is_typed outside bodies home
    typed_same =
        ap3 {D = Action → Bool}
        (λ a p v. fold-Action Bool Taken (List Kind) Typed Bool Typed a (actual_kind_step outside bodies home) p v (arm_typed_step outside bodies home)
        (value_arm_kind_step outside bodies home))
        (fun_ext action_here) (fun_ext place_here) (fun_ext value_here)

    pub content_typed_same : (c : Content) → is_content_typed outside made home c ≡ is_content_typed outside bodies home c
    content_typed_same (contents.Units us) = ap (λ (f : Action → Bool). all_true (map f us)) typed_same
    content_typed_same (contents.Value s a) = ap (λ (f : ValuePhrase → Typed). has_shape s (f a)) shape_same

-- ---- emptied bodies

emptied_scope : (o : Option Body) → scope_of (option_map emptied o) ≡ scope_of o
emptied_scope None = refl
emptied_scope (Some b) = refl

result_here : (b : Body) (c : Content) → b.content ≡ c → result_of (Some (emptied b)) ≡ result_of (Some b)
result_here b (contents.Units us) e = rw e refl
result_here b (contents.Value s a) e = rw e refl

emptied_result : (o : Option Body) → result_of (option_map emptied o) ≡ result_of o
emptied_result None = refl
emptied_result (Some b) = result_here b b.content refl

delivered_here : (b : Body) (c : Content) → b.content ≡ c → delivered_by (Some (emptied b)) ≡ delivered_by (Some b)
delivered_here b (contents.Units us) e = rw e refl
delivered_here b (contents.Value s a) e = rw e refl

emptied_delivers : (o : Option Body) → delivered_by (option_map emptied o) ≡ delivered_by o
emptied_delivers None = refl
emptied_delivers (Some b) = delivered_here b b.content refl

nothing_typed : (outside : Outside) (bodies : List Body) (home : Home) (c : Content) → is_content_typed outside bodies home (nothing_in c) ≡ true
nothing_typed outside bodies home (contents.Units us) = refl
nothing_typed outside bodies home (contents.Value s a) =
    ap (λ (v : ValuePhrase). has_shape s (phrase_shape outside bodies home v)) (sym (values.rolls-Never s))
    ∙ ap (has_shape s) (fold-roll-ValuePhrase _ _ _ _ _ _ _ _ _ _ _ _ (t.Never s)) ∙ same_shape_self s

-- a body with a scope
some_scope : (o : Option Body) (s : Scope) → scope_of o ≡ Some s → (b : Body) × ((o ≡ Some b) × (b.scope ≡ s))
some_scope None s e = absurd cc
some_scope (Some b) s e = (b, (refl, cc))

module _ (core : Core) (made : List Body) (kept : (n : ℕ) → IsReached core n → slice_get made n ≡ slice_get core.bodies n)
    (each : (n : ℕ) → (slice_get made n ≡ slice_get core.bodies n) ⊎ (slice_get made n ≡ option_map emptied (slice_get core.bodies n)))
    (w : IsWellTyped core) where
  by_each : {A : Type 0} (f : Option Body → A) → ((o : Option Body) → f (option_map emptied o) ≡ f o) → (n : ℕ)
      → f (slice_get made n) ≡ f (slice_get core.bodies n)
  by_each f same n = elim (each n) [ inl e ↦ ap f e | inr e ↦ ap f e ∙ same (slice_get core.bodies n) ]

  alike : SeenAlike made core.bodies
  alike = record {
    scopes = by_each scope_of emptied_scope;
    results = by_each result_of emptied_result;
    delivers = by_each delivered_by emptied_delivers;
  }

  scope_is : (s : Scope) → IsScope core.bodies s → IsScope made s
  scope_is (Own parameters variables) i = tt
  scope_is (Of p) i =
      let b = some_scope (slice_get made p) (Own i.1.0 i.1.1.0) (alike.scopes p ∙ ap scope_of i.1.1.1 ∙ ap (λ s. Some s) i.1.1.2) in
      (b.0, (i.1.0, (i.1.1.0, b.1.0, b.1.1)))
  scope_is Level i = tt

  scopes : (n : ℕ) (b : Body) → slice_get made n ≡ Some b → IsScope made b.scope
  scopes n b is =
      let o = some_scope (slice_get core.bodies n) b.scope (sym (alike.scopes n) ∙ ap scope_of is) in
      scope_is b.scope (subst (IsScope core.bodies) o.1.1 (w.scopes n o.0 o.1.0))

  content_is : (n : ℕ) (b : Body) (o : Option Body) → slice_get core.bodies n ≡ o → Some b ≡ option_map emptied o
      → is_content_typed (outside_of core) core.bodies (Some n) b.content ≡ true
  content_is n b None there e = absurd cc
  content_is n b (Some a) there e =
      let same : b ≡ emptied a = cc in
      subst (λ (x : Body). is_content_typed (outside_of core) core.bodies (Some n) x.content ≡ true) (sym same)
      (nothing_typed (outside_of core) core.bodies (Some n) a.content)

  bodies : (n : ℕ) (b : Body) → slice_get made n ≡ Some b → is_content_typed (outside_of core) made (Some n) b.content ≡ true
  bodies n b is =
      content_typed_same made core.bodies alike (outside_of core) (Some n) b.content
      ∙ elim (each n) [ inl e ↦ w.bodies n b (sym e ∙ is) | inr e ↦ content_is n b (slice_get core.bodies n) refl (sym is ∙ e) ]

  starts : (o : Option ℕ) → core.start ≡ o → StartsSo core o → StartsSo (with_bodies core made) o
  starts None e i = tt
  starts (Some p) e i = record { level = i.level; variables = i.variables; units = i.units; body = kept p (at_start p e) ∙ i.body }

  pub well_typed : IsWellTyped (with_bodies core made)
  well_typed = record {
    typed = ap (λ (f : Action → Bool). all_true (map f core.units)) (typed_same made core.bodies alike (outside_of core) None) ∙ w.typed;
    scopes = scopes;
    bodies = bodies;
    starts = starts core.start refl w.starts;
  }
