-- Loops have the shapes that they ask for.
use Rattle.std.proofs.Common.{ℕ, ◌&&◌, List, [], ◌∷◌, Option, Some, None, ◌∙◌}
use Rattle.eu_base.specs.declared.value.Kind.TheVariants.{Int, Truth as Truths}
use Rattle.eu_base.specs.declared.shape.Shape.{Shape}
use Rattle.eu_base.specs.declared.shape.Shape.TheVariants.{Cell}
use Rattle.elan_types.specs.declared.core_phrase.PlacePhrase.{PlacePhrase}
use Rattle.elan_types.specs.declared.core_phrase.ValuePhrase.{ValuePhrase}
use Rattle.elan_types.specs.declared.core_phrase.Action.{Action}
use Rattle.elan_types.specs.declared.core_phrase.Action.TheVariants as action
use Rattle.elan_meant.specs.declared.meant.Meant.{Meant}
use Rattle.std.specs.Prelude.{pos}
use Rattle.eu_base.specs.declared.operation.Way.{Way}
use Rattle.elan_rules.proofs.Typed as ty
use Rattle.elan_rules.proofs.Typed.{same_type_is, has_self, agree_self, only_if_holds, both, and_true, Gives, on_if, on_bind}
use Rattle.elan_meant.specs.Parts as p
use Rattle.elan_rules.specs.Loops as r
use Rattle.elan_rules.specs.walks.UnitSteps as walk
use Rattle.elan_rules.proofs.TypeEquations.{Stand, number_is, loop_is, count_is}

module _ (here : Stand) where
  abbrev Has : Shape → ValuePhrase → Type 0
  Has = ty.Has here

  abbrev MayHave : Shape → Option ValuePhrase → Type 0
  MayHave = ty.MayHave here

  abbrev Lies : Shape → PlacePhrase → Type 0
  Lies = ty.Lies here

  abbrev AllTyped : List Action → Type 0
  AllTyped = ty.AllTyped here

  abbrev Good : Meant → Type 0
  Good = ty.Good here

  abbrev AllGood : List Meant → Type 0
  AllGood = ty.AllGood here

  -- ---- loops

  pub first_typed : (o : Option ValuePhrase) → MayHave (Cell Int) o → Has (Cell Int) (walk.first_value o)
  first_typed None h = number_is here (pos 1)
  first_typed (Some v) h = h

  pub loop_typed : (c : Option ValuePhrase) (us : List Action) (u : Option ValuePhrase) → MayHave (Cell Truths) c → AllTyped us → MayHave (Cell Truths) u
      → AllTyped (action.Unit (action.Loop c us u ∷ []) ∷ [])
  loop_typed c us u hc hs hu =
      ty.unit_typed here _ (ty.single_typed here (action.Loop c us u)
      (loop_is here c us u ∙ and_true _ _ (ty.written_typed here Truths c hc) (and_true _ _ hs (ty.written_typed here Truths u hu))))

  pub loop_good : (at : ℕ) (c us u : Meant) → Good c → Good us → Good u → Gives Good (r.loop at c us u)
  loop_good at c us u h i j =
      on_if Good (r.conditions c u) _ _
      (λ e. let b = both _ _ e in
      loop_typed (p.written c) (p.actions us) (p.written u) (ty.kind_may here Truths c h b.0) (ty.actions_typed here us i)
      (ty.kind_may here Truths u j b.1)) (λ e. tt)

  count_typed : (x : PlacePhrase) (v : ValuePhrase) (w : Way) (l c : Option ValuePhrase) (us : List Action) (u : Option ValuePhrase) →
      Lies (Cell Int) x → Has (Cell Int) v → MayHave (Cell Int) l → MayHave (Cell Truths) c → AllTyped us → MayHave (Cell Truths) u
      → AllTyped (action.Unit (action.Count x v w l c us u ∷ []) ∷ [])
  count_typed x v w l c us u hx hv hl hc hs hu =
      ty.unit_typed here _ (ty.single_typed here (action.Count x v w l c us u) (count_is here x v w l c us u
      ∙ (and_true _ _ (ty.cell_there here Int x hx.0) (and_true _ _ (has_self (Cell Int) _ hv) (and_true _ _ (ty.written_typed here Int l hl)
      (and_true _ _ (ty.written_typed here Truths c hc) (and_true _ _ hs (ty.written_typed here Truths u hu))))))))

  pub counted_good : (at : ℕ) (w : Way) (n f l c us u : Meant) → Good n → Good f → Good l → Good c → Good us → Good u → Gives Good (r.counted at w n f l c us u)
  counted_good at w n f l c us u gn gf gl gc gs gu =
      on_if Good (walk.are_numbers n f l && r.conditions c u) _ _ (λ e.
      let b = both _ _ e in
      let numbers = both _ _ b.0 in
      let bounds = both _ _ numbers.1 in
      let truths = both _ _ b.1 in
      on_bind (Lies (Cell Int)) Good (p.variable at n) _ (ty.kind_variable here at Int n gn numbers.0)
      (λ x k. count_typed x (walk.first_value (p.written f)) w (p.written l) (p.written c) (p.actions us) (p.written u) k
      (first_typed (p.written f) (ty.kind_may here Int f gf bounds.0)) (ty.kind_may here Int l gl bounds.1)
      (ty.kind_may here Truths c gc truths.0)
      (ty.actions_typed here us gs) (ty.kind_may here Truths u gu truths.1))) (λ e. tt)
