-- What a phrase means has the kinds that it asks for.
use Rattle.std.proofs.Common.{◌≡◌, ℕ, Bool, true, false, List, [], ◌∷◌, drop, length, Option, Some, None, refl, sym, subst}
use Rattle.elan_meant.specs.declared.meant.Meant.{Meant}
use Rattle.elan_scope.specs.Ruled.{Ruled, gives}
use Rattle.elan_meant.specs.Verdict.{Verdict, told}
use Rattle.std.specs.Prelude.{nat_eq}
use Rattle.elan_judge.specs.Below.elan_names.specs.declared.type_name.TypeName.{TypeName}
use Rattle.elan_scope.specs.Scope as scope
use Rattle.elan_scope.specs.declared.scope.Scope.{Scope}
use Rattle.elan_scope.specs.declared.known.Known.{Known}
use Rattle.elan_judge.specs.Below.elan_names.specs.declared.heading.Sort.TheVariants.{Procedure, Operator}
use Rattle.elan_scope.specs.Scope.{Callable}
use Rattle.elan_meant.specs.Operands.{chosen, becomes}
use Rattle.elan_scope.specs.Phrase as form
use Rattle.elan_scope.specs.Phrase.{Form, Plain, plain, Phrase, phrase, Parts, none, part}
use Rattle.elan_meant.specs.Parts as p
use Rattle.elan_judge.specs.Below.value_rules.specs.Calls as r
use Rattle.elan_rules.specs.walks.ChoiceSteps as walk
use Rattle.elan_rules.specs.Rules as all
use Rattle.elan_meant.specs.declared.meant.Meant.TheVariants.{Start}
use Rattle.elan_rules.specs.Rules.{rule, ruled}
use Rattle.elan_rules.specs.Meaning.{judged, judged_all}
use Rattle.elan_rules.proofs.First.{bind_gives, before_gives, gives_is}
use Rattle.elan_judge.proofs.InScope.{Names, InScope, AllIn}
use Rattle.elan_rules.proofs.Typed as ty
use Rattle.elan_rules.proofs.Typed.{Gives, MayGive, on_if, on_bind, on_told, on_unless}
use Rattle.elan_rules.proofs.TypeEquations.{Stand}
use Rattle.elan_rules.proofs.TypedUnits.{number_good, truth_good, text_good, bracketed_good, concr_good, cand_good, cor_good, assigned_good, initial_good, in_order_good}
use Rattle.elan_types.specs.declared.core_phrase.Action.{Action}
use Rattle.elan_rules.specs.Units.{binding_if}
use Rattle.elan_rules.proofs.TypedUnits.{MayTyped, named_binding_good, indexed_good, field_part_good, alone_good, without_value_good, must_deliver_good}
use Rattle.elan_rules.proofs.TypedChoices.{choice_good, selected_good, label_named_good}
use Rattle.elan_rules.proofs.TypedLoops.{counted_good, loop_good}
use Rattle.elan_rules.proofs.TypedCalls.{Fits, named_good, applied_good, start_named_good, declared_good, leaving_good}

module _ (here : Stand) (s : Scope) (k : Known) (fits : Fits here s k) where
  abbrev Good : Meant → Type 0
  Good = ty.Good here

  abbrev AllGood : List Meant → Type 0
  AllGood = ty.AllGood here

  good_part : (ms : List Meant) (n : ℕ) → AllGood ms → Good (p.nth ms n)
  good_part ms n g = ty.nth_good here ms n g

  in_scope : (f : Scope → Verdict Meant) (z : Scope) → z ≡ s → Gives Good (f s) → Gives Good (f z)
  in_scope f z e h = subst (λ (y : Scope). Gives Good (f y)) (sym e) h

  assignment_by : (at : ℕ) (known : Bool) (m n : Meant) (o : Option Callable) → Good m → Good n
      → Gives Good (r.applied_as at known (m ∷ n ∷ []) o) → Gives Good (all.assignment_as at m n o)
  assignment_by at known m n (Some c) g i h = on_bind Good Good (r.called at c (m ∷ n ∷ [])) _ h (λ v k. alone_good here v k)
  assignment_by at known m n None g i h = assigned_good here at m n g i

  -- An own operator is called as operators are.
  unbound_good : (at : ℕ) (m n : Meant) → Good m → Good n → Gives Good (all.assignment_as at m n (chosen s Operator becomes (m ∷ n ∷ [])))
  unbound_good at m n g i =
      let ms = m ∷ n ∷ [] in
      assignment_by at (scope.is_known s Operator becomes (length ms)) m n (chosen s Operator becomes ms) g i
      (applied_good here s k fits at Operator becomes ms (g, (i, tt)))

  assignment_good : (at : ℕ) (named : Bool) (m n : Meant) → Good m → Good n → Gives Good (all.assignment at s named m n)
  assignment_good at named m n g i = by_binding (binding_if named m n) (named_binding_good here named m n g i)
    where
      by_binding : (o : Option Action) → MayTyped here o → Gives Good (all.assignment_or at s m n o)
      by_binding None h = unbound_good at m n g i
      by_binding (Some a) h = ty.unit_typed here (a ∷ []) (ty.single_typed here a h)

  type_good : (at : ℕ) (o : Option TypeName) → Gives Good (r.type_declared at o)
  type_good at None = tt
  type_good at (Some t) = on_if Good (nat_eq t.at at) _ _ (λ e. refl) (λ e. tt)

  exported_good : (at : ℕ) (may : Option Bool) → Gives Good (r.exported_as at may)
  exported_good at None = tt
  exported_good at (Some false) = tt
  exported_good at (Some true) = refl

  started_good : (at : ℕ) (may : Bool) (m : Meant) → Gives Good (r.started at may m)
  started_good at true (Start n) = tt
  started_good at true m = tt
  started_good at false m = tt

  plain_rules : (at : ℕ) (f : Plain) (ms : List Meant) → Names s (plain f) → AllGood ms → Gives Good (rule at f ms)
  plain_rules at form.absent ms i g = tt
  plain_rules at (form.number n) ms i g = number_good here at n
  plain_rules at (form.truth b) ms i g = truth_good here at b
  plain_rules at (form.text x) ms i g = text_good here at x
  plain_rules at (form.applied z sort x) ms i g = in_scope (λ y. r.applied at y sort x ms) z i (applied_good here s k fits at sort x ms g)
  plain_rules at (form.start_name z x) ms i g = in_scope (λ y. r.start_named at y x) z i (start_named_good here s k fits at x)
  plain_rules at (form.start may) ms i g = started_good at may (p.nth ms 0)
  plain_rules at form.bracket ms i g = bracketed_good here at (p.nth ms 0) (good_part ms 0 g)
  plain_rules at (form.concr z) ms i g = concr_good here at z (p.nth ms 0) (good_part ms 0 g)
  plain_rules at form.index ms i g = indexed_good here at (p.nth ms 0) (p.nth ms 1) (good_part ms 0 g) (good_part ms 1 g)
  plain_rules at (form.field x) ms i g = field_part_good here at x (p.nth ms 0) (good_part ms 0 g)
  plain_rules at form.cand ms i g = cand_good here at (p.nth ms 0) (p.nth ms 1) (good_part ms 0 g) (good_part ms 1 g)
  plain_rules at form.cor ms i g = cor_good here at (p.nth ms 0) (p.nth ms 1) (good_part ms 0 g) (good_part ms 1 g)
  plain_rules at form.choice ms i g = choice_good here at ms g
  plain_rules at (form.label earlier n) ms i g = on_if Good (walk.is_in earlier n) _ _ (λ e. tt) (λ e. tt)
  plain_rules at (form.label_name earlier z x) ms i g = label_named_good here at earlier (scope.is_known z Procedure x 0) (scope.find z x)
  plain_rules at form.labels ms i g = tt
  plain_rules at form.selection ms i g = selected_good here at (p.nth ms 0) (drop 1 ms) (good_part ms 0 g) (ty.rest_good here ms g)
  plain_rules at (form.declares z x) ms i g = in_scope (λ y. r.declared at (scope.find_own y x)) z i (declared_good here s k fits at x)
  plain_rules at form.initial ms i g = initial_good here at (p.nth ms 0) (p.nth ms 1) (good_part ms 0 g) (good_part ms 1 g)
  plain_rules at form.declaration ms i g = ty.unit_typed here (p.actions_of ms) (ty.actions_of_typed here ms g)
  plain_rules at form.definition ms i g = refl
  plain_rules at (form.type_name z x) ms i g = type_good at (scope.find_own_type z x)
  plain_rules at (form.exported doubled may) ms i g = on_if Good doubled _ _ (λ e. tt) (λ e. exported_good at may)
  plain_rules at form.statement ms i g = alone_good here (p.nth ms 0) (good_part ms 0 g)
  plain_rules at (form.assignment z named) ms i g =
      in_scope (λ y. all.assignment at y named (p.nth ms 0) (p.nth ms 1)) z i (assignment_good at named (p.nth ms 0) (p.nth ms 1) (good_part ms 0 g) (good_part ms 1 g))
  plain_rules at form.loop ms i g = loop_good here at (p.nth ms 0) (p.nth ms 1) (p.nth ms 2) (good_part ms 0 g) (good_part ms 1 g) (good_part ms 2 g)
  plain_rules at (form.count w) ms i g =
      counted_good here at w (p.nth ms 0) (p.nth ms 1) (p.nth ms 2) (p.nth ms 3) (p.nth ms 4) (p.nth ms 5) (good_part ms 0 g) (good_part ms 1 g)
      (good_part ms 2 g) (good_part ms 3 g) (good_part ms 4 g) (good_part ms 5 g)
  plain_rules at form.without_value ms i g = without_value_good here (p.nth ms 0) (good_part ms 0 g)
  plain_rules at (form.must_deliver t) ms i g = must_deliver_good here at t (p.nth ms 0) (good_part ms 0 g)
  plain_rules at form.units ms i g = in_order_good here ms g
  plain_rules at (form.heading z sort x ps q missing) ms i g = absurd i
  plain_rules at (form.body o q) ms i g = absurd i
  plain_rules at form.routine ms i g = absurd i
  plain_rules at (form.refinement o) ms i g = absurd i
  plain_rules at form.level ms i g = absurd i

  rules : (at : ℕ) (f : Form) (ms : List Meant) → Names s f → AllGood ms → MayGive Good (ruled k at f ms)
  rules at (form.named u z x) ms i g =
      on_unless Good (r.is_open_name z x (scope.find z x)) (r.named k u at z x (scope.find z x))
      (subst (λ (y : Scope). MayGive Good (r.named k u at y x (scope.find y x))) (sym i) (named_good here s k fits u at x))
  rules at (form.leave z x) ms i g =
      on_unless Good (r.leaves_open z (scope.left z x)) _
      (on_told Good _ (in_scope (λ y. r.leaving k at (scope.left y x) (p.nth ms 0)) z i (leaving_good here s k fits at x (p.nth ms 0) (good_part ms 0 g))))
  rules at (plain f) ms i g = on_unless Good (all.hangs_on at f ms) (told (rule at f ms)) (on_told Good (rule at f ms) (plain_rules at f ms i g))

  -- ---- all phrases

  mutual
    pub good : (p : Phrase) (m : Meant) → InScope s p → judged k p ≡ gives m → Good m
    good (phrase at f ps) m i e =
        let b = bind_gives (judged_all k ps) (ruled k at f) m e in
        subst (λ (q : Ruled Meant). MayGive Good q) b.2 (rules at f b.0 i.0 (all_good ps b.0 i.1 b.1))

    pub all_good : (ps : Parts) (ms : List Meant) → AllIn s ps → judged_all k ps ≡ gives ms → AllGood ms
    all_good none ms i e = subst AllGood (gives_is [] ms e) tt
    all_good (part p ps) ms i e =
        let b = before_gives (judged k p) (judged_all k ps) ms e in
        subst AllGood (sym b.4) (good p b.0 i.0 b.2, all_good ps b.1 i.1 b.3)
