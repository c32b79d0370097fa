-- Assignments to BOUND variables, and all others.
use Rattle.std.proofs.Common.{◌≡◌, ℕ, Bool, true, false, ◌&&◌, List, [], ◌∷◌, Option, Some, None, Result, refl, sym, ap, subst, ◌∙◌}
use Rattle.std.specs.Prelude.{is_none, is_some}
use Rattle.elan_types.specs.declared.core_phrase.Action.{Action}
use Rattle.elan_names.specs.declared.heading.Sort.TheVariants.{Operator}
use Rattle.elan_scope.specs.declared.trouble.Trouble.{Trouble}
use Rattle.elan_scope.specs.declared.scope.Scope.{Scope}
use Rattle.elan_scope.specs.Answer.{Is}
use Rattle.elan_meant.specs.declared.meant.Meant.{Meant}
use Rattle.elan_meant.specs.Operands.{becomes, chosen, is_unclear}
use Rattle.elan_meant.specs.Parts.{unit_of}
use Rattle.elan_meant.specs.Verdict.{gives, told, unless, Tells}
use Rattle.elan_rules.specs.Units.{binding, binding_if}
use Rattle.elan_rules.specs.Rules.{assignment, assignment_as, assignment_or}

module _ (out : Result Meant Trouble) (at : ℕ) (s : Scope) (l r : Meant) where
  abbrev unclear : Bool
  unclear = is_unclear s Operator becomes (l ∷ r ∷ [])

  -- It answers what an assignment means that binds a variable so, if it does.
  abbrev Answers : Option Action → Type 0
  Answers o = Is out (unless (is_none o && unclear) (told (assignment_or at s l r o)))

  -- a BOUND variable whose name stands at the left, and that is given a data space
  pub bound_is : (named : Bool) → named ≡ true → is_some (binding l r) ≡ true
      → ((a : Action) → binding l r ≡ Some a → Tells out (gives (unit_of (a ∷ [])))) → Answers (binding_if named l r)
  bound_is named e b h = by_binding (binding l r) refl b
    where
      by_binding : (o : Option Action) → binding l r ≡ o → is_some o ≡ true → Answers (binding_if named l r)
      by_binding None i k = absurd cc
      by_binding (Some a) i k = subst Answers (sym (ap (λ (n : Bool). binding_if n l r) e ∙ i)) (h a i)

  -- all others
  pub unbound_is : (named : Bool) → (named && is_some (binding l r)) ≡ false
      → Is out (unless unclear (told (assignment_as at l r (chosen s Operator becomes (l ∷ r ∷ []))))) → Answers (binding_if named l r)
  unbound_is named e h = subst Answers (sym (by_name named e)) h
    where
      none_bound : (o : Option Action) → is_some o ≡ false → o ≡ None
      none_bound None k = refl
      none_bound (Some a) k = absurd cc

      by_name : (n : Bool) → (n && is_some (binding l r)) ≡ false → binding_if n l r ≡ None
      by_name true k = none_bound (binding l r) k
      by_name false k = refl
