use Rattle.std.proofs.Common.{◌≡◌, ℕ, Bool, false, List, [], ◌∷◌, Option, Some, Result, option_map, sym, ap, subst, ◌∙◌}
use Rattle.elan_names.specs.declared.heading.Sort.TheVariants.{Operator}
use Rattle.elan_names.specs.declared.callable.Callable.{Callable as Handed}
use Rattle.elan_scope.specs.declared.trouble.Trouble.{Trouble}
use Rattle.elan_scope.specs.Answer.{Is}
use Rattle.elan_scope.specs.Scope.{Callable}
use Rattle.elan_names.specs.walks.Seen.{callable}
use Rattle.elan_meant.specs.declared.meant.Meant.{Meant}
use Rattle.elan_meant.specs.Operands.{becomes, chosen, is_unclear}
use Rattle.elan_meant.specs.Verdict.{told, unless, Tells}
use Rattle.elan_rules.specs.Rules.{assignment_as, called_alone}
use Rattle.elan_rules.proofs.assignment.assignment_as.Goals as goal

by_operator : (out : Result Meant Trouble) (b : Bool) (at : ℕ) (l r : Meant) (o : Option Callable) (d : Callable)
    → b ≡ false → o ≡ Some d → Tells out (called_alone at d (l ∷ r ∷ [])) → Is out (unless b (told (assignment_as at l r o)))
by_operator out b at l r o d e f h =
    subst (λ (z : Bool). Is out (unless z (told (assignment_as at l r o)))) (sym e) (subst (λ (z : Option Callable). Is out (told (assignment_as at l r z))) (sym f) h)

pub returns-in-Some : goal.returns-in-Some
returns-in-Some c =
    let s = c.args.scope.now in
    let d = callable c.in-Some.callable in
    let clear =
    sym (ap (λ (ms : List Meant). is_unclear s Operator becomes ms) (c.as_slice.ensures ∙ c.in_ok-operands.ensures)) ∙ sym c.is_unclear.ensures
    ∙ c.if-is_unclear.false in
    let found =
    sym (ap (λ (ms : List Meant). chosen s Operator becomes ms) (c.as_slice-2.ensures ∙ c.in_ok-operands.ensures)) ∙ sym c.chosen.ensures
    ∙ ap (λ (o : Option Handed). option_map callable o) c.in-Some.is in
    by_operator c.called_alone.result _ c.args.at c.args.left c.args.right _ d clear found
    (subst (λ (ms : List Meant). Tells c.called_alone.result (called_alone c.args.at d ms)) c.in_ok-operands.ensures c.called_alone.ensures)
