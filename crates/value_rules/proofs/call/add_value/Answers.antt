use Rattle.std.proofs.Common.{◌≡◌, ◌++◌, ◌∷◌, [], ◌∙◌, IfOk, List, refl, sym, ap, subst}
use Rattle.elan_types.specs.declared.core_phrase.Actual.{Actual}
use Rattle.elan_types.specs.declared.core_phrase.ValuePhrase.{ValuePhrase}
use Rattle.value_rules.specs.Calls.{values_in}
use Rattle.value_rules.proofs.Lists.{value_more, place_more}
use Rattle.value_rules.proofs.call.add_value.Goals as goal

pub returns-in-Value : goal.returns-in-Value
returns-in-Value c =
    λ done h. subst (λ (l : List ValuePhrase). IfOk c.pushed.result (λ (list : List ValuePhrase). list ≡ l))
    (sym (ap (λ (a : Actual). values_in (done ++ a ∷ [])) c.in-Value.is ∙ value_more done c.in-Value.value))
    (c.pushed.ensures (values_in done) c.in-Value.value h refl)

pub returns-in-Place : goal.returns-in-Place
returns-in-Place c =
    λ done h. subst (λ (l : List ValuePhrase). IfOk c.args.values (λ (list : List ValuePhrase). list ≡ l))
    (sym (ap (λ (a : Actual). values_in (done ++ a ∷ [])) c.in-Place.is ∙ place_more done c.in-Place.place c.in-Place._shape)) h
