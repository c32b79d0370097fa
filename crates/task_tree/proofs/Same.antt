-- Two lists of tasks are the same where they are alike at each place.
use Rattle.std.proofs.Common.{◌≡◌, true, List, [], ◌∷◌, ap, refl, ◌∙◌}
use Rattle.std.proofs.lemmas.Bool.{and_parts, and_from, eqb-true, eq-eqb, false≢true}
use lib.Pointwise.{pointwise}
use Rattle.task_numbers.specs.declared.number.TaskNo.{TaskNo}
use Rattle.task_numbers.specs.Numbers.{is_task}

pub same_numbers : (ts us : List TaskNo) → pointwise is_task ts us ≡ true → ts ≡ us
same_numbers [] [] e = refl
same_numbers [] (u ∷ us) e = absurd (false≢true e)
same_numbers (t ∷ ts) [] e = absurd (false≢true e)
same_numbers (t ∷ ts) (u ∷ us) e =
    let both = and_parts _ _ e in
    let here : t ≡ u = ap (λ n. record { 0 = n }) (eqb-true t.0 u.0 both.0) in
    ap (λ v. v ∷ ts) here ∙ ap (λ vs. u ∷ vs) (same_numbers ts us both.1)

pub numbers_alike : (ts : List TaskNo) → pointwise is_task ts ts ≡ true
numbers_alike [] = refl
numbers_alike (t ∷ ts) = and_from _ _ (eq-eqb t.0 t.0 refl) (numbers_alike ts)
