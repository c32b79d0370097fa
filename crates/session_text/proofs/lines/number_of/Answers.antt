-- A number grows with its digits, so one that is too large already stays so.
use Rattle.std.proofs.Common.{◌≡◌, ◌<◌, ◌≤◌, ℕ, suc, List, [], ◌∷◌, fold, drop, get_or, length, ap, subst, sym, ◌∙◌, arith, drop-cons}
use Rattle.std.proofs.lemmas.Grind.{common_steps}
use Rattle.session_text.specs.Lines as spec
use Rattle.session_text.proofs.lines.number_of.Goals as goal

grows : (n : ℕ) (digits : List ℕ) → n ≤ fold spec.more n digits
grows n [] = omega arith
grows n (d ∷ digits) = omega (arith, grows (spec.more n d) digits)

passed : (n i m : ℕ) (digits : List ℕ) → i < length digits → fold spec.more n (drop i digits) ≡ m → spec.more n (get_or digits i 0) ≤ m
passed n i m digits lt e =
    subst (λ k. spec.more n (get_or digits i 0) ≤ k) (sym (ap (fold spec.more n) (drop-cons digits i 0 lt)) ∙ e)
    (grows (spec.more n (get_or digits i 0)) (drop (suc i) digits))

pub returns-then-number-gt-MOST_TURNS : goal.returns-then-number-gt-MOST_TURNS
returns-then-number-gt-MOST_TURNS c =
    let most = passed _ _ _ _ c.loop-digit-test.true c.loop-digit.invariant.rest in grind (arith, common_steps, most)
