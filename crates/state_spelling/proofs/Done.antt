-- What is revived from bytes fits the code, and what fits the code is revived from its bytes.
use Rattle.std.proofs.Common.{◌≡◌, ℕ, true, List, Option, Some, None, Result, Ok, Err, refl, sym, ap, subst, ◌∙◌}
use Rattle.std.specs.Prelude.{IfOk}
use Rattle.byte_spelling.specs.declared.reading.ReadError.{ReadError}
use Rattle.byte_spelling.specs.declared.reading.ReadError.TheVariants as errors
use Rattle.byte_spelling.proofs.Laws.{some_is}
use Rattle.code_form.specs.Program.{Program}
use Rattle.code_form.specs.Machine.{Control}
use Rattle.code_form.specs.Valid.{IsValid, Fits}
use Rattle.zero_state.specs.declared.state.State.{State}
use Rattle.zero_state.specs.Stepping.{control_of}
use Rattle.state_spelling.specs.declared.kept.Kept.{Kept}
use Rattle.state_spelling.specs.Kept.{kept}
use Rattle.state_spelling.specs.Standing.{kept_of}
use Rattle.state_spelling.specs.Revived.{revived}
use Rattle.state_spelling.specs.Revival.{IsRevived}
use Rattle.state_spelling.proofs.RevivalLaw.{revived_fits, fits_revived}

module _ (p : Program) (valid : IsValid p) (bytes : List ℕ) where
  pub done_fits : (r : Result State ReadError) → IsRevived p bytes r → IfOk r (λ s. Fits p (control_of s))
  done_fits (Ok s) w = (revived_fits p valid w.0 (control_of s) w.2).fits
  done_fits (Err e) w = tt

  pub done_kept : (r : Result State ReadError) → IsRevived p bytes r → IfOk r (λ s. bytes ≡ kept.spell (kept_of (control_of s)))
  done_kept (Ok s) w = w.1 ∙ ap kept.spell (sym (revived_fits p valid w.0 (control_of s) w.2).kept)
  done_kept (Err e) w = tt

  pub done_same : (r : Result State ReadError) → IsRevived p bytes r → (c : Control) → Fits p c → kept.fine (kept_of c) ≡ true → bytes ≡ kept.spell (kept_of c) → IfOk r (λ s. control_of s ≡ c)
  done_same (Ok s) w c fits fine e =
      some_is {A = Control} (control_of s) c (sym w.2 ∙ ap (revived p) (sym (w.3 (kept_of c) fine e)) ∙ fits_revived p valid c fits)
  done_same (Err e') w c fits fine e = tt

  not_both : (o : Option Control) (c : Control) → o ≡ None → o ≡ Some c → ⊥
  not_both o c e f = let g : None ≡ Some c = sym e ∙ f in absurd cc

  pub done_refused : (r : Result State ReadError) → IsRevived p bytes r → (c : Control) → Fits p c → kept.fine (kept_of c) ≡ true → bytes ≡ kept.spell (kept_of c) → r ≡ Err errors.NotSpelled → ⊥
  done_refused r w c fits fine e bad =
      let h : IsRevived p bytes (Err errors.NotSpelled) = subst (IsRevived p bytes) bad w in
      not_both (revived p (kept_of c)) c (h (kept_of c) fine e) (fits_revived p valid c fits)
