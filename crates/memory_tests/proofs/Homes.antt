-- Pages of which each has its home on a disk, after a call.
use Rattle.std.proofs.Common.{◌≡◌, ℕ, Bool, true, [], sym, ◌∙◌, ap, subst}
use Rattle.std.proofs.Common.{inl, inr}
use Rattle.std.proofs.lemmas.Bool.{cases_eq}
use Rattle.std.proofs.lemmas.Option.{none-some, same_Some}
use Rattle.page_pool.specs.Pool.{Pages, Shown, home_of, IsPool, Backed, Adds, AddsStored, Drops, Settles}
use Rattle.page_pool.proofs.Sound.{home_lives}

module _ {holds : ℕ → Bool} where
  pub none_backed : Backed holds (record { slots = []; clean = [] })
  none_backed = record { each = λ p b is. absurd (none-some b is) }

  pub stored_backed : (old new : Pages) (p block : ℕ) → AddsStored old new p block → holds block ≡ true → Backed holds old → Backed holds new
  stored_backed old new p block adds held backed = record {
    each = λ x b is. elim (cases_eq x p) [
      | inl e ↦ subst (λ (n : ℕ). holds n ≡ true) (same_Some block b (sym adds.home ∙ ap (home_of new) (sym e) ∙ is)) held
      | inr ne ↦ backed.each x b (sym (adds.others x ne).home ∙ is)
    ];
  }

  pub adds_backed : (old new : Pages) (p : ℕ) (shown : Shown) → Adds old new p shown → Backed holds old → Backed holds new
  adds_backed old new p shown adds backed = record {
    each = λ x b is. elim (cases_eq x p) [
      | inl e ↦ absurd (none-some b (sym adds.changed ∙ ap (home_of new) (sym e) ∙ is))
      | inr ne ↦ backed.each x b (sym (adds.others x ne).home ∙ is)
    ];
  }

  pub settles_backed : (old new : Pages) (p block : ℕ) → Settles old new p block → holds block ≡ true → Backed holds old → Backed holds new
  settles_backed old new p block settles held backed = record {
    each = λ x b is. elim (cases_eq x p) [
      | inl e ↦ subst (λ (n : ℕ). holds n ≡ true) (same_Some block b (sym settles.home ∙ ap (home_of new) (sym e) ∙ is)) held
      | inr ne ↦ backed.each x b (sym (settles.others x ne).home ∙ is)
    ];
  }

  pub drops_backed : (old new : Pages) (p : ℕ) → IsPool new → Drops old new p → Backed holds old → Backed holds new
  drops_backed old new p sound drops backed = record {
    each = λ x b is. backed.each x b (sym (drops.stays x (home_lives new x b sound is)).home ∙ is);
  }
