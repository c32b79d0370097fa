-- A run that came to rest goes on from there, with more marks and replies, as it does from where it began.
use Rattle.std.proofs.Common.{◌≡◌, ℕ, zero, suc, ◌+◌, ◌-◌, ◌≤◌, List, Some, sym, ap, ◌∙◌, subst, arith, ◌⊎◌, inl, inr, ⊎_elim}
use Rattle.eu_base.specs.Requests.{Answer}
use Rattle.code_form.specs.Program.{Program}
use Rattle.code_form.specs.Machine.{Control, Scene, Rest, Stage, On, Over, Lost, advance, carry_on, exec}
use Rattle.code_form.specs.Runs.{IsPaused, Rests}
use Rattle.code_form.proofs.Spent.{at_marks, stage_shifts}

-- with no more marks than the stage spends and k besides, it leads there with k
abbrev pub Shifts : List Answer → Stage → Control → Scene → (ℕ → Stage) → Type 0
Shifts rs (On c' s') c s f = (s'.marks ≤ s.marks) × ((k : ℕ) → f ((s.marks - s'.marks) + k) ≡ On c' (at_marks rs k s'))
Shifts rs (Over r) c s f = IsPaused r.how ⊎ (s.marks ≡ 0) → (r.control ≡ c) × (r.scene ≡ s)
Shifts rs Lost c s f = Unit {0}

abbrev Passes : Program → List Answer → Control → Scene → Rest → Type 0
Passes p rs c s r =
    (k : ℕ) (last : Rest) → Rests p c (at_marks rs ((s.marks - r.scene.marks) + k) s) last → Rests p r.control (at_marks rs k r.scene) last

module _ (p : Program) (rs : List Answer) where
  passes_stage : (j : ℕ) (st : Stage) (c : Control) (s : Scene) (r : Rest) → IsPaused r.how ⊎ (s.marks ≡ 0)
      → ((c : Control) (s : Scene) → IsPaused r.how ⊎ (s.marks ≡ 0) → exec p j c s ≡ Some r → (r.scene.marks ≤ s.marks) × Passes p rs c s r)
      → carry_on st (exec p j) ≡ Some r → Shifts rs st c s (λ n. advance p c (at_marks rs n s)) → (r.scene.marks ≤ s.marks) × Passes p rs c s r
  passes_stage j (On c' s') c s r paused ih e w =
      let a = ih c' s' (⊎_elim (λ p. inl p) (λ none. inr (omega (arith, w.0, none))) paused) e in (
        omega (arith, w.0, a.0),
        λ k last h.
            let f : (s.marks - r.scene.marks) + k ≡ (s.marks - s'.marks) + ((s'.marks - r.scene.marks) + k) = omega (arith, w.0, a.0) in
            a.1 k last (later ((s'.marks - r.scene.marks) + k) last (subst (λ n. Rests p c (at_marks rs n s) last) f h)),
      )
    where
      later : (k : ℕ) (last : Rest) → Rests p c (at_marks rs ((s.marks - s'.marks) + k) s) last → Rests p c' (at_marks rs k s') last
      later k last (zero, g) = absurd (cc g)
      later k last (suc n, g) = (n, ap (λ st. carry_on st (exec p n)) (sym (w.1 k)) ∙ g)
  passes_stage j (Over x) c s r paused ih e w =
      let f : x ≡ r = cc in
      let at_rest = w (subst (λ (y : Rest). IsPaused y.how ⊎ (s.marks ≡ 0)) (sym f) paused) in
      let same_c : r.control ≡ c = ap (λ (y : Rest). y.control) (sym f) ∙ at_rest.0 in
      let same_s : r.scene ≡ s = ap (λ (y : Rest). y.scene) (sym f) ∙ at_rest.1 in
      let marks : r.scene.marks ≡ s.marks = ap (λ (y : Scene). y.marks) same_s in (
        omega (arith, marks),
        λ k last h.
            let g : (s.marks - r.scene.marks) + k ≡ k = omega (arith, marks) in
            subst (λ (u : Scene). Rests p r.control (at_marks rs k u) last) (sym same_s)
            (subst (λ (d : Control). Rests p d (at_marks rs k s) last) (sym same_c) (subst (λ n. Rests p c (at_marks rs n s) last) g h)),
      )
  passes_stage j Lost c s r paused ih e w = let f : ⊥ = cc in absurd f

  pub passes : (j : ℕ) (c : Control) (s : Scene) (r : Rest) → IsPaused r.how ⊎ (s.marks ≡ 0) → exec p j c s ≡ Some r
      → (r.scene.marks ≤ s.marks) × Passes p rs c s r
  passes zero c s r paused e = let f : ⊥ = cc in absurd f
  passes (suc j) c s r paused e = passes_stage j (advance p c s) c s r paused (λ c s calm e. passes j c s r calm e) e (stage_shifts p rs c.waits c.position s)
