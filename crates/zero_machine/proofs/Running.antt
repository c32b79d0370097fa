-- Steps make a run.
use Rattle.std.proofs.Common.{◌≡◌, ℕ, zero, suc, Option, Some, None, refl, ap, ◌∙◌, subst}
use Rattle.std.specs.Prelude.{IsSome}
use Rattle.eu_base.specs.Cells.{Cells}
use Rattle.eu_base.specs.DataSpaces.{Heads}
use Rattle.code_form.specs.declared.halt.Halt.{Halt}
use Rattle.code_form.specs.declared.halt.Halt.TheVariants as halts
use Rattle.code_form.specs.declared.waits.Waits.{Waits}
use Rattle.code_form.specs.declared.waits.Waits.TheVariants.{Nothing, Asked, Given, Refused}
use Rattle.eu_base.specs.declared.request.Reply.{Reply}
use Rattle.code_form.specs.Program.{Program}
use Rattle.code_form.specs.Machine.{Mem, Control, asking, refused, Scene, Rest, Stage, On, Over, Lost, stage_at, advance, carry_on, exec, rest_at}
use Rattle.code_form.specs.Runs.{Rests, asked}
use Rattle.code_form.proofs.Steps.{last_step}
use Rattle.code_form.proofs.Resume.{one_rest}
use Rattle.zero_state.specs.Stepping.{mem_of, scene_of, due, Does}
use Rattle.zero_machine.specs.Running.{RestsSo}

-- where something is waited for, the machine rests so
rests_due : (p : Program) (c : Control) (mem : Mem) (marks : ℕ) (h : Halt) → due c.waits ≡ Some h
    → Over (rest_at h c (scene_of mem marks)) ≡ advance p c (scene_of mem marks)
rests_due p c mem marks h e = by c.waits e
  where
    by : (w : Waits) → due w ≡ Some h
        → Over (rest_at h (record { position = c.position; waits = w }) (scene_of mem marks)) ≡ stage_at w p c.position (scene_of mem marks)
    by Nothing e = absurd (cc e)
    by (Given r) e = absurd (cc e)
    by (Asked q) e = let f : h ≡ halts.Asks q = cc e in ap (λ h. Over (rest_at h (asking c.position q) (scene_of mem marks))) f
    by (Refused stop) e =
        let f : h ≡ halts.Stopped stop = cc e in ap (λ h. Over (rest_at h (refused c.position stop) (scene_of mem marks))) f

-- what comes to rest makes a step
stepped : (p : Program) (c : Control) (s : Scene) (r : Rest) → Rests p c s r → (n : ℕ) × (carry_on (advance p c s) (exec p n) ≡ Some r)
stepped p c s r (zero, e) = absurd (cc e)
stepped p c s r (suc n, e) = (n, e)

module _ (p : Program) (holds : Cells → Type 0) (heads : Heads) (c' : Control) (marks : ℕ) (r : Rest) where
  -- the machine made it, and goes on to that rest
  pub goes_on : (how : Option Halt) → how ≡ None → (c : Control) (s : Scene) → Rests p c s r → Does holds heads how c' marks (advance p c s)
      → (now : Cells) × (holds now × Rests p c' (scene_of (mem_of heads now) marks) r)
  goes_on how is c s rests does =
      let x = stepped p c s r rests in by x.0 (advance p c s) x.1 (subst (λ how. Does holds heads how c' marks (advance p c s)) is does)
    where
      by : (n : ℕ) (st : Stage) → carry_on st (exec p n) ≡ Some r → Does holds heads None c' marks st
          → (now : Cells) × (holds now × Rests p c' (scene_of (mem_of heads now) marks) r)
      by n (On d t) e does =
          let same : (c' ≡ d) × (scene_of (mem_of heads does.0) marks ≡ t) = (cc does.1.1, cc does.1.1) in
          (does.0, (does.1.0, (n, ap (λ d. exec p n d (scene_of (mem_of heads does.0) marks)) same.0 ∙ ap (exec p n d) same.1 ∙ e)))
      by n (Over x) e does = absurd (cc does.1.1)
      by n Lost e does = absurd (cc e)

  -- or it rests there
  pub rests_there : (how : Option Halt) (h : Halt) → how ≡ Some h → (c : Control) (s : Scene) → Rests p c s r → Does holds heads how c' marks (advance p c s)
      → RestsSo holds heads h c' marks r
  rests_there how h is c s rests does =
      let x = stepped p c s r rests in by x.0 (advance p c s) x.1 (subst (λ how. Does holds heads how c' marks (advance p c s)) is does)
    where
      by : (n : ℕ) (st : Stage) → carry_on st (exec p n) ≡ Some r → Does holds heads (Some h) c' marks st → RestsSo holds heads h c' marks r
      by n (On d t) e does = absurd (cc does.1.1)
      by n (Over x) e does =
          let same : rest_at h c' (scene_of (mem_of heads does.0) marks) ≡ r = cc (does.1.1, e) in
          subst (RestsSo holds heads h c' marks) same (does.1.0, refl)
      by n Lost e does = absurd (cc e)

  -- or it was at rest
  pub rested : (h : Halt) (now : Cells) → due c'.waits ≡ Some h → holds now → Rests p c' (scene_of (mem_of heads now) marks) r → RestsSo holds heads h c' marks r
  rested h now is held rests =
      let there = last_step p c' (scene_of (mem_of heads now) marks) (rest_at h c' (scene_of (mem_of heads now) marks)) (rests_due p c' (mem_of heads now) marks h is) in
      subst (RestsSo holds heads h c' marks) (one_rest p c' (scene_of (mem_of heads now) marks) (rest_at h c' (scene_of (mem_of heads now) marks)) r there rests) (held, refl)

-- nothing is asked where nothing is waited for
pub unasked : (w : Waits) → asked w ≡ None → IsSome (asked w) → ⊥
unasked Nothing e some = absurd (cc some)
unasked (Given r) e some = absurd (cc some)
unasked (Asked q) e some = absurd (cc e)
unasked (Refused stop) e some = absurd (cc some)

-- where nothing is waited for, and no reply is there, a step is made
pub unwaited : (w : Waits) → due w ≡ None → ((r : Reply) → w ≡ Given r → ⊥) → w ≡ Nothing
unwaited Nothing e none = refl
unwaited (Given r) e none = absurd (none r refl)
unwaited (Asked q) e none = absurd (cc e)
unwaited (Refused stop) e none = absurd (cc e)
