-- A run that comes to rest for want of replies goes on from there with more of them as it does from its start.
use Rattle.std.proofs.Common.{◌≡◌, ℕ, zero, suc, List, [], ◌∷◌, ◌++◌, Some, refl, sym, ap, ◌∙◌, subst}
use Rattle.std.specs.Prelude.{slice_get}
use Rattle.eu_base.specs.Requests.{Answer}
use Rattle.code_form.specs.declared.waits.Waits.{Waits}
use Rattle.code_form.specs.declared.waits.Waits.TheVariants.{Nothing, Asked, Given, Refused}
use Rattle.code_form.specs.Program.{Program, instr_of}
use Rattle.code_form.specs.Machine.{Position, Control, free, asking, After, To, Asks, Stops, Unsaid, Move, Goes, Spends, Halts, Refuses, Ends, Unknown, Stuck}
use Rattle.code_form.specs.Machine.{Scene, Rest, given, takes_reply, step, Stage, On, Over, Lost, after_stage, mark_stage, reply_stage, move_stage, stage_at}
use Rattle.code_form.specs.Machine.{advance, carry_on, exec}
use Rattle.code_form.specs.Runs.{IsPaused, Rests}

-- with these replies besides
abbrev pub longer : List Answer → Scene → Scene
longer more s = record s { replies = s.replies ++ more }

-- what a step leads to with them
abbrev Longer : List Answer → Stage → Control → Scene → Stage → Type 0
Longer more (On c' s') c s st = st ≡ On c' (longer more s')
Longer more (Over r) c s st = IsPaused r.how → (r.control ≡ c) × (r.scene ≡ s)
Longer more Lost c s st = Unit {0}

module _ (p : Program) (more : List Answer) where
  paid_longer : (m : ℕ) (a : After) (d : Control) (s : Scene)
      → Longer more (after_stage a d (record s { marks = m })) d s (after_stage a d (longer more (record s { marks = m })))
  paid_longer m (To c' m') d s = refl
  paid_longer m (Asks c' q m') d s = refl
  paid_longer m (Stops stop) d s = λ paused. absurd paused
  paid_longer m Unsaid d s = tt

  mark_longer : (m : ℕ) (a : After) (d : Control) (s : Scene) → Longer more (mark_stage m a d s) d s (mark_stage m a d (longer more s))
  mark_longer zero a d s = λ paused. (refl, refl)
  mark_longer (suc m) a d s = paid_longer m a d s

  move_longer : (m : Move) (d : Control) (s : Scene) → Longer more (move_stage m d s) d s (move_stage m d (longer more s))
  move_longer (Goes c' m') d s = refl
  move_longer (Spends a) d s = mark_longer s.marks a d s
  move_longer (Halts stop) d s = λ paused. absurd paused
  move_longer (Refuses stop c' m') d s = refl
  move_longer Ends d s = λ paused. absurd paused
  move_longer Unknown d s = tt
  move_longer Stuck d s = tt

  stage_longer : (w : Waits) (c : Position) (s : Scene)
      → Longer more (stage_at w p c s) (record { position = c; waits = w }) s (stage_at w p c (longer more s))
  stage_longer Nothing c s = move_longer (step p c s.mem) (free c) s
  stage_longer (Given r) c s = move_longer (takes_reply (instr_of (slice_get p.lines c.pc)) r c s.mem) (given c r) s
  stage_longer (Asked q) c s = by s.replies
    where
      by : (rs : List Answer) → Longer more (reply_stage rs q c s) (asking c q) s (reply_stage (rs ++ more) q c (longer more s))
      by [] = λ paused. (refl, refl)
      by (r ∷ rs) = refl
  stage_longer (Refused stop) c s = λ paused. absurd paused

  pub passed : (j : ℕ) (c : Control) (s : Scene) (r last : Rest) → IsPaused r.how → exec p j c s ≡ Some r → Rests p c (longer more s) last
      → Rests p r.control (longer more r.scene) last
  passed zero c s r last paused e h = absurd (cc e)
  passed (suc j) c s r last paused e (zero, f) = absurd (cc f)
  passed (suc j) c s r last paused e (suc n, f) =
      by (λ c' s' e h. passed j c' s' r last paused e h) (advance p c s) (advance p c (longer more s)) (stage_longer c.waits c.position s) e f (suc n, f)
    where
      by : ((c' : Control) (s' : Scene) → exec p j c' s' ≡ Some r → Rests p c' (longer more s') last → Rests p r.control (longer more r.scene) last)
          → (st st' : Stage) → Longer more st c s st' → carry_on st (exec p j) ≡ Some r → carry_on st' (exec p n) ≡ Some last
          → Rests p c (longer more s) last → Rests p r.control (longer more r.scene) last
      by on (On c' s') st' same e f whole = on c' s' e (n, ap (λ st. carry_on st (exec p n)) (sym same) ∙ f)
      by on (Over x) st' rests e f whole =
          let is : x ≡ r = cc e in
          let here = rests (subst (λ (x : Rest). IsPaused x.how) (sym is) paused) in
          subst (λ (x : Rest). Rests p x.control (longer more x.scene) last) is
          (subst (λ (d : Control). Rests p d (longer more x.scene) last) (sym here.0)
          (subst (λ (t : Scene). Rests p c (longer more t) last) (sym here.1) whole))
      by on Lost st' same e f whole = absurd (cc e)
