-- A run that came to rest stays there without a mark more.
use Rattle.std.proofs.Common.{◌≡◌, ℕ, zero, suc, List, [], ◌∷◌, ◌++◌, Option, Some, None, refl, sym, ap, ◌∙◌, subst, arith, ◌⊎◌, inl, inr, ⊎_elim}
use Rattle.std.specs.Prelude.{slice_get}
use Rattle.eu_base.specs.declared.request.Request.{Request}
use Rattle.eu_base.specs.Requests.{Answer}
use Rattle.code_form.specs.declared.waits.Waits.{Waits}
use Rattle.code_form.specs.declared.waits.Waits.TheVariants.{Nothing, Asked, Given, Refused}
use Rattle.code_form.specs.Program.{Program, instr_of}
use Rattle.code_form.specs.Machine.{Position, Control, free, asking, given, After, To, Asks, Stops, Unsaid, Move, Goes, Spends, Halts, Refuses, Ends, Unknown, Stuck}
use Rattle.code_form.specs.Machine.{Scene, Rest, rest_at, step, takes_reply, Stage, On, Over, Lost, after_stage, mark_stage, reply_stage, move_stage, stage_at}
use Rattle.code_form.specs.Machine.{advance, carry_on, exec}
use Rattle.code_form.specs.Runs.{IsPaused, Rests, asked}
use Rattle.code_form.proofs.Spent.{stage_shifts}
use Rattle.task_job.specs.Runs.{asked_by, IsStill}
use Rattle.task_job.proofs.Passing.{Shifts}

-- with neither marks nor replies
abbrev bare : Scene → Scene
bare s = record s { marks = 0; replies = [] }

-- it waits for what it asks
abbrev AsksAs : Option Request → Stage → Type 0
AsksAs q (On c s) = Unit {0}
AsksAs q (Over r) = q ≡ asked_by r.how
AsksAs q Lost = Unit {0}

after_asks : (a : After) (d : Control) (s : Scene) → AsksAs None (after_stage a d s)
after_asks (To c m) d s = tt
after_asks (Asks c q m) d s = tt
after_asks (Stops stop) d s = refl
after_asks Unsaid d s = tt

mark_asks : (n : ℕ) (a : After) (d : Control) (s : Scene) → AsksAs None (mark_stage n a d s)
mark_asks zero a d s = refl
mark_asks (suc n) a d s = after_asks a d (record s { marks = n })

move_asks : (m : Move) (d : Control) (s : Scene) → AsksAs None (move_stage m d s)
move_asks (Goes c m) d s = tt
move_asks (Spends a) d s = mark_asks s.marks a d s
move_asks (Halts stop) d s = refl
move_asks (Refuses stop c m) d s = tt
move_asks Ends d s = refl
move_asks Unknown d s = tt
move_asks Stuck d s = tt

stage_asks : (p : Program) (w : Waits) (c : Position) (s : Scene) → AsksAs (asked w) (stage_at w p c s)
stage_asks p Nothing c s = move_asks (step p c s.mem) (free c) s
stage_asks p (Given r) c s = move_asks (takes_reply (instr_of (slice_get p.lines c.pc)) r c s.mem) (given c r) s
stage_asks p (Asked q) c s = by s.replies
  where
    by : (rs : List Answer) → AsksAs (Some q) (reply_stage rs q c s)
    by [] = refl
    by (r ∷ rs) = tt
stage_asks p (Refused stop) c s = refl

-- a rest for want of marks or replies is one without any
abbrev StaysAs : Stage → Control → Scene → Stage → Type 0
StaysAs (On c' s') c s st = Unit {0}
StaysAs (Over r) c s st = IsPaused r.how → st ≡ Over (rest_at r.how c (bare s))
StaysAs Lost c s st = Unit {0}

after_stays : (n : ℕ) (a : After) (d : Control) (s : Scene) (st : Stage) → StaysAs (after_stage a d (record s { marks = n })) d s st
after_stays n (To c m) d s st = tt
after_stays n (Asks c q m) d s st = tt
after_stays n (Stops stop) d s st = λ paused. absurd paused
after_stays n Unsaid d s st = tt

mark_stays : (n : ℕ) (a : After) (d : Control) (s : Scene) → StaysAs (mark_stage n a d s) d s (mark_stage 0 a d (bare s))
mark_stays zero a d s = λ paused. refl
mark_stays (suc n) a d s = after_stays n a d s (mark_stage 0 a d (bare s))

move_stays : (m : Move) (d : Control) (s : Scene) → StaysAs (move_stage m d s) d s (move_stage m d (bare s))
move_stays (Goes c m) d s = tt
move_stays (Spends a) d s = mark_stays s.marks a d s
move_stays (Halts stop) d s = λ paused. absurd paused
move_stays (Refuses stop c m) d s = tt
move_stays Ends d s = λ paused. absurd paused
move_stays Unknown d s = tt
move_stays Stuck d s = tt

stage_stays : (p : Program) (w : Waits) (c : Position) (s : Scene) → StaysAs (stage_at w p c s) (record { position = c; waits = w }) s (stage_at w p c (bare s))
stage_stays p Nothing c s = move_stays (step p c s.mem) (free c) s
stage_stays p (Given r) c s = move_stays (takes_reply (instr_of (slice_get p.lines c.pc)) r c s.mem) (given c r) s
stage_stays p (Asked q) c s = by s.replies
  where
    by : (rs : List Answer) → StaysAs (reply_stage rs q c s) (asking c q) s (reply_stage [] q c (bare s))
    by [] = λ paused. refl
    by (r ∷ rs) = tt
stage_stays p (Refused stop) c s = λ paused. absurd paused

module _ (p : Program) where
  -- the last step of a run that rests stays where it was
  pub last_step : (j : ℕ) (c : Control) (s : Scene) (r : Rest) → IsPaused r.how ⊎ (s.marks ≡ 0) → exec p j c s ≡ Some r → advance p r.control r.scene ≡ Over r
  last_step zero c s r calm e = absurd (cc e)
  last_step (suc j) c s r calm e = by (λ c s calm e. last_step j c s r calm e) (advance p c s) refl (stage_shifts p [] c.waits c.position s) e
    where
      by : ((c : Control) (s : Scene) → IsPaused r.how ⊎ (s.marks ≡ 0) → exec p j c s ≡ Some r → advance p r.control r.scene ≡ Over r) → (st : Stage) → advance p c s ≡ st
          → Shifts [] st c s (λ n. advance p c (record s { marks = n; replies = s.replies ++ [] })) → carry_on st (exec p j) ≡ Some r → advance p r.control r.scene ≡ Over r
      by ih (On c' s') is w e = ih c' s' (⊎_elim (λ q. inl q) (λ none. inr (omega (arith, w.0, none))) calm) e
      by ih (Over x) is w e =
          let f : x ≡ r = cc e in
          let at_rest = w (subst (λ (y : Rest). IsPaused y.how ⊎ (s.marks ≡ 0)) (sym f) calm) in
          let same_c : c ≡ r.control = sym at_rest.0 ∙ ap (λ (y : Rest). y.control) f in
          let same_s : s ≡ r.scene = sym at_rest.1 ∙ ap (λ (y : Rest). y.scene) f in
          subst (λ (t : Scene). advance p r.control t ≡ Over r) same_s (subst (λ (d : Control). advance p d s ≡ Over r) same_c (is ∙ ap Over f))
      by ih Lost is w e = absurd (cc e)

  asks_there : (c : Control) (s : Scene) (r : Rest) → advance p c s ≡ Over r → asked c.waits ≡ asked_by r.how
  asks_there c s r e = subst (AsksAs (asked c.waits)) e (stage_asks p c.waits c.position s)

  stays_there : (c : Control) (s : Scene) (r : Rest) → advance p c s ≡ Over r → IsPaused r.how → advance p c (bare s) ≡ Over (rest_at r.how c (bare s))
  stays_there c s r e paused = subst (λ st. StaysAs st c s (advance p c (bare s))) e (stage_stays p c.waits c.position s) paused

  one_step : (c : Control) (s : Scene) (r : Rest) → advance p c s ≡ Over r → Rests p c s r
  one_step c s r e = (1, ap (λ st. carry_on st (exec p 0)) e)

  -- a run that came to rest with these replies none of which are left
  pub still : (j : ℕ) (c : Control) (s : Scene) (r : Rest) → IsPaused r.how ⊎ (s.marks ≡ 0) → exec p j c s ≡ Some r → IsPaused r.how ⊎ (r.scene ≡ bare r.scene)
      → IsStill p r.control r.scene.mem
  still j c s r calm e (inl paused) =
      let f = last_step j c s r calm e in
      record {
        rest = rest_at r.how r.control (bare r.scene);
        rests = one_step r.control (bare r.scene) (rest_at r.how r.control (bare r.scene)) (stays_there r.control r.scene r f paused);
        mem_is = refl;
        asks = asks_there r.control r.scene r f;
      }
  still j c s r calm e (inr none) =
      let f = last_step j c s r calm e in
      record {
        rest = r;
        rests = subst (λ (t : Scene). Rests p r.control t r) none (one_step r.control r.scene r f);
        mem_is = refl;
        asks = asks_there r.control r.scene r f;
      }
