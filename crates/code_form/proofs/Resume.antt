-- Runs that come to rest and go on.
use Rattle.std.proofs.Common.{◌≡◌, ℕ, zero, suc, ◌+◌, ◌≤◌, List, [], ◌∷◌, ◌++◌, Some, refl, sym, ap, ◌∙◌, subst, arith, ⊎_elim}
use Rattle.std.specs.Prelude.{slice_get}
use Rattle.std.proofs.lemmas.Bool.{cases_lt}
use Rattle.eu_base.specs.Requests.{Answer}
use Rattle.code_form.specs.declared.halt.Halt.TheVariants as halts
use Rattle.code_form.specs.Program.{Program, instr_of}
use Rattle.code_form.specs.declared.waits.Waits.{Waits}
use Rattle.code_form.specs.declared.waits.Waits.TheVariants.{Nothing, Asked, Given, Refused}
use Rattle.code_form.specs.Machine.{Position, Control, free, given, After, To, Asks, Stops, Unsaid, Move, Goes, Spends, Halts, Refuses, Ends, Unknown, Stuck}
use Rattle.code_form.specs.Machine.{Scene, Rest, step, takes_reply, Stage, On, Over, Lost, after_stage, mark_stage, reply_stage, move_stage, stage_at, advance}
use Rattle.code_form.specs.Machine.{carry_on, exec}
use Rattle.code_form.specs.Runs.{IsPaused, Rests, wider, Resumes, Replies, IsOne}

the_some : {A : Type 0} (a b : A) → Some a ≡ Some b → a ≡ b
the_some a b e = cc

-- more steps change nothing of a run that rests
longer : (p : Program) (m n : ℕ) (c : Control) (s : Scene) (r : Rest) → m ≤ n → exec p m c s ≡ Some r → exec p n c s ≡ Some r
longer p zero n c s r le e = let f : ⊥ = cc in absurd f
longer p (suc m) zero c s r le e = absurd (omega arith)
longer p (suc m) (suc n) c s r le e = by (λ c s e. longer p m n c s r (omega arith) e) (advance p c s) e
  where
    by : ((c : Control) (s : Scene) → exec p m c s ≡ Some r → exec p n c s ≡ Some r) → (st : Stage) → carry_on st (exec p m) ≡ Some r
        → carry_on st (exec p n) ≡ Some r
    by ih (On c s) e = ih c s e
    by ih (Over x) e = e
    by ih Lost e = e

pub one_rest : IsOne
one_rest p c s r r' a b =
    ⊎_elim
    (λ lt. the_some r r' (sym (longer p a.0 b.0 c s r (omega arith) a.1) ∙ b.1))
    (λ le. the_some r r' (sym a.1 ∙ longer p b.0 a.0 c s r' le b.1))
    (cases_lt a.0 b.0)

-- the same stage with more marks and replies; a rest for want of them is where the step was made
abbrev Widens : ℕ → List Answer → Stage → Control → Scene → Stage → Type 0
Widens marks replies (On c' s') c s st = st ≡ On c' (wider s' marks replies)
Widens marks replies (Over r) c s st = IsPaused r.how → (r.control ≡ c) × (r.scene ≡ s)
Widens marks replies Lost c s st = Unit {0}

after_widens : (marks : ℕ) (replies : List Answer) (a : After) (d : Control) (s : Scene)
    → Widens marks replies (after_stage a d s) d s (after_stage a d (wider s marks replies))
after_widens marks replies (To c' m) d s = refl
after_widens marks replies (Asks c' q m) d s = refl
after_widens marks replies (Stops stop) d s = λ paused. absurd paused
after_widens marks replies Unsaid d s = tt

of_marks : (marks : ℕ) (replies : List Answer) (st st' : Stage) (c : Control) (s s' : Scene) → ((r : Rest) → st ≡ Over r → IsPaused r.how → ⊥)
    → Widens marks replies st c s st' → Widens marks replies st c s' st'
of_marks marks replies (On c' x) st' c s s' never w = w
of_marks marks replies (Over r) st' c s s' never w = λ paused. absurd (never r refl paused)
of_marks marks replies Lost st' c s s' never w = tt

never_paused : (a : After) (d : Control) (s : Scene) (r : Rest) → after_stage a d s ≡ Over r → IsPaused r.how → ⊥
never_paused (To c' m) d s r e paused = let f : ⊥ = cc in f
never_paused (Asks c' q m) d s r e paused = let f : ⊥ = cc in f
never_paused (Stops stop) d s r e paused =
    let f : record { how = halts.Stopped stop; control = d; scene = s } ≡ r = cc in
    subst (λ (x : Rest). IsPaused x.how) (sym f) paused
never_paused Unsaid d s r e paused = let f : ⊥ = cc in f

mark_widens : (marks : ℕ) (replies : List Answer) (m : ℕ) (a : After) (d : Control) (s : Scene)
    → Widens marks replies (mark_stage m a d s) d s (mark_stage (m + marks) a d (wider s marks replies))
mark_widens marks replies zero a d s = λ paused. (refl, refl)
mark_widens marks replies (suc m) a d s =
    let e : suc m + marks ≡ suc (m + marks) = omega arith in
    let s' = record s { marks = m } in
    subst (λ n. Widens marks replies (after_stage a d s') d s (mark_stage n a d (wider s marks replies))) (sym e)
    (of_marks marks replies (after_stage a d s') (after_stage a d (wider s' marks replies)) d s' s (never_paused a d s')
    (after_widens marks replies a d s'))

move_widens : (marks : ℕ) (replies : List Answer) (m : Move) (d : Control) (s : Scene)
    → Widens marks replies (move_stage m d s) d s (move_stage m d (wider s marks replies))
move_widens marks replies (Goes c' m) d s = refl
move_widens marks replies (Spends a) d s = mark_widens marks replies s.marks a d s
move_widens marks replies (Halts stop) d s = λ paused. (refl, refl)
move_widens marks replies (Refuses stop c' m) d s = refl
move_widens marks replies Ends d s = λ paused. (refl, refl)
move_widens marks replies Unknown d s = tt
move_widens marks replies Stuck d s = tt

stage_widens : (p : Program) (marks : ℕ) (replies : List Answer) (w : Waits) (c : Position) (s : Scene)
    → Widens marks replies (stage_at w p c s) (record { position = c; waits = w }) s (stage_at w p c (wider s marks replies))
stage_widens p marks replies Nothing c s = move_widens marks replies (step p c s.mem) (free c) s
stage_widens p marks replies (Given r) c s =
    move_widens marks replies (takes_reply (instr_of (slice_get p.lines c.pc)) r c s.mem) (given c r) s
stage_widens p marks replies (Asked q) c s = asks s.replies
  where
    asks : (rs : List Answer)
        → Widens marks replies (reply_stage rs q c s) (record { position = c; waits = Asked q }) s (reply_stage (rs ++ replies) q c (wider s marks replies))
    asks [] = λ paused. (refl, refl)
    asks (r ∷ rs) = refl
stage_widens p marks replies (Refused stop) c s = λ paused. (refl, refl)

module _ (p : Program) (marks : ℕ) (replies : List Answer) (last : Rest) where
  resume_stage : (j : ℕ) (st : Stage) (c : Control) (s : Scene) (r : Rest) → IsPaused r.how
      → ((c : Control) (s : Scene) → exec p j c s ≡ Some r → Rests p c (wider s marks replies) last) → carry_on st (exec p j) ≡ Some r
      → Rests p r.control (wider r.scene marks replies) last → Widens marks replies st c s (advance p c (wider s marks replies))
      → Rests p c (wider s marks replies) last
  resume_stage j (On c' s') c s r paused ih e h w =
      let a = ih c' s' e in
      (suc a.0, ap (λ st. carry_on st (exec p a.0)) w ∙ a.1)
  resume_stage j (Over x) c s r paused ih e h w =
      let f : x ≡ r = the_some x r e in
      let at_rest = w (subst (λ (y : Rest). IsPaused y.how) (sym f) paused) in
      let g : Rests p x.control (wider x.scene marks replies) last = subst (λ (y : Rest). Rests p y.control (wider y.scene marks replies) last) (sym f) h in
      subst (λ (d : Control). Rests p d (wider s marks replies) last) at_rest.0
      (subst (λ (u : Scene). Rests p x.control (wider u marks replies) last) at_rest.1 g)
  resume_stage j Lost c s r paused ih e h w = let f : ⊥ = cc in absurd f

  resume : (j : ℕ) (c : Control) (s : Scene) (r : Rest) → IsPaused r.how → exec p j c s ≡ Some r → Rests p r.control (wider r.scene marks replies) last
      → Rests p c (wider s marks replies) last
  resume zero c s r paused e h = let f : ⊥ = cc in absurd f
  resume (suc j) c s r paused e h =
      resume_stage j (advance p c s) c s r paused (λ c s e. resume j c s r paused e h) e h (stage_widens p marks replies c.waits c.position s)

pub resumed : Resumes
resumed p c s r last marks replies paused a h = resume p marks replies last a.0 c s r paused a.1 h

pub replied : Replies
replied p c s q a last h = (suc h.0, h.1)
