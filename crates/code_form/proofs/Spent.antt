-- A run that came to rest with marks left would have come there with none more than it spent. This holds of a rest for want of
-- marks or replies, and of every rest of a run that had no marks.
use Rattle.std.proofs.Common.{◌≡◌, ℕ, zero, suc, ◌+◌, ◌-◌, ◌≤◌, List, [], ◌∷◌, ◌++◌, Some, refl, sym, ap, ◌∙◌, subst, arith, append_assoc, ◌⊎◌, inl, inr}
use Rattle.std.proofs.Common.{⊎_elim}
use Rattle.std.specs.Prelude.{slice_get}
use Rattle.eu_base.specs.declared.request.Request.{Request}
use Rattle.eu_base.specs.Requests.{Answer}
use Rattle.code_form.specs.Program.{Program, instr_of}
use Rattle.code_form.specs.declared.waits.Waits.{Waits}
use Rattle.code_form.specs.declared.waits.Waits.TheVariants.{Nothing, Asked, Given, Refused}
use Rattle.code_form.specs.Machine.{Position, Control, free, asking, given, answered, after_reply, After, To, Asks, Stops, Unsaid, Move, Goes, Spends, Halts, Refuses}
use Rattle.code_form.specs.Machine.{Ends, Unknown, Stuck, Mem, Scene, Rest, step, takes_reply, Stage, On, Over, Lost, after_stage, mark_stage, reply_stage}
use Rattle.code_form.specs.Machine.{move_stage, stage_at, advance, carry_on, exec}
use Rattle.code_form.specs.Runs.{IsPaused, Rests, Stands, StandsOn}
use Rattle.code_form.proofs.Resume.{replied}

-- with so many marks, and with these replies besides
abbrev pub at_marks : List Answer → ℕ → Scene → Scene
at_marks rs m s = record s { marks = m; replies = s.replies ++ rs }

-- with no more marks than the stage spends and k besides, it leads there with k
abbrev Shifts : List Answer → Stage → Control → Scene → (ℕ → Stage) → Type 0
Shifts rs (On c' s') c s f = (s'.marks ≤ s.marks) × ((k : ℕ) → f ((s.marks - s'.marks) + k) ≡ On c' (at_marks rs k s'))
Shifts rs (Over r) c s f = IsPaused r.how ⊎ (s.marks ≡ 0) → (r.control ≡ c) × (r.scene ≡ s)
Shifts rs Lost c s f = Unit {0}

paid_shifts : (rs : List Answer) (m : ℕ) (a : After) (d : Control) (s : Scene) → s.marks ≡ suc m
    → Shifts rs (after_stage a d (record s { marks = m })) d s (λ n. mark_stage n a d (at_marks rs n s))
paid_shifts rs m (To c' x) d s e =
    (omega (arith, e), λ k. let f : (s.marks - m) + k ≡ suc k = omega (arith, e) in ap (λ n. mark_stage n (To c' x) d (at_marks rs n s)) f)
paid_shifts rs m (Asks c' q x) d s e =
    (omega (arith, e), λ k. let f : (s.marks - m) + k ≡ suc k = omega (arith, e) in ap (λ n. mark_stage n (Asks c' q x) d (at_marks rs n s)) f)
paid_shifts rs m (Stops stop) d s e = λ calm. absurd (⊎_elim (λ paused. paused) (λ none. omega (arith, e, none)) calm)
paid_shifts rs m Unsaid d s e = tt

mark_shifts : (rs : List Answer) (m : ℕ) (a : After) (d : Control) (s : Scene) → s.marks ≡ m
    → Shifts rs (mark_stage m a d s) d s (λ n. mark_stage n a d (at_marks rs n s))
mark_shifts rs zero a d s e = λ paused. (refl, refl)
mark_shifts rs (suc m) a d s e = paid_shifts rs m a d s e

move_shifts : (rs : List Answer) (m : Move) (d : Control) (s : Scene) → Shifts rs (move_stage m d s) d s (λ n. move_stage m d (at_marks rs n s))
move_shifts rs (Goes c' x) d s =
    (omega arith, λ k. let f : (s.marks - s.marks) + k ≡ k = omega arith in ap (λ n. move_stage (Goes c' x) d (at_marks rs n s)) f)
move_shifts rs (Spends a) d s = mark_shifts rs s.marks a d s refl
move_shifts rs (Halts stop) d s = λ paused. (refl, refl)
move_shifts rs (Refuses stop c' x) d s =
    (omega arith, λ k. let f : (s.marks - s.marks) + k ≡ k = omega arith in ap (λ n. move_stage (Refuses stop c' x) d (at_marks rs n s)) f)
move_shifts rs Ends d s = λ paused. (refl, refl)
move_shifts rs Unknown d s = tt
move_shifts rs Stuck d s = tt

pub stage_shifts : (p : Program) (rs : List Answer) (w : Waits) (c : Position) (s : Scene)
    → Shifts rs (stage_at w p c s) (record { position = c; waits = w }) s (λ n. stage_at w p c (at_marks rs n s))
stage_shifts p rs Nothing c s = move_shifts rs (step p c s.mem) (free c) s
stage_shifts p rs (Given r) c s = move_shifts rs (takes_reply (instr_of (slice_get p.lines c.pc)) r c s.mem) (given c r) s
stage_shifts p rs (Asked q) c s = asks s.replies
  where
    asks : (xs : List Answer) → Shifts rs (reply_stage xs q c s) (asking c q) s (λ n. reply_stage (xs ++ rs) q c (at_marks rs n s))
    asks [] = λ paused. (refl, refl)
    asks (x ∷ xs) = (omega arith, λ k. let f : (s.marks - s.marks) + k ≡ k = omega arith in ap (λ n. reply_stage ((x ∷ xs) ++ rs) q c (at_marks rs n s)) f)
stage_shifts p rs (Refused stop) c s = λ paused. (refl, refl)

-- no step makes marks
abbrev Falls : ℕ → Stage → Type 0
Falls n (On c s) = s.marks ≤ n
Falls n (Over r) = r.scene.marks ≤ n
Falls n Lost = Unit {0}

after_falls : (m : ℕ) (a : After) (d : Control) (s : Scene) → Falls (suc m) (after_stage a d (record s { marks = m }))
after_falls m (To c' x) d s = omega arith
after_falls m (Asks c' q x) d s = omega arith
after_falls m (Stops stop) d s = omega arith
after_falls m Unsaid d s = tt

move_falls : (m : Move) (d : Control) (s : Scene) → Falls s.marks (move_stage m d s)
move_falls (Goes c' x) d s = omega arith
move_falls (Spends a) d s = by s.marks refl
  where
    by : (n : ℕ) → s.marks ≡ n → Falls n (mark_stage n a d s)
    by zero e = omega (arith, e)
    by (suc n) e = after_falls n a d s
move_falls (Halts stop) d s = omega arith
move_falls (Refuses stop c' x) d s = omega arith
move_falls Ends d s = omega arith
move_falls Unknown d s = tt
move_falls Stuck d s = tt

stage_falls : (p : Program) (w : Waits) (c : Position) (s : Scene) → Falls s.marks (stage_at w p c s)
stage_falls p Nothing c s = move_falls (step p c s.mem) (free c) s
stage_falls p (Given r) c s = move_falls (takes_reply (instr_of (slice_get p.lines c.pc)) r c s.mem) (given c r) s
stage_falls p (Asked q) c s = by s.replies
  where
    by : (rs : List Answer) → Falls s.marks (reply_stage rs q c s)
    by [] = omega arith
    by (r ∷ rs) = omega arith
stage_falls p (Refused stop) c s = omega arith

pub falls : (p : Program) (n : ℕ) (c : Control) (s : Scene) (r : Rest) → exec p n c s ≡ Some r → r.scene.marks ≤ s.marks
falls p zero c s r e = absurd (cc e)
falls p (suc n) c s r e = by (λ c s e. falls p n c s r e) (advance p c s) (stage_falls p c.waits c.position s) e
  where
    by : ((c : Control) (s : Scene) → exec p n c s ≡ Some r → r.scene.marks ≤ s.marks) → (st : Stage) → Falls s.marks st → carry_on st (exec p n) ≡ Some r
        → r.scene.marks ≤ s.marks
    by ih (On c' s') f e = let g : r.scene.marks ≤ s'.marks = ih c' s' e in omega (arith, f, g)
    by ih (Over x) f e = let same : x ≡ r = cc e in subst (λ (x : Rest). x.scene.marks ≤ s.marks) same f
    by ih Lost f e = absurd (cc e)

-- what comes to rest from a place, with all marks and replies from another
pub record Leads (p : Program) (rs : List Answer) (c : Control) (s : Scene) (r : Rest) : Type 0 where
  pub less : r.scene.marks ≤ s.marks
  pub goes : (k : ℕ) (last : Rest) → Rests p r.control (at_marks rs k r.scene) last → Rests p c (at_marks rs ((s.marks - r.scene.marks) + k) s) last

module _ (p : Program) (rs : List Answer) where
  leads_stage : (j : ℕ) (st : Stage) (c : Control) (s : Scene) (r : Rest) → IsPaused r.how ⊎ (s.marks ≡ 0)
      → ((c : Control) (s : Scene) → IsPaused r.how ⊎ (s.marks ≡ 0) → exec p j c s ≡ Some r → Leads p rs c s r) →
      carry_on st (exec p j) ≡ Some r → Shifts rs st c s (λ n. advance p c (at_marks rs n s)) → Leads p rs c s r
  leads_stage j (On c' s') c s r paused ih e w =
      let a = ih c' s' (⊎_elim (λ p. inl p) (λ none. inr (omega (arith, w.0, none))) paused) e in
      record {
        less = omega (arith, w.0, a.less);
        goes = λ k last h.
            let b = a.goes k last h in
            let f : (s.marks - r.scene.marks) + k ≡ (s.marks - s'.marks) + ((s'.marks - r.scene.marks) + k) = omega (arith, w.0, a.less) in
            subst (λ n. Rests p c (at_marks rs n s) last) (sym f)
            (suc b.0, ap (λ st. carry_on st (exec p b.0)) (w.1 ((s'.marks - r.scene.marks) + k)) ∙ b.1);
      }
  leads_stage j (Over x) c s r paused ih e w =
      let f : x ≡ r = cc in
      let at_rest = w (subst (λ (y : Rest). IsPaused y.how ⊎ (s.marks ≡ 0)) (sym f) paused) in
      let same_c : r.control ≡ c = ap (λ (y : Rest). y.control) (sym f) ∙ at_rest.0 in
      let same_s : r.scene ≡ s = ap (λ (y : Rest). y.scene) (sym f) ∙ at_rest.1 in
      let marks : r.scene.marks ≡ s.marks = ap (λ (y : Scene). y.marks) same_s in
      record {
        less = omega (arith, marks);
        goes = λ k last h.
            let g : (s.marks - r.scene.marks) + k ≡ k = omega (arith, marks) in
            subst (λ n. Rests p c (at_marks rs n s) last) (sym g)
            (subst (λ (d : Control). Rests p d (at_marks rs k s) last) same_c (subst (λ (u : Scene). Rests p r.control (at_marks rs k u) last) same_s h));
      }
  leads_stage j Lost c s r paused ih e w = let f : ⊥ = cc in absurd f

  pub leads : (j : ℕ) (c : Control) (s : Scene) (r : Rest) → IsPaused r.how ⊎ (s.marks ≡ 0) → exec p j c s ≡ Some r → Leads p rs c s r
  leads zero c s r paused e = let f : ⊥ = cc in absurd f
  leads (suc j) c s r paused e = leads_stage j (advance p c s) c s r paused (λ c s calm e. leads j c s r calm e) e (stage_shifts p rs c.waits c.position s)

pub stands_run : StandsOn
stands_run p first was spent left replies c now r paused k h none = record {
  goes = λ marks more last g.
      let s : Scene = record { mem = now; marks = left; replies = [] } in
      let l : Leads p more c s r = leads p more h.0 c s r paused h.1 in
      let g' : Rests p r.control (at_marks more marks r.scene) last =
      subst (λ rs. Rests p r.control (record { mem = r.scene.mem; marks = marks; replies = rs ++ more }) last) (sym none) g in
      let e : spent + ((left - r.scene.marks) + marks) ≡ (spent + (left - r.scene.marks)) + marks = omega arith in
      subst (λ n. Rests p first (record { mem = was; marks = n; replies = replies ++ more }) last) e
      (k.goes ((left - r.scene.marks) + marks) more last (l.goes marks last g'));
}

module _ (p : Program) (first : Control) (was : Mem) where
  -- at the start nothing was spent
  pub stands_first : Stands p first was 0 [] first was
  stands_first = record {
    goes =
        λ marks more last h. let e : marks ≡ 0 + marks = omega arith in
        subst (λ n. Rests p first (record { mem = was; marks = n; replies = more }) last) e h;
  }

  -- after an answer
  pub stands_reply : (spent : ℕ) (replies : List Answer) (c : Position) (now : Mem) (q : Request) (a : Answer)
      → Stands p first was spent replies (asking c q) now → Stands p first was spent (replies ++ a ∷ []) (answered q a.reply c) (after_reply q a now)
  stands_reply spent replies c now q a k = record {
    goes = λ marks more last g.
        let same : replies ++ a ∷ more ≡ (replies ++ a ∷ []) ++ more = sym (append_assoc replies (a ∷ []) more) in
        subst (λ rs. Rests p first (record { mem = was; marks = spent + marks; replies = rs }) last) same
        (k.goes marks (a ∷ more) last (replied p c (record { mem = now; marks = marks; replies = more }) q a last g));
  }
