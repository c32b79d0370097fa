-- A run that rests at a request has paid a mark for it.
use Rattle.std.proofs.Common.{◌≡◌, ℕ, zero, suc, ◌+◌, ◌≤◌, List, [], ◌∷◌, Some, ap, ◌∙◌, subst, arith}
use Rattle.std.specs.Prelude.{slice_get}
use Rattle.eu_base.specs.declared.request.Request.{Request}
use Rattle.eu_base.specs.Requests.{Answer}
use Rattle.system.specs.Below.code_form.specs.declared.halt.Halt.TheVariants as halts
use Rattle.system.specs.Below.code_form.specs.declared.waits.Waits.{Waits}
use Rattle.system.specs.Below.code_form.specs.declared.waits.Waits.TheVariants.{Nothing, Asked, Given, Refused}
use Rattle.system.specs.Below.code_form.specs.Program.{Program, instr_of}
use Rattle.system.specs.Below.code_form.specs.Machine.{Position, Control, After, To, Stops, Unsaid, Move, Goes, Spends, Halts, Refuses, Ends, Unknown, Stuck, Mem, Scene, Rest, step}
use Rattle.system.specs.Below.code_form.specs.Machine.{free, given, answered, answered_by, takes_reply, Stage, On, Over, Lost}
use Rattle.system.specs.Below.code_form.specs.Machine.{after_stage, mark_stage, move_stage, reply_stage, stage_at, advance, carry_on, exec, rest_at}
use Rattle.system.specs.Below.code_form.specs.Machine as machine

-- a request that waits for its reply has cost a mark
abbrev pub owed : Waits → ℕ
owed Nothing = 0
owed (Asked q) = 1
owed (Given r) = 0
owed (Refused stop) = 0

-- A run that had so many marks and no answers rests at a request: it waits for the answer.
pub record RestsAsking (q : Request) (marks : ℕ) (r : Rest) : Type 0 where
  pub paid : 1 + r.scene.marks ≤ marks
  pub waits : r.control.waits ≡ Asked q
  pub none : r.scene.replies ≡ []

-- from so many marks on a request costs a mark
abbrev Pays : (marks : ℕ) → Stage → Type 0
Pays n (On c s) = (s.replies ≡ []) × (s.marks + owed c.waits ≤ n)
Pays n (Over r) = (q : Request) → r.how ≡ halts.Asks q → RestsAsking q n r
Pays n Lost = Unit {0}

after_pays : (n : ℕ) (a : After) (d : Control) (s : Scene) → s.replies ≡ [] → Pays (suc n) (after_stage a d (record s { marks = n }))
after_pays n (To c' x) d s none = (none, omega arith)
after_pays n (machine.Asks c' q x) d s none = (none, omega arith)
after_pays n (Stops stop) d s none = λ q is. absurd (cc is)
after_pays n Unsaid d s none = tt

move_pays : (m : Move) (d : Control) (s : Scene) → s.replies ≡ [] → Pays (s.marks + 0) (move_stage m d s)
move_pays (Goes c' x) d s none = (none, omega arith)
move_pays (Spends a) d s none = by s.marks
  where
    by : (n : ℕ) → Pays (n + 0) (mark_stage n a d s)
    by zero = λ q is. absurd (cc is)
    by (suc n) =
        let e : suc n ≡ suc n + 0 = omega arith in
        subst (λ k. Pays k (after_stage a d (record s { marks = n }))) e (after_pays n a d s none)
move_pays (Halts stop) d s none = λ q is. absurd (cc is)
move_pays (Refuses stop c' x) d s none = (none, omega arith)
move_pays Ends d s none = λ q is. absurd (cc is)
move_pays Unknown d s none = tt
move_pays Stuck d s none = tt

stage_pays : (p : Program) (w : Waits) (c : Position) (s : Scene) → s.replies ≡ [] → Pays (s.marks + owed w) (stage_at w p c s)
stage_pays p Nothing c s none = move_pays (step p c s.mem) (free c) s none
stage_pays p (Given r) c s none = move_pays (takes_reply (instr_of (slice_get p.lines c.pc)) r c s.mem) (given c r) s none
stage_pays p (Asked q) c s none = by s.replies none
  where
    by : (rs : List Answer) → rs ≡ [] → Pays (s.marks + 1) (reply_stage rs q c s)
    by [] is = λ q' same. record { paid = omega arith; waits = cc same; none = none }
    by (a ∷ rs) is = absurd (cc is)
stage_pays p (Refused stop) c s none = λ q is. absurd (cc is)

pub asks_pay : (p : Program) (n : ℕ) (c : Control) (s : Scene) (r : Rest) (q : Request) → s.replies ≡ [] → exec p n c s ≡ Some r → r.how ≡ halts.Asks q
    → RestsAsking q (s.marks + owed c.waits) r
asks_pay p zero c s r q none e is = absurd (cc e)
asks_pay p (suc n) c s r q none e is = by (advance p c s) (λ c s none e. asks_pay p n c s r q none e is) (stage_pays p c.waits c.position s none) e
  where
    by : (st : Stage) → ((c : Control) (s : Scene) → s.replies ≡ [] → exec p n c s ≡ Some r → RestsAsking q (s.marks + owed c.waits) r)
        → Pays (s.marks + owed c.waits) st → carry_on st (exec p n) ≡ Some r → RestsAsking q (s.marks + owed c.waits) r
    by (On c' s') ih f e =
        let later = ih c' s' f.0 e in
        record { paid = omega (arith, later.paid, f.1); waits = later.waits; none = later.none }
    by (Over x) ih f e =
        let same : x ≡ r = cc e in
        subst (λ (y : Rest). RestsAsking q (s.marks + owed c.waits) y) same
        (f q (ap (λ (y : Rest). y.how) same ∙ is))
    by Lost ih f e = absurd (cc e)
