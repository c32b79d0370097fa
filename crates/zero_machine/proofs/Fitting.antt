-- A step from a state that fits leaves one that fits, nearer to the end.
use Rattle.std.proofs.Common.{◌≡◌, ℕ, zero, suc, ◌<◌, refl, length, Option, Some, None, true, sym, ap, ◌∙◌, subst, arith, inl, inr}
use Rattle.std.specs.Prelude.{Result, Ok, Err, IfOk, OnOk, IsSome, slice_get}
use Rattle.eu_base.specs.Cells.{Cells}
use Rattle.eu_base.specs.DataSpaces.{Heads}
use Rattle.eu_base.specs.declared.request.RequestName.{RequestName}
use Rattle.eu_base.specs.declared.request.Reply.{Reply}
use Rattle.code_form.specs.declared.instr.Instr.{Instr}
use Rattle.code_form.specs.declared.instr.Instr.TheVariants.{Ask}
use Rattle.eu_base.specs.declared.stop.Stop.TheVariants as stop
use Rattle.code_form.specs.declared.halt.Halt.{Halt}
use Rattle.code_form.specs.declared.halt.Halt.TheVariants as halts
use Rattle.code_form.specs.declared.waits.Waits.{Waits}
use Rattle.code_form.specs.declared.waits.Waits.TheVariants.{Nothing, Given}
use Rattle.code_form.specs.Program.{Program, instr_of}
use Rattle.code_form.specs.Machine.{Position, Control, free, asking, given, refused, After, To, Asks, Stops, Unsaid, Move, Goes, Spends as Pays, Halts, Refuses, Ends}
use Rattle.code_form.specs.Machine.{Unknown, Stuck, Mem, Scene, Rest, Stage, On}
use Rattle.code_form.specs.Machine.{Over, Lost, after_stage, mark_stage, move_stage, stage, stage_at, advance, rest_at, instruction, takes_reply, step}
use Rattle.code_form.specs.Valid.{IsValid, is_ask, Fits}
use Rattle.code_form.specs.Runs.{IsSafe, asked, steps_left}
use Rattle.code_form.proofs.Safe.{stays_fit}
use Rattle.code_form.proofs.Steps.{nearer, reply_nearer}
use Rattle.zero_state.specs.Stepping.{stage_of, stage_by, halt_of, mem_of, scene_of, Does, Leads, Steps}
use Rattle.zero_state.proofs.Room.{like_fits}
use Rattle.zero_machine.specs.Running.{Spends}
use Rattle.zero_state.specs.declared.next.Next.{Next}
use Rattle.zero_steps.specs.Replying.{replied_by, GoesOrRests, Replies}

-- where nothing is waited for
pub fits_free : (p : Program) (c : Control) → c.waits ≡ Nothing → Fits p c → Fits p (free c.position)
fits_free p c none fits = subst (λ (w : Waits). Fits p (record { position = c.position; waits = w })) none fits

-- what a step answers, of the stage that it leads to
module _ (P : Control → ℕ → Type 0) where
  on : (d : Control) (t : Scene) → P d t.marks → (h : Option Halt) (c' : Control) (s' : Scene) → stage_of h c' s' ≡ On d t → P c' s'.marks
  on d t f None c' s' e =
      let g : (c' ≡ d) × (s' ≡ t) = (cc e, cc e) in subst (λ (d : Control). P d s'.marks) (sym g.0) (subst (λ (t : Scene). P d t.marks) (sym g.1) f)
  on d t f (Some h) c' s' e = absurd (cc e)

  over : (how : Halt) (d : Control) (t : Scene) → P d t.marks → (h : Option Halt) (c' : Control) (s' : Scene) → stage_of h c' s' ≡ Over (rest_at how d t)
      → P c' s'.marks
  over how d t f None c' s' e = absurd (cc e)
  over how d t f (Some h) c' s' e =
      let g : rest_at h c' s' ≡ rest_at how d t = cc e in
      subst (λ (r : Rest). P r.control r.scene.marks) (sym g) f

  lost : (h : Option Halt) (c' : Control) (s' : Scene) → stage_of h c' s' ≡ Lost → P c' s'.marks
  lost None c' s' e = absurd (cc e)
  lost (Some h) c' s' e = absurd (cc e)

-- a step from this control leads to a state that fits, with no more marks, and with one less where something is asked
module _ (p : Program) (from : Control) (s : Scene) (fits : Fits p from) (calm : IsSome (asked from.waits) → ⊥) where
  abbrev Good : Control → ℕ → Type 0
  Good d marks = Fits p d × Spends s.marks marks d.waits

  here : Good from s.marks
  here = (fits, record { fewer = omega arith; paid = λ some. absurd (calm some) })

  after_good : (m : ℕ) → s.marks ≡ suc m → (a : After) → IsSafe p (Pays a) → (h : Option Halt) (c' : Control) (s' : Scene)
      → stage_of h c' s' ≡ after_stage a from (record s { marks = m }) → Good c' s'.marks
  after_good m e (To d mem) safe =
      on Good (free d) (record s { mem = mem; marks = m }) (safe, record { fewer = omega (arith, e); paid = λ some. absurd (cc some) })
  after_good m e (Asks d q mem) safe =
      on Good (asking d q) (record s { mem = mem; marks = m }) (safe, record { fewer = omega (arith, e); paid = λ some. omega (arith, e) })
  after_good m e (Stops stop) safe =
      over Good (halts.Stopped stop) from (record s { marks = m }) (fits, record { fewer = omega (arith, e); paid = λ some. absurd (calm some) })
  after_good m e Unsaid safe = lost Good

  pub stage_good : (m : Move) → IsSafe p m → (h : Option Halt) (c' : Control) (s' : Scene) → stage_of h c' s' ≡ move_stage m from s → Good c' s'.marks
  stage_good (Goes d mem) safe = on Good (free d) (record s { mem = mem }) (safe, record { fewer = omega arith; paid = λ some. absurd (cc some) })
  stage_good (Pays a) safe = by s.marks refl
    where
      by : (m : ℕ) → s.marks ≡ m → (h : Option Halt) (c' : Control) (s' : Scene) → stage_of h c' s' ≡ mark_stage m a from s → Good c' s'.marks
      by zero none = over Good halts.Marked from s here
      by (suc m) some = after_good m some a safe
  stage_good (Halts stop) safe = over Good (halts.Stopped stop) from s here
  stage_good (Refuses stop d mem) safe = on Good (refused d stop) (record s { mem = mem }) (safe, record { fewer = omega arith; paid = λ some. absurd (cc some) })
  stage_good Ends safe = over Good halts.Ended from s here
  stage_good Unknown safe = lost Good
  stage_good Stuck safe = absurd safe

module _ {E : Type 0} (p : Program) (c : Control) (result : Result Next E) (before after : Cells → Type 0) (had has : Heads) (c' : Control) (marks marks' : ℕ) (i : Instr)
    (valid : IsValid p) (fits : Fits p (free c.position)) (none : c.waits ≡ Nothing) (is : Some i ≡ instr_of (slice_get p.lines c.position.pc)) where
  -- what a step is, where nothing is waited for
  step_is : (mem : Mem) → stage_by p i marks c.position mem ≡ advance p c (scene_of mem marks)
  step_is mem =
      ap (λ o. stage (instruction p o c.position mem) c.position (scene_of mem marks)) is
      ∙ ap (λ w. stage_at w p c.position (scene_of mem marks)) (sym none)

  abbrev Made : Next → Type 0
  Made = Steps before after had has (stage_by p i marks) c.position c' marks'

  pub step_goes : IfOk result Made
      → IfOk result (λ next. (cells : Cells) → before cells → Does after has (halt_of next) c' marks' (advance p c (scene_of (mem_of had cells) marks)))
  step_goes h = by result h
    where
      by : (result : Result Next E) → IfOk result Made
          → IfOk result (λ next. (cells : Cells) → before cells → Does after has (halt_of next) c' marks' (advance p c (scene_of (mem_of had cells) marks)))
      by (Ok next) h = λ cells held. subst (Does after has (halt_of next) c' marks') (step_is (mem_of had cells)) (h.does cells held)
      by (Err e) h = tt

  -- it is a step from a position that fits, with operands of the same kinds
  module _ (next : Next) (h : Made next) where
    abbrev from : Position
    from = record c.position { ops = h.ops }

    abbrev at_from : Scene
    at_from = scene_of h.mem marks

    abbrev there : Stage
    there = stage (step p from h.mem) from at_from

    is_there : stage_by p i marks from h.mem ≡ there
    is_there = ap (λ o. stage (instruction p o from h.mem) from at_from) is

    from_fits : Fits p (free from)
    from_fits = like_fits p c.position h.ops h.like fits

    so_good : (how : Option Halt) (d : Control) (s : Scene) → stage_of how d s ≡ there → Fits p d × Spends marks s.marks d.waits
    so_good = stage_good p (free from) at_from from_fits (λ some. absurd (cc some)) (step p from h.mem) (stays_fit.steps p from h.mem valid from_fits)

    good : Fits p c' × Spends marks marks' c'.waits
    good = by (subst (Leads next c.position c' marks') is_there h.leads)
      where
        by : Leads next c.position c' marks' there → Fits p c' × Spends marks marks' c'.waits
        by (inl so) = so_good (halt_of next) c' (scene_of so.0 marks') so.1
        by (inr stays) =
            let on = so_good None stays.after (scene_of stays.now marks') (sym stays.goes) in
            subst (λ (d : Control). Fits p d × Spends marks marks' d.waits) (sym stays.stays)
            (fits, record { fewer = on.1.fewer; paid = λ some. absurd (cc some) })

    near : halt_of next ≡ None
        → steps_left p.lines marks' (length c'.position.frames) c'.position.pc < steps_left p.lines marks (length c.position.frames) c.position.pc
    near on = by (subst (Leads next c.position c' marks') is_there h.leads)
      where
        by : Leads next c.position c' marks' there
            → steps_left p.lines marks' (length c'.position.frames) c'.position.pc < steps_left p.lines marks (length c.position.frames) c.position.pc
        by (inl so) =
            nearer p valid from c' at_from (scene_of so.0 marks') (ap (λ how. stage_of how c' (scene_of so.0 marks')) (sym on) ∙ so.1)
        by (inr stays) =
            let stops : Some (halts.Stopped stop.TextRoom) ≡ None = sym (ap halt_of stays.stops) ∙ on in absurd (cc stops)

  pub step_fits : IfOk result Made → OnOk result (Fits p c')
  step_fits h = by result h
    where
      by : (result : Result Next E) → IfOk result Made → OnOk result (Fits p c')
      by (Ok next) h = (good next h).0
      by (Err e) h = tt

  pub step_spends : IfOk result Made → OnOk result (Spends marks marks' c'.waits)
  step_spends h = by result h
    where
      by : (result : Result Next E) → IfOk result Made → OnOk result (Spends marks marks' c'.waits)
      by (Ok next) h = (good next h).1
      by (Err e) h = tt

  pub step_nears : IfOk result Made → IfOk result (λ next. halt_of next ≡ None
      → steps_left p.lines marks' (length c'.position.frames) c'.position.pc < steps_left p.lines marks (length c.position.frames) c.position.pc)
  step_nears h = by result h
    where
      by : (result : Result Next E) → IfOk result Made → IfOk result (λ next. halt_of next ≡ None
          → steps_left p.lines marks' (length c'.position.frames) c'.position.pc < steps_left p.lines marks (length c.position.frames) c.position.pc)
      by (Ok next) h = near next h
      by (Err e) h = tt

-- a request goes on with its reply from a state that fits
module _ {E : Type 0} (p : Program) (c : Position) (r : Reply) (result : Result Next E) (before after : Cells → Type 0) (had has : Heads) (c' : Control) (q : RequestName)
    (valid : IsValid p) (fits : Fits p (given c r)) (is : Some (Ask q) ≡ instr_of (slice_get p.lines c.pc)) where
  abbrev Answered : Next → Type 0
  Answered = Replies before after had has q r c c'

  reply_is : (r : Reply) (mem : Mem) (marks : ℕ) → replied_by q r marks c mem ≡ advance p (given c r) (scene_of mem marks)
  reply_is r mem marks = ap (λ o. move_stage (takes_reply o r c mem) (given c r) (scene_of mem marks)) is

  pub reply_goes : IfOk result Answered
      → IfOk result (λ next. (marks : ℕ) (cells : Cells) → before cells → Does after has (halt_of next) c' marks (advance p (given c r) (scene_of (mem_of had cells) marks)))
  reply_goes h = by result h
    where
      by : (result : Result Next E) → IfOk result Answered
          → IfOk result (λ next. (marks : ℕ) (cells : Cells) → before cells → Does after has (halt_of next) c' marks (advance p (given c r) (scene_of (mem_of had cells) marks)))
      by (Ok next) h = λ marks cells held. subst (Does after has (halt_of next) c' marks) (reply_is r (mem_of had cells) marks) (h.does marks cells held)
      by (Err e) h = tt

  -- as with any other
  other_fits : (some : Reply) → Fits p (given c some)
  other_fits some = record {
    kinds = fits.kinds;
    spot = fits.spot;
    floor = fits.floor;
    next = fits.next;
    operands = fits.operands;
    frames = fits.frames;
    used = fits.used;
    asks = fits.asks;
    cells = fits.cells;
    bytes = fits.bytes;
  }

  module _ (next : Next) (h : Answered next) where
    reply_good : (marks : ℕ) → Fits p c' × Spends marks marks c'.waits
    reply_good marks = by h.leads
      where
        by : GoesOrRests q r c c' next → Fits p c' × Spends marks marks c'.waits
        by (inl goes) =
            let x = goes.1 marks in
            let fit = other_fits goes.0 in
            stage_good p (given c goes.0) (scene_of x.0 marks) fit (λ some. absurd (cc some))
            (takes_reply (instr_of (slice_get p.lines c.pc)) goes.0 c x.0)
            (stays_fit.takes p c goes.0 x.0 valid fit) None c' (scene_of x.1.0 marks) (x.1.1 ∙ reply_is goes.0 x.0 marks)
        by (inr rests) =
            subst (λ (d : Control). Fits p d × Spends marks marks d.waits) (sym rests.0)
            (fits, record { fewer = omega arith; paid = λ some. absurd (cc some) })

    reply_near : (marks : ℕ) → halt_of next ≡ None
        → steps_left p.lines marks (length c'.position.frames) c'.position.pc < steps_left p.lines marks (length c.frames) c.pc
    reply_near marks on = by h.leads
      where
        by : GoesOrRests q r c c' next
            → steps_left p.lines marks (length c'.position.frames) c'.position.pc < steps_left p.lines marks (length c.frames) c.pc
        by (inl goes) =
            let x = goes.1 marks in
            reply_nearer p valid c goes.0 c' (scene_of x.0 marks) (scene_of x.1.0 marks) (x.1.1 ∙ reply_is goes.0 x.0 marks)
        by (inr rests) = let f : Some rests.1.0 ≡ None = sym rests.1.1 ∙ on in absurd (cc f)

  pub reply_fits : IfOk result Answered → OnOk result (Fits p c')
  reply_fits h = by result h
    where
      by : (result : Result Next E) → IfOk result Answered → OnOk result (Fits p c')
      by (Ok next) h = (reply_good next h 0).0
      by (Err e) h = tt

  pub reply_spends : (marks : ℕ) → IfOk result Answered → OnOk result (Spends marks marks c'.waits)
  reply_spends marks h = by result h
    where
      by : (result : Result Next E) → IfOk result Answered → OnOk result (Spends marks marks c'.waits)
      by (Ok next) h = (reply_good next h marks).1
      by (Err e) h = tt

  pub reply_nears : (marks : ℕ) → IfOk result Answered → IfOk result (λ next. halt_of next ≡ None
      → steps_left p.lines marks (length c'.position.frames) c'.position.pc < steps_left p.lines marks (length c.frames) c.pc)
  reply_nears marks h = by result h
    where
      by : (result : Result Next E) → IfOk result Answered → IfOk result (λ next. halt_of next ≡ None
          → steps_left p.lines marks (length c'.position.frames) c'.position.pc < steps_left p.lines marks (length c.frames) c.pc)
      by (Ok next) h = reply_near next h marks
      by (Err e) h = tt

-- the reply is the one that is there
pub at_reply : {E : Type 0} (result : Result Next E) (w : Waits) (P : Reply → Next → Type 0) (r : Reply) → w ≡ Given r
    → IfOk result (λ next. (r : Reply) → w ≡ Given r → P r next) → IfOk result (P r)
at_reply (Ok next) w P r is h = h r is
at_reply (Err e) w P r is h = tt

pub fits_given : (p : Program) (c : Control) (r : Reply) → c.waits ≡ Given r → Fits p c → Fits p (given c.position r)
fits_given p c r is fits = subst (λ (w : Waits). Fits p (record { position = c.position; waits = w })) is fits

-- an instruction that made a request, and no other, gets a reply
pub asks_there : (p : Program) (c : Position) (r : Reply) → Fits p (given c r) → (i : Instr) → Some i ≡ instr_of (slice_get p.lines c.pc)
    → is_ask (Some i) ≡ true
asks_there p c r fits i e = ap is_ask e ∙ fits.asks refl
