-- A task that stands for one of the source machine.
use Rattle.std.proofs.Common.{◌≡◌, ℕ, List, [], length, Option, Some, None, Bor, Bool, true, false, refl, sym, ap, ◌∙◌, subst, arith}
use Rattle.std.specs.Prelude.{Result, Ok, Err, OnOk, IsSome, is_some, not, option_copied}
use Rattle.eu_base.specs.declared.value.Kind.{Kind}
use Rattle.eu_base.specs.declared.stop.Stop.{Stop}
use Rattle.eu_base.specs.declared.stop.Stop.TheVariants.{Halted}
use Rattle.eu_base.specs.declared.request.Request.{Request}
use Rattle.eu_base.specs.Requests.{Answer}
use Rattle.page_pool.specs.Pool.{Pages}
use Rattle.live_task.specs.Below.cell_kinds.specs.Kinds.{packet_kinds}
use Rattle.eu_base.specs.declared.address.Area.TheVariants.{Run, Packets}
use Rattle.eu_base.specs.Cells.{Free}
use Rattle.eu_base.specs.DataSpaces.{no_spaces}
use Rattle.live_task.specs.Below.text_heap.specs.Held.{HoldsCells}
use Rattle.live_task.specs.Below.space_memory.specs.Live.{no_space}
use Rattle.live_task.specs.Below.space_memory.specs.Memories.{MemoryData, roots, new_memory}
use Rattle.task_job.specs.Here.{content_at, KeepsBytes, HoldsAll}
use Rattle.code_form.specs.declared.halt.Halt.{Halt}
use Rattle.code_form.specs.declared.halt.Halt.TheVariants as halts
use Rattle.code_form.specs.Runs.{asked}
use Rattle.elan_types.specs.Eval.{World}
use Rattle.elan_types.specs.Command.{Ending, Ended, Stopped, OutOfMarks, Asks}
use Rattle.live_task.specs.Below.system_meaning.specs.Stores.{Store, new_store}
use Rattle.live_task.specs.Below.system_meaning.specs.Tasks.{Command, Doing, Idle, Entering, Running, Own, ending, world_of, store_in, own_variables, request_of, with_reply, with_reply_to, replied, with_doing}
use Rattle.task_job.specs.Standing.{KeepsSpaces, Keeps, Left, Leaves, RunsFor, RestsFor, IsSoundJob}
use Rattle.live_task.specs.Stands.{DoesAs, StandsFor, StandsOver, IsOver, EndsAs, WentAs, WentOn, HaltedAs, IsSoundDoing, IsSound, IsWhole}
use Rattle.task_job.specs.declared.job.Job.{Job}
use Rattle.live_task.specs.declared.task.Task.{Task}
use Rattle.live_task.specs.declared.task.Doing.{Doing as Does}
use Rattle.live_task.specs.declared.task.Doing.TheVariants as does
use Rattle.live_task.specs.declared.task.Went.{Went}
use Rattle.live_task.specs.declared.task.Went.TheVariants as went
use Rattle.task_job.proofs.Beginning.{no_variables}
use Rattle.task_job.proofs.Keeping.{cleared, none_live}
use Rattle.task_job.proofs.Standing.{many_own, asks_now, left_now}

same_job : (a b : Job) → does.Running a ≡ does.Running b → a ≡ b
same_job a b e = cc

-- what is lent of what may be missing
pub copied_none : {A : Type 0} (r : Option (Bor A)) (b : Bool) → is_some r ≡ not b → b ≡ true → option_copied r ≡ None
copied_none None b e is = refl
copied_none (Some x) b e is = absurd (cc (e, is))

pub copied_some : {A : Type 0} (r : Option (Bor A)) (b : Bool) → is_some r ≡ not b → b ≡ false → (o : Option A) → option_copied r ≡ o → IsSome o
copied_some None b e is o same = absurd (cc (e, is))
copied_some (Some x) b e is o same = subst (λ p. IsSome p) same refl

-- what follows of a call that may want memory
pub if_replied : {A E : Type 0} (result : Result A E) (P Q : Type 0) → (P → Q) → OnOk result P → OnOk result Q
if_replied (Ok x) P Q f p = f p
if_replied (Err e) P Q f p = tt

-- a task with another memory, that runs this
abbrev pub running : Task → MemoryData → Job → Task
running task memory job = record task { memory = memory; doing = does.Running job }

-- a task that stands for one that runs no command runs none, and one that stands for one that runs a command runs it
module _ (kinds : List Kind) (pages : Pages) (task : Task) (own : Own) (h : StandsFor kinds pages task own) where
  -- what its job stands for
  pub runs_for : (job : Job) → task.doing ≡ does.Running job → (c : Command) × (own.doing ≡ Running c) × RunsFor kinds pages task.memory job c
  runs_for job is = by own.doing refl h.does
    where
      by : (d : Doing) → own.doing ≡ d → DoesAs kinds pages task d → (c : Command) × (own.doing ≡ Running c) × RunsFor kinds pages task.memory job c
      by (Idle store) e k = absurd (cc (k.0, is))
      by (Entering name lines store) e k = absurd (cc (k.0, is))
      by (Running c) e k = (c, e, subst (λ j. RunsFor kinds pages task.memory j c) (same_job k.0 job (sym k.1 ∙ is)) k.2)

  pub asks_none : ((job : Job) → task.doing ≡ does.Running job → ⊥) → request_of own.doing ≡ None
  asks_none not = by own.doing h.does
    where
      by : (d : Doing) → DoesAs kinds pages task d → request_of d ≡ None
      by (Idle store) k = refl
      by (Entering name lines store) k = refl
      by (Running c) k = absurd (not k.0 k.1)

  pub asks_it : (job : Job) → task.doing ≡ does.Running job → request_of own.doing ≡ asked job.run.waits
  asks_it job is =
      let r = runs_for job is in
      ap request_of r.1 ∙ sym (asks_now kinds pages task.memory job r.0 r.2)

  -- where its job asks nothing, it does not
  pub asks_nothing : ((job : Job) → task.doing ≡ does.Running job → asked job.run.waits ≡ None) → request_of own.doing ≡ None
  asks_nothing none = by own.doing h.does
    where
      by : (d : Doing) → DoesAs kinds pages task d → request_of d ≡ None
      by (Idle store) k = refl
      by (Entering name lines store) k = refl
      by (Running c) k = sym (asks_now kinds pages task.memory k.0 c k.2) ∙ none k.0 k.1

  -- it went on with no command
  pub went_not : (left : ℕ) → ((job : Job) → task.doing ≡ does.Running job → ⊥) → WentOn kinds pages task left left went.NotRunning own own.doing
  went_not left not = by own.doing h.does
    where
      by : (d : Doing) → DoesAs kinds pages task d → WentOn kinds pages task left left went.NotRunning own d
      by (Idle store) k = (refl, refl, h)
      by (Entering name lines store) k = (refl, refl, h)
      by (Running c) k = absurd (not k.0 k.1)

  pub halted_not : ((job : Job) → task.doing ≡ does.Running job → ⊥) → HaltedAs kinds pages task went.NotRunning own own.doing
  halted_not not = by own.doing h.does
    where
      by : (d : Doing) → DoesAs kinds pages task d → HaltedAs kinds pages task went.NotRunning own d
      by (Idle store) k = (refl, h)
      by (Entering name lines store) k = (refl, h)
      by (Running c) k = absurd (not k.0 k.1)

  -- an answer to a task that asks nothing
  pub unasked : (a : Answer) → request_of own.doing ≡ None → StandsFor kinds pages task (with_doing (replied a own.doing) own)
  unasked a nothing =
      subst (λ q. StandsFor kinds pages task (with_doing (with_reply_to q a own.doing) own)) (sym nothing) h

-- a command is over
module _ (kinds : List Kind) (middle new : Pages) (was now : Task) (own : Own) (c : Command) (w : World) (stop : Option Stop) (how : Went) (job : Job)
    (unit : job.unit ≡ c.unit) (packets : was.packets ≡ own.packets) (many : own_variables c ≡ length kinds) (are : packet_kinds c.unit.core.packets ≡ kinds)
    (ends : (how ≡ went.Over job.unit job.code stop) × (now ≡ record was { memory = now.memory; doing = does.Idle })
    × ((kinds inserted : List Kind) (store : Store) → Left kinds inserted middle was.memory store → Leaves kinds inserted new now.memory store))
    (left : Left kinds c.unit.core.inserted middle was.memory (store_in w)) where
  pub over_is : IsOver how c stop
  over_is = subst (λ (x : Went). IsOver x c stop) (sym ends.0) (unit, refl)

  pub stands_over : StandsOver kinds new now own c w
  stands_over = record {
    packets = ap (λ (t : Task). t.packets) ends.1 ∙ packets;
    idle = ap (λ (t : Task). t.doing) ends.1;
    own_are = many;
    kinds_are = are;
    leaves = ends.2 kinds c.unit.core.inserted (store_in w) left;
  }

-- a task that went on: its job rests so, over a memory and pages
module _ (kinds : List Kind) (old middle : Pages) (task : Task) (memory : MemoryData) (own : Own) (h : StandsFor kinds old task own) (job job' : Job)
    (is : task.doing ≡ does.Running job) (left left' : ℕ) (halt : Halt)
    (rests : (kinds : List Kind) (c : Command) → RunsFor kinds old task.memory job c → RestsFor kinds middle memory job' left left' halt c (ending c left)) where
  goes : (how : Went) (new : Pages) (now : Task)
      → ((c : Command) → RunsFor kinds old task.memory job c → (e : Ending) → RestsFor kinds middle memory job' left left' halt c e
      → WentAs kinds new now left left' how own c e) → WentOn kinds new now left left' how own own.doing
  goes how new now each =
      let r = runs_for kinds old task own h job is in
      subst (λ d. WentOn kinds new now left left' how own d) (sym r.1) (each r.0 r.2 (ending r.0 left) (rests kinds r.0 r.2))

  pub went_marked : halt ≡ halts.Marked → WentOn kinds middle (running task memory job') left left' went.Marked own own.doing
  went_marked marked = goes went.Marked middle (running task memory job') by
    where
      by : (c : Command) → RunsFor kinds old task.memory job c → (e : Ending) → RestsFor kinds middle memory job' left left' halt c e
          → WentAs kinds middle (running task memory job') left left' went.Marked own c e
      by c r (Ended w) s = absurd (cc (s.0, marked))
      by c r (Stopped stop w) s = absurd (cc (s.0, marked))
      by c r (OutOfMarks w) s = (refl, s.1, record { packets = h.packets; does = (job', refl, s.2) })
      by c r (Asks q w) s = absurd (cc (s.0, marked))

  pub went_asks : (q : Request) → halt ≡ halts.Asks q → WentOn kinds middle (running task memory job') left left' (went.Asks q) own own.doing
  went_asks q asks = goes (went.Asks q) middle (running task memory job') by
    where
      by : (c : Command) → RunsFor kinds old task.memory job c → (e : Ending) → RestsFor kinds middle memory job' left left' halt c e
          → WentAs kinds middle (running task memory job') left left' (went.Asks q) own c e
      by c r (Ended w) s = absurd (cc (s.0, asks))
      by c r (Stopped stop w) s = absurd (cc (s.0, asks))
      by c r (OutOfMarks w) s = absurd (cc (s.0, asks))
      by c r (Asks q' w) s =
          let same : q ≡ q' = cc (s.0, asks) in
          (ap went.Asks same, s.1, record { packets = h.packets; does = (job', refl, s.2) })

  module _ (new : Pages) (now : Task) (how : Went) (unit : job'.unit ≡ job.unit) where
    pub went_ended : halt ≡ halts.Ended → EndsAs middle new (running task memory job') now None how (does.Running job')
        → WentOn kinds new now left left' how own own.doing
    went_ended ended ends = goes how new now by
      where
        by : (c : Command) → RunsFor kinds old task.memory job c → (e : Ending) → RestsFor kinds middle memory job' left left' halt c e
            → WentAs kinds new now left left' how own c e
        by c r (Ended w) s =
            let u : job'.unit ≡ c.unit = unit ∙ r.reaches.unit in (
              over_is kinds middle new (running task memory job') now own c w None how job' u h.packets (many_own kinds old task.memory job c r) r.reaches.kinds_are ends s.1,
              stands_over kinds middle new (running task memory job') now own c w None how job' u h.packets (many_own kinds old task.memory job c r) r.reaches.kinds_are ends s.1,
            )
        by c r (Stopped stop w) s = absurd (cc (s.0, ended))
        by c r (OutOfMarks w) s = absurd (cc (s.0, ended))
        by c r (Asks q w) s = absurd (cc (s.0, ended))

    pub went_stopped : (stop : Stop) → halt ≡ halts.Stopped stop → EndsAs middle new (running task memory job') now (Some stop) how (does.Running job')
        → WentOn kinds new now left left' how own own.doing
    went_stopped stop stopped ends = goes how new now by
      where
        by : (c : Command) → RunsFor kinds old task.memory job c → (e : Ending) → RestsFor kinds middle memory job' left left' halt c e
            → WentAs kinds new now left left' how own c e
        by c r (Ended w) s = absurd (cc (s.0, stopped))
        by c r (Stopped stop' w) s =
            let u : job'.unit ≡ c.unit = unit ∙ r.reaches.unit in
            let same : stop ≡ stop' = cc (s.0, stopped) in
            let so = (over_is kinds middle new (running task memory job') now own c w (Some stop) how job' u h.packets (many_own kinds old task.memory job c r) r.reaches.kinds_are ends s.1) in (
              subst (λ (x : Stop). IsOver how c (Some x)) same so,
              stands_over kinds middle new (running task memory job') now own c w (Some stop) how job' u h.packets (many_own kinds old task.memory job c r) r.reaches.kinds_are ends s.1,
            )
        by c r (OutOfMarks w) s = absurd (cc (s.0, stopped))
        by c r (Asks q w) s = absurd (cc (s.0, stopped))

-- a task that is halted
pub halted : (kinds : List Kind) (old new : Pages) (task now : Task) (own : Own) (how : Went) (job : Job) → StandsFor kinds old task own
    → task.doing ≡ does.Running job → EndsAs old new task now (Some Halted) how (does.Running job) → HaltedAs kinds new now how own own.doing
halted kinds old new task now own how job h is ends =
    let r = runs_for kinds old task own h job is in
    let left = left_now kinds old task.memory job r.0 r.2 in
    subst (λ d. HaltedAs kinds new now how own d) (sym r.1) (
      over_is kinds old new task now own r.0 (world_of (ending r.0 0)) (Some Halted) how job r.2.reaches.unit h.packets (many_own kinds old task.memory job r.0 r.2) r.2.reaches.kinds_are ends left,
      stands_over kinds old new task now own r.0 (world_of (ending r.0 0)) (Some Halted) how job r.2.reaches.unit h.packets (many_own kinds old task.memory job r.0 r.2) r.2.reaches.kinds_are ends left,
    )

-- a task that gets an answer
pub answered : (kinds : List Kind) (old new : Pages) (task : Task) (memory : MemoryData) (own : Own) (job job' : Job) (q : Request) (a : Answer)
    → StandsFor kinds old task own → task.doing ≡ does.Running job → asked job.run.waits ≡ Some q
    → ((kinds : List Kind) (c : Command) → RunsFor kinds old task.memory job c → RunsFor kinds new memory job' (with_reply a c))
    → StandsFor kinds new (running task memory job') (with_doing (replied a own.doing) own)
answered kinds old new task memory own job job' q a h is asks takes =
    let r = runs_for kinds old task own h job is in
    let some : request_of own.doing ≡ Some q = asks_it kinds old task own h job is ∙ asks in
    let same : replied a own.doing ≡ Running (with_reply a r.0) =
    ap (λ (o : Option Request). with_reply_to o a own.doing) some ∙ ap (λ (d : Doing). with_reply_to (Some q) a d) r.1 in
    subst (λ (d : Doing). StandsFor kinds new (running task memory job') (with_doing d own)) (sym same)
    (record { packets = h.packets; does = (job', refl, takes kinds r.0 r.2) })

-- an idle task that starts a command
pub started : (kinds : List Kind) (old new : Pages) (task : Task) (memory : MemoryData) (own : Own) (store : Store) (job : Job) (c : Command)
    → StandsFor kinds old task own → own.doing ≡ Idle store → (Keeps kinds old task.memory store → RunsFor kinds new memory job c)
    → StandsFor kinds new (running task memory job) (with_doing (Running c) own)
started kinds old new task memory own store job c h is starts =
    let k : DoesAs kinds old task (Idle store) = subst (λ (d : Doing). DoesAs kinds old task d) is h.does in
    record { packets = h.packets; does = (job, refl, starts k.1) }

-- a task that has nothing
pub new_stands : (pages : Pages) (task : Task) → task.packets ≡ [] → task.memory ≡ new_memory → task.doing ≡ does.Idle
    → HoldsAll pages task.memory (λ _. Free) → StandsFor [] pages task (record { packets = []; doing = Idle new_store })
new_stands pages task packets memory idle holds = record {
  packets = packets;
  does = (
    idle,
    record {
      fits = refl;
      cells = λ _. Free;
      holds = holds;
      packets = no_variables Packets (λ _. Free) (λ x. refl);
      spaces =
          subst (λ (m : MemoryData). KeepsSpaces m no_spaces (λ _. Free)) (sym memory) (none_live 0 (λ _. Free) (omega arith) (λ s x. refl));
      command = λ x. refl;
    },
  );
}

-- ---- the end of what a task runs

pub ended : (old new : Pages) (was : Task) (memory : MemoryData) (d : Does) (stop : Option Stop) (job : Job) → was.doing ≡ does.Running job → d ≡ does.Idle
    → memory ≡ record was.memory { run = no_space } → HoldsCells Run (content_at new memory.run.root) (λ _. Free) → KeepsBytes old new (roots memory)
    → EndsAs old new was (record was { memory = memory; doing = d }) stop (went.Over job.unit job.code stop) was.doing
ended old new was memory d stop job is idle same nothing k =
    subst (λ (e : Does). EndsAs old new was (record was { memory = memory; doing = d }) stop (went.Over job.unit job.code stop) e) (sym is) (
      refl,
      ap (λ (e : Does). record was { memory = memory; doing = e }) idle,
      λ kinds inserted store left. cleared old new was.memory memory same nothing k kinds inserted store left,
    )

pub not_ended : (pages : Pages) (was : Task) (d : Does) (stop : Option Stop) → d ≡ was.doing → ((job : Job) → d ≡ does.Running job → ⊥)
    → EndsAs pages pages was (record was { doing = d }) stop went.NotRunning was.doing
not_ended pages was d stop same not = by was.doing same
  where
    now_is : record was { doing = d } ≡ was
    now_is = ap (λ (e : Does). record was { doing = e }) same

    by : (e : Does) → d ≡ e → EndsAs pages pages was (record was { doing = d }) stop went.NotRunning e
    by does.Idle is = (refl, refl, now_is)
    by (does.Entering name lines) is = (refl, refl, now_is)
    by (does.Running job) is = absurd (not job is)

-- what is given back of a command that is over
pub whole_job : (old new : Pages) (was now : Task) (stop : Option Stop) (how : Went) (job : Job) → IsSoundJob job
    → EndsAs old new was now stop how (does.Running job) → IsWhole how
whole_job old new was now stop how job s ends = subst IsWhole (sym ends.0) s.unit

pub whole : (old new : Pages) (was now : Task) (stop : Option Stop) (how : Went) → IsSound was → EndsAs old new was now stop how was.doing → IsWhole how
whole old new was now stop how sound ends = by was.doing sound ends
  where
    by : (d : Does) → IsSoundDoing was.memory d → EndsAs old new was now stop how d → IsWhole how
    by does.Idle s ends = subst IsWhole (sym ends.0) tt
    by (does.Entering name lines) s ends = subst IsWhole (sym ends.0) tt
    by (does.Running job) s ends = whole_job old new was now stop how job s ends

-- a task that is halted, whatever it does
pub halts_so : (kinds : List Kind) (old new : Pages) (task now : Task) (own : Own) (how : Went) → StandsFor kinds old task own
    → EndsAs old new task now (Some Halted) how task.doing → HaltedAs kinds new now how own own.doing
halts_so kinds old new task now own how h ends = by task.doing refl ends
  where
    unchanged : ((job : Job) → task.doing ≡ does.Running job → ⊥) → (how ≡ went.NotRunning) × (new ≡ old) × (now ≡ task)
        → HaltedAs kinds new now how own own.doing
    unchanged not e =
        subst (λ (w : Went). HaltedAs kinds new now w own own.doing) (sym e.0)
        (subst (λ (p : Pages). HaltedAs kinds p now went.NotRunning own own.doing) (sym e.1)
        (subst (λ (t : Task). HaltedAs kinds old t went.NotRunning own own.doing) (sym e.2) (halted_not kinds old task own h not)))

    by : (d : Does) → task.doing ≡ d → EndsAs old new task now (Some Halted) how d → HaltedAs kinds new now how own own.doing
    by does.Idle is e = unchanged (λ job r. absurd (cc (is, r))) e
    by (does.Entering name lines) is e = unchanged (λ job r. absurd (cc (is, r))) e
    by (does.Running job) is e = halted kinds old new task now own how job h is e
