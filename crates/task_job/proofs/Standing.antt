-- A job that stands for a command of the source machine.
use Rattle.std.proofs.Common.{◌≡◌, ℕ, ◌+◌, ◌-◌, ◌≤◌, ◌⊎◌, inl, inr, List, [], ◌∷◌, ◌++◌, length, refl, sym, ap, ◌∙◌, subst, arith}
use Rattle.std.specs.Prelude.{Result, Ok, Err, IfOk, IsSome}
use Rattle.eu_base.specs.declared.value.Kind.{Kind}
use Rattle.eu_base.specs.declared.request.Request.{Request}
use Rattle.eu_base.specs.Requests.{Answer, reply_changes}
use Rattle.eu_base.specs.declared.address.Area.TheVariants.{Packets}
use Rattle.eu_base.specs.Cells.{Cells}
use Rattle.eu_base.specs.DataSpaces.{Heads, SpaceChange, heads_after}
use Rattle.task_job.specs.Below.cell_kinds.specs.Kinds.{packet_kinds}
use Rattle.page_pool.specs.Pool.{Pages}
use Rattle.space_memory.specs.Memories.{MemoryData, memory_heads}
use Rattle.task_job.specs.Here.{HoldsAll}
use Rattle.code_form.specs.declared.halt.Halt.{Halt}
use Rattle.code_form.specs.declared.halt.Halt.TheVariants as halts
use Rattle.code_form.specs.declared.waits.Waits.{Waits}
use Rattle.code_form.specs.declared.waits.Waits.TheVariants.{Nothing, Asked, Given, Refused}
use Rattle.code_form.specs.Program.{Program}
use Rattle.code_form.specs.Machine.{Control, Mem, mem_by, mem_after, Rest, start, made, CanBeMade, answered, after_reply}
use Rattle.code_form.specs.Runs.{IsPaused, Rests, asked}
use Rattle.task_job.specs.Below.zero_state.specs.Stepping.{mem_of, scene_of}
use Rattle.task_job.specs.Below.zero_machine.specs.Running.{RestsSo}
use Rattle.task_job.specs.Below.place_gen.specs.Correct.{HasVariables, HasSpaces, Shows}
use Rattle.task_job.specs.Below.code_gen.specs.Codes.{IsCodeOf}
use Rattle.task_job.specs.Below.code_gen.proofs.Coding.{code_behaves}
use Rattle.elan_types.specs.Eval.{World}
use Rattle.elan_types.specs.Command.{Ending, Ended, Stopped, OutOfMarks, Asks}
use Rattle.task_job.specs.Below.units.specs.declared.unit.Compiled.{Compiled}
use Rattle.system_meaning.specs.Stores.{Store}
use Rattle.system_meaning.specs.Tasks.{Command, ending, world_of, store_in, own_variables, spent, request_in, starting, with_reply}
use Rattle.task_job.specs.Runs.{asked_by, IsStill, Reaches}
use Rattle.task_job.specs.Standing.{Keeps, HasBehind, Left, ReachesFor, RunsFor, RestsFor, Receives}
use Rattle.task_job.specs.declared.job.Job.{Job}
use Rattle.task_job.proofs.Beginning.{can_be_made, begins}
use Rattle.task_job.proofs.Reaching.{packets_in, next, shows, many_variables, behind_there, reaches_on, still_there, reaches_reply}

-- what follows of what a call gives
pub if_given : {A E : Type 0} (result : Result A E) (P Q : A → Type 0) → ((a : A) → P a → Q a) → IfOk result P → IfOk result Q
if_given (Ok a) P Q f p = f a p
if_given (Err e) P Q f p = tt

-- a job at another place of its run
abbrev pub at_run : Job → Control → Job
at_run job run = record job { run = run }

world_is : (e : Ending) → packets_in e ≡ (world_of e).packets
world_is (Ended w) = refl
world_is (Stopped stop w) = refl
world_is (OutOfMarks w) = refl
world_is (Asks q w) = refl

shown_request : (p : Program) (e : Ending) (r : Rest) → Shows p e r → request_in e ≡ asked_by r.how
shown_request p (Ended w) r h = ap asked_by (sym h.how)
shown_request p (Stopped stop w) r h = ap asked_by (sym h.how)
shown_request p (OutOfMarks w) r h = ap asked_by (sym h.how)
shown_request p (Asks q w) r h = ap asked_by (sym h.how)

-- the data spaces where it comes to rest
shown_spaces : (p : Program) (e : Ending) (r : Rest) → Shows p e r → HasSpaces (world_of e).spaces r.scene.mem
shown_spaces p (Ended w) r h = h.spaces
shown_spaces p (Stopped stop w) r h = h.spaces
shown_spaces p (OutOfMarks w) r h = h.spaces
shown_spaces p (Asks q w) r h = h.spaces

module _ (kinds : List Kind) (pages : Pages) (memory : MemoryData) (job : Job) (c : Command) where
  -- the variables where it comes to rest
  variables_there : (h : ReachesFor kinds pages memory job c) (left : ℕ) (r : Rest)
      → Rests job.code job.run (record { mem = mem_of (memory_heads memory) h.now; marks = left; replies = [] }) r
      → HasBehind kinds c.unit.core.inserted (world_of (ending c left)).packets r.scene.mem.cells
  variables_there h left r rests =
      let b = behind_there c.unit.core c.before.variables c.before.spaces c.marks c.replies job.code job.run (mem_of (memory_heads memory) h.now) h.reaches kinds h.kinds_are left r rests in
      subst (λ slots. HasBehind kinds c.unit.core.inserted slots r.scene.mem.cells) (world_is (ending c left)) (record { all = b.0; front = b.1; bare = b.2 })

  module _ (h : RunsFor kinds pages memory job c) where
    pub many_own : own_variables c ≡ length kinds
    many_own =
        many_variables c.unit.core c.before.variables c.before.spaces c.marks c.replies job.code job.run (mem_of (memory_heads memory) h.reaches.now) h.reaches.reaches kinds h.reaches.kinds_are

    shown_now : Shows job.code (ending c 0) h.still.rest
    shown_now = shows c.unit.core c.before.variables c.before.spaces c.marks c.replies job.code job.run (mem_of (memory_heads memory) h.reaches.now) h.reaches.reaches 0 h.still.rest h.still.rests

    -- it waits for what the command asks
    pub asks_now : asked job.run.waits ≡ request_in (ending c 0)
    asks_now = h.still.asks ∙ sym (shown_request job.code (ending c 0) h.still.rest shown_now)

    -- and leaves what the command leaves that stops here
    pub left_now : Left kinds c.unit.core.inserted pages memory (store_in (world_of (ending c 0)))
    left_now = record {
      fits = h.reaches.fits;
      cells = h.reaches.now;
      holds = h.reaches.holds;
      variables =
          subst (λ (m : Mem). HasBehind kinds c.unit.core.inserted (world_of (ending c 0)).packets m.cells) h.still.mem_is
          (variables_there h.reaches 0 h.still.rest h.still.rests);
      spaces = subst (HasSpaces (world_of (ending c 0)).spaces) h.still.mem_is (shown_spaces job.code (ending c 0) h.still.rest shown_now);
    }

-- a run that went on over the memory
module _ (kinds : List Kind) (old new : Pages) (m n : MemoryData) (job : Job) (c : Command) (h : ReachesFor kinds old m job c) (left left' : ℕ)
    (halt : Halt) (run' : Control)
    (rests : (cells : Cells) (r : Rest) → HoldsAll old m cells → Rests job.code job.run (scene_of (mem_of (memory_heads m) cells) left) r
    → RestsSo (HoldsAll new n) (memory_heads n) halt run' left' r) (less : left' ≤ left) where
  abbrev at_first : Mem
  at_first = mem_of (memory_heads m) h.now

  there : (r : Rest) × Rests job.code job.run (record { mem = at_first; marks = left; replies = [] }) r
  there = next c.unit.core c.before.variables c.before.spaces c.marks c.replies job.code job.run at_first h.reaches left

  so : RestsSo (HoldsAll new n) (memory_heads n) halt run' left' there.0
  so = rests h.now there.0 h.holds there.1

  how : there.0.how ≡ halt
  how = ap (λ (r : Rest). r.how) so.1

  marks_are : there.0.scene.marks ≡ left'
  marks_are = ap (λ (r : Rest). r.scene.marks) so.1

  control_is : there.0.control ≡ run'
  control_is = ap (λ (r : Rest). r.control) so.1

  mem_are : there.0.scene.mem ≡ mem_of (memory_heads n) there.0.scene.mem.cells
  mem_are = ap (λ (r : Rest). r.scene.mem) so.1

  replies_none : there.0.scene.replies ≡ []
  replies_none = ap (λ (r : Rest). r.scene.replies) so.1

  shown : Shows job.code (ending c left) there.0
  shown = shows c.unit.core c.before.variables c.before.spaces c.marks c.replies job.code job.run at_first h.reaches left there.0 there.1

  -- it stands where the command stands with the marks that it spent
  on : IsPaused there.0.how ⊎ (left ≡ 0) → RunsFor kinds new n (at_run job run') (record c { marks = c.marks + (left - left') })
  on calm = record {
    reaches =
        record {
          unit = h.unit;
          kinds_are = h.kinds_are;
          fits = h.fits;
          now = there.0.scene.mem.cells;
          holds = so.0;
          reaches =
              subst (Reaches c.unit.core c.before.variables c.before.spaces (c.marks + (left - left')) c.replies job.code run') mem_are
              (subst (λ (d : Control). Reaches c.unit.core c.before.variables c.before.spaces (c.marks + (left - left')) c.replies job.code d there.0.scene.mem)
              control_is
              (subst (λ k. Reaches c.unit.core c.before.variables c.before.spaces (c.marks + (left - k)) c.replies job.code there.0.control there.0.scene.mem)
              marks_are
              (reaches_on c.unit.core c.before.variables c.before.spaces c.marks c.replies job.code job.run at_first h.reaches left there.0 calm there.1
              replies_none)));
        };
    still =
        subst (IsStill job.code run') mem_are
        (subst (λ (d : Control). IsStill job.code d there.0.scene.mem) control_is
        (still_there c.unit.core c.before.variables c.before.spaces c.marks c.replies job.code job.run at_first h.reaches left there.0 calm there.1
        replies_none));
  }

  paused : (w : World) → (halts.Marked ≡ halt) ⊎ ((q : Request) × (halts.Asks q ≡ halt)) → left' ≡ w.marks → RunsFor kinds new n (at_run job run') (spent left w c)
  paused w calm same =
      let e : c.marks + (left - left') ≡ (c.marks + left) - w.marks = omega (arith, same, less) in
      subst (λ k. RunsFor kinds new n (at_run job run') (record c { marks = k })) e (on (inl (by calm)))
    where
      by : (halts.Marked ≡ halt) ⊎ ((q : Request) × (halts.Asks q ≡ halt)) → IsPaused there.0.how
      by (inl is) = subst IsPaused (is ∙ sym how) tt
      by (inr (q, is)) = subst IsPaused (is ∙ sym how) tt

  over : (w : World) → world_of (ending c left) ≡ w → Left kinds c.unit.core.inserted new n (store_in w)
  over w is = record {
    fits = h.fits;
    cells = there.0.scene.mem.cells;
    holds = so.0;
    variables =
        subst (λ (u : World). HasBehind kinds c.unit.core.inserted u.packets there.0.scene.mem.cells) is
        (variables_there kinds old m job c h left there.0 there.1);
    spaces =
        subst (λ (u : World). HasSpaces u.spaces (mem_of (memory_heads n) there.0.scene.mem.cells)) is
        (subst (HasSpaces (world_of (ending c left)).spaces) mem_are (shown_spaces job.code (ending c left) there.0 shown));
  }

  pub rests_for : RestsFor kinds new n (at_run job run') left left' halt c (ending c left)
  rests_for = by (ending c left) shown over refl
    where
      by : (e : Ending) → Shows job.code e there.0
          → ((w : World) → world_of (ending c left) ≡ w → Left kinds c.unit.core.inserted new n (store_in w)) → ending c left ≡ e
          → RestsFor kinds new n (at_run job run') left left' halt c e
      by (Ended w) s out is = (sym how ∙ s.how, out w (ap world_of is))
      by (Stopped stop w) s out is = (sym how ∙ s.how, out w (ap world_of is))
      by (OutOfMarks w) s out is =
          (sym how ∙ s.how, sym marks_are ∙ s.marks, paused w (inl (sym s.how ∙ how)) (sym marks_are ∙ s.marks))
      by (Asks q w) s out is =
          (sym how ∙ s.how, sym marks_are ∙ s.marks, paused w (inr (q, sym s.how ∙ how)) (sym marks_are ∙ s.marks))

  -- without marks, right before the next one
  pub settles : left ≡ 0 → RunsFor kinds new n (at_run job run') c
  settles none =
      let e : c.marks + (left - left') ≡ c.marks = omega (arith, none) in
      subst (λ k. RunsFor kinds new n (at_run job run') (record c { marks = k })) e (on (inr none))

-- what is waited for
pub asked_is : (w : Waits) → IsSome (asked w) → (q : Request) × (w ≡ Asked q)
asked_is Nothing some = absurd (cc some)
asked_is (Asked q) some = (q, refl)
asked_is (Given r) some = absurd (cc some)
asked_is (Refused stop) some = absurd (cc some)

-- the data spaces of a memory after changes
mem_is : (list : List SpaceChange) (m : Mem) → mem_after list m ≡ mem_of (heads_after list m.heads) (mem_after list m).cells
mem_is [] m = refl
mem_is (change ∷ list) m = mem_is list (mem_by change m)

-- so it is still after a call that keeps what is known
pub receives_on : (q : Request) (a : Answer) (old mid new : Pages) (m n l : MemoryData) → Receives q a old mid m n
    → ((cells : Cells) → HoldsAll mid n cells → HoldsAll new l cells) → memory_heads l ≡ memory_heads n → Receives q a old new m l
receives_on q a old mid new m n l got kept same = record {
  content = got.content;
  heads = same ∙ got.heads;
  holds = λ cells h. kept (after_reply q a (mem_of (memory_heads m) cells)).cells (got.holds cells h);
}

module _ (kinds : List Kind) (old new : Pages) (m n : MemoryData) (job : Job) (c : Command) (q : Request) (a : Answer) (run' : Control)
    (h : ReachesFor kinds old m job c) (asks : job.run.waits ≡ Asked q) (is : run' ≡ answered q a.reply job.run.position) (got : Receives q a old new m n) where
  abbrev was : Mem
  was = mem_of (memory_heads m) h.now

  abbrev after : Mem
  after = after_reply q a was

  after_is : after ≡ mem_of (memory_heads n) after.cells
  after_is = mem_is (reply_changes q a was.heads) was ∙ ap (λ (heads : Heads). mem_of heads after.cells) (sym got.heads)

  -- a job that got an answer
  pub takes_reply : ReachesFor kinds new n (at_run job run') (with_reply a c)
  takes_reply = record {
    unit = h.unit;
    kinds_are = h.kinds_are;
    fits = h.fits;
    now = after.cells;
    holds = got.holds h.now h.holds;
    reaches =
        subst (Reaches c.unit.core c.before.variables c.before.spaces c.marks (c.replies ++ a ∷ []) job.code run') after_is
        (subst (λ (d : Control). Reaches c.unit.core c.before.variables c.before.spaces c.marks (c.replies ++ a ∷ []) job.code d after) (sym is)
        (reaches_reply c.unit.core c.before.variables c.before.spaces c.marks c.replies job.code job.run was h.reaches q a got.content asks));
  }

-- a job at its start
pub starts : (old new : Pages) (m n : MemoryData) (unit : Compiled) (code : Program) (run : Control) (store : Store) → IsCodeOf unit.core code
    → Keeps (packet_kinds unit.core.packets) old m store → run ≡ start code
    → ((cells : Cells) → HoldsAll old m cells → CanBeMade code cells → HoldsAll new n (made code cells)) → memory_heads n ≡ memory_heads m
    → ReachesFor (packet_kinds unit.core.packets) new n (record { unit = unit; code = code; run = run }) (starting unit store)
starts old new m n unit code run store i h is put heads =
    let b = code_behaves unit.core code i in
    let packets = subst (λ ps. HasVariables Packets (packet_kinds ps) store.variables h.cells) (sym b.packets) h.packets in
    record {
      unit = refl;
      kinds_are = refl;
      fits = h.fits;
      now = made code h.cells;
      holds =
          put h.cells h.holds (can_be_made code store.variables store.spaces (memory_heads m) h.cells packets h.spaces h.command);
      reaches =
          subst (λ (hs : Heads). Reaches unit.core store.variables store.spaces 0 [] code run (mem_of hs (made code h.cells))) (sym heads)
          (subst (λ (d : Control). Reaches unit.core store.variables store.spaces 0 [] code d (mem_of (memory_heads m) (made code h.cells))) (sym is)
          (begins code store.variables store.spaces (memory_heads m) h.cells packets h.spaces h.command unit.core i));
    }
