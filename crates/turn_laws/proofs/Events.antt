-- An event: what its steps keep the event keeps.
use Rattle.std.proofs.Common.{◌≡◌, ℕ, Bool, true, false, cond, List, [], ◌∷◌, find, codes, Option, Some, None, refl, sym, ◌∙◌, if◌then◌else◌}
use Rattle.std.specs.Prelude.{is_none}
use Rattle.std.specs.List.{list_any}
use Rattle.std.proofs.lemmas.Bool.{or_left, or_right}
use Rattle.std.proofs.lemmas.List.Folds.{list_any-append}
use Rattle.std.proofs.lemmas.Option.{none-some}
use Rattle.turn_laws.specs.Below.task_numbers.specs.declared.number.TaskNo.{TaskNo}
use Rattle.turn_laws.specs.Below.task_numbers.specs.Numbers.{is_nil, is_task}
use Rattle.eu_base.specs.declared.stop.Stop.TheVariants.{Halted}
use Rattle.eu_base.specs.declared.request.Request.{Request}
use Rattle.eu_base.specs.declared.request.Request.TheVariants.{Out, Input}
use Rattle.eu_base.specs.declared.request.Reply.TheVariants.{Done, Text}
use Rattle.eu_base.specs.Requests.{Answer, plain, then_asked}
use Rattle.elan_tree.specs.declared.token.Word.{Word}
use Rattle.turn_laws.specs.Below.elan_scope.specs.declared.env.Env.{Env}
use Rattle.turn_laws.specs.Below.message_wait.specs.Rendezvous as rendezvous
use Rattle.turn_laws.specs.Below.monitor.specs.Commands.{command_of}
use Rattle.turn_laws.specs.Below.monitor.specs.declared.commands.Command.{Command as Said}
use Rattle.turn_laws.specs.Below.monitor.specs.declared.commands.Command.TheVariants as said
use Rattle.turn_laws.specs.Below.session_text.specs.declared.events.Event.{Event}
use Rattle.turn_laws.specs.Below.session_text.specs.declared.events.Event.TheVariants.{Line, Supervisor, Turns, Fixpoint, Shut}
use Rattle.turn_laws.specs.Below.slicer.specs.Rotation as rotation
use Rattle.turn_laws.specs.Below.task_tree.specs.Tree as tree
use Rattle.turn_laws.specs.Below.task_tree.specs.Tree.{Tree, has_number, with_number}
use Rattle.turn_laws.specs.Below.task_tree.specs.declared.task.Task.{Task}
use Rattle.turn_laws.specs.Below.terminals.specs.Channels.{is_queue_full}
use Rattle.turn_laws.specs.Below.terminals.specs.Channels as channels
use Rattle.system_meaning.specs.Stores.{Store, heir}
use Rattle.system_meaning.specs.Tasks.{Command, Doing, Idle, Entering, Running, ending, world_of, store_in}
use Rattle.system_meaning.specs.Systems.{System, Moment, doing, requested, runs, kept, does, woken, can_couple, couple, on_system, on_ready, on_waits, on_channels, uncouple, say, at_event, supervisor_prompt}
use Rattle.system_meaning.specs.Ends.{next, begun}
use Rattle.system_meaning.specs.Serving.{input, line_taken}
use Rattle.system_meaning.specs.Monitor.{Reading}
use Rattle.system_meaning.specs.Monitor as monitor
use Rattle.system_meaning.specs.Turns.{turns}
use Rattle.system_meaning.specs.Supervisor.{begin_refusal, begin_unless, resumed, continued, unless, told, halted_by, halted, supervised, worded, called}
use Rattle.system_meaning.specs.Supervisor as supervisor
use Rattle.system_meaning.specs.Events.{answered, awaited, queued, line_for, line_at, after}
use Rattle.system_meaning.specs.Whole.{IsSystem}
use Rattle.turn_laws.specs.Waits.{AreOrderly}
use Rattle.turn_laws.proofs.Found.{itself}
use Rattle.turn_laws.proofs.Single.{changed_doing}
use Rattle.turn_laws.proofs.Walk.{Steps, takes_line, ends_as}

-- what is done at a channel keeps this
pub record Channelled (R : System → Type 0) (P : TaskNo → Command → System → Type 0) (Fit : List ℕ → Type 0) : Type 0 where
  pub couples : (c : ℕ) (t : TaskNo) (s : System) → can_couple c t s ≡ true → tree.lives t s.shared.tree ≡ true → R s → R (on_channels (channels.coupled c t) s)
  pub frees : (c : ℕ) (s : System) → R s → R (on_channels (channels.uncoupled c) s)
  pub lasts : (c : ℕ) (t : TaskNo) (s : System) → R s → R (on_channels (channels.with_last c t) s)
  pub queues : (c : ℕ) (line : List ℕ) (s : System) → Fit line → R s → R (on_channels (channels.queued c line) s)
  pub unqueues : (c : ℕ) (s : System) → R s → R (on_channels (channels.unqueued c) s)
  pub begins : (name named : List ℕ) (s : System) → begin_refusal name (tree.named named s.shared.tree) s ≡ None → IsSystem s → R s
      → R (begun name (tree.named named s.shared.tree) (Idle (heir (kept (tree.named named s.shared.tree) s))) s)
  pub wakes : (t : TaskNo) (a : Answer) (q : Request) (s : System) → requested t s ≡ Some q → then_asked q a.reply ≡ None → R s → R (woken t a s)
  pub halts : (t : TaskNo) (x : Command) (store : Store) (s : System) → doing t s ≡ Some (Running x) → R s
      → R (does t (Idle store) (on_waits (rendezvous.left t) (on_ready (rotation.without t) s)))
      × P t x (does t (Idle store) (on_waits (rendezvous.left t) (on_ready (rotation.without t) s)))

couple_doing : (c : ℕ) (t : TaskNo) (s : System) → doing t (couple c t s) ≡ doing t s
couple_doing c t s = by (can_couple c t s)
  where
    by : (b : Bool) → doing t (if b then on_channels (channels.coupled c t) s else s) ≡ doing t s
    by true = refl
    by false = refl

with_number_lives : (t : TaskNo) (s : Tree) → is_none (with_number t s) ≡ false → tree.lives t s ≡ true
with_number_lives t s some = by s.tasks some
  where
    by : (xs : List Task) → is_none (find (has_number t) xs) ≡ false → list_any (has_number t) xs ≡ true
    by [] some = sym some
    by (x ∷ xs) some = at (has_number t x) refl some (by xs)
      where
        at : (b : Bool) → has_number t x ≡ b → is_none (cond b (Some x) (find (has_number t) xs)) ≡ false
            → (is_none (find (has_number t) xs) ≡ false → list_any (has_number t) xs ≡ true) → list_any (has_number t) (x ∷ xs) ≡ true
        at true is some rest = or_left (has_number t x) (list_any (has_number t) xs) is
        at false is some rest = or_right (has_number t x) (list_any (has_number t) xs) (rest some)

abbrev pub Fits : (List ℕ → Type 0) → Event → Type 0
Fits Fit (Line c line) = Fit line
Fits Fit _ = Unit {0}

module _ (read : Env → Bool → List ℕ → Reading) (R : System → Type 0) (P : TaskNo → Command → System → Type 0) (Fit : List ℕ → Type 0)
    (k : (u : TaskNo) → Steps read u R (P u) Fit) (g : Channelled R P Fit) where
  couples_so : (c : ℕ) (t : TaskNo) (s : System) → tree.lives t s.shared.tree ≡ true → R s → R (couple c t s)
  couples_so c t s live h = by (can_couple c t s) refl
    where
      by : (b : Bool) → can_couple c t s ≡ b → R (if b then on_channels (channels.coupled c t) s else s)
      by true can = g.couples c t s can live h
      by false can = h

  -- ---- a line that is queued

  input_so : (c : ℕ) (t : TaskNo) (m : Moment) → requested t m.system ≡ Some Input → R m.system → R (answered (input (Some c) m) t).system
  input_so c t m asks h = by (channels.channel c m.system.shared.channels).queue
    where
      by : (queue : List (List ℕ)) → R (answered (line_taken queue c m) t).system
      by [] = h
      by (line ∷ lines) = g.wakes t (plain (Text line)) Input (on_channels (channels.unqueued c) m.system) asks refl (g.unqueues c m.system h)

  awaited_so : (c : ℕ) (t : TaskNo) (m : Moment) (q : Option Request) → requested t m.system ≡ q → R m.system → R (awaited q c t m).system
  awaited_so c t m (Some Input) asks h = input_so c t m asks h
  awaited_so c t m _ asks h = h

  queued_so : (c : ℕ) (t : TaskNo) (line : List ℕ) (m : Moment) → Fit line → R m.system → R (queued c t line m).system
  queued_so c t line m fits h = by (is_queue_full (channels.channel c m.system.shared.channels))
    where
      later : Moment
      later = on_system (on_channels (channels.queued c line)) m

      by : (b : Bool) → R (if b then say c (codes "Zeile verworfen") m else awaited (requested t later.system) c t later).system
      by true = h
      by false = awaited_so c t later (requested t later.system) refl (g.queues c line m.system fits h)

  line_for_so : (b : Bool) (c : ℕ) (t : TaskNo) (line : List ℕ) (m : Moment) → Fit line → R m.system → R (line_for read b c t line m).system
  line_for_so true c t line m fits h = queued_so c t line m fits h
  line_for_so false c t line m fits h = takes_line read t R (P t) Fit (k t) line m fits h

  -- ---- the supervisor

  begin_so : (c : ℕ) (name named : List ℕ) (m : Moment) → IsSystem m.system → R m.system → R (supervisor.begin_under c name (tree.named named m.system.shared.tree) m).system
  begin_so c name named m is h = by (begin_refusal name (tree.named named m.system.shared.tree) m.system) refl
    where
      son : System
      son = begun name (tree.named named m.system.shared.tree) (Idle (heir (kept (tree.named named m.system.shared.tree) m.system))) m.system

      there : tree.lives (next m.system) son.shared.tree ≡ true
      there =
          list_any-append (has_number (next m.system)) m.system.shared.tree.tasks
          (tree.task (tree.next m.system.shared.tree) name (tree.named named m.system.shared.tree) ∷ [])
          ∙ or_right (tree.lives (next m.system) m.system.shared.tree) _ (or_left (is_task (next m.system) (next m.system)) false (itself (next m.system)))

      by : (o : Option (List ℕ)) → begin_refusal name (tree.named named m.system.shared.tree) m.system ≡ o
          → R (begin_unless o c name (tree.named named m.system.shared.tree) m).system
      by (Some text) e = h
      by None e = couples_so c (next m.system) son there (g.begins name named m.system e is h)

  resumed_so : (c : ℕ) (t : TaskNo) (m : Moment) (d : Option Doing) (q : Option Request) → requested t m.system ≡ q → R m.system
      → R (resumed d q c t m).system
  resumed_so c t m (Some (Idle store)) q asks h = h
  resumed_so c t m _ (Some (Out bytes ends)) asks h = g.wakes t (plain Done) (Out bytes ends) m.system asks refl h
  resumed_so c t m _ _ asks h = h

  lives_unrefused : (t : TaskNo) (s : System) → supervisor.coupling_refusal t s ≡ None → tree.lives t s.shared.tree ≡ true
  lives_unrefused t s e = with_number_lives t s.shared.tree (by (is_none (with_number t s.shared.tree)) e)
    where
      by : (b : Bool)
          → (if b then Some (codes "Task gibt es nicht") else if is_none (channels.channel_of t s.shared.channels) then None else Some (codes "Task ist schon gekoppelt")) ≡ None
          → b ≡ false
      by true e = absurd (none-some _ (sym e))
      by false e = refl

  unless_so : (t : TaskNo) (c : ℕ) (go : Moment → Moment) (m : Moment) → R m.system → (tree.lives t m.system.shared.tree ≡ true → R (go m).system)
      → R (unless (supervisor.coupling_refusal t m.system) c go m).system
  unless_so t c go m h on = by (supervisor.coupling_refusal t m.system) refl
    where
      by : (o : Option (List ℕ)) → supervisor.coupling_refusal t m.system ≡ o → R (unless o c go m).system
      by (Some text) e = h
      by None e = on (lives_unrefused t m.system e)

  continued_so : (c : ℕ) (t : TaskNo) (m : Moment) → R m.system → tree.lives t m.system.shared.tree ≡ true → R (continued c t m).system
  continued_so c t m h live =
      resumed_so c t (on_system (couple c t) m) (doing t (couple c t m.system)) (requested t (couple c t m.system)) refl (couples_so c t m.system live h)

  halted_so : (c : ℕ) (t : TaskNo) (m : Moment) → R m.system → tree.lives t m.system.shared.tree ≡ true → R (halted read c t m).system
  halted_so c t m h live = by (doing t m.system) refl
    where
      now : Moment
      now = on_system (couple c t) m

      there : R (couple c t m.system)
      there = couples_so c t m.system live h

      by : (d : Option Doing) → doing t m.system ≡ d → R (halted_by read d c t (on_system (couple c t) m)).system
      by None is = there
      by (Some (Idle store)) is = there
      by (Some (Entering name lines store)) is = (k t).rests (Entering name lines store) store (couple c t m.system) (couple_doing c t m.system ∙ is) refl there
      by (Some (Running x)) is =
          let runs = couple_doing c t m.system ∙ is in
          let stops = g.halts t x (store_in (world_of (ending x 0))) (couple c t m.system) runs there in
          ends_as read t R (P t) Fit (k t) x.unit.shown (Some Halted) x (store_in (world_of (ending x 0)))
          (on_system (does t (Idle (store_in (world_of (ending x 0))))) (on_system (on_waits (rendezvous.left t)) (on_system (on_ready (rotation.without t)) now)))
          refl stops.1
          (changed_doing t (Idle (store_in (world_of (ending x 0)))) (Running x)
          (on_waits (rendezvous.left t) (on_ready (rotation.without t) (couple c t m.system))) runs)
          stops.0

  told_so : (c : ℕ) (lines : List (List ℕ)) (m : Moment) → R m.system → R (told c lines m).system
  told_so c [] m h = h
  told_so c (line ∷ lines) m h = told_so c lines (say c line m) h

  supervised_so : (x : Said) (c : ℕ) (m : Moment) → IsSystem m.system → R m.system → R (supervised read x c m).system
  supervised_so said.Blank c m is h = h
  supervised_so (said.Begin name father) c m is h = begin_so c name father m is h
  supervised_so (said.Continue name) c m is h =
      unless_so (tree.named name m.system.shared.tree) c (continued c (tree.named name m.system.shared.tree)) m h
      (continued_so c (tree.named name m.system.shared.tree) m h)
  supervised_so said.Halt c m is h =
      unless_so (channels.channel c m.system.shared.channels).last c (halted read c (channels.channel c m.system.shared.channels).last) m h
      (halted_so c (channels.channel c m.system.shared.channels).last m h)
  supervised_so said.TaskInfo c m is h = told_so c (supervisor.task_info m.system) m h
  supervised_so said.StorageInfo c m is h = h
  supervised_so said.Unknown c m is h = h

  worded_so : (ws : Option (List Word)) (c : ℕ) (m : Moment) → IsSystem m.system → R m.system → R (worded read ws c m).system
  worded_so None c m is h = h
  worded_so (Some ws) c m is h = supervised_so (command_of ws) c m is h

  called_so : (t : TaskNo) (c : ℕ) (m : Moment) → R m.system → R (called t c m).system
  called_so t c m h = by (is_nil t)
    where
      by : (b : Bool) → R (if b then say c supervisor_prompt m else uncouple c (on_system (on_channels (channels.with_last c t)) m)).system
      by true = h
      by false = g.frees c (on_channels (channels.with_last c t) m.system) (g.lasts c t m.system h)

  line_at_so : (c : ℕ) (t : TaskNo) (line : List ℕ) (m : Moment) → IsSystem m.system → Fit line → R m.system → R (line_at read t c line m).system
  line_at_so c t line m is fits h = by (is_nil t)
    where
      by : (b : Bool) → R (if b then worded read (monitor.words_of line) c m else line_for read (runs t m.system) c t line m).system
      by true = worded_so (monitor.words_of line) c m is h
      by false = line_for_so (runs t m.system) c t line m fits h

  -- the same of a line alone, and of a call of the supervisor
  pub line_so : (c : ℕ) (line : List ℕ) (s : System) → Fit line → IsSystem s → R s → R (after read s (Line c line))
  line_so c line s fits is h = line_at_so c (channels.channel c s.shared.channels).task line (at_event s) is fits h

  pub supervisor_so : (c : ℕ) (s : System) → R s → R (after read s (Supervisor c))
  supervisor_so c s h = called_so (channels.channel c s.shared.channels).task c (at_event s) h

  pub happens_so : ((n : ℕ) (m : Moment) → IsSystem m.system → AreOrderly m.system → R m.system → R (turns read n m).system) → (e : Event) (s : System)
      → Fits Fit e → IsSystem s → AreOrderly s → R s → R (after read s e)
  happens_so turned (Line c line) s fits is order h = line_at_so c (channels.channel c s.shared.channels).task line (at_event s) is fits h
  happens_so turned (Supervisor c) s fits is order h = called_so (channels.channel c s.shared.channels).task c (at_event s) h
  happens_so turned (Turns n) s fits is order h = turned n (at_event s) is order h
  happens_so turned Fixpoint s fits is order h = h
  happens_so turned Shut s fits is order h = h
