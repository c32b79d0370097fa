-- Each event leaves those that wait as they should be.
use Rattle.std.proofs.Common.{◌≡◌, ℕ, zero, suc, ◌-◌, ◌<◌, ◌≤◌, Bool, true, false, cond, not, ◌||◌, List, [], ◌∷◌, ◌++◌, length, find, codes, Option, Some, None}
use Rattle.std.proofs.Common.{refl, sym, ap, ◌∙◌, subst, if◌then◌else◌}
use Rattle.std.specs.Prelude.{option_and_then, is_none, nat_le}
use Rattle.std.specs.List.{AllByRecursion, list_any}
use Rattle.std.proofs.lemmas.Bool.{false≢true, and_parts, or_left, or_right, leb-false, eq-eqb}
use Rattle.std.proofs.lemmas.Option.{none-some}
use Rattle.turn_laws.specs.Below.task_numbers.specs.declared.limits.TheConstants.{TASKS}
use Rattle.turn_laws.specs.Below.task_numbers.specs.declared.number.TaskNo.{TaskNo}
use Rattle.turn_laws.specs.Below.task_numbers.specs.Numbers.{is_nil, is_task}
use Rattle.eu_base.specs.declared.stop.Stop.{Stop}
use Rattle.eu_base.specs.declared.stop.Stop.TheVariants.{Halted, BadName}
use Rattle.eu_base.specs.Stops.{stop_text}
use Rattle.eu_base.specs.declared.request.Request.{Request}
use Rattle.eu_base.specs.declared.request.Request.TheVariants.{Out, Input}
use Rattle.eu_base.specs.declared.request.Reply.TheVariants.{Done, Text}
use Rattle.eu_base.specs.Requests.{Answer, plain, then_asked}
use Rattle.elan_tree.specs.declared.token.Word.{Word}
use Rattle.turn_laws.specs.Below.elan_scope.specs.declared.env.Env.{Env}
use Rattle.turn_laws.specs.Below.message_wait.specs.Rendezvous.{Waits, is_waiting}
use Rattle.turn_laws.specs.Below.message_wait.specs.Rendezvous as rendezvous
use Rattle.turn_laws.specs.Below.message_wait.specs.declared.waits.Caller.{Caller}
use Rattle.turn_laws.specs.Below.message_wait.specs.declared.waits.Receiver.{Receiver}
use Rattle.turn_laws.specs.Below.monitor.specs.Commands.{command_of}
use Rattle.turn_laws.specs.Below.monitor.specs.declared.commands.Command.{Command as Said}
use Rattle.turn_laws.specs.Below.monitor.specs.declared.commands.Command.TheVariants as said
use Rattle.turn_laws.specs.Below.session_text.specs.declared.events.Event.{Event}
use Rattle.turn_laws.specs.Below.session_text.specs.declared.events.Event.TheVariants.{Line, Supervisor, Turns, Fixpoint, Shut}
use Rattle.turn_laws.specs.Below.slicer.specs.Rotation as rotation
use Rattle.turn_laws.specs.Below.task_tree.specs.Tree as tree
use Rattle.turn_laws.specs.Below.task_tree.specs.Tree.{Tree, has_number, has_name, number_of}
use Rattle.turn_laws.specs.Below.task_tree.specs.declared.refusal.BeginError.{BeginError}
use Rattle.turn_laws.specs.Below.task_tree.specs.declared.refusal.BeginError.TheVariants.{NameTaken, TreeFull}
use Rattle.turn_laws.specs.Below.task_tree.specs.declared.task.Task.{Task}
use Rattle.turn_laws.specs.Below.task_tree.proofs.Growing.{begun_is_tree}
use Rattle.turn_laws.specs.Below.terminals.specs.Channels.{Channel, unused, is_queue_full, with_line}
use Rattle.turn_laws.specs.Below.terminals.specs.Channels as channels
use Rattle.turn_laws.specs.Below.terminals.specs.Couplings.{task_at, IsOneToOne}
use Rattle.turn_laws.specs.Below.terminals.proofs.Coupling.{coupled_one_to_one, at_none}
use Rattle.system_meaning.specs.Stores.{Store, is_name, heir}
use Rattle.system_meaning.specs.Tasks.{Command, Doing, Idle, Entering, Running, ending, world_of, store_in, request_of, is_running}
use Rattle.system_meaning.specs.Tasks as tasks
use Rattle.system_meaning.specs.Systems.{System, Moment, doing, requested, runs, kept, does, woken, can_couple, couple, on_system, on_ready, on_waits, on_channels, uncouple, say, at_event, supervisor_prompt}
use Rattle.system_meaning.specs.Ends.{number_refusal, next, begun}
use Rattle.system_meaning.specs.Serving.{input, line_taken}
use Rattle.system_meaning.specs.Monitor.{Reading}
use Rattle.system_meaning.specs.Monitor as monitor
use Rattle.system_meaning.specs.Turns.{turn, turns}
use Rattle.system_meaning.specs.Supervisor.{father_refusal, begin_refusal, begin_unless, resumed, continued, unless, told, halted_by, halted, supervised, worded, called}
use Rattle.system_meaning.specs.Supervisor as supervisor
use Rattle.system_meaning.specs.Events.{answered, awaited, queued, line_for, line_at, happens, after, run}
use Rattle.system_meaning.specs.Whole.{IsSystem}
use Rattle.turn_laws.specs.Steady.{AreSteady}
use Rattle.turn_laws.specs.Waits.{IsFree, AreOrderly}
use Rattle.turn_laws.proofs.Finding.{living}
use Rattle.turn_laws.proofs.Trees.{numbered, grown_same}
use Rattle.turn_laws.proofs.Steps.{quiet_ready, ready_without, waits_sound, quiet_channels, quiet_woken, begun_sound, free_stays}
use Rattle.turn_laws.proofs.Lists.{all_map, all_filter}
use Rattle.turn_laws.proofs.Rights.{Right, right_in, right_same, right_callers, right_receivers, waits_of, rooms_of, absent, not_waiting, IsOther, others_absent, nothing_done}
use Rattle.turn_laws.proofs.Orders.{Order, orderly, order_in, order_woken}
use Rattle.turn_laws.proofs.Since.{stays, Since}
use Rattle.turn_laws.proofs.Others.{same_tasks, one_kept, unqueued_stays, left_absent, left_itself, unborn, son_doing, son_order}
use Rattle.turn_laws.proofs.Walking.{running_in, runs_is, takes_line, ends_as}
use Rattle.turn_laws.proofs.Beside.{May, Alone, Evaluates, Ends, IsAsked, known_in, since_does, free_does, keeps, turn_keeps}

-- what holds of every system, and of those that wait in it
pub record Fine (s : System) : Type 0 where
  pub sound : IsSystem s
  pub order : AreOrderly s

-- ---- channels

channels_fine : (f : List Channel → List Channel) (s : System) → IsOneToOne (f s.shared.channels) → Fine s → Fine (on_channels f s)
channels_fine f s one h =
    let right = right_same s.shared.waits s (on_channels f s) (λ t. refl) (λ t live. live) (right_in s h.order.waits h.order.rooms) in
    record {
      sound = (quiet_channels (next s) f s one h.sound).sound;
      order = record { waits = waits_of (on_channels f s) right h.order.waits.calm; rooms = rooms_of (on_channels f s) right; free = h.order.free };
    }

uncouple_fine : (c : ℕ) (m : Moment) → Fine m.system → Fine (uncouple c m).system
uncouple_fine c m h = channels_fine (channels.uncoupled c) m.system (free_stays c m.system.shared.channels h.sound.channels) h

none_is : {A : Type 0} (o : Option A) → is_none o ≡ true → o ≡ None
none_is None e = refl
none_is (Some a) e = absurd (false≢true e)

couple_fine : (c : ℕ) (t : TaskNo) (s : System) → Fine s → Fine (couple c t s)
couple_fine c t s h = by (can_couple c t s) refl
  where
    free : can_couple c t s ≡ true → channels.channel_of t s.shared.channels ≡ None
    free can =
        none_is (channels.channel_of t s.shared.channels)
        (and_parts (is_nil (channels.channel c s.shared.channels).task) (is_none (channels.channel_of t s.shared.channels)) can).1

    by : (b : Bool) → can_couple c t s ≡ b → Fine (if b then on_channels (channels.coupled c t) s else s)
    by true can =
        channels_fine (channels.coupled c t) s
        (coupled_one_to_one s.shared.channels (c - 1) (record (channels.channel c s.shared.channels) { task = t }) h.sound.channels
        (λ some j. at_none s.shared.channels t j (free can) some))
        h
    by false can = h

-- ---- a task takes a line, or its command is over

module _ (steady : AreSteady) (read : Env → Bool → List ℕ → Reading) where
  -- one that lives, does not wait, and asks for no answer
  module _ (t : TaskNo) (m : Moment) (h : Fine m.system) (live : tree.lives t m.system.shared.tree ≡ true) (order : Order t m.system) where
    since : Since t [] m.system m.system
    since = record {
      sound = h.sound;
      tree = grown_same t m.system.shared.tree h.sound.tree;
      others = λ v other low. stays refl;
      order = order;
      known = known_in m.system h.sound.tree order.right;
    }

    low : t.0 ≤ m.system.shared.tree.last
    low = let found = living t m.system.shared.tree.tasks live in (numbered m.system.shared.tree t found.0 h.sound.tree found.1).given

    fine_of : (n : Moment) → Alone t [] m.system n n → Fine n.system
    fine_of n a = record { sound = a.since.sound; order = orderly t n.system a.since.order }

    pub line_fine : IsFree t m.system → (line : List ℕ) → Fine (monitor.taken read t line m).system
    line_fine free line =
        fine_of (monitor.taken read t line m)
        (takes_line t (Alone t [] m.system) (Evaluates t [] m.system) (Ends t [] m.system) (IsAsked []) May (keeps steady t [] m.system h.sound.tree low) read line m m
        (record { same = refl; since = since; free = free }))

    -- it is idle, and its command stopped
    pub over_fine : (c : Command) (stop : Stop) (store : Store) → Fine (monitor.over_as read c.unit.shown (Some stop) t c (on_system (does t (Idle store)) m)).system
    over_fine c stop store =
        fine_of (monitor.over_as read c.unit.shown (Some stop) t c (on_system (does t (Idle store)) m))
        (ends_as t (Alone t [] m.system) (Evaluates t [] m.system) (Ends t [] m.system) (IsAsked []) May (keeps steady t [] m.system h.sound.tree low) read
        c.unit.shown (Some stop) c (on_system (does t (Idle store)) m) (on_system (does t (Idle store)) m) refl
        (record {
          same = refl;
          since = since_does steady t [] m.system h.sound.tree low (Idle store) (λ x e. absurd (none-some x e)) m.system since;
          free = free_does t (Idle store) m.system (λ x e. absurd (none-some x e));
        }))

    pub idle_fine : (store : Store) → Fine (does t (Idle store) m.system)
    idle_fine store =
        let later = since_does steady t [] m.system h.sound.tree low (Idle store) (λ x e. absurd (none-some x e)) m.system since in
        record { sound = later.sound; order = orderly t (does t (Idle store) m.system) later.order }

  lives_doing : (t : TaskNo) (s : System) (d : Doing) → doing t s ≡ Some d → tree.lives t s.shared.tree ≡ true
  lives_doing t s d is = by (tree.lives t s.shared.tree) refl
    where
      by : (b : Bool) → tree.lives t s.shared.tree ≡ b → b ≡ true
      by true live = refl
      by false dead = absurd (none-some d (sym (nothing_done t s dead) ∙ is))

  -- one that does not run does not wait
  resting : (d : Doing) → is_running d ≡ false → IsOther (request_of d)
  resting (Idle store) e = tt
  resting (Entering name lines store) e = tt
  resting (Running c) e = absurd (false≢true (sym e))

  no_command : (d : Doing) → is_running d ≡ false → (c : Command) → tasks.command_of d ≡ Some c → ⊥
  no_command (Idle store) e c is = none-some c is
  no_command (Entering name lines store) e c is = none-some c is
  no_command (Running x) e c is = false≢true (sym e)

  resting_order : (t : TaskNo) (s : System) (d : Doing) → doing t s ≡ Some d → is_running d ≡ false → Fine s → Order t s
  resting_order t s d is rests h =
      order_in t s h.order
      (others_absent t s.shared.waits s (right_in s h.order.waits h.order.rooms)
      (subst (λ (p : Option Doing). IsOther (option_and_then request_of p)) (sym is) (resting d rests)))

  taken_fine : (t : TaskNo) (line : List ℕ) (m : Moment) → runs t m.system ≡ false → Fine m.system → Fine (monitor.taken read t line m).system
  taken_fine t line m rests h = by (doing t m.system) refl
    where
      by : (p : Option Doing) → doing t m.system ≡ p → Fine (monitor.taken_by read p t line m).system
      by None is = h
      by (Some d) is =
          let still : is_running d ≡ false = sym (ap running_in is) ∙ (sym (runs_is t m.system) ∙ rests) in
          subst (λ (p : Option Doing). Fine (monitor.taken_by read p t line m).system) is
          (line_fine t m h (lives_doing t m.system d is) (resting_order t m.system d is still h)
          (λ c at. absurd (no_command d still c (sym (ap (option_and_then tasks.command_of) is) ∙ at))) line)

  -- ---- one that asks for something else gets an answer

  woken_fine : (t : TaskNo) (a : Answer) (q : Request) (s : System) → requested t s ≡ Some q → IsOther (Some q) → then_asked q a.reply ≡ None → Fine s
      → Fine (woken t a s)
  woken_fine t a q s asks other none h =
      let order = order_in t s h.order
      (others_absent t s.shared.waits s (right_in s h.order.waits h.order.rooms) (subst IsOther (sym asks) other)) in
      record {
        sound = (quiet_woken t a s h.sound).sound;
        order = orderly t (woken t a s) (order_woken steady t t a s q h.sound order.apart asks none order);
      }

  -- ---- a line at a channel

  queued_one : (c : ℕ) (line : List ℕ) (s : List Channel) → IsOneToOne s → IsOneToOne (channels.queued c line s)
  queued_one c line s one =
      one_kept s (channels.queued c line s) (same_tasks s (c - 1) (with_line line (channels.channel c s)) (by (is_queue_full (channels.channel c s)))) one
    where
      by : (b : Bool)
          → (cond b (channels.channel c s) (record (channels.channel c s) { queue = (channels.channel c s).queue ++ line ∷ [] })).task ≡ task_at (c - 1) s
      by true = refl
      by false = refl

  input_fine : (c : ℕ) (t : TaskNo) (m : Moment) → requested t m.system ≡ Some Input → Fine m.system → Fine (answered (input (Some c) m) t).system
  input_fine c t m asks h = by (channels.channel c m.system.shared.channels).queue
    where
      by : (queue : List (List ℕ)) → Fine (answered (line_taken queue c m) t).system
      by [] = h
      by (line ∷ lines) =
          woken_fine t (plain (Text line)) Input (on_channels (channels.unqueued c) m.system) asks tt refl
          (channels_fine (channels.unqueued c) m.system (unqueued_stays c m.system.shared.channels h.sound.channels) h)

  awaited_fine : (c : ℕ) (t : TaskNo) (m : Moment) (q : Option Request) → requested t m.system ≡ q → Fine m.system → Fine (awaited q c t m).system
  awaited_fine c t m (Some Input) asks h = input_fine c t m asks h
  awaited_fine c t m _ asks h = h

  queued_fine : (c : ℕ) (t : TaskNo) (line : List ℕ) (m : Moment) → Fine m.system → Fine (queued c t line m).system
  queued_fine c t line m h = by (is_queue_full (channels.channel c m.system.shared.channels))
    where
      later : Moment
      later = on_system (on_channels (channels.queued c line)) m

      there : Fine later.system
      there = channels_fine (channels.queued c line) m.system (queued_one c line m.system.shared.channels h.sound.channels) h

      by : (b : Bool) → Fine (if b then say c (codes "Zeile verworfen") m else awaited (requested t later.system) c t later).system
      by true = h
      by false = awaited_fine c t later (requested t later.system) refl there

  line_for_fine : (c : ℕ) (t : TaskNo) (line : List ℕ) (m : Moment) → (b : Bool) → runs t m.system ≡ b → Fine m.system → Fine (line_for read b c t line m).system
  line_for_fine c t line m true e h = queued_fine c t line m h
  line_for_fine c t line m false e h = taken_fine t line m e h

  -- ---- the supervisor

  -- a number that was found is that of one of the tasks
  found_lives : (p : Task → Bool) (ts : List Task) → is_nil (number_of (find p ts)) ≡ false → list_any (has_number (number_of (find p ts))) ts ≡ true
  found_lives p [] h = sym h
  found_lives p (u ∷ us) h = by (p u) h (found_lives p us)
    where
      by : (b : Bool) → is_nil (number_of (cond b (Some u) (find p us))) ≡ false
          → (is_nil (number_of (find p us)) ≡ false → list_any (has_number (number_of (find p us))) us ≡ true)
          → (has_number (number_of (cond b (Some u) (find p us))) u || list_any (has_number (number_of (cond b (Some u) (find p us)))) us) ≡ true
      by true h rest = or_left (has_number u.number u) (list_any (has_number u.number) us) (eq-eqb u.number.0 u.number.0 refl)
      by false h rest =
          or_right (has_number (number_of (find p us)) u) (list_any (has_number (number_of (find p us))) us) (rest h)

  -- what a refusal by number comes to
  abbrev supervisor_refusal : Option Stop → Option (List ℕ)
  supervisor_refusal None = None
  supervisor_refusal (Some stop) = Some (stop_text stop)

  record CanBegin (name : List ℕ) (father : TaskNo) (s : Tree) : Type 0 where
    free : list_any (tree.has_name name) s.tasks ≡ false
    room : length s.tasks < TASKS
    live : is_nil father ≡ false

  can_begin : (name : List ℕ) (father : TaskNo) (s : System) → begin_refusal name father s ≡ None → CanBegin name father s.shared.tree
  can_begin name father s none = named (is_name name) none
    where
      numbers : is_nil father ≡ false → (taken full : Bool) (third : Option BeginError) → list_any (tree.has_name name) s.shared.tree.tasks ≡ taken
          → nat_le TASKS (length s.shared.tree.tasks) ≡ full
          → supervisor_refusal (number_refusal (if taken then Some NameTaken else if full then Some TreeFull else third)) ≡ None
          → CanBegin name father s.shared.tree
      numbers some true full third is is_full none = absurd (none-some _ (sym none))
      numbers some false true third is is_full none = absurd (none-some _ (sym none))
      numbers some false false third is is_full none = record { free = is; room = leb-false TASKS (length s.shared.tree.tasks) is_full; live = some }

      fathers : (b : Bool) → is_nil father ≡ b → father_refusal b name s ≡ None → CanBegin name father s.shared.tree
      fathers true e none = absurd (none-some _ (sym none))
      fathers false e none =
          numbers e (list_any (tree.has_name name) s.shared.tree.tasks) (nat_le TASKS (length s.shared.tree.tasks)) _ refl refl none

      named : (b : Bool) → (if b then father_refusal (is_nil father) name s else Some (stop_text BadName)) ≡ None → CanBegin name father s.shared.tree
      named true none = fathers (is_nil father) refl none
      named false none = absurd (none-some _ (sym none))

  begun_fine : (name : List ℕ) (father : TaskNo) (s : System) → tree.lives father s.shared.tree ≡ true → CanBegin name father s.shared.tree → Fine s
      → Fine (begun name father (Idle (heir (kept father s))) s)
  begun_fine name father s live can h =
      let right = right_in s h.order.waits h.order.rooms in
      record {
        sound =
            begun_sound name father (Idle (heir (kept father s))) s h.sound
            (begun_is_tree s.shared.tree name father h.sound.tree can.free can.room live);
        order =
            orderly (next s) (begun name father (Idle (heir (kept father s))) s)
            (son_order name father (Idle (heir (kept father s))) s h.sound (next s)
            (record { right = right; calm = h.order.waits.calm; free = h.order.free; apart = unborn s h.sound.tree right })
            (λ c at.
            absurd (none-some c (sym (ap (option_and_then tasks.command_of) (son_doing name father (Idle (heir (kept father s))) s h.sound)) ∙ at))));
      }

  begin_fine : (c : ℕ) (name : List ℕ) (named : List ℕ) (m : Moment) → Fine m.system
      → Fine (supervisor.begin_under c name (tree.named named m.system.shared.tree) m).system
  begin_fine c name named m h = by (begin_refusal name father m.system) refl
    where
      father : TaskNo
      father = tree.named named m.system.shared.tree

      by : (o : Option (List ℕ)) → begin_refusal name (tree.named named m.system.shared.tree) m.system ≡ o
          → Fine (begin_unless o c name (tree.named named m.system.shared.tree) m).system
      by (Some text) e = h
      by None e =
          let can = can_begin name (tree.named named m.system.shared.tree) m.system e in
          couple_fine c (next m.system) (begun name father (Idle (heir (kept father m.system))) m.system)
          (begun_fine name (tree.named named m.system.shared.tree) m.system
          (found_lives (has_name named) m.system.shared.tree.tasks can.live) can h)

  resumed_fine : (c : ℕ) (t : TaskNo) (m : Moment) (d : Option Doing) (q : Option Request) → requested t m.system ≡ q → Fine m.system
      → Fine (resumed d q c t m).system
  resumed_fine c t m (Some (Idle store)) q asks h = h
  resumed_fine c t m _ (Some (Out bytes ends)) asks h = woken_fine t (plain Done) (Out bytes ends) m.system asks tt refl h
  resumed_fine c t m _ _ asks h = h

  unless_fine : (o : Option (List ℕ)) (c : ℕ) (go : Moment → Moment) (m : Moment) → Fine m.system → Fine (go m).system → Fine (unless o c go m).system
  unless_fine (Some text) c go m h on = h
  unless_fine None c go m h on = on

  continued_fine : (c : ℕ) (t : TaskNo) (m : Moment) → Fine m.system → Fine (continued c t m).system
  continued_fine c t m h =
      resumed_fine c t (on_system (couple c t) m) (doing t (couple c t m.system)) (requested t (couple c t m.system)) refl (couple_fine c t m.system h)

  -- a command that is halted waits no longer
  left_fine : (t : TaskNo) (s : System) → Fine s → Fine (on_waits (rendezvous.left t) (on_ready (rotation.without t) s))
  left_fine t s h = record {
    sound = waits_sound (rendezvous.left t) (on_ready (rotation.without t) s) ready_sound;
    order = record {
      waits = waits_of later right calm;
      rooms = rooms_of later right;
      free = all_filter (λ v. IsFree v s) (λ v. not (is_task v t)) s.shared.ready h.order.free;
    };
  }
    where
      later : System
      later = on_waits (rendezvous.left t) (on_ready (rotation.without t) s)

      ready_sound : IsSystem (on_ready (rotation.without t) s)
      ready_sound = (quiet_ready t (rotation.without t) s (ready_without t s h.sound) h.sound).sound

      right : Right (rendezvous.left t s.shared.waits) later
      right =
          right_same (rendezvous.left t s.shared.waits) s later (λ v. refl) (λ v live. live)
          (right_callers (λ (c : Caller). not (is_task c.from t)) (rendezvous.received t s.shared.waits) s
          (right_receivers (λ (r : Receiver). not (is_task r.task t)) s.shared.waits s (right_in s h.order.waits h.order.rooms)))

      calm : AllByRecursion (λ v. is_waiting v (rendezvous.left t s.shared.waits) ≡ false) (rotation.without t s.shared.ready)
      calm =
          all_map (λ v. is_waiting v s.shared.waits ≡ false) (λ v. is_waiting v (rendezvous.left t s.shared.waits) ≡ false)
          (λ v rests. not_waiting v (rendezvous.left t s.shared.waits) (left_absent v t s.shared.waits (absent v s.shared.waits rests)))
          (rotation.without t s.shared.ready)
          (all_filter (λ v. is_waiting v s.shared.waits ≡ false) (λ v. not (is_task v t)) s.shared.ready h.order.waits.calm)

  couple_doing : (c : ℕ) (t : TaskNo) (s : System) → doing t (couple c t s) ≡ doing t s
  couple_doing c t s = by (can_couple c t s)
    where
      by : (b : Bool) → doing t (if b then on_channels (channels.coupled c t) s else s) ≡ doing t s
      by true = refl
      by false = refl

  halted_fine : (c : ℕ) (t : TaskNo) (m : Moment) → Fine m.system → Fine (halted read c t m).system
  halted_fine c t m h = by (doing t m.system) refl
    where
      now : Moment
      now = on_system (couple c t) m

      there : Fine (couple c t m.system)
      there = couple_fine c t m.system h

      by : (d : Option Doing) → doing t m.system ≡ d → Fine (halted_by read d c t (on_system (couple c t) m)).system
      by None is = there
      by (Some (Idle store)) is = there
      by (Some (Entering name lines store)) is =
          let does = couple_doing c t m.system ∙ is in
          idle_fine t now there (lives_doing t now.system (Entering name lines store) does)
          (resting_order t now.system (Entering name lines store) does refl there) store
      by (Some (Running x)) is =
          let later = left_fine t now.system there in
          over_fine t (on_system (on_waits (rendezvous.left t)) (on_system (on_ready (rotation.without t)) now)) later
          (lives_doing t now.system (Running x) (couple_doing c t m.system ∙ is))
          (order_in t (on_waits (rendezvous.left t) (on_ready (rotation.without t) now.system)) later.order
          (not_waiting t (rendezvous.left t now.system.shared.waits) (left_itself t now.system.shared.waits)))
          x Halted (store_in (world_of (ending x 0)))

  told_fine : (c : ℕ) (lines : List (List ℕ)) (m : Moment) → Fine m.system → Fine (told c lines m).system
  told_fine c [] m h = h
  told_fine c (line ∷ lines) m h = told_fine c lines (say c line m) h

  supervised_fine : (said : Said) (c : ℕ) (m : Moment) → Fine m.system → Fine (supervised read said c m).system
  supervised_fine said.Blank c m h = h
  supervised_fine (said.Begin name father) c m h = begin_fine c name father m h
  supervised_fine (said.Continue name) c m h =
      unless_fine (supervisor.coupling_refusal (tree.named name m.system.shared.tree) m.system) c (continued c (tree.named name m.system.shared.tree)) m h
      (continued_fine c (tree.named name m.system.shared.tree) m h)
  supervised_fine said.Halt c m h =
      unless_fine (supervisor.coupling_refusal (channels.channel c m.system.shared.channels).last m.system) c
      (halted read c (channels.channel c m.system.shared.channels).last) m h
      (halted_fine c (channels.channel c m.system.shared.channels).last m h)
  supervised_fine said.TaskInfo c m h = told_fine c (supervisor.task_info m.system) m h
  supervised_fine said.StorageInfo c m h = h
  supervised_fine said.Unknown c m h = h

  worded_fine : (ws : Option (List Word)) (c : ℕ) (m : Moment) → Fine m.system → Fine (worded read ws c m).system
  worded_fine None c m h = h
  worded_fine (Some ws) c m h = supervised_fine (command_of ws) c m h

  called_fine : (t : TaskNo) (c : ℕ) (m : Moment) → Fine m.system → Fine (called t c m).system
  called_fine t c m h = by (is_nil t)
    where
      by : (b : Bool) → Fine (if b then say c supervisor_prompt m else uncouple c (on_system (on_channels (channels.with_last c t)) m)).system
      by true = h
      by false =
          uncouple_fine c (on_system (on_channels (channels.with_last c t)) m)
          (channels_fine (channels.with_last c t) m.system
          (one_kept m.system.shared.channels (channels.with_last c t m.system.shared.channels)
          (same_tasks m.system.shared.channels (c - 1) (record (channels.channel c m.system.shared.channels) { last = t }) refl) h.sound.channels)
          h)

  -- ---- events

  line_at_fine : (c : ℕ) (t : TaskNo) (line : List ℕ) (m : Moment) → Fine m.system → Fine (line_at read t c line m).system
  line_at_fine c t line m h = by (is_nil t)
    where
      by : (b : Bool) → Fine (if b then worded read (monitor.words_of line) c m else line_for read (runs t m.system) c t line m).system
      by true = worded_fine (monitor.words_of line) c m h
      by false = line_for_fine c t line m (runs t m.system) refl h

  turns_fine : (n : ℕ) (m : Moment) → Fine m.system → Fine (turns read n m).system
  turns_fine zero m h = h
  turns_fine (suc n) m h =
      let later = turn_keeps steady read m h.sound h.order in turns_fine n (turn read m) (record { sound = later.0; order = later.1 })

  happens_fine : (e : Event) (m : Moment) → Fine m.system → Fine (happens read e m).system
  happens_fine (Line c line) m h = line_at_fine c (channels.channel c m.system.shared.channels).task line m h
  happens_fine (Supervisor c) m h = called_fine (channels.channel c m.system.shared.channels).task c m h
  happens_fine (Turns n) m h = turns_fine n m h
  happens_fine Fixpoint m h = h
  happens_fine Shut m h = h

  pub event_keeps : (s : System) (e : Event) → Fine s → Fine (after read s e)
  event_keeps s e h = happens_fine e (at_event s) h

  pub run_keeps : (s : System) (es : List Event) → Fine s → Fine (run read s es)
  run_keeps s [] h = h
  run_keeps s (e ∷ es) h = run_keeps (after read s e) es (event_keeps s e h)
