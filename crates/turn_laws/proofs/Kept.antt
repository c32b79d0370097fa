-- A turn, and a line, leave each task as it should stand.
use Rattle.std.proofs.Common.{◌≡◌, ℕ, zero, suc, ◌+◌, ◌≤◌, Bool, true, false, ◌||◌, List, [], ◌∷◌, ◌++◌, Option, Some, None, refl, sym, ap, ◌∙◌, subst, inl, arith}
use Rattle.std.specs.List.{list_any}
use Rattle.std.proofs.lemmas.Bool.{false≢true, or_left}
use Rattle.std.proofs.lemmas.Option.{same_Some}
use Rattle.turn_laws.specs.Below.task_numbers.specs.declared.number.TaskNo.{TaskNo}
use Rattle.turn_laws.specs.Below.task_numbers.specs.Numbers.{is_task}
use Rattle.eu_base.specs.declared.request.Request.{Request}
use Rattle.turn_laws.specs.Below.elan_names.specs.declared.interface.Interface.{Interface}
use Rattle.turn_laws.specs.Below.elan_scope.specs.declared.env.Env.{Env}
use Rattle.elan_types.specs.Eval.{World}
use Rattle.elan_types.specs.Command.{Ending, Ended, Stopped, OutOfMarks, Asks}
use Rattle.turn_laws.specs.Below.message_wait.specs.Rendezvous.{Waits}
use Rattle.turn_laws.specs.Below.message_wait.specs.Rendezvous as rendezvous
use Rattle.eu_base.specs.Requests.{Answer, then_asked}
use Rattle.turn_laws.specs.Below.session_text.specs.declared.events.Event.{Event}
use Rattle.turn_laws.specs.Below.session_text.specs.declared.events.Event.TheVariants.{Line, Supervisor, Turns, Fixpoint, Shut}
use Rattle.turn_laws.specs.Below.session_text.specs.Display.{close_all}
use Rattle.turn_laws.specs.Below.slicer.specs.Rotation as rotation
use Rattle.turn_laws.specs.Below.task_tree.specs.Tree as tree
use Rattle.turn_laws.specs.Below.units.specs.declared.unit.Compiled.{Compiled}
use Rattle.system_meaning.specs.Stores.{Store, heir}
use Rattle.system_meaning.specs.Tasks.{Command, Doing, Idle, Entering, Running, Own, starting, ending, spent, with_doing, replied, is_running}
use Rattle.system_meaning.specs.Systems.{Shared, System, Moment, doing, command, kept, does, given, woken, requested, sharing, on_ready, on_waits, on_system, on_display, back}
use Rattle.system_meaning.specs.Ends.{next, begun}
use Rattle.system_meaning.specs.Events.{after as event_after}
use Rattle.system_meaning.specs.Monitor.{Reading, started, installed, with_packet, inserted}
use Rattle.system_meaning.specs.Serving.{serve}
use Rattle.system_meaning.specs.Turns.{turn, turn_of, turns, turn_marks, most_evaluations}
use Rattle.system_meaning.specs.Whole.{IsSystem}
use Rattle.turn_laws.specs.Steady.{AreSteady}
use Rattle.turn_laws.specs.Waits.{AreOrderly}
use Rattle.turn_laws.proofs.Found.{same_task, itself}
use Rattle.turn_laws.proofs.Finding.{living}
use Rattle.turn_laws.proofs.Trees.{numbered, grown_same}
use Rattle.turn_laws.proofs.Steps.{quiet_does, begun_others}
use Rattle.turn_laws.proofs.Lists.{turned, some_of, none_left}
use Rattle.turn_laws.proofs.Rights.{right_in, absent, lives_asking}
use Rattle.turn_laws.proofs.Orders.{Order, order_changed, asks_spent, shared_changed, ready_live}
use Rattle.turn_laws.proofs.Since.{stays, same_doing}
use Rattle.turn_laws.proofs.Gone.{Serving}
use Rattle.turn_laws.proofs.Others.{son_doing}
use Rattle.turn_laws.proofs.Beside.{runs_it, known_in, turn_keeps}
use Rattle.turn_laws.proofs.Turnings.{turn_begins}
use Rattle.turn_laws.specs.Standing.{IsAwaited, StandsAsking, StandsSo, Stands, AllStand}
use Rattle.turn_laws.proofs.Single.{IsQuiet, is_quiet, asks_stands, woken_stands, back_stands, lives_doing, stands_on, stands_idle, idle_out, changed_doing, OthersStand, all_but, others_changed, others_back}
use Rattle.turn_laws.proofs.Walk.{Steps, doing_inserted}
use Rattle.turn_laws.proofs.Goes.{Goes, slices, ServedSo}
use Rattle.turn_laws.proofs.Events.{Channelled, Fits, happens_so}
use Rattle.turn_laws.proofs.Turn.{goes, Between, leaves_so, stops_so, marks_so, costs_so, both, after}
use Rattle.turn_laws.proofs.Served.{serve_others, lived_before}
use Rattle.turn_laws.proofs.Ended.{end_others, ready_left, entries_left}

abbrev pub AnyLine : List ℕ → Type 0
AnyLine line = Unit {0}

abbrev pub AnyCommand : Command → System → Type 0
AnyCommand c s = Unit {0}

abbrev pub AnyCommands : TaskNo → Command → System → Type 0
AnyCommands u = AnyCommand

-- all but one, where all do
pub others_of : (u : TaskNo) (s : System) → AllStand s → OthersStand u s
others_of u s h t other live = h t live

-- one that does not run does something else, and does not run
pub rests_so : (u : TaskNo) (d later : Doing) (s : System) → doing u s ≡ Some d → is_running d ≡ false → is_running later ≡ false → AllStand s
    → AllStand (does u later s)
rests_so u d later s is rests still h =
    all_but u (does u later s) (others_changed u (with_doing later) s (others_of u s h))
    (stands_idle u (does u later s)
    (λ c runs.
    let same : Some later ≡ Some (Running c) = sym (changed_doing u later d s is) ∙ runs in
    absurd (false≢true (sym still ∙ ap is_running (same_Some later (Running c) same))))
    (ap (λ (x : Shared). rotation.is_ready u x.ready) (shared_changed u (with_doing later) s)
    ∙ idle_out u s d is rests (h u (lives_doing u s d is))))

module _ (steady : AreSteady) where
  starts_so : (u : TaskNo) (unit : Compiled) (d : Doing) (s : System) → doing u s ≡ Some d → AllStand s → AllStand (started u unit s)
  starts_so u unit d s is h =
      all_but u (back u (does u (Running (starting unit (kept u s))) s))
      (others_back u (does u (Running (starting unit (kept u s))) s) (others_changed u (with_doing (Running (starting unit (kept u s)))) s (others_of u s h)))
      (back_stands u (does u (Running (starting unit (kept u s))) s) (record {
        command = starting unit (kept u s);
        runs = changed_doing u (Running (starting unit (kept u s))) d s is;
        quiet = is_quiet (ending (starting unit (kept u s)) 0) quiet;
      }))
    where
      quiet : (q : Request) (w : World) → ending (starting unit (kept u s)) 0 ≡ Asks q w → ⊥
      quiet q w e = let pays = (steady unit.core (kept u s).variables (kept u s).spaces).pays 0 q w e in omega (arith, pays)

  inserts_so : (u : TaskNo) (unit : Compiled) (i : Interface) (d : Doing) (s : System) → doing u s ≡ Some d → AllStand s → AllStand (inserted u unit i s)
  inserts_so u unit i d s is h =
      all_but u (inserted u unit i s)
      (others_changed u (with_packet (s.shared.library.last + 1)) later (λ t other live. h t live))
      (stands_on u s (inserted u unit i s) (doing_inserted u unit i s)
      (ap (λ (x : Shared). rotation.is_ready u x.ready) (shared_changed u (with_packet (s.shared.library.last + 1)) later))
      (λ q a. subst (λ (x : Shared). IsAwaited q u x.waits) (sym (shared_changed u (with_packet (s.shared.library.last + 1)) later)) a)
      (h u (lives_doing u s d is)))
    where
      later : System
      later = sharing (λ h. record h { library = installed unit i h.library }) s

  pub steps : (read : Env → Bool → List ℕ → Reading) (u : TaskNo) → Steps read u AllStand AnyCommand AnyLine
  steps read u = record {
    starts = λ packet text unit store s is reads h. starts_so u unit (Idle store) s is h;
    enters = λ name store s is none h. rests_so u (Idle store) (Entering name [] (kept u s)) s is refl refl h;
    adds = λ name lines line store s is fits few h. rests_so u (Entering name lines store) (Entering name (lines ++ line ∷ []) store) s is refl refl h;
    rests = λ d store s is rests h. rests_so u d (Idle store) s is rests refl h;
    takes = λ c s h t live. h t live;
    fits = λ c line lines s h is. tt;
    inserts = λ c i store s p shows is room h. inserts_so u c.unit i (Idle store) s is h;
  }

  -- ---- a request

  pub serves_so : (u : TaskNo) (c : Command) (left : ℕ) (q : Request) (w : World) (m : Moment) → command u m.system ≡ Some c → ending c left ≡ Asks q w
      → Between u m.system → ServedSo u (Between u) AllStand (serve u q (on_system (does u (Running (spent left w c))) m))
  serves_so u c left q w m at is h =
      both steady u c left q w m at is h (serve u q now) (after steady u c left q w m at is h)
      (serve_others steady u now sound_now order_now others_now (spent left w c) (record w { marks = 0 }) runs refl out q (asks_spent steady c left q w is)
      (λ of e. end_others steady u (q ∷ []) now serving_now low others_now of (λ p x. or_left (p q) (list_any p []) (ap p e ∙ x))))
    where
      now : Moment
      now = on_system (does u (Running (spent left w c))) m

      same : (does u (Running (spent left w c)) m.system).shared ≡ m.system.shared
      same = shared_changed u (with_doing (Running (spent left w c))) m.system

      runs : doing u (does u (Running (spent left w c)) m.system) ≡ Some (Running (spent left w c))
      runs = changed_doing u (Running (spent left w c)) (Running c) m.system (runs_it u m.system c at)

      order : Order u m.system
      order = record {
        right = right_in m.system h.turn.waits h.turn.rooms;
        calm = h.turn.waits.calm;
        free = h.turn.free;
        apart = absent u m.system.shared.waits h.turn.apart;
      }

      sound_now : IsSystem (does u (Running (spent left w c)) m.system)
      sound_now = (quiet_does u (Running (spent left w c)) m.system h.sound).sound

      order_now : Order u (does u (Running (spent left w c)) m.system)
      order_now = order_changed u u (with_doing (Running (spent left w c))) m.system h.sound order.apart (inl h.turn.out) order

      out : rotation.is_ready u (does u (Running (spent left w c)) m.system).shared.ready ≡ false
      out = ap (λ (x : Shared). rotation.is_ready u x.ready) same ∙ h.turn.out

      others_now : OthersStand u (does u (Running (spent left w c)) m.system)
      others_now = others_changed u (with_doing (Running (spent left w c))) m.system h.others

      serving_now : Serving u (q ∷ []) (does u (Running (spent left w c)) m.system) (does u (Running (spent left w c)) m.system) (does u (Running (spent left w c)) m.system)
      serving_now = record {
        since = record {
          sound = sound_now;
          tree = grown_same u (does u (Running (spent left w c)) m.system).shared.tree sound_now.tree;
          others = λ t other low. stays refl;
          order = order_now;
          known = known_in (does u (Running (spent left w c)) m.system) sound_now.tree order_now.right;
        };
        grown = grown_same u (does u (Running (spent left w c)) m.system).shared.tree sound_now.tree;
        mine = inl refl;
        out = out;
      }

      low : u.0 ≤ (does u (Running (spent left w c)) m.system).shared.tree.last
      low =
          let found = living u (does u (Running (spent left w c)) m.system).shared.tree.tasks
          (lives_doing u (does u (Running (spent left w c)) m.system) (Running (spent left w c)) runs) in
          (numbered (does u (Running (spent left w c)) m.system).shared.tree u found.0 sound_now.tree found.1).given

  pub turning : (u : TaskNo) → Goes u (Between u) AllStand AnyCommand
  turning u = record {
    leaves = λ c store s at h. (leaves_so u c store s at h, tt);
    marks = λ c left w s at is h. marks_so steady u c left w s at is h;
    costs = λ c left q w s at is h. costs_so steady u c left q w is (h.may c at);
    serves = λ c left q w m at is h. serves_so u c left q w m at is h;
    stops = λ s at h. stops_so u s at h;
  }

  -- ---- a turn

  ready_goes : (u : TaskNo) (s : System) (c : Command) → command u s ≡ Some c → rotation.is_ready u s.shared.ready ≡ true → Stands u s → IsQuiet (ending c 0)
  ready_goes u s c at ready h =
      by (ending c 0) (subst (λ (d : Option Doing). StandsSo d u s.shared.ready s.shared.waits) (runs_it u s c at) h)
    where
      by : (e : Ending) → StandsAsking e u s.shared.ready s.shared.waits → IsQuiet e
      by (Ended w) h = tt
      by (Stopped x w) h = tt
      by (OutOfMarks w) h = tt
      by (Asks q w) h = absurd (false≢true (sym h.1 ∙ ready))

  pub begins_so : (u : TaskNo) (ready : List TaskNo) (s : System) → IsSystem s → AreOrderly s → s.shared.ready ≡ u ∷ ready → AllStand s
      → Between u (on_ready (λ _. ready) s)
  begins_so u ready s is order e h =
      let begins = turn_begins u ready s is order e in
      record {
        sound = begins.0;
        turn = begins.1;
        others = λ t other live.
            stands_on t s (on_ready (λ _. ready) s) refl
            (sym (ap (rotation.is_ready t) e ∙ ap (λ (b : Bool). b || rotation.is_ready t ready) (turned t u other))) (λ q a. a) (h t live);
        may = λ c at.
            goes (ready_goes u s c at (ap (rotation.is_ready u) e ∙ ap (λ (b : Bool). b || rotation.is_ready u ready) (itself u))
            (h u (lives_doing u s (Running c) (runs_it u s c at))));
      }

  -- each evaluation but the last two costs a mark
  pub enough : turn_marks + 2 ≤ most_evaluations
  unfolding turn_marks most_evaluations
  enough = omega arith

  pub turn_stands : (read : Env → Bool → List ℕ → Reading) (m : Moment) → IsSystem m.system → AreOrderly m.system → AllStand m.system
      → AllStand (turn read m).system
  turn_stands read m is order h = by m.system.shared.ready refl
    where
      by : (ready : List TaskNo) → m.system.shared.ready ≡ ready → AllStand (on_display close_all (turn_of read ready m)).system
      by [] e = h
      by (u ∷ ready) e =
          slices read u (Between u) AllStand AnyCommand AnyLine (steps read u) (turning u) most_evaluations turn_marks (on_system (on_ready (λ _. ready)) m)
          enough (begins_so u ready m.system is order e h)

  pub turns_stand : (read : Env → Bool → List ℕ → Reading) (n : ℕ) (m : Moment) → IsSystem m.system → AreOrderly m.system → AllStand m.system
      → AllStand (turns read n m).system
  turns_stand read zero m is order h = h
  turns_stand read (suc n) m is order h =
      let later = turn_keeps steady read m is order in
      turns_stand read n (turn read m) later.0 later.1 (turn_stands read m is order h)

  -- ---- what is done at a channel

  woken_all : (t : TaskNo) (a : Answer) (q : Request) (s : System) → requested t s ≡ Some q → then_asked q a.reply ≡ None → AllStand s → AllStand (woken t a s)
  woken_all t a q s is none h =
      all_but t (woken t a s)
      (others_back t (given t a s) (others_changed t (λ (o : Own). with_doing (replied a o.doing) o) s (others_of t s h)))
      (let asks = asks_stands t s q is (h t (lives_asking t s q is)) in woken_stands steady t a s q asks.now asks.spent none)

  begun_all : (name : List ℕ) (father : TaskNo) (store : Store) (s : System) → IsSystem s → AllStand s → AllStand (begun name father (Idle store) s)
  begun_all name father store s is h t live = by (is_task t (next s)) refl
    where
      son : System
      son = begun name father (Idle store) s

      unready : rotation.is_ready (next s) s.shared.ready ≡ false
      unready = by (rotation.is_ready (next s) s.shared.ready) refl
        where
          by : (b : Bool) → rotation.is_ready (next s) s.shared.ready ≡ b → b ≡ false
          by false e = refl
          by true e =
              let one = some_of (λ (v : TaskNo). tree.lives v s.shared.tree ≡ true) (λ v. is_task v (next s)) s.shared.ready e (ready_live s is) in
              let found = living (next s) s.shared.tree.tasks (subst (λ (v : TaskNo). tree.lives v s.shared.tree ≡ true) (same_task one.0 (next s) one.1) one.2) in
              let low = (numbered s.shared.tree (next s) found.0 is.tree found.1).given in
              absurd (omega (arith, low))

      by : (b : Bool) → is_task t (next s) ≡ b → Stands t (begun name father (Idle store) s)
      by true same =
          subst (λ (v : TaskNo). Stands v (begun name father (Idle store) s)) (sym (same_task t (next s) same))
          (stands_idle (next s) (begun name father (Idle store) s)
          (λ c runs. let f : Some (Idle store) ≡ Some (Running c) = sym (son_doing name father (Idle store) s is) ∙ runs in absurd (cc f)) unready)
      by false apart =
          let before = lived_before t name father s apart live in
          let found = living t s.shared.tree.tasks before in
          let low = (numbered s.shared.tree t found.0 is.tree found.1).given in
          stands_on t s (begun name father (Idle store) s)
          (same_doing t s (begun name father (Idle store) s) (begun_others name father (Idle store) s is t low)) refl (λ q a. a) (h t before)

  halted_all : (t : TaskNo) (x : Command) (store : Store) (s : System) → doing t s ≡ Some (Running x) → AllStand s
      → AllStand (does t (Idle store) (on_waits (rendezvous.left t) (on_ready (rotation.without t) s)))
  halted_all t x store s runs h =
      all_but t (does t (Idle store) later)
      (others_changed t (with_doing (Idle store)) later
      (λ v other live. stands_on v s later refl (ready_left t v s.shared.ready other) (entries_left t v s.shared.waits other) (h v live)))
      (stands_idle t (does t (Idle store) later)
      (λ c e. let f : Some (Idle store) ≡ Some (Running c) = sym (changed_doing t (Idle store) (Running x) later runs) ∙ e in absurd (cc f))
      (ap (λ (y : Shared). rotation.is_ready t y.ready) (shared_changed t (with_doing (Idle store)) later) ∙ none_left (λ v. is_task v t) s.shared.ready))
    where
      later : System
      later = on_waits (rendezvous.left t) (on_ready (rotation.without t) s)

  pub channelled : Channelled AllStand AnyCommands AnyLine
  channelled = record {
    couples = λ c t s can live h v live'. h v live';
    frees = λ c s h v live'. h v live';
    lasts = λ c t s h v live'. h v live';
    queues = λ c line s fits h v live'. h v live';
    unqueues = λ c s h v live'. h v live';
    begins = λ name named s e is h. begun_all name (tree.named named s.shared.tree) (heir (kept (tree.named named s.shared.tree) s)) s is h;
    wakes = λ t a q s is none h. woken_all t a q s is none h;
    halts = λ t x store s runs h. (halted_all t x store s runs h, tt);
  }

  pub event_stands : (read : Env → Bool → List ℕ → Reading) (s : System) (e : Event) → IsSystem s → AreOrderly s → AllStand s → AllStand (event_after read s e)
  event_stands read s e is order h =
      happens_so read AllStand AnyCommands AnyLine (λ u. steps read u) channelled (λ n m is order h. turns_stand read n m is order h) e s (fits e) is order h
    where
      fits : (e : Event) → Fits AnyLine e
      fits (Line c line) = tt
      fits (Supervisor c) = tt
      fits (Turns n) = tt
      fits Fixpoint = tt
      fits Shut = tt
