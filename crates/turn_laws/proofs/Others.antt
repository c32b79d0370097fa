-- Serving a request leaves what each other task has, or the task is gone, or it was reached.
use Rattle.std.proofs.Common.{◌≡◌, ℕ, ◌+◌, ◌-◌, ◌≤◌, ◌<◌, Bool, true, false, cond, not, ◌||◌, eqb, List, [], ◌∷◌, length, filter, fold, set, Option, Some, None}
use Rattle.std.proofs.Common.{refl, sym, ap, ◌∙◌, subst, ◌⊎◌, inl, inr, if◌then◌else◌, arith}
use Rattle.std.specs.Prelude.{nat_le, option_map, option_and_then}
use Rattle.std.specs.List.{list_any}
use Rattle.std.proofs.lemmas.Bool.{false≢true, and_parts, or_left, or_right, leb-false, cases_eq, cases_lt, ne_eqb}
use Rattle.std.proofs.lemmas.Bool.Decides.{nat_tests}
use Rattle.std.proofs.lemmas.Grind.{get_or-set_at}
use Rattle.std.proofs.lemmas.List.{get_or-set_other, set_past}
use Rattle.std.proofs.lemmas.List.Folds.{list_any-append}
use Rattle.std.proofs.lemmas.Option.{none-some, same_Some}
use Rattle.turn_laws.specs.Below.task_numbers.specs.declared.limits.TheConstants.{TASKS}
use Rattle.turn_laws.specs.Below.task_numbers.specs.declared.number.TaskNo.{TaskNo}
use Rattle.turn_laws.specs.Below.task_numbers.specs.Numbers.{is_nil, is_task}
use Rattle.eu_base.specs.declared.stop.Stop.TheVariants.{BadName}
use Rattle.eu_base.specs.declared.request.Request.{Request}
use Rattle.eu_base.specs.declared.request.Request.TheVariants.{Out, Input, Begin, End, Myself, Father, Son, Brother, Named, Name, Exists, Break, Send, Wait, Call}
use Rattle.eu_base.specs.declared.request.Request.TheVariants as requests
use Rattle.eu_base.specs.Requests.{Answer}
use Rattle.turn_laws.specs.Below.message_wait.specs.declared.waits.Caller.{Caller}
use Rattle.turn_laws.specs.Below.message_wait.specs.declared.waits.Receiver.{Receiver}
use Rattle.turn_laws.specs.Below.message_wait.specs.Rendezvous.{Waits, is_waiting, is_open, is_ready, received, entered, waited_at, caller_at, first_call, first_caller, offer, offered}
use Rattle.turn_laws.specs.Below.message_wait.specs.Rendezvous as rendezvous
use Rattle.turn_laws.specs.Below.task_tree.specs.Tree as tree
use Rattle.turn_laws.specs.Below.task_tree.specs.Tree.{Tree, has_number}
use Rattle.turn_laws.specs.Below.task_tree.specs.Trees.{IsTree}
use Rattle.turn_laws.specs.Below.task_tree.specs.declared.refusal.BeginError.{BeginError}
use Rattle.turn_laws.specs.Below.task_tree.specs.declared.refusal.BeginError.TheVariants.{NameTaken, TreeFull}
use Rattle.turn_laws.specs.Below.task_tree.specs.declared.task.Task.{Task}
use Rattle.turn_laws.specs.Below.slicer.specs.Rotation as rotation
use Rattle.turn_laws.specs.Below.task_tree.proofs.Growing.{begun_is_tree}
use Rattle.turn_laws.specs.Below.task_tree.specs.Families.{family}
use Rattle.turn_laws.specs.Below.task_tree.specs.Ends.{CanEnd, EndInTurn}
use Rattle.turn_laws.specs.Below.task_tree.proofs.Ending.{family_ends}
use Rattle.turn_laws.specs.Below.terminals.specs.Channels.{Channel, unused}
use Rattle.turn_laws.specs.Below.terminals.specs.Channels as channels
use Rattle.turn_laws.specs.Below.terminals.specs.Couplings.{task_at, IsOneToOne}
use Rattle.turn_laws.specs.Below.units.specs.declared.unit.Compiled.{Compiled}
use Rattle.system_meaning.specs.Stores.{is_name, heir}
use Rattle.system_meaning.specs.Tasks.{Doing, Running, Own, starting, command_of, with_doing, replied}
use Rattle.system_meaning.specs.Systems.{System, Moment, doing, requested, packets, kept, given, woken, back, can_be_ready, on_ready, on_waits, on_channels, uncouple_at}
use Rattle.system_meaning.specs.Ends.{number_refusal, next, begun, removed, no_task, freed_by, ended, ended_with_descendants}
use Rattle.system_meaning.specs.Serving.{son_begins, begin_refusal, is_first, may_end, named_or}
use Rattle.system_meaning.specs.Whole.{IsSystem}
use Rattle.turn_laws.specs.Own.{own_of}
use Rattle.turn_laws.specs.Steady.{AreSteady}
use Rattle.turn_laws.specs.Waits.{AsksNoAnswer, IsFree}
use Rattle.turn_laws.proofs.Found.{same_task, itself, own_found, found_last}
use Rattle.turn_laws.proofs.Finding.{has, living}
use Rattle.turn_laws.proofs.Trees.{IsUnder, under_under, under_from, numbered, IsAsked, IsBegun, IsEnded, Grown, grown_on, grown_begun}
use Rattle.turn_laws.proofs.Steps.{removed_is, channels_changed, all_woken, all_woken_others, quiet_channels, quiet_back, free_stays, begun_others, begun_sound, removed_tree, removed_sound, waits_sound, all_woken_sound, all_woken_tree}
use Rattle.turn_laws.proofs.Lists.{neither, none_append, none_filter, none_left, none_mapped}
use Rattle.turn_laws.proofs.Rights.{caller_number, receiver_number, Right, Absent, absent, absent_callers, absent_receivers, Awaits, calling, waiting, answering, waiting_asks, lives_asking}
use Rattle.turn_laws.proofs.Orders.{OrderOf, Order, order_on, order_same, ready_live}
use Rattle.turn_laws.proofs.Since.{Since, woken_waits, since_on, since_quiet, since_back, same_doing}
use Rattle.turn_laws.proofs.Gone.{Serving, back_out, gone_serving}

-- ---- queues

pub same_tasks : (s : List Channel) (k : ℕ) (x : Channel) → x.task ≡ task_at k s → (i : ℕ) → task_at i (set s k x) ≡ task_at i s
same_tasks s k x same i = by (cases_lt k (length s))
  where
    at : (i ≡ k) ⊎ (i ≡ k → ⊥) → k < length s → task_at i (set s k x) ≡ task_at i s
    at (inl e) within = ap (λ (c : Channel). c.task) (get_or-set_at s k i x unused e within) ∙ (same ∙ ap (λ (j : ℕ). task_at j s) (sym e))
    at (inr other) within = ap (λ (c : Channel). c.task) (get_or-set_other s k i x unused other)

    by : (k < length s) ⊎ (length s ≤ k) → task_at i (set s k x) ≡ task_at i s
    by (inl within) = at (cases_eq i k) within
    by (inr past) = ap (task_at i) (set_past s k x past)

pub one_kept : (s later : List Channel) → ((i : ℕ) → task_at i later ≡ task_at i s) → IsOneToOne s → IsOneToOne later
one_kept s later same one = λ i j some alike.
    one i j (subst (λ (t : TaskNo). is_nil t ≡ false) (same i) some) (sym (same i) ∙ (alike ∙ same j))

-- a line is taken
pub unqueued_tasks : (c : ℕ) (s : List Channel) (i : ℕ) → task_at i (channels.unqueued c s) ≡ task_at i s
unqueued_tasks c s i = same_tasks s (c - 1) (channels.without_line (channels.channel c s)) refl i

pub unqueued_stays : (c : ℕ) (s : List Channel) → IsOneToOne s → IsOneToOne (channels.unqueued c s)
unqueued_stays c s one = one_kept s (channels.unqueued c s) (unqueued_tasks c s) one

-- ---- a son begins

no_refusal : (o : Option BeginError) → number_refusal o ≡ None → o ≡ None
no_refusal None e = refl
no_refusal (Some x) e = absurd (none-some _ (sym e))

-- where nothing is against it
pub record CanBegin (name : List ℕ) (s : Tree) : Type 0 where
  pub free : list_any (tree.has_name name) s.tasks ≡ false
  pub room : length s.tasks < TASKS

pub can_begin : (name : List ℕ) (s : System) → begin_refusal name s ≡ None → CanBegin name s.shared.tree
can_begin name s none = by (is_name name) none
  where
    tasks : List Task
    tasks = s.shared.tree.tasks

    unrefused : (taken : Bool) (full : Bool) (third : Option BeginError) → list_any (tree.has_name name) tasks ≡ taken → nat_le TASKS (length tasks) ≡ full
        → (if taken then Some NameTaken else if full then Some TreeFull else third) ≡ None
        → CanBegin name s.shared.tree
    unrefused true full third is is_full none = absurd (none-some _ (sym none))
    unrefused false true third is is_full none = absurd (none-some _ (sym none))
    unrefused false false third is is_full none = record { free = is; room = leb-false TASKS (length tasks) is_full }

    by : (b : Bool) → (if b then number_refusal (tree.refusal name s.shared.tree) else Some BadName) ≡ None → CanBegin name s.shared.tree
    by true none =
        unrefused (list_any (tree.has_name name) tasks) (nat_le TASKS (length tasks)) _ refl refl
        (no_refusal (tree.refusal name s.shared.tree) none)
    by false none = absurd (none-some _ (sym none))

pub back_same : (v t : TaskNo) (s : System) → own_of t (back v s) ≡ own_of t s
back_same v t s = by (can_be_ready v s)
  where
    by : (b : Bool) → own_of t (cond b (on_ready (rotation.at_back v) s) s) ≡ own_of t s
    by true = refl
    by false = refl

pub back_channels : (v : TaskNo) (s : System) → (back v s).shared.channels ≡ s.shared.channels
back_channels v s = by (can_be_ready v s)
  where
    by : (b : Bool) → (cond b (on_ready (rotation.at_back v) s) s).shared.channels ≡ s.shared.channels
    by true = refl
    by false = refl

pub son_sound : (name : List ℕ) (u : TaskNo) (unit : Compiled) (s : System) → IsSystem s → tree.lives u s.shared.tree ≡ true → CanBegin name s.shared.tree
    → IsSystem (son_begins name u unit s)
son_sound name u unit s is live can =
    (quiet_back u (next s) (begun name u (Running (starting unit (heir (kept u s)))) s)
    (begun_sound name u (Running (starting unit (heir (kept u s)))) s is (begun_is_tree s.shared.tree name u is.tree can.free can.room live))).sound

-- ---- a task ends, with its descendants

pub back_tree : (v : TaskNo) (s : System) → (back v s).shared.tree ≡ s.shared.tree
back_tree v s = by (can_be_ready v s)
  where
    by : (b : Bool) → (cond b (on_ready (rotation.at_back v) s) s).shared.tree ≡ s.shared.tree
    by true = refl
    by false = refl

pub freed_sound : (w : TaskNo) (s : System) → IsSystem s → IsSystem (freed_by w s)
freed_sound w s is =
    all_woken_sound no_task (rendezvous.waiting_for w s.shared.waits) (on_waits (rendezvous.released w) s) (waits_sound (rendezvous.released w) s is)

pub freed_tree : (w : TaskNo) (s : System) → IsSystem s → (freed_by w s).shared.tree ≡ s.shared.tree
freed_tree w s is =
    all_woken_tree no_task (rendezvous.waiting_for w s.shared.waits) (on_waits (rendezvous.released w) s) (waits_sound (rendezvous.released w) s is)

all_woken_waits : (a : Answer) (us : List TaskNo) (s : System) → (all_woken a us s).shared.waits ≡ s.shared.waits
all_woken_waits a [] s = refl
all_woken_waits a (v ∷ us) s = all_woken_waits a us (woken v a s) ∙ woken_waits v a s

pub woken_channels : (v : TaskNo) (a : Answer) (s : System) → (woken v a s).shared.channels ≡ s.shared.channels
woken_channels v a s = back_channels v (given v a s) ∙ channels_changed v (λ (o : Own). with_doing (replied a o.doing) o) s

all_woken_channels : (a : Answer) (us : List TaskNo) (s : System) → (all_woken a us s).shared.channels ≡ s.shared.channels
all_woken_channels a [] s = refl
all_woken_channels a (v ∷ us) s = all_woken_channels a us (woken v a s) ∙ woken_channels v a s

-- one that did not wait has what it had, and does not wait
waiting_none : (t w : TaskNo) (v : Waits) → Absent t v → list_any (λ x. is_task x t) (rendezvous.waiting_for w v) ≡ false
waiting_none t w v off =
    list_any-append (λ x. is_task x t) (rendezvous.answered_by w v) (rendezvous.callers_of w v)
    ∙ neither (list_any (λ x. is_task x t) (rendezvous.answered_by w v)) _
    (none_mapped (λ x. is_task x t) receiver_number (filter (rendezvous.is_answer w) v.receivers)
    (none_filter (λ (r : Receiver). is_task r.task t) (rendezvous.is_answer w) v.receivers off.waits))
    (none_mapped (λ x. is_task x t) caller_number (filter (λ (c : Caller). is_task c.to w) v.callers)
    (none_filter (λ (c : Caller). is_task c.from t) (λ (c : Caller). is_task c.to w) v.callers off.calls))

pub freed_own : (t w : TaskNo) (s : System) → IsSystem s → Absent t s.shared.waits → own_of t (freed_by w s) ≡ own_of t s
freed_own t w s is off =
    all_woken_others no_task (rendezvous.waiting_for w s.shared.waits) (on_waits (rendezvous.released w) s) (waits_sound (rendezvous.released w) s is) t
    (waiting_none t w s.shared.waits off)

pub freed_channels : (w : TaskNo) (s : System) → (freed_by w s).shared.channels ≡ s.shared.channels
freed_channels w s = all_woken_channels no_task (rendezvous.waiting_for w s.shared.waits) (on_waits (rendezvous.released w) s)

pub freed_absent : (t w : TaskNo) (s : System) → Absent t s.shared.waits → Absent t (freed_by w s).shared.waits
freed_absent t w s off =
    subst (λ (v : Waits). Absent t v)
    (sym (all_woken_waits no_task (rendezvous.waiting_for w s.shared.waits) (on_waits (rendezvous.released w) s)))
    (absent_callers t (λ (c : Caller). not (is_task c.to w)) (rendezvous.answered w s.shared.waits)
    (absent_receivers t (λ (r : Receiver). not (rendezvous.is_answer w r)) s.shared.waits off))

-- a task that goes waits no longer
pub removed_waits : (w : TaskNo) (s : System) → tree.lives w s.shared.tree ≡ true → (removed w s).shared.waits ≡ rendezvous.left w s.shared.waits
removed_waits w s live = ap (λ (x : System). x.shared.waits) (removed_is w s live)

pub left_absent : (t w : TaskNo) (v : Waits) → Absent t v → Absent t (rendezvous.left w v)
left_absent t w v off =
    absent_callers t (λ (c : Caller). not (is_task c.from w)) (rendezvous.received w v)
    (absent_receivers t (λ (r : Receiver). not (is_task r.task w)) v off)

pub left_itself : (w : TaskNo) (v : Waits) → Absent w (rendezvous.left w v)
left_itself w v = record {
  calls = none_left (λ (c : Caller). is_task c.from w) v.callers;
  waits = none_left (λ (r : Receiver). is_task r.task w) v.receivers;
}

pub ended_tree : (w : TaskNo) (m : Moment) → IsSystem m.system → CanEnd w m.system.shared.tree
    → (ended m w).system.shared.tree ≡ tree.ended w m.system.shared.tree
ended_tree w m is can = by (channels.channel_of w m.system.shared.channels)
  where
    by : (c : Option ℕ) → (freed_by w (removed w (uncouple_at c m).system)).shared.tree ≡ tree.ended w m.system.shared.tree
    by None = freed_tree w (removed w m.system) (removed_sound w m.system is can) ∙ removed_tree w m.system can.live
    by (Some c) =
        freed_tree w (removed w (on_channels (channels.uncoupled c) m.system))
        (removed_sound w (on_channels (channels.uncoupled c) m.system)
        (quiet_channels w (channels.uncoupled c) m.system (free_stays c m.system.shared.channels is.channels) is).sound can)
        ∙ removed_tree w (on_channels (channels.uncoupled c) m.system) can.live

above_two : (n : ℕ) → 0 < n → (eqb n 1 || eqb n 2) ≡ false → 2 < n
above_two n some other = grind (arith, nat_tests)

any_back : (v : TaskNo) (us : List TaskNo) → list_any (is_task v) us ≡ true → has v us ≡ true
any_back v [] e = absurd (false≢true e)
any_back v (w ∷ us) e = by (is_task v w) refl e (any_back v us)
  where
    by : (b : Bool) → is_task v w ≡ b → (b || list_any (is_task v) us) ≡ true → (list_any (is_task v) us ≡ true → has v us ≡ true) → has v (w ∷ us) ≡ true
    by true is e later = or_left (is_task w v) (has v us) (ap (λ (x : TaskNo). is_task x v) (sym (same_task v w is)) ∙ itself v)
    by false is e later = or_right (is_task w v) (has v us) (later e)

-- a task that may be ended is of the family of the one that ends it, and none of the first two
pub record MayEnd (u v : TaskNo) (s : Tree) : Type 0 where
  pub under : IsUnder s v u
  pub turn : EndInTurn (family v s) s

pub may : (u v : TaskNo) (s : System) → IsTree s.shared.tree → tree.lives v s.shared.tree ≡ true → may_end u v s ≡ true → MayEnd u v s.shared.tree
may u v s is live e =
    let both = and_parts (not (is_first v)) (list_any (is_task v) (family u s.shared.tree)) e in
    let found = living v s.shared.tree.tasks live in
    let later = above_two v.0 (numbered s.shared.tree v found.0 is found.1).some (unfirst (is_first v) both.0) in
    record {
      under = under_from s.shared.tree is TASKS u v (any_back v (family u s.shared.tree) both.1);
      turn = family_ends s.shared.tree v is live later;
    }
  where
    unfirst : (b : Bool) → not b ≡ true → b ≡ false
    unfirst true e = absurd (false≢true e)
    unfirst false e = refl

-- a task with the next number waits for nothing
pub unborn : (s : System) → IsTree s.shared.tree → Right s.shared.waits s → Absent (next s) s.shared.waits
unborn s is h = absent (next s) s.shared.waits (by (is_waiting (next s) s.shared.waits) refl)
  where
    dead : (q : Request) → requested (next s) s ≡ Some q → ⊥
    dead q e =
        let found = living (next s) s.shared.tree.tasks (lives_asking (next s) s q e) in
        let low = (numbered s.shared.tree (next s) found.0 is found.1).given in
        omega (arith, low)

    no : Awaits (next s) s → ⊥
    no (calling to code space e) = dead (Call to code space) e
    no (waiting e) = dead Wait e
    no (answering of e) = dead (requests.Answer of) e

    by : (b : Bool) → is_waiting (next s) s.shared.waits ≡ b → b ≡ false
    by true e = absurd (no (waiting_asks (next s) s.shared.waits s h e))
    by false e = refl

-- ---- a son has begun

module _ (name : List ℕ) (u : TaskNo) (d : Doing) (s : System) (is : IsSystem s) where
  none_yet : tree.lives (next s) s.shared.tree ≡ false
  none_yet = by (tree.lives (next s) s.shared.tree) refl
    where
      by : (b : Bool) → tree.lives (next s) s.shared.tree ≡ b → b ≡ false
      by true live =
          let found = living (next s) s.shared.tree.tasks live in
          let low = (numbered s.shared.tree (next s) found.0 is.tree found.1).given in absurd (omega (arith, low))
      by false none = refl

  pub son_doing : doing (next s) (begun name u d s) ≡ Some d
  son_doing =
      ap (option_map (λ (o : Own). o.doing))
      (own_found (next s) (begun name u d s)
      ∙ found_last (next s) (tree.task (tree.next s.shared.tree) name u) (itself (next s)) s.shared.tree.tasks s.owns
      (record { packets = packets u s; doing = d }) none_yet is.as_many)

  -- the others do what they did
  pub son_order : (v : TaskNo) → OrderOf v s.shared.waits s.shared.ready s → IsFree (next s) (begun name u d s) → Order v (begun name u d s)
  son_order v h free =
      order_on v (next s) s.shared.waits s.shared.ready s (begun name u d s) (unborn s is.tree h.right)
      (λ t other lives.
      let found = living t s.shared.tree.tasks lives in
      same_doing t s (begun name u d s) (begun_others name u d s is t (numbered s.shared.tree t found.0 is.tree found.1).given))
      (λ t lives.
      list_any-append (has_number t) s.shared.tree.tasks (tree.task (tree.next s.shared.tree) name u ∷ [])
      ∙ or_left (tree.lives t s.shared.tree) _ lives)
      (ready_live s is) (inr free) h

-- one that begins a procedure has no answers
son_free : AreSteady → (name : List ℕ) (u : TaskNo) (unit : Compiled) (s : System) → IsSystem s
    → IsFree (next s) (begun name u (Running (starting unit (heir (kept u s)))) s)
son_free steady name u unit s is = λ c at.
    subst AsksNoAnswer
    (same_Some (starting unit (heir (kept u s))) c (sym (ap (option_and_then command_of) (son_doing name u (Running (starting unit (heir (kept u s)))) s is)) ∙ at))
    (λ n of w e. (steady unit.core (heir (kept u s)).variables (heir (kept u s)).spaces).first n of w e)

module _ (steady : AreSteady) (u : TaskNo) (asked : List Request) (first : System) (is_first : IsTree first.shared.tree)
    (low : u.0 ≤ first.shared.tree.last) where
  -- the task has no number that is new
  given_in : (s : System) → Grown u asked first.shared.tree s.shared.tree → u.0 ≤ s.shared.tree.last
  given_in s grown = let more = grown.last in omega (arith, low, more)

  pub son_serving : (name : List ℕ) (unit : Compiled) (s : System) → IsSystem s → tree.lives u s.shared.tree ≡ true → CanBegin name s.shared.tree
      → IsBegun asked name → Serving u asked first s s → Serving u asked first s (son_begins name u unit s)
  son_serving name unit s is live can said h = record {
    since = since_back u asked first is_first (next s) son since (unborn s is.tree h.since.order.right) (son_free steady name u unit s is);
    grown = subst (λ (x : Tree). Grown u asked s.shared.tree x) (sym (back_tree (next s) son)) (grown_begun u asked name s.shared.tree is.tree said);
    mine = inl (back_same (next s) u son ∙ begun_others name u doing' s is u (given_in s h.since.tree));
    out = back_out u (next s) son (ne_eqb (s.shared.tree.last + 1) u.0 (λ e. let less = given_in s h.since.tree in omega (arith, e, less))) h.out;
  }
    where
      doing' : Doing
      doing' = Running (starting unit (heir (kept u s)))

      son : System
      son = begun name u (Running (starting unit (heir (kept u s)))) s

      grown_tree : IsTree (tree.begun name u s.shared.tree)
      grown_tree = begun_is_tree s.shared.tree name u is.tree can.free can.room live

      same : (t : TaskNo) → t.0 ≤ s.shared.tree.last → own_of t (begun name u (Running (starting unit (heir (kept u s)))) s) ≡ own_of t s
      same t less = begun_others name u (Running (starting unit (heir (kept u s)))) s is t less

      since : Since u asked first (begun name u (Running (starting unit (heir (kept u s)))) s)
      since =
          since_on u asked first is_first s (begun name u (Running (starting unit (heir (kept u s)))) s) h.since
          (begun_sound name u (Running (starting unit (heir (kept u s)))) s is grown_tree)
          (grown_on u asked first.shared.tree s.shared.tree (tree.begun name u s.shared.tree) is_first is.tree h.since.tree (grown_begun u asked name s.shared.tree is.tree said))
          (λ v less dead.
          none_append (has_number v) s.shared.tree.tasks (tree.task (tree.next s.shared.tree) name u) dead
          (ne_eqb (s.shared.tree.last + 1) v.0 (λ e. omega (arith, e, less))))
          (λ t other early. let more = h.since.tree.last in inl (same t (omega (arith, early, more))))
          (son_order name u (Running (starting unit (heir (kept u s)))) s is u h.since.order (son_free steady name u unit s is))
          h.since.known

  -- other channels
  pub serving_channels : (f : List Channel → List Channel) (at s : System) → IsOneToOne (f s.shared.channels) → Serving u asked first at s
      → Serving u asked first at (on_channels f s)
  serving_channels f at s one h = record {
    since =
        since_quiet u asked first is_first s (on_channels f s) h.since (quiet_channels u f s one h.since.sound)
        (order_same u s.shared.waits s.shared.ready s (on_channels f s) (λ t. refl) (λ t live. live) h.since.order) refl;
    grown = h.grown;
    mine = h.mine;
    out = h.out;
  }

  pub serving_uncoupled : (at : System) (c : Option ℕ) (m : Moment) → Serving u asked first at m.system → Serving u asked first at (uncouple_at c m).system
  serving_uncoupled at None m h = h
  serving_uncoupled at (Some c) m h =
      serving_channels (channels.uncoupled c) at m.system (free_stays c m.system.shared.channels h.since.sound.channels) h

  -- ---- tasks end, one after another

  ends_at : (at : System) → IsTree at.shared.tree → Grown u asked first.shared.tree at.shared.tree → (w : TaskNo) (m : Moment) → Serving u asked first at m.system
      → IsEnded u asked at.shared.tree w → CanEnd w m.system.shared.tree → Serving u asked first at (ended m w).system
  ends_at at is_at before w m h ends can = by (channels.channel_of w m.system.shared.channels)
    where
      by : (c : Option ℕ) → Serving u asked first at (freed_by w (removed w (uncouple_at c m).system))
      by None = gone_serving steady u asked first is_first w at m.system is_at before h ends can
      by (Some c) =
          gone_serving steady u asked first is_first w at (on_channels (channels.uncoupled c) m.system) is_at before (serving_uncoupled at (Some c) m h) ends can

  all_end : (at : System) → IsTree at.shared.tree → Grown u asked first.shared.tree at.shared.tree → (ts : List TaskNo) (m : Moment) → Serving u asked first at m.system
      → ((w : TaskNo) → has w ts ≡ true → IsEnded u asked at.shared.tree w) → EndInTurn ts m.system.shared.tree → Serving u asked first at (fold ended m ts).system
  all_end at is_at before [] m h ends turn = h
  all_end at is_at before (w ∷ ts) m h ends turn =
      all_end at is_at before ts (ended m w)
      (ends_at at is_at before w m h (ends w (or_left (is_task w w) (has w ts) (itself w))) turn.0)
      (λ v one. ends v (or_right (is_task w v) (has v ts) one))
      (subst (EndInTurn ts) (sym (ended_tree w m h.since.sound turn.0)) turn.1)

  pub family_serving : (of : Option ℕ) (m : Moment) → IsAsked asked (End of) → tree.lives (named_or of u) m.system.shared.tree ≡ true
      → MayEnd u (named_or of u) m.system.shared.tree → Serving u asked first m.system m.system
      → Serving u asked first m.system (ended_with_descendants (named_or of u) m).system
  family_serving of m sent live can h =
      all_end m.system h.since.sound.tree h.since.tree (family (named_or of u) m.system.shared.tree) m h
      (λ w one.
      let inside = under_from m.system.shared.tree h.since.sound.tree TASKS (named_or of u) w one in
      record {
        own = under_under m.system.shared.tree w (named_or of u) u inside can.under;
        named = of;
        asks = sent;
        live = live;
        under = inside;
      })
      can.turn
