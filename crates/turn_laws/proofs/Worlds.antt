-- A turn does the same in two worlds that are the same for the task.
use Rattle.std.proofs.Common.{◌≡◌, ℕ, ◌-◌, ◌<◌, ◌≤◌, Bool, true, false, not, ◌&&◌, List, [], ◌∷◌, ◌++◌, length, fold, Option, Some, None, if◌then◌else◌}
use Rattle.std.proofs.Common.{refl, sym, ap, ◌∙◌, subst, inl, append-nil, arith}
use Rattle.std.specs.Prelude.{ℤ, negsuc, slice_get}
use Rattle.std.specs.List.{AllByRecursion, list_any, flat_map}
use Rattle.std.proofs.Math.Seq.{drop-length}
use Rattle.std.proofs.lemmas.Bool.{false≢true, and_parts, or_left, or_right, true_from_ne_false, ne_eqb, eq-eqb}
use Rattle.std.proofs.lemmas.List.Folds.{list_any-append}
use Rattle.std.proofs.lemmas.List.Sums.{fold-append}
use Rattle.std.proofs.lemmas.Option.{none-some, same_Some}
use Rattle.turn_laws.specs.Below.task_numbers.specs.declared.limits.TheConstants.{TASKS}
use Rattle.turn_laws.specs.Below.task_numbers.specs.declared.number.TaskNo.{TaskNo}
use Rattle.turn_laws.specs.Below.task_numbers.specs.Numbers.{is_nil, is_task}
use Rattle.eu_base.specs.declared.stop.Stop.{Stop}
use Rattle.eu_base.specs.declared.request.Request.{Request}
use Rattle.eu_base.specs.declared.request.Request.TheVariants.{Out, Input, Begin, End, Myself, Father, Son, Brother, Named, Name, Exists, Break, Send, Wait, Call}
use Rattle.eu_base.specs.declared.request.Request.TheVariants as requests
use Rattle.eu_base.specs.declared.request.Reply.TheVariants.{Done, Taken, Receipt}
use Rattle.eu_base.specs.DataSpaces.{Space, heads_of}
use Rattle.eu_base.specs.SpaceOperations.{room_refusal}
use Rattle.eu_base.specs.Requests.{Answer, plain}
use Rattle.turn_laws.specs.Below.elan_scope.specs.declared.env.Env.{Env}
use Rattle.turn_laws.specs.Below.message_wait.specs.declared.waits.Caller.{Caller}
use Rattle.turn_laws.specs.Below.message_wait.specs.declared.waits.Receiver.{Receiver}
use Rattle.turn_laws.specs.Below.message_wait.specs.declared.waits.Offer.TheVariants as offers
use Rattle.turn_laws.specs.Below.message_wait.specs.Rendezvous.{Waits, is_waiting, is_ready, is_open, takes_from, received, first_call}
use Rattle.turn_laws.specs.Below.message_wait.specs.Rendezvous as rendezvous
use Rattle.turn_laws.specs.Below.task_tree.specs.Tree as tree
use Rattle.turn_laws.specs.Below.task_tree.specs.Tree.{Tree, sons}
use Rattle.turn_laws.specs.Below.task_tree.specs.Trees.{IsTree}
use Rattle.turn_laws.specs.Below.task_tree.specs.Families.{descent, family}
use Rattle.turn_laws.specs.Below.task_tree.specs.Ends.{EndInTurn}
use Rattle.turn_laws.specs.Below.terminals.specs.Channels.{channel, channel_of}
use Rattle.turn_laws.specs.Below.session_text.specs.Display.{unfinished_at, close_all}
use Rattle.turn_laws.specs.Below.units.specs.declared.unit.Compiled.{Compiled}
use Rattle.turn_laws.specs.Below.units.specs.Library.{started_at}
use Rattle.system_meaning.specs.Stores.{heir}
use Rattle.system_meaning.specs.Tasks.{Running, Own, starting, spent, with_doing, replied}
use Rattle.system_meaning.specs.Systems.{Shared, System, Moment, packets, kept, changed, does, given, woken, on_ready, on_waits, on_system, on_display, uncouple_at}
use Rattle.system_meaning.specs.Ends.{next, begun, ended, ended_with_descendants}
use Rattle.system_meaning.specs.Serving.{Served, Replies, Rests, put, line_taken, input, son_begins, begin_with, begin_refusal, is_first, may_end, end_allowed, end_living, named_or, number, content, message, handed, sent, caller, send_to, send_living, call_living, space_refusal, call_refusal, unless_stopped, answering, call_taken, awaits, serve}
use Rattle.system_meaning.specs.Monitor.{Reading}
use Rattle.system_meaning.specs.Turns.{turn, turn_of, turn_marks, most_evaluations}
use Rattle.system_meaning.specs.Whole.{IsSystem}
use Rattle.turn_laws.specs.Own.{own_of}
use Rattle.turn_laws.specs.Told.{told_first, turn_told, asked}
use Rattle.turn_laws.specs.Waits.{AreOrderly}
use Rattle.turn_laws.specs.Worlds.{at_channel, SameAt, SameFor, SameShown, GoesSame, IsNext}
use Rattle.turn_laws.proofs.Found.{same_task, itself}
use Rattle.turn_laws.proofs.Finding.{has, living, part, sons_are}
use Rattle.turn_laws.proofs.Trees.{numbered, not_younger, son_is_younger, under_from}
use Rattle.turn_laws.proofs.Steps.{Quiet, CanWait, waits_behind, can_wait, quiet_ready, quiet_given, quiet_woken, waits_sound, nothing_of, begun_others, changed_lives, channels_changed}
use Rattle.turn_laws.proofs.Lists.{turned, none_all, all_at, some_of, FirstPlace, at_none, at_one, first_place}
use Rattle.turn_laws.proofs.Rights.{Absent, absent, absent_receivers, absent_removed, absent_entered}
use Rattle.turn_laws.proofs.Orders.{shared_changed}
use Rattle.turn_laws.proofs.Since.{back_waits, woken_waits}
use Rattle.turn_laws.proofs.Others.{back_same, back_channels, woken_channels, can_begin, son_sound, MayEnd, may}
use Rattle.turn_laws.proofs.Walking.{Keeps, BothServed, runs_lives, slices}
use Rattle.turn_laws.proofs.Screens.{all_close}
use Rattle.turn_laws.proofs.Couplings.{is_at_channel}
use Rattle.turn_laws.proofs.Alike.{AtChannel, ScreenAt, Alike, same_channel, at_that, Elsewhere, alike_on, IsFromAt, from_left, from_right, elsewhere_same, elsewhere_system, elsewhere_back, all_elsewhere, both_change, both_insert, both_say, both_write, both_take, both_uncouple_at, both_end}

-- u is another than w where it is not younger
older : (u w : TaskNo) → u.0 < w.0 → is_task w u ≡ false
older u w less = ne_eqb w.0 u.0 (λ e. omega (arith, less, e))

-- both are the same for the task, and it waits in none
pub record Turns (u : TaskNo) (c : Option ℕ) (a b : ℕ) (m n : Moment) : Type 0 where
  pub alike : Alike u c a b m n
  pub first : Absent u m.system.shared.waits
  pub second : Absent u n.system.shared.waits

-- ---- a request whose task stays

-- both are answered, or both rest
abbrev BothAnswer : (u : TaskNo) (c : Option ℕ) (a b : ℕ) → Served → Served → Type 0
BothAnswer u c a b (Replies r m) (Replies s n) = r ≡ s → Turns u c a b m n
BothAnswer u c a b (Rests m) (Rests n) = Alike u c a b m n
BothAnswer u c a b _ _ = Unit {0}

-- what is the task's stays
abbrev Answered : TaskNo → Option ℕ → ℕ → Moment → Served → Type 0
Answered u c a m (Replies r n) = Elsewhere u c a m n × Absent u n.system.shared.waits
Answered u c a m (Rests n) = Elsewhere u c a m n

both_answered : (u : TaskNo) (c : Option ℕ) (a b : ℕ) (m n : Moment) (x y : Served) → Alike u c a b m n → Answered u c a m x → Answered u c b n y
    → BothAnswer u c a b x y
both_answered u c a b m n (Replies r k) (Replies s l) h first second = λ e. record {
  alike = alike_on u c a b m n k l h first.0 second.0;
  first = first.1;
  second = second.1;
}
both_answered u c a b m n (Replies r k) (Rests l) h first second = tt
both_answered u c a b m n (Rests k) (Replies s l) h first second = tt
both_answered u c a b m n (Rests k) (Rests l) h first second = alike_on u c a b m n k l h first second

begin_answered : (u : TaskNo) (c : Option ℕ) (a : ℕ) (name : List ℕ) (unit : Option Compiled) (m : Moment) → IsFromAt c a u m → IsSystem m.system
    → Absent u m.system.shared.waits → tree.lives u m.system.shared.tree ≡ true → (stop : Option Stop) → begin_refusal name m.system ≡ stop
    → Answered u c a m (begin_with stop unit name u m)
begin_answered u c a name unit m from is off live (Some stop) e = (elsewhere_same u c a m from is, off)
begin_answered u c a name None m from is off live None e = (elsewhere_same u c a m from is, off)
begin_answered u c a name (Some unit) m from is off live None e =
    let lives = living u m.system.shared.tree.tasks live in (
      elsewhere_system u c a m (son_begins name u unit m.system) from
          (son_sound name u unit m.system is live (can_begin name m.system e))
          (back_same (next m.system) u (begun name u (Running (starting unit (heir (kept u m.system)))) m.system)
          ∙ begun_others name u (Running (starting unit (heir (kept u m.system)))) m.system is u (numbered m.system.shared.tree u lives.0 is.tree lives.1).given)
          (back_channels (next m.system) (begun name u (Running (starting unit (heir (kept u m.system)))) m.system)),
      subst (λ (v : Waits). Absent u v) (sym (back_waits (next m.system) (begun name u (Running (starting unit (heir (kept u m.system)))) m.system))) off,
    )

-- another task ends, with its descendants
family_elsewhere : (u v : TaskNo) (c : Option ℕ) (a : ℕ) (m : Moment) → is_nil u ≡ false → IsFromAt c a u m → IsSystem m.system
    → Absent u m.system.shared.waits → is_task u v ≡ false → MayEnd u v m.system.shared.tree
    → Elsewhere u c a m (ended_with_descendants v m) × Absent u (ended_with_descendants v m).system.shared.waits
family_elsewhere u v c a m some from is off other can =
    let ends = all_elsewhere u some c a (family v m.system.shared.tree) [] m from is
    (subst (λ (ts : List TaskNo). EndInTurn ts m.system.shared.tree) (sym (append-nil (family v m.system.shared.tree))) can.turn)
    (λ w one.
    let least = not_younger m.system.shared.tree w v is.tree (under_from m.system.shared.tree is.tree TASKS v w one) in
    let less = not_younger m.system.shared.tree v u is.tree can.under in
    older u w (apart u.0 v.0 w.0 less least (λ e. false≢true (sym other ∙ eq-eqb u.0 v.0 e)))) off in
    (ends.elsewhere, ends.absent)
  where
    apart : (i j k : ℕ) → i ≤ j → j ≤ k → (i ≡ j → ⊥) → i < k
    apart i j k less least other = omega (arith, less, least, other)

end_answered : (u v : TaskNo) (c : Option ℕ) (a : ℕ) (m : Moment) → is_nil u ≡ false → IsFromAt c a u m → IsSystem m.system
    → Absent u m.system.shared.waits → is_task u v ≡ false → (live : Bool) → tree.lives v m.system.shared.tree ≡ live → Answered u c a m (end_living live u v m)
end_answered u v c a m some from is off other false e = (elsewhere_same u c a m from is, off)
end_answered u v c a m some from is off other true live = by (may_end u v m.system) refl
  where
    which : (b : Bool) → b ≡ false → Elsewhere u c a m (ended_with_descendants v m) × Absent u (ended_with_descendants v m).system.shared.waits
        → Answered u c a m (if b then Rests (ended_with_descendants v m) else Replies (plain Done) (ended_with_descendants v m))
    which true e h = absurd (false≢true (sym e))
    which false e h = h

    by : (b : Bool) → may_end u v m.system ≡ b → Answered u c a m (end_allowed b u v m)
    by false e = (elsewhere_same u c a m from is, off)
    by true e = which (is_task u v) other (family_elsewhere u v c a m some from is off other (may u v m.system is.tree live e))

-- ---- a task ends itself

abbrev descendants : TaskNo → Tree → List TaskNo
descendants u s = flat_map (λ w. descent (TASKS - 1) w s) (sons u s)

are_younger : (u w : TaskNo) (s : Tree) → IsTree s → has w (descendants u s) ≡ true → is_task w u ≡ false
are_younger u w s is e =
    let p = part (λ v. descent (TASKS - 1) v s) w (sons u s) e in
    let less = son_is_younger s u p.of is (sons_are u p.of s.tasks is.apart p.one) in
    let more = not_younger s w p.of is (under_from s is (TASKS - 1) p.of w p.inside) in
    older u w (omega (arith, less, more))

itself_ends : (u : TaskNo) (c : Option ℕ) (a b : ℕ) (m n : Moment) → is_nil u ≡ false → MayEnd u u m.system.shared.tree → MayEnd u u n.system.shared.tree
    → Turns u c a b m n → Alike u c a b (ended_with_descendants u m) (ended_with_descendants u n)
itself_ends u c a b m n some can may turns =
    let h = turns.alike in
    let first = all_elsewhere u some c a (descendants u m.system.shared.tree) (u ∷ []) m (from_left u c a b m n h) h.first can.turn
    (λ w one. are_younger u w m.system.shared.tree h.first.tree one) turns.first in
    let second = all_elsewhere u some c b (descendants u n.system.shared.tree) (u ∷ []) n (from_right u c a b m n h) h.second may.turn
    (λ w one. are_younger u w n.system.shared.tree h.second.tree one) turns.second in
    subst (λ (k : Moment). Alike u c a b k (ended_with_descendants u n)) (sym (last_one m))
    (subst (λ (k : Moment). Alike u c a b (ended (before m) u) k) (sym (last_one n))
    (both_end u c a b (before m) (before n) first.turn.0 second.turn.0
    (alike_on u c a b m n (before m) (before n) h first.elsewhere second.elsewhere)))
  where
    before : Moment → Moment
    before m = fold ended m (descendants u m.system.shared.tree)

    last_one : (m : Moment) → ended_with_descendants u m ≡ ended (before m) u
    last_one m = fold-append ended m (descendants u m.system.shared.tree) (u ∷ [])

-- a task is of its own family
may_itself : (u : TaskNo) (s : System) → may_end u u s ≡ not (is_first u)
may_itself u s = ap (λ (b : Bool). not (is_first u) && b) (last (descendants u s.shared.tree)) ∙ all_true (not (is_first u))
  where
    last : (ts : List TaskNo) → list_any (is_task u) (ts ++ u ∷ []) ≡ true
    last ts = list_any-append (is_task u) ts (u ∷ []) ∙ or_right (list_any (is_task u) ts) _ (or_left (is_task u u) false (itself u))

    all_true : (b : Bool) → (b && true) ≡ b
    all_true true = refl
    all_true false = refl

itself_served : (u : TaskNo) (c : Option ℕ) (a b : ℕ) (m n : Moment) → is_nil u ≡ false → tree.lives u m.system.shared.tree ≡ true
    → tree.lives u n.system.shared.tree ≡ true → Turns u c a b m n
    → BothAnswer u c a b (end_living (tree.lives u m.system.shared.tree) u u m) (end_living (tree.lives u n.system.shared.tree) u u n)
itself_served u c a b m n some live lives h =
    subst (λ (x : Bool). BothAnswer u c a b (end_living x u u m) (end_living (tree.lives u n.system.shared.tree) u u n)) (sym live)
    (subst (λ (x : Bool). BothAnswer u c a b (end_allowed (may_end u u m.system) u u m) (end_living x u u n)) (sym lives)
    (subst (λ (x : Bool). BothAnswer u c a b (end_allowed x u u m) (end_allowed (may_end u u n.system) u u n)) (sym (may_itself u m.system))
    (subst (λ (x : Bool). BothAnswer u c a b (end_allowed (not (is_first u)) u u m) (end_allowed x u u n)) (sym (may_itself u n.system))
    (by (not (is_first u)) refl))))
  where
    which : (x : Bool) → x ≡ true → Alike u c a b (ended_with_descendants u m) (ended_with_descendants u n)
        → BothAnswer u c a b
        (if x then Rests (ended_with_descendants u m) else Replies (plain Done) (ended_with_descendants u m))
        (if x then Rests (ended_with_descendants u n) else Replies (plain Done) (ended_with_descendants u n))
    which true e h = h
    which false e h = absurd (false≢true e)

    by : (x : Bool) → not (is_first u) ≡ x → BothAnswer u c a b (end_allowed x u u m) (end_allowed x u u n)
    by false e = λ same. h
    by true e =
        which (is_task u u) (itself u)
        (itself_ends u c a b m n some (may u u m.system h.alike.first.tree live (may_itself u m.system ∙ e))
        (may u u n.system h.alike.second.tree lives (may_itself u n.system ∙ e)) h)

-- ---- messages

-- a receiver that is ready takes a message, and is another
handed_elsewhere : (u : TaskNo) (c : Option ℕ) (a : ℕ) (to : ℕ) (code : ℤ) (x : Space) (m : Moment) → IsFromAt c a u m → IsSystem m.system
    → Absent u m.system.shared.waits → is_ready (number to) u m.system.shared.waits ≡ true
    → Elsewhere u c a m (on_system (handed (caller u to code) x) m) × Absent u (handed (caller u to code) x m.system).shared.waits
handed_elsewhere u c a to code x m from is off ready =
    subst (λ (s : System). Elsewhere u c a m (record m { system = s }) × Absent u s.shared.waits) (sym as_handed) (
      elsewhere_system u c a m (woken (number to) brought (on_waits (received (number to)) m.system)) from quiet.sound
          (quiet.others u (turned (number to) u other)) (woken_channels (number to) brought (on_waits (received (number to)) m.system)),
      subst (λ (v : Waits). Absent u v) (sym (woken_waits (number to) brought (on_waits (received (number to)) m.system)))
          (absent_receivers u (λ (r : Receiver). not (is_task r.task (number to))) m.system.shared.waits off),
    )
  where
    brought : Answer
    brought = message code u x (number to) m.system

    receiver : (r : Receiver) × (is_open (number to) u r ≡ true) × (is_task r.task u ≡ false)
    receiver =
        some_of (λ (r : Receiver). is_task r.task u ≡ false) (is_open (number to) u) m.system.shared.waits.receivers ready
        (none_all (λ (r : Receiver). is_task r.task u) m.system.shared.waits.receivers off.waits)

    other : is_task (number to) u ≡ false
    other =
        subst (λ (v : TaskNo). is_task v u ≡ false)
        (same_task receiver.0.task (number to) (and_parts (is_task receiver.0.task (number to)) (takes_from u receiver.0.of) receiver.1).0) receiver.2

    quiet : Quiet (number to) (on_waits (received (number to)) m.system) (woken (number to) brought (on_waits (received (number to)) m.system))
    quiet = quiet_woken (number to) brought (on_waits (received (number to)) m.system) (waits_sound (received (number to)) m.system is)

    as_handed : handed (caller u to code) x m.system ≡ woken (number to) brought (on_waits (received (number to)) m.system)
    as_handed =
        ap
        (λ (v : Waits). let s' : System = record m.system { shared = record m.system.shared { waits = v } } in woken (number to) brought s')
        (ap (λ (b : Bool). if b then received (number to) m.system.shared.waits else m.system.shared.waits) ready)

-- those that wait are others
waits_elsewhere : (u : TaskNo) (c : Option ℕ) (a : ℕ) (f : Waits → Waits) (m : Moment) → IsFromAt c a u m → IsSystem m.system
    → Elsewhere u c a m (on_system (on_waits f) m)
waits_elsewhere u c a f m from is = elsewhere_system u c a m (on_waits f m.system) from (waits_sound f m.system is) refl refl

send_answered : (u : TaskNo) (c : Option ℕ) (a : ℕ) (to : ℕ) (code : ℤ) (space : ℕ) (m : Moment) → IsFromAt c a u m → IsSystem m.system
    → Absent u m.system.shared.waits → Answered u c a m (serve u (Send to code space) m)
send_answered u c a to code space m from is off = refused (space_refusal u space m.system)
  where
    here : Elsewhere u c a m m
    here = elsewhere_same u c a m from is

    offered_so : (b : Bool) → is_ready (number to) u m.system.shared.waits ≡ b
        → Answered u c a m (sent (if b then offers.Taken else offers.NotReady) (caller u to code) (content u space m.system) m)
    offered_so true ready = handed_elsewhere u c a to code (content u space m.system) m from is off ready
    offered_so false ready = (here, off)

    lives : (b : Bool) → Answered u c a m (send_living b (caller u to code) space m)
    lives false = (here, off)
    lives true = offered_so (is_ready (number to) u m.system.shared.waits) refl

    refused : (o : Option Stop) → Answered u c a m (unless_stopped o (send_living (tree.lives (number to) m.system.shared.tree) (caller u to code) space m) m)
    refused (Some stop) = (here, off)
    refused None = lives (tree.lives (number to) m.system.shared.tree)

call_answered : (u : TaskNo) (c : Option ℕ) (a : ℕ) (to : ℕ) (code : ℤ) (space : ℕ) (m : Moment) → IsFromAt c a u m → IsSystem m.system
    → Absent u m.system.shared.waits → Answered u c a m (serve u (Call to code space) m)
call_answered u c a to code space m from is off = refused (call_refusal u space m.system)
  where
    here : Elsewhere u c a m m
    here = elsewhere_same u c a m from is

    offered_so : (b : Bool) → is_ready (number to) u m.system.shared.waits ≡ b
        → Answered u c a m (sent (if b then offers.Taken else offers.Queued) (caller u to code) (content u space m.system) m)
    offered_so true ready = handed_elsewhere u c a to code (content u space m.system) m from is off ready
    offered_so false ready = waits_elsewhere u c a (rendezvous.offered (caller u to code) true) m from is

    itself' : (b : Bool) → Answered u c a m (if b then Replies (plain (Receipt (negsuc 1))) m else send_to true (caller u to code) space m)
    itself' true = (here, off)
    itself' false = offered_so (is_ready (number to) u m.system.shared.waits) refl

    lives : (b : Bool) → Answered u c a m (call_living b (caller u to code) space m)
    lives false = (here, off)
    lives true = itself' (is_task (number to) u)

    refused : (o : Option Stop) → Answered u c a m (unless_stopped o (call_living (tree.lives (number to) m.system.shared.tree) (caller u to code) space m) m)
    refused (Some stop) = (here, off)
    refused None = lives (tree.lives (number to) m.system.shared.tree)

-- a caller is told that its message was taken, and is another
taken_elsewhere : (u : TaskNo) (c : Option ℕ) (a : ℕ) (x : Caller) (m : Moment) → IsFromAt c a u m → IsSystem m.system → Absent u m.system.shared.waits
    → (k : ℕ) → first_call u m.system.shared.waits ≡ Some k → slice_get m.system.shared.waits.callers k ≡ Some x
    → Elsewhere u c a m (on_system (answering u x) m) × Absent u (answering u x m.system).shared.waits
taken_elsewhere u c a x m from is off k at get = (
  elsewhere_system u c a m (answering u x m.system) from quiet.sound (quiet.others u (turned x.from u other))
      (channels_changed x.from (λ (o : Own). with_doing (replied (plain Taken) o.doing) o) before),
  subst (λ (v : Waits). Absent u v)
      (sym (ap (λ (h : Shared). h.waits) (shared_changed x.from (λ (o : Own). with_doing (replied (plain Taken) o.doing) o) before)))
      (absent_entered u (record { task = x.from; of = Some u }) (rendezvous.waited u m.system.shared.waits) other
      (subst (λ (p : Option ℕ). Absent u (rendezvous.waited_at p u m.system.shared.waits)) (sym at) (absent_removed u k m.system.shared.waits off))),
)
  where
    before : System
    before = on_waits (λ w. rendezvous.entered (record { task = x.from; of = Some u }) (rendezvous.waited u w)) m.system

    quiet : Quiet x.from before (given x.from (plain Taken) before)
    quiet =
        quiet_given x.from (plain Taken) before
        (waits_sound (λ w. rendezvous.entered (record { task = x.from; of = Some u }) (rendezvous.waited u w)) m.system is)

    other : is_task x.from u ≡ false
    other =
        all_at (λ (y : Caller). is_task y.from u ≡ false) m.system.shared.waits.callers k x get
        (none_all (λ (y : Caller). is_task y.from u) m.system.shared.waits.callers off.calls)

wait_answered : (u : TaskNo) (c : Option ℕ) (a : ℕ) (m : Moment) → IsFromAt c a u m → IsSystem m.system → Absent u m.system.shared.waits
    → Answered u c a m (serve u Wait m)
wait_answered u c a m from is off = refused (room_refusal (heads_of (kept u m.system).spaces))
  where
    takes : FirstPlace (λ (x : Caller). is_task x.to u) m.system.shared.waits.callers
        → Answered u c a m (call_taken (rendezvous.first_caller u m.system.shared.waits) u m)
    takes (at_none none) =
        subst (λ (p : Option ℕ). Answered u c a m (call_taken (rendezvous.caller_at p m.system.shared.waits.callers) u m)) (sym none)
        (waits_elsewhere u c a (rendezvous.waited u) m from is)
    takes (at_one k x at get passes) =
        subst (λ (o : Option Caller). Answered u c a m (call_taken o u m))
        (sym (ap (λ (p : Option ℕ). rendezvous.caller_at p m.system.shared.waits.callers) at ∙ get))
        (taken_elsewhere u c a x m from is off k at get)

    refused : (o : Option Stop) → Answered u c a m (unless_stopped o (call_taken (rendezvous.first_caller u m.system.shared.waits) u m) m)
    refused (Some stop) = (elsewhere_same u c a m from is, off)
    refused None = takes (first_place (λ (x : Caller). is_task x.to u) m.system.shared.waits.callers)

uncoupled_absent : (u : TaskNo) (o : Option ℕ) (m : Moment) → Absent u m.system.shared.waits → Absent u (uncouple_at o m).system.shared.waits
uncoupled_absent u None m off = off
uncoupled_absent u (Some j) m off = off

-- ---- each request

module _ (u : TaskNo) (c : Option ℕ) (a b : ℕ) where
  puts : (bytes : List ℕ) (ends : Bool) (m n : Moment) → Turns u c a b m n
      → BothAnswer u c a b (put (channel_of u m.system.shared.channels) bytes ends m) (put (channel_of u n.system.shared.channels) bytes ends n)
  puts bytes ends m n h =
      subst (λ (o : Option ℕ). BothAnswer u c a b (put (channel_of u m.system.shared.channels) bytes ends m) (put o bytes ends n))
      (same_channel u c m.system.shared.channels n.system.shared.channels h.alike.at) (by (channel_of u m.system.shared.channels) refl)
    where
      by : (o : Option ℕ) → channel_of u m.system.shared.channels ≡ o → BothAnswer u c a b (put o bytes ends m) (put o bytes ends n)
      by None e = h.alike
      by (Some j) e = λ same. record { alike = both_write u c a b bytes ends j m n e h.alike; first = h.first; second = h.second }

  inputs : (m n : Moment) → Turns u c a b m n
      → BothAnswer u c a b (input (channel_of u m.system.shared.channels) m) (input (channel_of u n.system.shared.channels) n)
  inputs m n h =
      subst (λ (o : Option ℕ). BothAnswer u c a b (input (channel_of u m.system.shared.channels) m) (input o n))
      (same_channel u c m.system.shared.channels n.system.shared.channels h.alike.at) (by (channel_of u m.system.shared.channels) refl)
    where
      lines : (j : ℕ) → channel_of u m.system.shared.channels ≡ Some j → (queue : List (List ℕ))
          → BothAnswer u c a b (line_taken queue j m) (line_taken queue j n)
      lines j e [] = h.alike
      lines j e (line ∷ rest) = λ same. record { alike = both_take u c a b j m n e h.alike; first = h.first; second = h.second }

      by : (o : Option ℕ) → channel_of u m.system.shared.channels ≡ o → BothAnswer u c a b (input o m) (input o n)
      by None e = h.alike
      by (Some j) e =
          subst (λ (queue : List (List ℕ)). BothAnswer u c a b (input (Some j) m) (line_taken queue j n))
          (at_that u c j m.system.shared.channels n.system.shared.channels h.alike.at e).coupled.queue
          (lines j e (channel j m.system.shared.channels).queue)

  ends : (v : TaskNo) (m n : Moment) → is_nil u ≡ false → tree.lives u m.system.shared.tree ≡ true → tree.lives u n.system.shared.tree ≡ true → Turns u c a b m n
      → BothAnswer u c a b (end_living (tree.lives v m.system.shared.tree) u v m) (end_living (tree.lives v n.system.shared.tree) u v n)
  ends v m n some live lives h = by (is_task u v) refl
    where
      by : (x : Bool) → is_task u v ≡ x
          → BothAnswer u c a b (end_living (tree.lives v m.system.shared.tree) u v m) (end_living (tree.lives v n.system.shared.tree) u v n)
      by true e =
          subst
          (λ (w : TaskNo). BothAnswer u c a b (end_living (tree.lives w m.system.shared.tree) u w m) (end_living (tree.lives w n.system.shared.tree) u w n))
          (same_task u v e) (itself_served u c a b m n some live lives h)
      by false other =
          both_answered u c a b m n _ _ h.alike
          (end_answered u v c a m some (from_left u c a b m n h.alike) h.alike.first h.first other (tree.lives v m.system.shared.tree) refl)
          (end_answered u v c b n some (from_right u c a b m n h.alike) h.alike.second h.second other (tree.lives v n.system.shared.tree) refl)

  answers : (q : Request) (m n : Moment) → (own_of u m.system ≡ None → ⊥) → Turns u c a b m n → BothAnswer u c a b (serve u q m) (serve u q n)
  answers q m n there h = by q
    where
      live : tree.lives u m.system.shared.tree ≡ true
      live = true_from_ne_false (tree.lives u m.system.shared.tree) (λ dead. there (nothing_of u m.system dead))

      lives : tree.lives u n.system.shared.tree ≡ true
      lives = true_from_ne_false (tree.lives u n.system.shared.tree) (λ dead. there (h.alike.own ∙ nothing_of u n.system dead))

      some : is_nil u ≡ false
      some =
          let found = living u m.system.shared.tree.tasks live in
          let low = (numbered m.system.shared.tree u found.0 h.alike.first.tree found.1).some in
          ne_eqb u.0 0 (λ e. omega (arith, low, e))

      left : IsFromAt c a u m
      left = from_left u c a b m n h.alike

      right : IsFromAt c b u n
      right = from_right u c a b m n h.alike

      by : (q : Request) → BothAnswer u c a b (serve u q m) (serve u q n)
      by (Out bytes ends) = puts bytes ends m n h
      by Input = inputs m n h
      by (Begin name start) =
          both_answered u c a b m n _ _ h.alike
          (begin_answered u c a name (started_at m.system.shared.library (packets u m.system) start) m left h.alike.first h.first live
          (begin_refusal name m.system) refl)
          (begin_answered u c b name (started_at n.system.shared.library (packets u n.system) start) n right h.alike.second h.second lives
          (begin_refusal name n.system) refl)
      by Myself = λ same. h
      by (Father of) = λ same. h
      by (Son of) = λ same. h
      by (Brother of) = λ same. h
      by (Named name) = λ same. h
      by (Name of) = λ same. h
      by (Exists of) = λ same. h
      by (End of) = ends (named_or of u) m n some live lives h
      by Break = λ same. record {
        alike = both_uncouple_at u c a b m n h.alike;
        first = uncoupled_absent u (channel_of u m.system.shared.channels) m h.first;
        second = uncoupled_absent u (channel_of u n.system.shared.channels) n h.second;
      }
      by (Send to code space) =
          both_answered u c a b m n _ _ h.alike (send_answered u c a to code space m left h.alike.first h.first)
          (send_answered u c b to code space n right h.alike.second h.second)
      by Wait =
          both_answered u c a b m n _ _ h.alike (wait_answered u c a m left h.alike.first h.first) (wait_answered u c b n right h.alike.second h.second)
      by (Call to code space) =
          both_answered u c a b m n _ _ h.alike (call_answered u c a to code space m left h.alike.first h.first)
          (call_answered u c b to code space n right h.alike.second h.second)
      by (requests.Answer of) =
          alike_on u c a b m n (on_system (awaits u of) m) (on_system (awaits u of) n) h.alike
          (waits_elsewhere u c a (rendezvous.entered (record { task = u; of = Some (number of) })) m left h.alike.first)
          (waits_elsewhere u c b (rendezvous.entered (record { task = u; of = Some (number of) })) n right h.alike.second)

  -- what it has for itself changes alike
  turns_on : (f : Own → Own) → ((o : Own) → (f o).packets ≡ o.packets) → (m n : Moment) → Turns u c a b m n
      → Turns u c a b (on_system (changed u f) m) (on_system (changed u f) n)
  turns_on f same m n h = record {
    alike = both_change u c a b f same m n h.alike;
    first = subst (λ (x : Shared). Absent u x.waits) (sym (shared_changed u f m.system)) h.first;
    second = subst (λ (x : Shared). Absent u x.waits) (sym (shared_changed u f n.system)) h.second;
  }

  -- and it goes on with the answer
  serves_on : (x y : Served) → BothAnswer u c a b x y → BothServed u (Turns u c a b) (Alike u c a b) x y
  serves_on (Replies r m) (Replies s n) h = λ e.
      subst (λ (z : Answer). Turns u c a b (on_system (given u r) m) (on_system (given u z) n)) e
      (turns_on (λ o. with_doing (replied r o.doing) o) (λ o. refl) m n (h e))
  serves_on (Replies r m) (Rests n) h = tt
  serves_on (Rests m) (Replies s n) h = tt
  serves_on (Rests m) (Rests n) h = h

  keeps : Keeps u (Alike u c a b) (Turns u c a b) (Alike u c a b) (λ q. Unit {0}) (λ d. Unit {0})
  keeps = record {
    own = λ m n h. h.own;
    channel = λ m n h. same_channel u c m.system.shared.channels n.system.shared.channels h.at;
    queue = λ j m n h e. (at_that u c j m.system.shared.channels n.system.shared.channels h.at e).coupled.queue;
    backs = λ m n h.
        alike_on u c a b m n _ _ h (elsewhere_back u c a m (from_left u c a b m n h) h.first) (elsewhere_back u c b n (from_right u c a b m n h) h.second);
    changes = λ d may m n h. both_change u c a b (with_doing d) (λ o. refl) m n h;
    says = λ j bytes m n e h. both_say u c a b bytes j m n e h;
    takes = λ j m n e h. both_take u c a b j m n e h;
    inserts = λ unit i m n last h. both_insert u c a b unit i m n last h;
    idle = λ store. tt;
    enters = λ name lines store. tt;
    starts = λ unit store. tt;
    here = λ m n h. h.alike.own;
    marks = λ c left w m n h at e. tt;
    leaves = λ d may m n h. both_change u c a b (with_doing d) (λ o. refl) m n h.alike;
    serves = λ x left q w m n asks at e h.
        serves_on (serve u q (on_system (does u (Running (spent left w x))) m)) (serve u q (on_system (does u (Running (spent left w x))) n))
        (answers q (on_system (does u (Running (spent left w x))) m) (on_system (does u (Running (spent left w x))) n)
        (λ none. runs_lives u m.system x at (changed_lives u (with_doing (Running (spent left w x))) m.system none))
        (turns_on (with_doing (Running (spent left w x))) (λ o. refl) m n h));
    stops = λ m n h. h.alike;
    ends = λ m n h. h;
  }

-- ---- a turn

module _ (read : Env → Bool → List ℕ → Reading) (u : TaskNo) (m n : Moment) (is_m : IsSystem m.system) (is_n : IsSystem n.system)
    (order_m : AreOrderly m.system) (order_n : AreOrderly n.system)
    (four_m : length m.display.unfinished ≡ 4) (four_n : length n.display.unfinished ≡ 4) (h : SameFor u m n) where
  begins_at : (o : Option ℕ) → channel_of u m.system.shared.channels ≡ o → SameAt o m n → AtChannel o u m.system.shared.channels n.system.shared.channels
  begins_at None e at = (e, sym h.channel ∙ e)
  begins_at (Some k) e at = inl (record { left = e; right = sym h.channel ∙ e; queue = at.0 })

  shows_at : (o : Option ℕ) → channel_of u m.system.shared.channels ≡ o → SameAt o m n → ScreenAt o (length m.display.shown) (length n.display.shown) m.display n.display
  shows_at None e at = tt
  shows_at (Some k) e at = (
    (is_at_channel k u m.system.shared.channels e).from,
    record {
      line = at.1;
      many = four_m ∙ sym four_n;
      shown = ap (at_channel k) (drop-length m.display.shown) ∙ sym (ap (at_channel k) (drop-length n.display.shown));
      low = omega arith;
      less = omega arith;
    },
  )

  begins : (ms ns : List TaskNo) → CanWait m.system.shared.tree ms → CanWait n.system.shared.tree ns
      → Alike u (channel_of u m.system.shared.channels) (length m.display.shown) (length n.display.shown)
      (on_system (on_ready (λ _. ms)) m) (on_system (on_ready (λ _. ns)) n)
  begins ms ns waits wait = record {
    first = (quiet_ready u (λ _. ms) m.system waits is_m).sound;
    second = (quiet_ready u (λ _. ns) n.system wait is_n).sound;
    own = h.own;
    at = begins_at (channel_of u m.system.shared.channels) refl h.terminal;
    screen = shows_at (channel_of u m.system.shared.channels) refl h.terminal;
  }

  closed : (later other : Moment) → Alike u (channel_of u m.system.shared.channels) (length m.display.shown) (length n.display.shown) later other
      → Alike u (channel_of u m.system.shared.channels) (length m.display.shown) (length n.display.shown) (on_display close_all later) (on_display close_all other)
  closed later other h = record {
    first = h.first;
    second = h.second;
    own = h.own;
    at = h.at;
    screen = by (channel_of u m.system.shared.channels) h.screen;
  }
    where
      by : (o : Option ℕ) → ScreenAt o (length m.display.shown) (length n.display.shown) later.display other.display
          → ScreenAt o (length m.display.shown) (length n.display.shown) (close_all later.display) (close_all other.display)
      by None screen = tt
      by (Some k) screen = (screen.0, all_close k (length m.display.shown) (length n.display.shown) later.display other.display screen.0 screen.1)

  goes : (later other : Moment) → Alike u (channel_of u m.system.shared.channels) (length m.display.shown) (length n.display.shown) later other
      → GoesSame u m n later other
  goes later other alike = record {
    same = record {
      own = alike.own;
      channel = same_channel u (channel_of u m.system.shared.channels) later.system.shared.channels other.system.shared.channels alike.at;
      terminal = same_terminal (channel_of u later.system.shared.channels) refl;
    };
    shown = same_shown (channel_of u m.system.shared.channels) alike.screen;
  }
    where
      line_at : (o : Option ℕ) (j : ℕ) → o ≡ Some j → ScreenAt o (length m.display.shown) (length n.display.shown) later.display other.display
          → unfinished_at j later.display ≡ unfinished_at j other.display
      line_at None j e screen = absurd (none-some j e)
      line_at (Some k) j e screen =
          subst (λ (i : ℕ). unfinished_at i later.display ≡ unfinished_at i other.display) (same_Some k j e) screen.1.line

      same_terminal : (o : Option ℕ) → channel_of u later.system.shared.channels ≡ o → SameAt o later other
      same_terminal None e = tt
      same_terminal (Some j) e =
          let that = at_that u (channel_of u m.system.shared.channels) j later.system.shared.channels other.system.shared.channels alike.at e in
          (that.coupled.queue, line_at (channel_of u m.system.shared.channels) j that.is alike.screen)

      same_shown : (o : Option ℕ) → ScreenAt o (length m.display.shown) (length n.display.shown) later.display other.display → SameShown o m n later other
      same_shown None screen = tt
      same_shown (Some k) screen = screen.1.shown

  -- one that is ready does not wait
  calm : (s : System) (ready : List TaskNo) → AreOrderly s → s.shared.ready ≡ u ∷ ready → Absent u s.shared.waits
  calm s ready order e =
      absent u s.shared.waits (subst (λ (ts : List TaskNo). AllByRecursion (λ t. is_waiting t s.shared.waits ≡ false) ts) e order.waits.calm).0

  any_request : (qs : List Request) → AllByRecursion (λ q. Unit {0}) qs
  any_request [] = tt
  any_request (q ∷ qs) = (tt, any_request qs)

  first_goes : (ms ns : List TaskNo) → CanWait m.system.shared.tree (u ∷ ms) → CanWait n.system.shared.tree (u ∷ ns)
      → m.system.shared.ready ≡ u ∷ ms → n.system.shared.ready ≡ u ∷ ns → told_first (u ∷ ms) m ≡ told_first (u ∷ ns) n
      → GoesSame u m n (on_display close_all (turn_of read (u ∷ ms) m)) (on_display close_all (turn_of read (u ∷ ns) n))
  first_goes ms ns waits wait is_ready are_ready same =
      goes (on_display close_all (turn_of read (u ∷ ms) m)) (on_display close_all (turn_of read (u ∷ ns) n))
      (closed (turn_of read (u ∷ ms) m) (turn_of read (u ∷ ns) n)
      (slices u (Alike u (channel_of u m.system.shared.channels) (length m.display.shown) (length n.display.shown))
      (Turns u (channel_of u m.system.shared.channels) (length m.display.shown) (length n.display.shown))
      (Alike u (channel_of u m.system.shared.channels) (length m.display.shown) (length n.display.shown)) (λ q. Unit {0}) (λ d. Unit {0})
      (keeps u (channel_of u m.system.shared.channels) (length m.display.shown) (length n.display.shown)) read most_evaluations turn_marks
      (on_system (on_ready (λ _. ms)) m) (on_system (on_ready (λ _. ns)) n)
      (record {
        alike = begins ms ns (waits_behind m.system.shared.tree u ms waits) (waits_behind n.system.shared.tree u ns wait);
        first = calm m.system ms order_m is_ready;
        second = calm n.system ns order_n are_ready;
      })
      same (any_request (asked most_evaluations u turn_marks (on_system (on_ready (λ _. ms)) m)))))

  any_goes : (ms ns : List TaskNo) → CanWait m.system.shared.tree ms → CanWait n.system.shared.tree ns → m.system.shared.ready ≡ ms → n.system.shared.ready ≡ ns
      → IsNext u ms → IsNext u ns
      → told_first ms m ≡ told_first ns n → GoesSame u m n (on_display close_all (turn_of read ms m)) (on_display close_all (turn_of read ns n))
  any_goes [] ns waits wait e f one other = absurd one
  any_goes (t ∷ ms) [] waits wait e f one other = absurd other
  any_goes (t ∷ ms) (v ∷ ns) waits wait e f one other =
      subst
      (λ (x : TaskNo). CanWait m.system.shared.tree (x ∷ ms) → m.system.shared.ready ≡ x ∷ ms → told_first (x ∷ ms) m ≡ told_first (v ∷ ns) n
      → GoesSame u m n (on_display close_all (turn_of read (x ∷ ms) m)) (on_display close_all (turn_of read (v ∷ ns) n)))
      (sym one)
      (subst
      (λ (y : TaskNo). CanWait n.system.shared.tree (y ∷ ns) → n.system.shared.ready ≡ y ∷ ns → CanWait m.system.shared.tree (u ∷ ms)
      → m.system.shared.ready ≡ u ∷ ms → told_first (u ∷ ms) m ≡ told_first (y ∷ ns) n
      → GoesSame u m n (on_display close_all (turn_of read (u ∷ ms) m)) (on_display close_all (turn_of read (y ∷ ns) n)))
      (sym other) (λ w is_next v is same. first_goes ms ns v w is is_next same) wait f)
      waits e

  pub turn_goes : IsNext u m.system.shared.ready → IsNext u n.system.shared.ready → turn_told m ≡ turn_told n
      → GoesSame u m n (turn read m) (turn read n)
  turn_goes one other =
      any_goes m.system.shared.ready n.system.shared.ready (can_wait m.system is_m) (can_wait n.system is_n) refl refl one other
