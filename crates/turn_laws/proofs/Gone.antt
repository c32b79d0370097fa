-- A task ends: those that waited for it get the receipt of that, and are ready.
use Rattle.std.proofs.Common.{◌≡◌, ◌≤◌, Bool, true, false, cond, not, List, [], ◌∷◌, map, filter, Option, Some, None}
use Rattle.std.proofs.Common.{refl, sym, ap, ◌∙◌, subst, ◌⊎◌, inl, inr}
use Rattle.std.specs.List.{AllByRecursion, list_any}
use Rattle.std.proofs.lemmas.Bool.{false≢true}
use Rattle.turn_laws.specs.Below.task_numbers.specs.declared.number.TaskNo.{TaskNo}
use Rattle.turn_laws.specs.Below.task_numbers.specs.Numbers.{is_task}
use Rattle.eu_base.specs.declared.request.Request.{Request}
use Rattle.eu_base.specs.declared.request.Request.TheVariants as requests
use Rattle.eu_base.specs.Requests.{Answer, then_asked}
use Rattle.turn_laws.specs.Below.message_wait.specs.declared.waits.Caller.{Caller}
use Rattle.turn_laws.specs.Below.message_wait.specs.declared.waits.Receiver.{Receiver}
use Rattle.turn_laws.specs.Below.message_wait.specs.Rendezvous.{Waits, is_waiting, is_answer, is_from, answered, released, waiting_for}
use Rattle.turn_laws.specs.Below.message_wait.specs.Rendezvous as rendezvous
use Rattle.turn_laws.specs.Below.task_tree.specs.Tree as tree
use Rattle.turn_laws.specs.Below.task_tree.specs.Tree.{Tree, has_number}
use Rattle.turn_laws.specs.Below.task_tree.specs.Trees.{IsTree}
use Rattle.turn_laws.specs.Below.task_tree.specs.Ends.{CanEnd}
use Rattle.turn_laws.specs.Below.slicer.specs.Rotation as rotation
use Rattle.system_meaning.specs.Tasks.{Own, with_doing, replied}
use Rattle.system_meaning.specs.Systems.{Shared, System, requested, given, woken, back, can_be_ready, on_ready, on_waits}
use Rattle.system_meaning.specs.Ends.{no_task, removed, freed_by}
use Rattle.system_meaning.specs.Whole.{IsSystem, WaitsFor, IsReceiver, AreOnce}
use Rattle.turn_laws.specs.Own.{own_of}
use Rattle.turn_laws.specs.Others.{called, Reaches, called_one}
use Rattle.turn_laws.specs.Steady.{AreSteady}
use Rattle.turn_laws.specs.Waits.{IsFree}
use Rattle.turn_laws.proofs.Found.{same_task}
use Rattle.turn_laws.proofs.Finding.{living, some_lives}
use Rattle.turn_laws.proofs.Trees.{Grown, grown_on, IsEnded, grown_ended}
use Rattle.turn_laws.proofs.Steps.{nothing_of, left, removed_is, removed_others, removed_sound, dead, lives_on, waits_sound, quiet_woken, all_woken, all_woken_tree, all_woken_others}
use Rattle.turn_laws.proofs.Lists.{turned, all_map, all_where, none_all, all_none, all_both, all_filter, all_append, none_filter, none_append, none_left, away, once_filter, all_mapped, all_passing, once_other, once_both}
use Rattle.turn_laws.proofs.Rights.{CallsSo, caller_number, receiver_number, Absent, absent, not_waiting, caller_waits_not, receiver_calls_not, right_gone}
use Rattle.turn_laws.proofs.Orders.{Order, free_on, free_given, order_given, shared_changed}
use Rattle.turn_laws.proofs.Since.{AreKnown, IsKnown, Since, StayGone, same_doing, same_request, same_gone, woken_waits, Moves, reaches_on, reach, since_on, since_given, since_back}

-- what serving a request has left: of the tree since then, and of the task that makes it, which is not ready
pub record Serving (u : TaskNo) (asked : List Request) (first at s : System) : Type 0 where
  pub since : Since u asked first s
  pub grown : Grown u asked at.shared.tree s.shared.tree
  pub mine : (own_of u s ≡ own_of u at) ⊎ (own_of u s ≡ None)
  pub out : list_any (λ t. is_task t u) s.shared.ready ≡ false

pub back_out : (u v : TaskNo) (s : System) → is_task v u ≡ false → list_any (λ t. is_task t u) s.shared.ready ≡ false
    → list_any (λ t. is_task t u) (back v s).shared.ready ≡ false
back_out u v s other out = by (can_be_ready v s)
  where
    by : (b : Bool) → list_any (λ t. is_task t u) (cond b (on_ready (rotation.at_back v) s) s).shared.ready ≡ false
    by true = none_append (λ t. is_task t u) s.shared.ready v out other
    by false = out

pub woken_out : (u v : TaskNo) (a : Answer) (s : System) → is_task v u ≡ false → list_any (λ t. is_task t u) s.shared.ready ≡ false
    → list_any (λ t. is_task t u) (woken v a s).shared.ready ≡ false
woken_out u v a s other out =
    back_out u v (given v a s) other
    (subst (λ (x : Shared). list_any (λ t. is_task t u) x.ready ≡ false) (sym (shared_changed v (λ (o : Own). with_doing (replied a o.doing) o) s)) out)

-- ---- some that waited get an answer

pub record Pending (u : TaskNo) (asked : List Request) (first s : System) (v : TaskNo) : Type 0 where
  pub other : is_task v u ≡ false
  pub off : Absent v s.shared.waits
  pub request : Request
  pub asks : requested v s ≡ Some request
  pub last : then_asked request no_task.reply ≡ None
  pub reaches : v.0 ≤ first.shared.tree.last → Reaches u v asked first s

module _ (steady : AreSteady) (u : TaskNo) (asked : List Request) (first : System) (is_first : IsTree first.shared.tree) where
  -- one that waited for a message gets an answer, and is ready
  pub since_woken : (v : TaskNo) (a : Answer) (s : System) (q : Request) → Since u asked first s → is_task v u ≡ false → Absent v s.shared.waits
      → requested v s ≡ Some q → then_asked q a.reply ≡ None → (v.0 ≤ first.shared.tree.last → Reaches u v asked first s)
      → Since u asked first (woken v a s)
  since_woken v a s q h other off asks none reaches =
      since_back u asked first is_first v (given v a s)
      (since_given u asked first is_first v a s h other reaches (order_given steady u v a s q h.sound off asks none h.order))
      (subst (λ (x : Shared). Absent v x.waits) (sym (shared_changed v (λ (o : Own). with_doing (replied a o.doing) o) s)) off)
      (free_given steady v a s q asks none)

  -- the others that waited go on waiting for theirs
  pending_on : (v x : TaskNo) (s : System) → Since u asked first s → is_task v x ≡ false → Pending u asked first s x
      → Pending u asked first (woken v no_task s) x
  pending_on v x s h apart p =
      let quiet = quiet_woken v no_task s h.sound in
      record {
        other = p.other;
        off = subst (λ (w : Waits). Absent x w) (sym (woken_waits v no_task s)) p.off;
        request = p.request;
        asks = same_request x s (woken v no_task s) (quiet.others x (turned v x apart)) ∙ p.asks;
        last = p.last;
        reaches = λ low.
            reaches_on u asked first x s (woken v no_task s) is_first h.tree (same_gone s (woken v no_task s) quiet.tree) (p.reaches low);
      }

  all_freed : (us : List TaskNo) (s : System) → Since u asked first s → AreOnce us → AllByRecursion (Pending u asked first s) us
      → Since u asked first (all_woken no_task us s)
  all_freed [] s h once ps = h
  all_freed (v ∷ us) s h once ps =
      all_freed us (woken v no_task s) (since_woken v no_task s ps.0.request h ps.0.other ps.0.off ps.0.asks ps.0.last ps.0.reaches) once.1
      (all_where (is_task v) (Pending u asked first s) (Pending u asked first (woken v no_task s)) (λ x apart p. pending_on v x s h apart p) us once.0 ps.1)

  all_out : (us : List TaskNo) (s : System) → AllByRecursion (λ v. is_task v u ≡ false) us → list_any (λ t. is_task t u) s.shared.ready ≡ false
      → list_any (λ t. is_task t u) (all_woken no_task us s).shared.ready ≡ false
  all_out [] s others out = out
  all_out (v ∷ us) s others out = all_out us (woken v no_task s) others.1 (woken_out u v no_task s others.0 out)

  -- ---- a task is gone

  module _ (w : TaskNo) (at s : System) (is_at : IsTree at.shared.tree) (before : Grown u asked first.shared.tree at.shared.tree) (h : Serving u asked first at s)
      (ends : IsEnded u asked at.shared.tree w) (can : CanEnd w s.shared.tree) where
    -- without it, and nobody waits for it
    abbrev later : System
    later = on_waits (released w) (left w s)

    sound : IsSystem (left w s)
    sound = subst IsSystem (removed_is w s can.live) (removed_sound w s h.since.sound can)

    others : (t : TaskNo) → is_task t w ≡ false → own_of t later ≡ own_of t s
    others t other = ap (own_of t) (sym (removed_is w s can.live)) ∙ removed_others w s h.since.sound can.live t other

    itself : own_of w later ≡ None
    itself = nothing_of w (left w s) (dead w s.shared.tree.tasks)

    absent_gone : (t : TaskNo) → Absent t s.shared.waits → Absent t later.shared.waits
    absent_gone t off = record {
      calls =
          none_filter (λ (c : Caller). is_task c.from t) (λ (c : Caller). not (is_task c.to w)) (rendezvous.left w s.shared.waits).callers
          (none_filter (λ (c : Caller). is_task c.from t) (λ (c : Caller). not (is_task c.from w)) s.shared.waits.callers off.calls);
      waits =
          none_filter (λ (r : Receiver). is_task r.task t) (λ (r : Receiver). not (is_answer w r)) (rendezvous.left w s.shared.waits).receivers
          (none_filter (λ (r : Receiver). is_task r.task t) (λ (r : Receiver). not (is_task r.task w)) s.shared.waits.receivers off.waits);
    }

    order : Order u later
    order = record {
      right =
          right_gone w s.shared.waits s later (λ t other live. same_doing t s later (others t other))
          (λ v other live. lives_on w v s.shared.tree.tasks other live) h.since.order.right;
      calm =
          all_map (λ t. is_waiting t s.shared.waits ≡ false) (λ t. is_waiting t later.shared.waits ≡ false)
          (λ t calm. not_waiting t later.shared.waits (absent_gone t (absent t s.shared.waits calm))) (rotation.without w s.shared.ready)
          (all_filter (λ t. is_waiting t s.shared.waits ≡ false) (λ t. not (is_task t w)) s.shared.ready h.since.order.calm);
      free =
          all_where (λ t. is_task t w) (λ t. IsFree t s) (λ t. IsFree t later)
          (λ t other free. free_on t s later (same_doing t s later (others t other)) free) (rotation.without w s.shared.ready)
          (none_left (λ t. is_task t w) s.shared.ready)
          (all_filter (λ t. IsFree t s) (λ t. not (is_task t w)) s.shared.ready h.since.order.free);
      apart = absent_gone u h.since.order.apart;
    }

    known : AreKnown first.shared.tree.last later.shared.waits
    known = record {
      callers =
          all_filter (λ (c : Caller). c.to.0 ≤ first.shared.tree.last) (λ (c : Caller). not (is_task c.to w)) (rendezvous.left w s.shared.waits).callers
          (all_filter (λ (c : Caller). c.to.0 ≤ first.shared.tree.last) (λ (c : Caller). not (is_task c.from w)) s.shared.waits.callers h.since.known.callers);
      receivers =
          all_filter (λ (r : Receiver). IsKnown first.shared.tree.last r.of) (λ (r : Receiver). not (is_answer w r)) (rendezvous.left w s.shared.waits).receivers
          (all_filter (λ (r : Receiver). IsKnown first.shared.tree.last r.of) (λ (r : Receiver). not (is_task r.task w)) s.shared.waits.receivers
          h.since.known.receivers);
    }

    still : StayGone s later
    still v low none = none_filter (has_number v) (λ x. not (has_number w x)) s.shared.tree.tasks none

    moves : (t : TaskNo) → Moves u asked first t s later
    moves t = by (is_task t w) refl
      where
        by : (b : Bool) → is_task t w ≡ b → Moves u asked first t s later
        by true is = inr (inl (subst (λ (x : TaskNo). own_of x later ≡ None) (sym (same_task t w is)) itself))
        by false is = inl (others t is)

    grown : Grown u asked at.shared.tree later.shared.tree
    grown = grown_ended u asked w at.shared.tree s.shared.tree h.grown ends

    since : Since u asked first later
    since =
        since_on u asked first is_first s later h.since (waits_sound (released w) (left w s) sound)
        (grown_on u asked first.shared.tree at.shared.tree later.shared.tree is_first is_at before grown) still (λ t other low. moves t) order known

    -- ---- those that waited for it

    -- it lived when the turn began
    lived : w.0 ≤ first.shared.tree.last → tree.lives w first.shared.tree ≡ true
    lived low =
        let found = living w s.shared.tree.tasks can.live in
        some_lives w first.shared.tree.tasks found.0 (h.since.tree.old w found.0 low found.1)

    reaches : (v : TaskNo) (q : Request) → requested v s ≡ Some q → called (Some q) ≡ Some w.0 → is_task v u ≡ false → is_task v w ≡ false
        → w.0 ≤ first.shared.tree.last → v.0 ≤ first.shared.tree.last → Reaches u v asked first later
    reaches v q asks names other apart early low =
        reach u asked first v later q (same_request v s later (others v apart) ∙ asks) (since.others v other low)
        (λ asked_first. called_one w (ap called asked_first ∙ names) (lived early) (dead w s.shared.tree.tasks))

    abbrev Waiter : Receiver → Type 0
    Waiter r =
        IsReceiver r s × (is_task r.task u ≡ false) × (is_task r.task w ≡ false) × IsKnown first.shared.tree.last r.of
        × (is_answer w r ≡ true → list_any (λ (x : Receiver). is_task x.task r.task) (answered w (rendezvous.left w s.shared.waits)).receivers ≡ false)

    waiter : (r : Receiver) → Waiter r → is_answer w r ≡ true → Pending u asked first later r.task
    waiter r h' is = by r.of h'.0.waits h'.3 is
      where
        by : (of : Option TaskNo) → WaitsFor r.task of s → IsKnown first.shared.tree.last of → is_from w of ≡ true → Pending u asked first later r.task
        by None asks early e = absurd (false≢true e)
        by (Some v) asks early e =
            let same : v ≡ w = same_task v w e in
            record {
              other = h'.1;
              off = record {
                calls =
                    none_filter (λ (c : Caller). is_task c.from r.task) (λ (c : Caller). not (is_task c.to w)) (rendezvous.left w s.shared.waits).callers
                    (none_filter (λ (c : Caller). is_task c.from r.task) (λ (c : Caller). not (is_task c.from w)) s.shared.waits.callers
                    (receiver_calls_not r.task s.shared.waits s h.since.order.right (Some v) asks));
                waits = h'.4 is;
              };
              request = requests.Answer v.0;
              asks = same_request r.task s later (others r.task h'.2) ∙ asks.0;
              last = refl;
              reaches = λ low.
                  reaches r.task (requests.Answer v.0) asks.0 (ap (λ (x : TaskNo). Some x.0) same) h'.1 h'.2
                  (subst (λ (x : TaskNo). x.0 ≤ first.shared.tree.last) same early) low;
            }

    abbrev CallerOf : Caller → Type 0
    CallerOf c =
        CallsSo s c × (is_task c.from u ≡ false) × (is_task c.from w ≡ false) × (c.to.0 ≤ first.shared.tree.last)
        × (is_task c.to w ≡ true → list_any (λ (x : Caller). is_task x.from c.from) later.shared.waits.callers ≡ false)

    caller : (c : Caller) → CallerOf c → is_task c.to w ≡ true → Pending u asked first later c.from
    caller c h' is =
        let same : c.to ≡ w = same_task c.to w is in
        record {
          other = h'.1;
          off = record {
            calls = h'.4 is;
            waits =
                none_filter (λ (r : Receiver). is_task r.task c.from) (λ (r : Receiver). not (is_answer w r)) (rendezvous.left w s.shared.waits).receivers
                (none_filter (λ (r : Receiver). is_task r.task c.from) (λ (r : Receiver). not (is_task r.task w)) s.shared.waits.receivers
                (caller_waits_not c.from s.shared.waits s h.since.order.right c.to.0 c.code h'.0.0.space h'.0.0.calls));
          };
          request = requests.Call c.to.0 c.code h'.0.0.space;
          asks = same_request c.from s later (others c.from h'.2) ∙ h'.0.0.calls;
          last = refl;
          reaches = λ low.
              reaches c.from (requests.Call c.to.0 c.code h'.0.0.space) h'.0.0.calls (ap (λ (x : TaskNo). Some x.0) same) h'.1 h'.2
              (subst (λ (x : TaskNo). x.0 ≤ first.shared.tree.last) same h'.3) low;
        }

    abbrev receivers : List Receiver
    receivers = filter (λ (r : Receiver). not (is_task r.task w)) s.shared.waits.receivers

    abbrev callers : List Caller
    callers = filter (λ (c : Caller). not (is_task c.from w)) s.shared.waits.callers

    all_waiters : AllByRecursion Waiter receivers
    all_waiters =
        all_map
        (λ (r : Receiver). (IsReceiver r s × (is_task r.task u ≡ false)) × ((is_task r.task w ≡ false) × IsKnown first.shared.tree.last r.of)
        × (is_answer w r ≡ true → list_any (λ (x : Receiver). is_task x.task r.task) (filter (λ (x : Receiver). not (is_answer w x)) receivers) ≡ false))
        Waiter (λ r x. (x.0.0, x.0.1, x.1.0, x.1.1, x.2)) receivers
        (three (λ (r : Receiver). IsReceiver r s × (is_task r.task u ≡ false)) (λ (r : Receiver). (is_task r.task w ≡ false) × IsKnown first.shared.tree.last r.of)
        (λ (r : Receiver). is_answer w r ≡ true → list_any (λ (x : Receiver). is_task x.task r.task) (filter (λ (x : Receiver). not (is_answer w x)) receivers) ≡ false)
        receivers
        (all_filter (λ (r : Receiver). IsReceiver r s × (is_task r.task u ≡ false)) (λ (r : Receiver). not (is_task r.task w)) s.shared.waits.receivers
        (all_both (λ (r : Receiver). IsReceiver r s) (λ (r : Receiver). is_task r.task u ≡ false) s.shared.waits.receivers h.since.order.right.receivers
        (none_all (λ (r : Receiver). is_task r.task u) s.shared.waits.receivers h.since.order.apart.waits)))
        (all_both (λ (r : Receiver). is_task r.task w ≡ false) (λ (r : Receiver). IsKnown first.shared.tree.last r.of) receivers
        (none_all (λ (r : Receiver). is_task r.task w) receivers (none_left (λ (r : Receiver). is_task r.task w) s.shared.waits.receivers))
        (all_filter (λ (r : Receiver). IsKnown first.shared.tree.last r.of) (λ (r : Receiver). not (is_task r.task w)) s.shared.waits.receivers h.since.known.receivers))
        (once_other receiver_number (is_answer w) receivers
        (once_filter receiver_number (λ (r : Receiver). not (is_task r.task w)) s.shared.waits.receivers h.since.order.right.one_wait)))
      where
        three : (P Q R : Receiver → Type 0) (xs : List Receiver) → AllByRecursion P xs → AllByRecursion Q xs → AllByRecursion R xs
            → AllByRecursion (λ x. P x × Q x × R x) xs
        three P Q R [] f g k = tt
        three P Q R (x ∷ xs) f g k = ((f.0, g.0, k.0), three P Q R xs f.1 g.1 k.1)

    all_callers : AllByRecursion CallerOf callers
    all_callers =
        all_map
        (λ (c : Caller). (CallsSo s c × (is_task c.from u ≡ false)) × ((is_task c.from w ≡ false) × (c.to.0 ≤ first.shared.tree.last))
        × (is_task c.to w ≡ true → list_any (λ (x : Caller). is_task x.from c.from) (filter (λ (x : Caller). not (is_task x.to w)) callers) ≡ false))
        CallerOf (λ c x. (x.0.0, x.0.1, x.1.0, x.1.1, x.2)) callers
        (three (λ (c : Caller). CallsSo s c × (is_task c.from u ≡ false)) (λ (c : Caller). (is_task c.from w ≡ false) × (c.to.0 ≤ first.shared.tree.last))
        (λ (c : Caller). is_task c.to w ≡ true → list_any (λ (x : Caller). is_task x.from c.from) (filter (λ (x : Caller). not (is_task x.to w)) callers) ≡ false)
        callers
        (all_filter (λ (c : Caller). CallsSo s c × (is_task c.from u ≡ false)) (λ (c : Caller). not (is_task c.from w)) s.shared.waits.callers
        (all_both (CallsSo s) (λ (c : Caller). is_task c.from u ≡ false) s.shared.waits.callers h.since.order.right.callers
        (none_all (λ (c : Caller). is_task c.from u) s.shared.waits.callers h.since.order.apart.calls)))
        (all_both (λ (c : Caller). is_task c.from w ≡ false) (λ (c : Caller). c.to.0 ≤ first.shared.tree.last) callers
        (none_all (λ (c : Caller). is_task c.from w) callers (none_left (λ (c : Caller). is_task c.from w) s.shared.waits.callers))
        (all_filter (λ (c : Caller). c.to.0 ≤ first.shared.tree.last) (λ (c : Caller). not (is_task c.from w)) s.shared.waits.callers h.since.known.callers))
        (once_other caller_number (λ (c : Caller). is_task c.to w) callers
        (once_filter caller_number (λ (c : Caller). not (is_task c.from w)) s.shared.waits.callers h.since.order.right.one_call)))
      where
        three : (P Q R : Caller → Type 0) (xs : List Caller) → AllByRecursion P xs → AllByRecursion Q xs → AllByRecursion R xs
            → AllByRecursion (λ x. P x × Q x × R x) xs
        three P Q R [] f g k = tt
        three P Q R (x ∷ xs) f g k = ((f.0, g.0, k.0), three P Q R xs f.1 g.1 k.1)

    pending : AllByRecursion (Pending u asked first later) (waiting_for w (rendezvous.left w s.shared.waits))
    pending =
        all_append (Pending u asked first later) (map receiver_number (filter (is_answer w) receivers)) (map caller_number (filter (λ (c : Caller). is_task c.to w) callers))
        (all_mapped (Pending u asked first later) receiver_number (filter (is_answer w) receivers)
        (all_map (λ (r : Receiver). Waiter r × (is_answer w r ≡ true)) (λ (r : Receiver). Pending u asked first later r.task) (λ r x. waiter r x.0 x.1)
        (filter (is_answer w) receivers) (all_passing Waiter (is_answer w) receivers all_waiters)))
        (all_mapped (Pending u asked first later) caller_number (filter (λ (c : Caller). is_task c.to w) callers)
        (all_map (λ (c : Caller). CallerOf c × (is_task c.to w ≡ true)) (λ (c : Caller). Pending u asked first later c.from) (λ c x. caller c x.0 x.1)
        (filter (λ (c : Caller). is_task c.to w) callers) (all_passing CallerOf (λ (c : Caller). is_task c.to w) callers all_callers)))

    -- none of them is there twice
    once : AreOnce (waiting_for w (rendezvous.left w s.shared.waits))
    once =
        once_both (map receiver_number (filter (is_answer w) receivers)) (map caller_number (filter (λ (c : Caller). is_task c.to w) callers))
        (once_filter receiver_number (is_answer w) receivers
        (once_filter receiver_number (λ (r : Receiver). not (is_task r.task w)) s.shared.waits.receivers h.since.order.right.one_wait))
        (once_filter caller_number (λ (c : Caller). is_task c.to w) callers
        (once_filter caller_number (λ (c : Caller). not (is_task c.from w)) s.shared.waits.callers h.since.order.right.one_call))
        (all_mapped (λ t. list_any (is_task t) (map caller_number (filter (λ (c : Caller). is_task c.to w) callers)) ≡ false) receiver_number
        (filter (is_answer w) receivers)
        (all_filter (λ (r : Receiver). list_any (is_task r.task) (map caller_number (filter (λ (c : Caller). is_task c.to w) callers)) ≡ false) (is_answer w) receivers
        (all_filter (λ (r : Receiver). list_any (is_task r.task) (map caller_number (filter (λ (c : Caller). is_task c.to w) callers)) ≡ false)
        (λ (r : Receiver). not (is_task r.task w)) s.shared.waits.receivers
        (all_map (λ (r : Receiver). IsReceiver r s)
        (λ (r : Receiver). list_any (is_task r.task) (map caller_number (filter (λ (c : Caller). is_task c.to w) callers)) ≡ false)
        (λ r waits.
        away caller_number r.task (filter (λ (c : Caller). is_task c.to w) callers)
        (none_filter (λ (c : Caller). is_task c.from r.task) (λ (c : Caller). is_task c.to w) callers
        (none_filter (λ (c : Caller). is_task c.from r.task) (λ (c : Caller). not (is_task c.from w)) s.shared.waits.callers
        (receiver_calls_not r.task s.shared.waits s h.since.order.right r.of waits.waits))))
        s.shared.waits.receivers h.since.order.right.receivers))))

    others_off : AllByRecursion (λ v. is_task v u ≡ false) (waiting_for w (rendezvous.left w s.shared.waits))
    others_off =
        all_map (Pending u asked first later) (λ v. is_task v u ≡ false) (λ v p. p.other) (waiting_for w (rendezvous.left w s.shared.waits)) pending

    mine_stays : own_of u (all_woken no_task (waiting_for w (rendezvous.left w s.shared.waits)) later) ≡ own_of u later
    mine_stays =
        all_woken_others no_task (waiting_for w (rendezvous.left w s.shared.waits)) later since.sound u
        (all_none (λ v. is_task v u) (waiting_for w (rendezvous.left w s.shared.waits)) others_off)

    mine : (own_of u later ≡ own_of u at) ⊎ (own_of u later ≡ None)
    mine = by (is_task u w) refl h.mine
      where
        by : (b : Bool) → is_task u w ≡ b → (own_of u s ≡ own_of u at) ⊎ (own_of u s ≡ None) → (own_of u later ≡ own_of u at) ⊎ (own_of u later ≡ None)
        by true is e = inr (subst (λ (x : TaskNo). own_of x later ≡ None) (sym (same_task u w is)) itself)
        by false is (inl e) = inl (others u is ∙ e)
        by false is (inr e) = inr (others u is ∙ e)

    serving : Serving u asked first at (freed_by w (left w s))
    serving = record {
      since = all_freed (waiting_for w (rendezvous.left w s.shared.waits)) later since once pending;
      grown =
          subst (λ (x : Tree). Grown u asked at.shared.tree x)
          (sym (all_woken_tree no_task (waiting_for w (rendezvous.left w s.shared.waits)) later since.sound)) grown;
      mine = by mine;
      out =
          all_out (waiting_for w (rendezvous.left w s.shared.waits)) later others_off
          (none_filter (λ t. is_task t u) (λ t. not (is_task t w)) s.shared.ready h.out);
    }
      where
        by : (own_of u later ≡ own_of u at) ⊎ (own_of u later ≡ None)
            → (own_of u (freed_by w (left w s)) ≡ own_of u at) ⊎ (own_of u (freed_by w (left w s)) ≡ None)
        by (inl e) = inl (mine_stays ∙ e)
        by (inr e) = inr (mine_stays ∙ e)

    pub gone_serving : Serving u asked first at (freed_by w (removed w s))
    gone_serving = subst (λ (x : System). Serving u asked first at (freed_by w x)) (sym (removed_is w s can.live)) serving
