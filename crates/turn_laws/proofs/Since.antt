-- What a turn of a task has left of the others since it began.
use Rattle.std.proofs.Common.{◌≡◌, ℕ, ◌≤◌, Bool, true, false, List, Option, Some, None}
use Rattle.std.proofs.Common.{refl, sym, ap, ◌∙◌, subst, ◌⊎◌, inl, inr, cond, arith}
use Rattle.std.specs.Prelude.{option_map, option_and_then}
use Rattle.std.specs.List.{AllByRecursion}
use Rattle.std.proofs.lemmas.Option.{none-some}
use Rattle.turn_laws.specs.Below.task_numbers.specs.declared.number.TaskNo.{TaskNo}
use Rattle.turn_laws.specs.Below.task_numbers.specs.Numbers.{is_task}
use Rattle.eu_base.specs.declared.request.Request.{Request}
use Rattle.eu_base.specs.Requests.{Answer}
use Rattle.turn_laws.specs.Below.message_wait.specs.declared.waits.Caller.{Caller}
use Rattle.turn_laws.specs.Below.message_wait.specs.declared.waits.Receiver.{Receiver}
use Rattle.turn_laws.specs.Below.message_wait.specs.Rendezvous.{Waits}
use Rattle.turn_laws.specs.Below.task_tree.specs.Tree as tree
use Rattle.turn_laws.specs.Below.task_tree.specs.Tree.{Tree}
use Rattle.turn_laws.specs.Below.task_tree.specs.Trees.{IsTree}
use Rattle.turn_laws.specs.Below.slicer.specs.Rotation as rotation
use Rattle.system_meaning.specs.Tasks.{Own, request_of, with_doing, replied}
use Rattle.system_meaning.specs.Systems.{Shared, System, own, doing, requested, given, woken, back, can_be_ready, on_ready, on_waits}
use Rattle.system_meaning.specs.Whole.{IsSystem}
use Rattle.turn_laws.specs.Own.{own_of}
use Rattle.turn_laws.specs.Others.{Reaches, sends, called_it, called_one}
use Rattle.turn_laws.specs.Waits.{AreOrderly, IsFree}
use Rattle.turn_laws.proofs.Found.{same_task}
use Rattle.turn_laws.proofs.Finding.{living}
use Rattle.turn_laws.proofs.Trees.{Grown, numbered}
use Rattle.turn_laws.proofs.Steps.{own_in, none_of, Quiet, quiet_back, quiet_given, waits_sound}
use Rattle.turn_laws.proofs.Rights.{Absent}
use Rattle.turn_laws.proofs.Orders.{OrderOf, Order, orderly, order_same, order_back, shared_changed}

-- the tasks that are named by those that wait have numbers that were given
abbrev pub IsKnown : ℕ → Option TaskNo → Type 0
IsKnown last None = Unit {0}
IsKnown last (Some v) = v.0 ≤ last

pub record AreKnown (last : ℕ) (w : Waits) : Type 0 where
  pub callers : AllByRecursion (λ (c : Caller). c.to.0 ≤ last) w.callers
  pub receivers : AllByRecursion (λ (r : Receiver). IsKnown last r.of) w.receivers

-- a task has what it had, or is gone, or the turn reached it
pub data Lasts (u t : TaskNo) (asked : List Request) (first s : System) : Type 0 where
  stays : own_of t s ≡ own_of t first → Lasts u t asked first s
  gone : own_of t s ≡ None → Lasts u t asked first s
  reached : Reaches u t asked first s → Lasts u t asked first s

-- what a turn of u has left since it began, and those that wait do so rightly
pub record Since (u : TaskNo) (asked : List Request) (first s : System) : Type 0 where
  pub sound : IsSystem s
  pub tree : Grown u asked first.shared.tree s.shared.tree
  pub others : (t : TaskNo) → is_task t u ≡ false → t.0 ≤ first.shared.tree.last → Lasts u t asked first s
  pub order : Order u s
  pub known : AreKnown first.shared.tree.last s.shared.waits

-- and where it is over
pub record Over (u : TaskNo) (asked : List Request) (first s : System) : Type 0 where
  pub sound : IsSystem s
  pub tree : Grown u asked first.shared.tree s.shared.tree
  pub others : (t : TaskNo) → is_task t u ≡ false → t.0 ≤ first.shared.tree.last → Lasts u t asked first s
  pub orderly : AreOrderly s

pub over : (u : TaskNo) (asked : List Request) (first s : System) → Since u asked first s → Over u asked first s
over u asked first s h = record { sound = h.sound; tree = h.tree; others = h.others; orderly = orderly u s h.order }

pub same_doing : (t : TaskNo) (s later : System) → own_of t later ≡ own_of t s → doing t later ≡ doing t s
same_doing t s later e = ap (option_map (λ (o : Own). o.doing)) (own_in t s later e)

pub same_request : (t : TaskNo) (s later : System) → own_of t later ≡ own_of t s → requested t later ≡ requested t s
same_request t s later e = ap (option_and_then request_of) (same_doing t s later e)

pub nothing_own : (t : TaskNo) (s : System) → own_of t s ≡ None → own t s ≡ None
nothing_own t s e = none_of (tree.name t s.shared.tree) s.shared.library (own t s) e

pub back_waits : (v : TaskNo) (s : System) → (back v s).shared.waits ≡ s.shared.waits
back_waits v s = by (can_be_ready v s)
  where
    by : (b : Bool) → (cond b (on_ready (rotation.at_back v) s) s).shared.waits ≡ s.shared.waits
    by true = refl
    by false = refl

pub woken_waits : (v : TaskNo) (a : Answer) (s : System) → (woken v a s).shared.waits ≡ s.shared.waits
woken_waits v a s = back_waits v (given v a s) ∙ ap (λ (x : Shared). x.waits) (shared_changed v (λ (o : Own). with_doing (replied a o.doing) o) s)

-- those that are gone do not come again
abbrev pub StayGone : System → System → Type 0
StayGone s later = (v : TaskNo) → v.0 ≤ s.shared.tree.last → tree.lives v s.shared.tree ≡ false → tree.lives v later.shared.tree ≡ false

pub same_gone : (s later : System) → later.shared.tree ≡ s.shared.tree → StayGone s later
same_gone s later e = λ v low dead. ap (tree.lives v) e ∙ dead

module _ (u : TaskNo) (asked : List Request) (first : System) where
  -- what becomes of another in a step
  abbrev pub Moves : TaskNo → System → System → Type 0
  Moves t s later = (own_of t later ≡ own_of t s) ⊎ ((own_of t later ≡ None) ⊎ Reaches u t asked first later)

  pub reaches_on : (t : TaskNo) (s later : System) → IsTree first.shared.tree → Grown u asked first.shared.tree s.shared.tree → StayGone s later → Reaches u t asked first s
      → Reaches u t asked first later
  reaches_on t s later is grown still (sends e) = sends e
  reaches_on t s later is grown still (called_it e) = called_it e
  reaches_on t s later is grown still (called_one v e live dead) =
      let found = living v first.shared.tree.tasks live in
      let low = (numbered first.shared.tree v found.0 is found.1).given in
      let more = grown.last in
      called_one v e live (still v (omega (arith, low, more)) dead)

  pub lasts_on : (t : TaskNo) (s later : System) → IsTree first.shared.tree → Grown u asked first.shared.tree s.shared.tree → StayGone s later → Lasts u t asked first s
      → Moves t s later → Lasts u t asked first later
  lasts_on t s later is grown still (stays a) (inl e) = stays (e ∙ a)
  lasts_on t s later is grown still (gone a) (inl e) = gone (e ∙ a)
  lasts_on t s later is grown still (reached r) (inl e) = reached (reaches_on t s later is grown still r)
  lasts_on t s later is grown still h (inr (inl none)) = gone none
  lasts_on t s later is grown still h (inr (inr r)) = reached r

  -- what a task asks now that was not reached it asked when the turn began
  pub reach : (v : TaskNo) (s : System) (q : Request) → requested v s ≡ Some q → Lasts u v asked first s
      → (requested v first ≡ Some q → Reaches u v asked first s) → Reaches u v asked first s
  reach v s q is (stays e) new = new (sym (same_request v first s e) ∙ is)
  reach v s q is (gone e) new = absurd (none-some q (sym (ap (λ (p : Option Own). option_and_then request_of (option_map (λ (o : Own). o.doing) p)) (nothing_own v s e)) ∙ is))
  reach v s q is (reached r) new = r

  module _ (is_first : IsTree first.shared.tree) where
    pub since_on : (s later : System) → Since u asked first s → IsSystem later → Grown u asked first.shared.tree later.shared.tree → StayGone s later
        → ((t : TaskNo) → is_task t u ≡ false → t.0 ≤ first.shared.tree.last → Moves t s later) → Order u later
        → AreKnown first.shared.tree.last later.shared.waits → Since u asked first later
    since_on s later h sound grown still moves order known = record {
      sound = sound;
      tree = grown;
      others = λ t other low. lasts_on t s later is_first h.tree still (h.others t other low) (moves t other low);
      order = order;
      known = known;
    }

    -- the tree and what the others have stay
    pub since_quiet : (s later : System) → Since u asked first s → Quiet u s later → Order u later → later.shared.waits ≡ s.shared.waits
        → Since u asked first later
    since_quiet s later h quiet order same =
        since_on s later h quiet.sound (subst (λ (x : Tree). Grown u asked first.shared.tree x) (sym quiet.tree) h.tree) (same_gone s later quiet.tree)
        (λ t other low. inl (quiet.others t other)) order (subst (AreKnown first.shared.tree.last) (sym same) h.known)

    -- fewer wait, or others
    pub since_waits : (f : Waits → Waits) (s : System) → Since u asked first s → OrderOf u (f s.shared.waits) s.shared.ready s
        → AreKnown first.shared.tree.last (f s.shared.waits) → Since u asked first (on_waits f s)
    since_waits f s h order known =
        since_on s (on_waits f s) h (waits_sound f s h.sound) h.tree (λ v low dead. dead) (λ t other low. inl refl)
        (order_same u (f s.shared.waits) s.shared.ready s (on_waits f s) (λ t. refl) (λ t live. live) order) known

    -- another that was reached gets an answer
    pub since_given : (v : TaskNo) (a : Answer) (s : System) → Since u asked first s → is_task v u ≡ false
        → (v.0 ≤ first.shared.tree.last → Reaches u v asked first s) → Order u (given v a s) → Since u asked first (given v a s)
    since_given v a s h other reaches order =
        since_on s later h quiet.sound (subst (λ (x : Tree). Grown u asked first.shared.tree x) (sym quiet.tree) h.tree) (same_gone s later quiet.tree)
        moves order
        (subst (λ (x : Shared). AreKnown first.shared.tree.last x.waits) (sym (shared_changed v (λ (o : Own). with_doing (replied a o.doing) o) s)) h.known)
      where
        later : System
        later = given v a s

        quiet : Quiet v s (given v a s)
        quiet = quiet_given v a s h.sound

        moves : (t : TaskNo) → is_task t u ≡ false → t.0 ≤ first.shared.tree.last → Moves t s (given v a s)
        moves t apart low = by (is_task t v) refl
          where
            by : (b : Bool) → is_task t v ≡ b → Moves t s (given v a s)
            by true is =
                inr (inr (reaches_on t s (given v a s) is_first h.tree (same_gone s (given v a s) quiet.tree)
                (subst (λ (x : TaskNo). Reaches u x asked first s) (sym (same_task t v is))
                (reaches (subst (λ (x : TaskNo). x.0 ≤ first.shared.tree.last) (same_task t v is) low)))))
            by false is = inl (quiet.others t is)

    pub since_back : (v : TaskNo) (s : System) → Since u asked first s → Absent v s.shared.waits → IsFree v s → Since u asked first (back v s)
    since_back v s h off free =
        since_quiet s (back v s) h (quiet_back u v s h.sound) (order_back u v s off free h.order) (back_waits v s)
