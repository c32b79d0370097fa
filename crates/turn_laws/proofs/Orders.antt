-- Those that wait, and those that are ready, where a task does something else.
use Rattle.std.proofs.Common.{◌≡◌, ℕ, ◌+◌, ◌-◌, Bool, true, false, cond, List, [], ◌∷◌, Option, Some, None}
use Rattle.std.proofs.Common.{refl, sym, ap, ◌∙◌, subst, ◌⊎◌, inl, inr, arith}
use Rattle.std.specs.Prelude.{ℤ, option_map, option_and_then}
use Rattle.std.specs.List.{AllByRecursion, list_any}
use Rattle.std.proofs.lemmas.List.Elements.{recursion_from_All}
use Rattle.std.proofs.lemmas.Option.{none-some, same_Some}
use Rattle.turn_laws.specs.Below.task_numbers.specs.declared.number.TaskNo.{TaskNo}
use Rattle.turn_laws.specs.Below.task_numbers.specs.Numbers.{is_task}
use Rattle.eu_base.specs.declared.request.Request.{Request}
use Rattle.eu_base.specs.declared.request.Request.TheVariants as requests
use Rattle.eu_base.specs.declared.request.Reply.TheVariants as replies
use Rattle.eu_base.specs.DataSpaces.{heads_of, without_space}
use Rattle.eu_base.specs.SpaceOperations.{room_refusal}
use Rattle.eu_base.specs.Requests.{Answer, plain, then_asked}
use Rattle.elan_types.specs.Eval.{World, after_answer}
use Rattle.elan_types.specs.Command.{Ending, Ended, Stopped, OutOfMarks, Asks, evaluate}
use Rattle.turn_laws.specs.Below.task_tree.specs.Tree as tree
use Rattle.turn_laws.specs.Below.slicer.specs.Rotation as rotation
use Rattle.turn_laws.specs.Below.message_wait.specs.Rendezvous.{Waits, is_waiting}
use Rattle.system_meaning.specs.Tasks.{Command, Doing, Idle, Entering, Running, Own, ending, world_of, spent, request_in, request_of, with_reply, with_reply_to, replied, command_of, with_doing}
use Rattle.system_meaning.specs.Systems.{Shared, System, own, doing, requested, kept, kept_by, command, changed, does, given, on_ready, back, can_be_ready}
use Rattle.system_meaning.specs.Serving.{space_number, number}
use Rattle.system_meaning.specs.Whole.{IsSystem, IsReceiver}
use Rattle.turn_laws.specs.Steady.{AreSteady}
use Rattle.turn_laws.specs.Waits.{AsksNoAnswer, IsFree, AreOrderly, AsksAnswer}
use Rattle.turn_laws.proofs.Found.{same_task, place_in, own_found, changed_owns, changed_is, other_found}
use Rattle.turn_laws.proofs.Steps.{own_changed, tree_changed}
use Rattle.turn_laws.proofs.Lists.{all_map, all_where, all_both, all_append}
use Rattle.turn_laws.proofs.Rights.{Right, right_in, AreCalm, waits_of, rooms_of, Absent, absent, not_waiting, Others, LiveOn, right_on}

-- those that wait do so rightly, none that is ready waits or asks for an answer, and this task does not wait
pub record OrderOf (u : TaskNo) (w : Waits) (ready : List TaskNo) (s : System) : Type 0 where
  pub right : Right w s
  pub calm : AreCalm w ready
  pub free : AllByRecursion (λ t. IsFree t s) ready
  pub apart : Absent u w

abbrev pub Order : TaskNo → System → Type 0
Order u s = OrderOf u s.shared.waits s.shared.ready s

pub orderly : (u : TaskNo) (s : System) → Order u s → AreOrderly s
orderly u s h = record { waits = waits_of s h.right h.calm; rooms = rooms_of s h.right; free = h.free }

pub order_in : (u : TaskNo) (s : System) → AreOrderly s → is_waiting u s.shared.waits ≡ false → Order u s
order_in u s h apart = record {
  right = right_in s h.waits h.rooms;
  calm = h.waits.calm;
  free = h.free;
  apart = absent u s.shared.waits apart;
}

-- ---- steps

-- one is not ready, or asks for no answer
abbrev pub OrFree : TaskNo → List TaskNo → System → Type 0
OrFree v ready s = (list_any (λ t. is_task t v) ready ≡ false) ⊎ IsFree v s

pub free_on : (t : TaskNo) (s later : System) → doing t later ≡ doing t s → IsFree t s → IsFree t later
free_on t s later same h = λ c is. h c (sym (ap (option_and_then command_of) same) ∙ is)

ready_free : (v : TaskNo) (ready : List TaskNo) (s later : System) → Others v s later → AllByRecursion (λ t. tree.lives t s.shared.tree ≡ true) ready
    → OrFree v ready later → AllByRecursion (λ t. IsFree t s) ready → AllByRecursion (λ t. IsFree t later) ready
ready_free v ready s later same live (inl out) h =
    all_where (λ t. is_task t v) (λ t. (tree.lives t s.shared.tree ≡ true) × IsFree t s) (λ t. IsFree t later)
    (λ t other both. free_on t s later (same t other both.0) both.1) ready out
    (all_both (λ t. tree.lives t s.shared.tree ≡ true) (λ t. IsFree t s) ready live h)
ready_free v ready s later same live (inr free) h =
    all_map (λ t. (tree.lives t s.shared.tree ≡ true) × IsFree t s) (λ t. IsFree t later) (λ t both. by t (is_task t v) refl both) ready
    (all_both (λ t. tree.lives t s.shared.tree ≡ true) (λ t. IsFree t s) ready live h)
  where
    by : (t : TaskNo) (b : Bool) → is_task t v ≡ b → (tree.lives t s.shared.tree ≡ true) × IsFree t s → IsFree t later
    by t true is both = subst (λ (x : TaskNo). IsFree x later) (sym (same_task t v is)) free
    by t false other both = free_on t s later (same t other both.0) both.1

pub ready_live : (s : System) → IsSystem s → AllByRecursion (λ t. tree.lives t s.shared.tree ≡ true) s.shared.ready
ready_live s is = recursion_from_All (λ (u : TaskNo). tree.lives u s.shared.tree ≡ true) s.shared.ready is.live

-- another that does not wait does something else
pub order_on : (u v : TaskNo) (w : Waits) (ready : List TaskNo) (s later : System) → Absent v w → Others v s later → LiveOn s later
    → AllByRecursion (λ t. tree.lives t s.shared.tree ≡ true) ready → OrFree v ready later → OrderOf u w ready s → OrderOf u w ready later
order_on u v w ready s later off same alive live free h = record {
  right = right_on v w s later off same alive h.right;
  calm = h.calm;
  free = ready_free v ready s later same live free h.free;
  apart = h.apart;
}

-- what tasks do is the same
pub order_same : (u : TaskNo) (w : Waits) (ready : List TaskNo) (s later : System) → ((t : TaskNo) → doing t later ≡ doing t s) → LiveOn s later
    → OrderOf u w ready s → OrderOf u w ready later
order_same u w ready s later same alive h = record {
  right = right_on u w s later h.apart (λ t other live. same t) alive h.right;
  calm = h.calm;
  free = all_map (λ t. IsFree t s) (λ t. IsFree t later) (λ t free. free_on t s later (same t) free) ready h.free;
  apart = h.apart;
}

pub own_beside : (t u : TaskNo) (f : Own → Own) (s : System) → is_task t u ≡ false → own t (changed u f s) ≡ own t s
own_beside t u f s other =
    ap (own t) (changed_is u f s)
    ∙ (own_found t (record s { owns = changed_owns (place_in u s.shared.tree.tasks) f s.owns })
    ∙ (other_found t u other f s.shared.tree.tasks s.owns ∙ sym (own_found t s)))

pub shared_changed : (u : TaskNo) (f : Own → Own) (s : System) → (changed u f s).shared ≡ s.shared
shared_changed u f s = ap (λ (later : System). later.shared) (changed_is u f s)

pub others_changed : (u : TaskNo) (f : Own → Own) (s : System) → Others u s (changed u f s)
others_changed u f s = λ t other live. ap (option_map (λ (o : Own). o.doing)) (own_beside t u f s other)

pub live_changed : (u : TaskNo) (f : Own → Own) (s : System) → LiveOn s (changed u f s)
live_changed u f s = λ t live. ap (tree.lives t) (tree_changed u f s) ∙ live

pub order_changed : (u v : TaskNo) (f : Own → Own) (s : System) → IsSystem s → Absent v s.shared.waits → OrFree v s.shared.ready (changed v f s) → Order u s
    → Order u (changed v f s)
order_changed u v f s is off free h =
    subst (λ (x : Shared). OrderOf u x.waits x.ready (changed v f s)) (sym (shared_changed v f s))
    (order_on u v s.shared.waits s.shared.ready s (changed v f s) off (others_changed v f s) (live_changed v f s) (ready_live s is) free h)

pub order_back : (u v : TaskNo) (s : System) → Absent v s.shared.waits → IsFree v s → Order u s → Order u (back v s)
order_back u v s off free h = by (can_be_ready v s)
  where
    by : (b : Bool) → Order u (cond b (on_ready (rotation.at_back v) s) s)
    by true =
        order_same u s.shared.waits (rotation.at_back v s.shared.ready) s (on_ready (rotation.at_back v) s) (λ t. refl) (λ t live. live)
        (record {
          right = h.right;
          calm = all_append (λ t. is_waiting t s.shared.waits ≡ false) s.shared.ready (v ∷ []) h.calm (not_waiting v s.shared.waits off, tt);
          free = all_append (λ t. IsFree t s) s.shared.ready (v ∷ []) h.free (free, tt);
          apart = h.apart;
        })
    by false = h

-- ---- what a task asks

pub record AsksNow (v : TaskNo) (s : System) (q : Request) : Type 0 where
  pub now : Own
  pub command : Command
  pub world : World
  pub has : own v s ≡ Some now
  pub does : now.doing ≡ Running command
  pub asks : ending command 0 ≡ Asks q world

asks_in : (e : Ending) (q : Request) → request_in e ≡ Some q → (w : World) × (e ≡ Asks q w)
asks_in (Ended w) q is = absurd (none-some q is)
asks_in (Stopped stop w) q is = absurd (none-some q is)
asks_in (OutOfMarks w) q is = absurd (none-some q is)
asks_in (Asks r w) q is = (w, ap (λ (x : Request). Asks x w) (same_Some r q is))

pub asks_now : (v : TaskNo) (s : System) (q : Request) → requested v s ≡ Some q → AsksNow v s q
asks_now v s q is = by (own v s) refl is
  where
    at : (o : Own) → own v s ≡ Some o → (d : Doing) → o.doing ≡ d → request_of d ≡ Some q → AsksNow v s q
    at o has (Idle store) does is = absurd (none-some q is)
    at o has (Entering name lines store) does is = absurd (none-some q is)
    at o has (Running c) does is =
        let asks = asks_in (ending c 0) q is in
        record { now = o; command = c; world = asks.0; has = has; does = does; asks = asks.1 }

    by : (p : Option Own) → own v s ≡ p → option_and_then request_of (option_map (λ (o : Own). o.doing) p) ≡ Some q → AsksNow v s q
    by None has is = absurd (none-some q is)
    by (Some o) has is = at o has o.doing refl is

pub doing_now : (v : TaskNo) (s : System) (q : Request) (n : AsksNow v s q) → doing v s ≡ Some (Running n.command)
doing_now v s q n = ap (option_map (λ (o : Own). o.doing)) n.has ∙ ap (λ (d : Doing). Some d) n.does

-- its data spaces are those of the world in which it asks
pub spaces_asking : (v : TaskNo) (s : System) (c : Command) (q : Request) (w : World) → doing v s ≡ Some (Running c) → ending c 0 ≡ Asks q w
    → (kept v s).spaces ≡ w.spaces
spaces_asking v s c q w does asks = ap (λ (d : Option Doing). (kept_by d).spaces) does ∙ ap (λ (e : Ending). (world_of e).spaces) asks

-- it gets an answer
pub doing_given : (v : TaskNo) (a : Answer) (s : System) (q : Request) (n : AsksNow v s q) → doing v (given v a s) ≡ Some (Running (with_reply a n.command))
doing_given v a s q n =
    ap (option_map (λ (o : Own). o.doing)) (own_changed v (λ (o : Own). with_doing (replied a o.doing) o) s)
    ∙ (ap (λ (p : Option Own). option_map (λ (o : Own). o.doing) (option_map (λ (o : Own). with_doing (replied a o.doing) o) p)) n.has
    ∙ (ap (λ (d : Doing). Some (replied a d)) n.does
    ∙ ap (λ (o : Option Request). Some (with_reply_to o a (Running n.command))) (ap request_in n.asks)))

module _ (steady : AreSteady) where
  -- with one that no request follows it asks for no answer
  pub free_given : (v : TaskNo) (a : Answer) (s : System) (q : Request) → requested v s ≡ Some q → then_asked q a.reply ≡ None → IsFree v (given v a s)
  free_given v a s q is none = λ c at.
      subst AsksNoAnswer (same_Some (with_reply a n.command) c (sym (ap (option_and_then command_of) (doing_given v a s q n)) ∙ at))
      (λ k of w e.
      (steady n.command.unit.core n.command.before.variables n.command.before.spaces).later (n.command.marks + 0) k n.command.replies q n.world a of w n.asks none e)
    where
      n : AsksNow v s q
      n = asks_now v s q is

  -- one that does not wait gets such an answer, and is ready
  pub order_given : (u v : TaskNo) (a : Answer) (s : System) (q : Request) → IsSystem s → Absent v s.shared.waits → requested v s ≡ Some q
      → then_asked q a.reply ≡ None → Order u s → Order u (given v a s)
  order_given u v a s q is off asks none h =
      order_changed u v (λ (o : Own). with_doing (replied a o.doing) o) s is off (inr (free_given v a s q asks none)) h

  pub order_woken : (u v : TaskNo) (a : Answer) (s : System) (q : Request) → IsSystem s → Absent v s.shared.waits → requested v s ≡ Some q
      → then_asked q a.reply ≡ None → Order u s → Order u (back v (given v a s))
  order_woken u v a s q is off asks none h =
      order_back u v (given v a s)
      (subst (λ (x : Shared). Absent v x.waits) (sym (shared_changed v (λ (o : Own). with_doing (replied a o.doing) o) s)) off)
      (free_given v a s q asks none)
      (order_given u v a s q is off asks none h)

  -- ---- a call whose message was taken asks for the answer of the one that took it

  module _ (v : TaskNo) (s : System) (to : ℕ) (code : ℤ) (space : ℕ) (is : requested v s ≡ Some (requests.Call to code space)) where
    n : AsksNow v s (requests.Call to code space)
    n = asks_now v s (requests.Call to code space) is

    asks_then : ending (with_reply (plain replies.Taken) n.command) 0
        ≡ Asks (requests.Answer to) (after_answer (requests.Call to code space) (plain replies.Taken) [] n.world)
    asks_then =
        (steady n.command.unit.core n.command.before.variables n.command.before.spaces).next (n.command.marks + 0) n.command.replies
        (requests.Call to code space) n.world (plain replies.Taken) (requests.Answer to) n.asks refl

    does_then : doing v (given v (plain replies.Taken) s) ≡ Some (Running (with_reply (plain replies.Taken) n.command))
    does_then = doing_given v (plain replies.Taken) s (requests.Call to code space) n

    pub asks_answer : requested v (given v (plain replies.Taken) s) ≡ Some (requests.Answer to)
    asks_answer = ap (option_and_then request_of) does_then ∙ ap request_in asks_then

    pub room_then : room_refusal (heads_of (without_space (space_number space) (kept v s).spaces)) ≡ None
        → room_refusal (heads_of (kept v (given v (plain replies.Taken) s)).spaces) ≡ None
    room_then room =
        ap (λ spaces. room_refusal (heads_of spaces))
        (spaces_asking v (given v (plain replies.Taken) s) (with_reply (plain replies.Taken) n.command) (requests.Answer to)
        (after_answer (requests.Call to code space) (plain replies.Taken) [] n.world) does_then asks_then)
        ∙ (ap (λ spaces. room_refusal (heads_of (without_space (space_number space) spaces)))
        (sym (spaces_asking v s n.command (requests.Call to code space) n.world (doing_now v s (requests.Call to code space) n) n.asks))
        ∙ room)

    -- it waits for that
    pub receives : tree.lives (number to) s.shared.tree ≡ true → room_refusal (heads_of (without_space (space_number space) (kept v s).spaces)) ≡ None
        → IsReceiver (record { task = v; of = Some (number to) }) (given v (plain replies.Taken) s)
    receives live room = record {
      waits = (asks_answer, live_changed v (λ (o : Own). with_doing (replied (plain replies.Taken) o.doing) o) s (number to) live);
      room = room_then room;
    }

    -- and asks in its turn
    pub may_answer : tree.lives (number to) s.shared.tree ≡ true → room_refusal (heads_of (without_space (space_number space) (kept v s).spaces)) ≡ None
        → (c : Command) → command v (given v (plain replies.Taken) s) ≡ Some c → AsksAnswer v c (given v (plain replies.Taken) s)
    may_answer live room = λ c at.
        subst (λ (x : Command). AsksAnswer v x (given v (plain replies.Taken) s))
        (same_Some (with_reply (plain replies.Taken) n.command) c (sym (ap (option_and_then command_of) does_then) ∙ at))
        (record {
          of = to;
          world = after_answer (requests.Call to code space) (plain replies.Taken) [] n.world;
          asks = asks_then;
          alive = live_changed v (λ (o : Own). with_doing (replied (plain replies.Taken) o.doing) o) s (number to) live;
          room = room_then room;
        })

  -- ---- a task is evaluated

  module _ (c : Command) (left : ℕ) where
    -- with the marks that were spent it asks the same
    pub asks_spent : (q : Request) (w : World) → ending c left ≡ Asks q w → ending (spent left w c) 0 ≡ Asks q (record w { marks = 0 })
    asks_spent q w e =
        let same : (c.marks + left) - w.marks + 0 ≡ (c.marks + left) - w.marks = omega arith in
        ap (λ k. evaluate c.unit.core c.before.variables c.before.spaces k c.replies) same
        ∙ (steady c.unit.core c.before.variables c.before.spaces).less (c.marks + left) c.replies q w e

    -- with more marks it asks the same
    pub asks_more : (q : Request) (w : World) → ending c 0 ≡ Asks q w → ending c left ≡ Asks q (record w { marks = w.marks + left })
    asks_more q w e =
        let same : c.marks + left ≡ c.marks + 0 + left = omega arith in
        ap (λ k. evaluate c.unit.core c.before.variables c.before.spaces k c.replies) same
        ∙ (steady c.unit.core c.before.variables c.before.spaces).more (c.marks + 0) left c.replies q w e
