-- What comes of a request.
use Rattle.std.specs.Prelude.{◌≡◌, Bool, true, false, Option, Some, None, option_map}
use Rattle.task_numbers.specs.declared.number.TaskNo.{TaskNo}
use Rattle.eu_base.specs.declared.request.Request.{Request}
use Rattle.eu_base.specs.declared.request.Request.TheVariants as requests
use Rattle.eu_base.specs.declared.request.Reply.{Reply}
use Rattle.eu_base.specs.Requests.{plain}
use Rattle.task_requests.specs.Below.message_wait.specs.Rendezvous.{is_waiting}
use Rattle.task_requests.specs.Below.task_tree.specs.Tree.{lives}
use Rattle.task_requests.specs.Below.system_meaning.specs.Serving.{Served, Replies, Rests}
use Rattle.task_requests.specs.Below.system_meaning.specs.Systems.{System, requested, on_system, given}
use Rattle.task_requests.specs.Below.system_meaning.specs.Whole.{AreWaits}
use Rattle.live_system.specs.Machines.{Machine, StandsAt}

-- a request about messages
abbrev pub is_about_message : Request → Bool
is_about_message (requests.Send to code space) = true
is_about_message requests.Wait = true
is_about_message (requests.Call to code space) = true
is_about_message (requests.Answer of) = true
is_about_message _ = false

-- A task lives and asks this. It is not among those that wait for messages, and these are as they should be.
pub record IsAsking (t : TaskNo) (q : Request) (s : System) : Type 0 where
  pub live : lives t s.shared.tree ≡ true
  pub asks : requested t s ≡ Some q
  pub free : is_waiting t s.shared.waits ≡ false
  pub waits : AreWaits s

-- of a request that is about no message: the reply, or none where the task rests, and the machine after it
abbrev pub ServedAs : Served → Machine → Option Reply → Type 0
ServedAs (Replies a m) new reply = (option_map plain reply ≡ Some a) × StandsAt new m
ServedAs (Rests m) new reply = (reply ≡ None) × StandsAt new m

-- of any request: whether the task goes on, and the machine after it, where the task has its answer
abbrev pub GoesAs : TaskNo → Served → Machine → Bool → Type 0
GoesAs t (Replies a m) new goes = (goes ≡ true) × StandsAt new (on_system (given t a) m)
GoesAs t (Rests m) new goes = (goes ≡ false) × StandsAt new m
