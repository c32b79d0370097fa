-- How requests are served.
use Rattle.std.specs.Prelude.{ℕ, ℤ, negsuc, Bool, true, false, not, ◌&&◌, ◌||◌, List, [], ◌∷◌, Option, Some, None, if◌then◌else◌}
use Rattle.std.specs.List.{list_any}
use Rattle.system_meaning.specs.Below.task_numbers.specs.declared.number.TaskNo.{TaskNo}
use Rattle.system_meaning.specs.Below.task_numbers.specs.Numbers.{is_task}
use Rattle.eu_base.specs.declared.stop.Stop.{Stop}
use Rattle.eu_base.specs.declared.stop.Stop.TheVariants.{BadName, NotInserted, NoRight, NoSpace}
use Rattle.eu_base.specs.declared.request.Request.{Request}
use Rattle.eu_base.specs.declared.request.Request.TheVariants.{Out, Input, Begin, End, Myself, Father, Son, Brother, Named, Name, Exists, Break, Send, Wait, Call}
use Rattle.eu_base.specs.declared.request.Request.TheVariants as requests
use Rattle.eu_base.specs.declared.request.Reply.{Reply}
use Rattle.eu_base.specs.declared.request.Reply.TheVariants.{Done, Text, Stopped, Taken, Receipt, Message}
use Rattle.eu_base.specs.declared.request.Reply.TheVariants as replies
use Rattle.eu_base.specs.Values.{SpaceNo}
use Rattle.eu_base.specs.DataSpaces.{Space, heads_of, is_live, the_space, without_space, next_number}
use Rattle.eu_base.specs.SpaceOperations.{room_refusal}
use Rattle.eu_base.specs.Requests.{Answer, plain}
use Rattle.message_wait.specs.declared.waits.Caller.{Caller}
use Rattle.message_wait.specs.declared.waits.Offer.{Offer}
use Rattle.message_wait.specs.declared.waits.Offer.TheVariants as offers
use Rattle.message_wait.specs.Rendezvous as waits
use Rattle.task_tree.specs.Tree as tree
use Rattle.task_tree.specs.Families.{family}
use Rattle.terminals.specs.Channels as channels
use Rattle.units.specs.declared.unit.Compiled.{Compiled}
use Rattle.units.specs.Library.{started_at}
use Rattle.system_meaning.specs.Stores.{is_name, heir}
use Rattle.system_meaning.specs.Tasks.{Running, starting}
use Rattle.system_meaning.specs.Systems.{System, Moment, packets, requested, kept, given, woken, on_system, on_waits, on_channels, back, write, uncouple_at}
use Rattle.system_meaning.specs.Ends.{number_refusal, next, begun, ended_with_descendants}

-- a request is answered; or its task rests, since it waits or is gone
pub data Served : Type 0 where
  Replies : Answer → Moment → Served
  Rests : Moment → Served

-- with a reply that is no message
abbrev pub replies_with : Reply → Moment → Served
replies_with r m = Replies (plain r) m

-- the number of a task, in a reply
abbrev pub of_task : TaskNo → Reply
of_task t = replies.Task t.0

abbrev pub number : ℕ → TaskNo
number n = record { 0 = n }

-- writing waits until the task is coupled
abbrev pub put : Option ℕ → List ℕ → Bool → Moment → Served
put None bytes ends m = Rests m
put (Some c) bytes ends m = replies_with Done (write c bytes ends m)

-- the oldest line of the channel's queue is taken; it is waited for
abbrev pub line_taken : List (List ℕ) → ℕ → Moment → Served
line_taken [] c m = Rests m
line_taken (line ∷ rest) c m = replies_with (Text line) (on_system (on_channels (channels.unqueued c)) m)

abbrev pub input : Option ℕ → Moment → Served
input None m = Rests m
input (Some c) m = line_taken (channels.channel c m.system.shared.channels).queue c m

-- a son runs a start procedure
abbrev pub son_begins : List ℕ → TaskNo → Compiled → System → System
son_begins name t unit s = back (next s) (begun name t (Running (starting unit (heir (kept t s)))) s)

abbrev pub begin_with : Option Stop → Option Compiled → List ℕ → TaskNo → Moment → Served
begin_with (Some stop) unit name t m = replies_with (Stopped stop) m
begin_with None None name t m = replies_with (Stopped NotInserted) m
begin_with None (Some unit) name t m = replies_with (of_task (next m.system)) (on_system (son_begins name t unit) m)

-- why it does not begin, the first reason that holds; that the packet is not among the task's is the last
abbrev pub begin_refusal : List ℕ → System → Option Stop
begin_refusal name s = if is_name name then number_refusal (tree.refusal name s.shared.tree) else Some BadName

-- UR and PUBLIC
abbrev pub is_first : TaskNo → Bool
is_first t = is_task t (number 1) || is_task t (number 2)

-- a task ends itself and its descendants alone
abbrev pub may_end : TaskNo → TaskNo → System → Bool
may_end t u s = not (is_first u) && list_any (is_task u) (family t s.shared.tree)

abbrev pub end_allowed : Bool → TaskNo → TaskNo → Moment → Served
end_allowed false t u m = replies_with (Stopped NoRight) m
end_allowed true t u m = if is_task t u then Rests (ended_with_descendants u m) else replies_with Done (ended_with_descendants u m)

abbrev pub end_living : Bool → TaskNo → TaskNo → Moment → Served
end_living false t u m = replies_with Done m
end_living true t u m = end_allowed (may_end t u m.system) t u m

abbrev pub named_or : Option ℕ → TaskNo → TaskNo
named_or None t = t
named_or (Some n) t = number n

-- ---- messages

-- the number of a data space
abbrev pub space_number : ℕ → SpaceNo
space_number n = record { 0 = n }

-- what stands in a data space of a task
abbrev pub content : TaskNo → ℕ → System → Space
content t n s = the_space (space_number n) (kept t s).spaces

-- the message of a task for another, which gets its data space under its own next number
abbrev pub message : ℤ → TaskNo → Space → TaskNo → System → Answer
message code from space to s = record { reply = Message code from.0 (next_number (kept to s).spaces).0; content = space }

abbrev pub receipt : ℤ → Moment → Served
receipt z m = replies_with (Receipt z) m

-- a receiver that is ready takes it, and is ready to go on
abbrev pub handed : Caller → Space → System → System
handed c space s = woken c.to (message c.code c.from space c.to s) (on_waits (waits.offered c false) s)

-- what becomes of a message: it was taken, and the sender is told so; the receiver is not ready; or the caller waits for that
abbrev pub sent : Offer → Caller → Space → Moment → Served
sent offers.Taken c space m = replies_with Taken (on_system (handed c space) m)
sent offers.NotReady c space m = receipt (negsuc 1) m
sent offers.Queued c space m = Rests (on_system (on_waits (waits.offered c true)) m)

abbrev pub caller : TaskNo → ℕ → ℤ → Caller
caller from to code = record { from = from; to = number to; code = code }

-- a message whose data space lives, for a task that lives: `send` does not wait, and `call` does
abbrev pub send_to : Bool → Caller → ℕ → Moment → Served
send_to queue c space m = sent (waits.offer c.from c.to queue m.system.shared.waits) c (content c.from space m.system) m

-- where the other task does not live, the receipt is -1; a call of the task itself is not taken
abbrev pub send_living : Bool → Caller → ℕ → Moment → Served
send_living false c space m = receipt (negsuc 0) m
send_living true c space m = send_to false c space m

abbrev pub call_living : Bool → Caller → ℕ → Moment → Served
call_living false c space m = receipt (negsuc 0) m
call_living true c space m = if is_task c.to c.from then receipt (negsuc 1) m else send_to true c space m

-- why a message cannot be sent: its data space does not live; and for a call besides, since that of the answer would have no room in its place, for
-- want of a number
abbrev pub space_refusal : TaskNo → ℕ → System → Option Stop
space_refusal t n s = if is_live (space_number n) (kept t s).spaces then None else Some NoSpace

abbrev pub call_refusal : TaskNo → ℕ → System → Option Stop
call_refusal t n s =
    if is_live (space_number n) (kept t s).spaces then room_refusal (heads_of (without_space (space_number n) (kept t s).spaces)) else Some NoSpace

abbrev pub unless_stopped : Option Stop → Served → Moment → Served
unless_stopped (Some stop) served m = replies_with (Stopped stop) m
unless_stopped None served m = served

-- the number of the data space that a caller sends; each caller has made such a request
abbrev pub called_with : Option Request → ℕ
called_with (Some (Call to code space)) = space
called_with _ = 0

-- the caller that has called longest waits for the answer from now on, without its data space
abbrev pub answering : TaskNo → Caller → System → System
answering t c s = given c.from (plain Taken) (on_waits (λ w. waits.entered (record { task = c.from; of = Some t }) (waits.waited t w)) s)

abbrev pub call_taken : Option Caller → TaskNo → Moment → Served
call_taken None t m = Rests (on_system (on_waits (waits.waited t)) m)
call_taken (Some c) t m =
    Replies (message c.code c.from (content c.from (called_with (requested c.from m.system)) m.system) t m.system) (on_system (answering t c) m)

-- the task that took a call's message is waited for
abbrev pub awaits : TaskNo → ℕ → System → System
awaits t of s = on_waits (waits.entered (record { task = t; of = Some (number of) })) s

-- the request of a task
abbrev pub serve : TaskNo → Request → Moment → Served
serve t (Out bytes ends) m = put (channels.channel_of t m.system.shared.channels) bytes ends m
serve t Input m = input (channels.channel_of t m.system.shared.channels) m
serve t (Begin name start) m = begin_with (begin_refusal name m.system) (started_at m.system.shared.library (packets t m.system) start) name t m
serve t Myself m = replies_with (of_task t) m
serve t (Father of) m = replies_with (of_task (tree.father (named_or of t) m.system.shared.tree)) m
serve t (Son of) m = replies_with (of_task (tree.son (number of) m.system.shared.tree)) m
serve t (Brother of) m = replies_with (of_task (tree.brother (number of) m.system.shared.tree)) m
serve t (Named name) m = replies_with (of_task (tree.named name m.system.shared.tree)) m
serve t (Name of) m = replies_with (Text (tree.name (number of) m.system.shared.tree)) m
serve t (Exists of) m = replies_with (replies.Truth (tree.lives (number of) m.system.shared.tree)) m
serve t (End of) m = end_living (tree.lives (named_or of t) m.system.shared.tree) t (named_or of t) m
serve t Break m = replies_with Done (uncouple_at (channels.channel_of t m.system.shared.channels) m)
serve t (Send to code space) m =
    unless_stopped (space_refusal t space m.system) (send_living (tree.lives (number to) m.system.shared.tree) (caller t to code) space m) m
serve t Wait m = unless_stopped (room_refusal (heads_of (kept t m.system).spaces)) (call_taken (waits.first_caller t m.system.shared.waits) t m) m
serve t (Call to code space) m =
    unless_stopped (call_refusal t space m.system) (call_living (tree.lives (number to) m.system.shared.tree) (caller t to code) space m) m
serve t (requests.Answer of) m = Rests (on_system (awaits t of) m)
