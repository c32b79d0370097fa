-- What each request takes, what it asks for, what a reply gives, and what it does to the data spaces of the task.
use Rattle.std.specs.Prelude.{◌≡◌, ℕ, ◌+◌, Bool, List, [], ◌∷◌, ◌++◌, length, true, false, nat_lt, if◌then◌else◌, slice_get, pos, Ok, Option, Some, None}
use Rattle.std.specs.Fmt.{signed_decimal}
use Rattle.eu_base.specs.declared.value.Kind.{Kind}
use Rattle.eu_base.specs.declared.value.Kind.TheVariants as kinds
use Rattle.eu_base.specs.declared.value.Value.{Value}
use Rattle.eu_base.specs.declared.value.Value.TheVariants.{Int, Truth as Truths, Task as Tasks}
use Rattle.eu_base.specs.declared.value.Value.TheVariants as values
use Rattle.eu_base.specs.declared.request.RequestName.{RequestName}
use Rattle.eu_base.specs.declared.request.RequestName.TheVariants.{PutNumber, PutText, Write, PutLine, Line, GetNumber, GetText, GetLine}
use Rattle.eu_base.specs.declared.request.RequestName.TheVariants as names
use Rattle.eu_base.specs.declared.request.Request.{Request}
use Rattle.eu_base.specs.declared.request.Request.TheVariants.{Out, Input, Begin, End, Myself, Father, Son, Brother, Named, Name, Exists, Break}
use Rattle.eu_base.specs.declared.request.Request.TheVariants as requests
use Rattle.eu_base.specs.declared.request.Reply.{Reply}
use Rattle.eu_base.specs.declared.request.Reply.TheVariants.{Done, Text, Task, Truth, Taken, Receipt, Message, Stopped}
use Rattle.eu_base.specs.Operations.{Given, fitting, ranged, number_at, text_at, task_at, space_at}
use Rattle.eu_base.specs.Values.{SpaceNo, task_in, kind_of, cell_of}
use Rattle.eu_base.specs.Cells.{Word, held_of}
use Rattle.eu_base.specs.DataSpaces.{Space, no_space, Heads, last_number, SpaceChange, Gets, Forgets}
use Rattle.eu_base.specs.Texts.{trimmed, number_spelled}

-- the kinds of the values that a request takes, from left to right
abbrev pub request_kinds : RequestName → List Kind
request_kinds PutNumber = kinds.Int ∷ []
request_kinds PutText = kinds.Text ∷ []
request_kinds Write = kinds.Text ∷ []
request_kinds PutLine = kinds.Text ∷ []
request_kinds names.FatherOf = kinds.Task ∷ []
request_kinds names.Son = kinds.Task ∷ []
request_kinds names.Brother = kinds.Task ∷ []
request_kinds names.Named = kinds.Text ∷ []
request_kinds names.NameOf = kinds.Task ∷ []
request_kinds names.Exists = kinds.Task ∷ []
request_kinds (names.Begin start) = kinds.Text ∷ []
request_kinds names.EndOf = kinds.Task ∷ []
request_kinds names.Send = kinds.Task ∷ kinds.Int ∷ []
request_kinds names.Call = kinds.Task ∷ kinds.Int ∷ []
request_kinds _ = []

-- the kinds of the variables behind them, to which the reply gives values
abbrev pub request_places : RequestName → List Kind
request_places GetNumber = kinds.Int ∷ []
request_places GetText = kinds.Text ∷ []
request_places GetLine = kinds.Text ∷ []
request_places (names.Begin start) = kinds.Task ∷ []
request_places names.Send = kinds.Space ∷ kinds.Int ∷ []
request_places names.Wait = kinds.Space ∷ kinds.Int ∷ kinds.Task ∷ []
request_places names.Call = kinds.Space ∷ kinds.Int ∷ []
request_places _ = []

-- it is about a message
abbrev pub is_message : RequestName → Bool
is_message names.Send = true
is_message names.Wait = true
is_message names.Call = true
is_message _ = false

-- it sends the data space in its first variable
abbrev pub sends : RequestName → Bool
sends names.Send = true
sends names.Call = true
sends _ = false

-- the kind of the value that it delivers, if it does. A request that has variables delivers none
abbrev pub request_result : RequestName → Option Kind
request_result names.Myself = Some kinds.Task
request_result names.Father = Some kinds.Task
request_result names.FatherOf = Some kinds.Task
request_result names.Son = Some kinds.Task
request_result names.Brother = Some kinds.Task
request_result names.Named = Some kinds.Task
request_result names.NameOf = Some kinds.Text
request_result names.Exists = Some kinds.Truth
request_result _ = None

-- how many operands it takes
abbrev pub request_size : RequestName → ℕ
request_size name = length (request_kinds name) + length (request_places name)

-- the number of a data space in a request: that of the nil space is 0, which no data space has
abbrev pub sent_number : Option SpaceNo → ℕ
sent_number None = 0
sent_number (Some s) = s.0

-- what it asks for with these values, before which the data space stands that it sends. `put` writes a number or a text and a blank, `write` a text alone, `putline` a text
-- and the end of the line, `line` the end of the line. `get` and `getline` ask for the next line that is typed, `begin` for a son of a name
-- that runs a start procedure, and the others for what they are called, of the task itself or of the one that they are given
abbrev pub request_of : RequestName → List Value → Request
request_of PutNumber vs = Out (signed_decimal (number_at vs 0) ++ 32 ∷ []) false
request_of PutText vs = Out (text_at vs 0 ++ 32 ∷ []) false
request_of Write vs = Out (text_at vs 0) false
request_of PutLine vs = Out (text_at vs 0) true
request_of Line vs = Out [] true
request_of GetNumber vs = Input
request_of GetText vs = Input
request_of GetLine vs = Input
request_of names.Myself vs = Myself
request_of names.Father vs = Father None
request_of names.FatherOf vs = Father (Some (task_at vs 0))
request_of names.Son vs = Son (task_at vs 0)
request_of names.Brother vs = Brother (task_at vs 0)
request_of names.Named vs = Named (text_at vs 0)
request_of names.NameOf vs = Name (task_at vs 0)
request_of names.Exists vs = Exists (task_at vs 0)
request_of (names.Begin start) vs = Begin (text_at vs 0) start
request_of names.EndOf vs = End (Some (task_at vs 0))
request_of names.End vs = End None
request_of names.Break vs = Break
request_of names.Send vs = requests.Send (task_at vs 1) (number_at vs 2) (sent_number (space_at vs 0))
request_of names.Wait vs = requests.Wait
request_of names.Call vs = requests.Call (task_at vs 1) (number_at vs 2) (sent_number (space_at vs 0))

-- the text that a reply brings; "" stands for that of another reply
abbrev pub reply_text : Reply → List ℕ
reply_text Done = []
reply_text (Text t) = t
reply_text (Task n) = []
reply_text (Truth b) = []
reply_text Taken = []
reply_text (Receipt z) = []
reply_text (Message code from space) = []
reply_text (Stopped stop) = []

-- the number of a task, and the truth value; that of niltask, and FALSE, stand for those of another reply
abbrev pub reply_task : Reply → ℕ
reply_task (Task n) = task_in n
reply_task _ = 0

abbrev pub reply_truth : Reply → Bool
reply_truth (Truth b) = b
reply_truth _ = false

-- what a request that is about no message takes out of a reply for its variable: `getline` all of a text, `get` a text without the blanks at its ends, or the number
-- that it spells, `begin` a task. A request without a variable, and one about a message, has 0, for which nobody asks
abbrev pub read_as : RequestName → Reply → Given
read_as GetNumber r = Ok (Int (ranged (number_spelled (trimmed (reply_text r)))))
read_as GetText r = fitting (trimmed (reply_text r))
read_as GetLine r = fitting (reply_text r)
read_as (names.Begin start) r = Ok (Tasks (reply_task r))
read_as _ r = Ok (Int (pos 0))

-- what a request delivers of a reply: a task, a name, or whether it is so. One that delivers nothing has 0, for which nobody asks
abbrev pub answer_of : RequestName → Reply → Given
answer_of names.Myself r = Ok (Tasks (reply_task r))
answer_of names.Father r = Ok (Tasks (reply_task r))
answer_of names.FatherOf r = Ok (Tasks (reply_task r))
answer_of names.Son r = Ok (Tasks (reply_task r))
answer_of names.Brother r = Ok (Tasks (reply_task r))
answer_of names.Named r = Ok (Tasks (reply_task r))
answer_of names.NameOf r = fitting (reply_text r)
answer_of names.Exists r = Ok (Truths (reply_truth r))
answer_of _ r = Ok (Int (pos 0))

-- ---- messages

-- an answer: a reply, and what stands in the data space that comes with it, where it is a message
pub record Answer : Type 0 where
  pub reply : Reply
  pub content : Space

abbrev pub plain : Reply → Answer
plain r = record { reply = r; content = no_space }

-- a reply to which nothing is done to data spaces
abbrev pub is_plain : Reply → Bool
is_plain Taken = false
is_plain (Message code from space) = false
is_plain _ = true

-- the data space that is the task's no longer once the message of a request was taken
abbrev pub sent_by : Request → List SpaceChange
sent_by (requests.Send to code space) = Forgets (record { 0 = space }) ∷ []
sent_by (requests.Call to code space) = Forgets (record { 0 = space }) ∷ []
sent_by _ = []

-- a data space comes under the next number. A task takes no message where none is left, so then none comes
abbrev pub coming : Space → Heads → List SpaceChange
coming content heads = if nat_lt heads.last last_number then Gets content ∷ [] else []

abbrev pub changes_by : Reply → Request → Space → Heads → List SpaceChange
changes_by Taken q content heads = sent_by q
changes_by (Message code from space) q content heads = coming content heads
changes_by _ q content heads = []

-- what an answer to a request does to the data spaces of the task
abbrev pub reply_changes : Request → Answer → Heads → List SpaceChange
reply_changes q a heads = changes_by a.reply q a.content heads

-- a call whose message was taken asks for the answer of the task that took it, and no other request is followed by one
abbrev pub answer_asked : ℕ → Reply → Option Request
answer_asked of Taken = Some (requests.Answer of)
answer_asked of _ = None

abbrev pub then_asked : Request → Reply → Option Request
then_asked (requests.Call to code space) r = answer_asked to r
then_asked _ r = None

-- what `send`, `call` and `wait` give their variables, by the numbers of these, one after another: the receipt; the code and the data space of the
-- answer, or a receipt; and the code, the sender and the data space of a message, which has this number. Another reply gives nothing, and nobody
-- replies so
abbrev pub send_values : Reply → List (ℕ × Value)
send_values Taken = (1, Int (pos 0)) ∷ []
send_values (Receipt z) = (1, Int (ranged z)) ∷ []
send_values _ = []

abbrev pub call_values : Reply → SpaceNo → List (ℕ × Value)
call_values (Receipt z) s = (1, Int (ranged z)) ∷ []
call_values (Message code from space) s = (1, Int (ranged code)) ∷ (0, values.Space (Some s)) ∷ []
call_values _ s = []

abbrev pub wait_values : Reply → SpaceNo → List (ℕ × Value)
wait_values (Message code from space) s = (1, Int (ranged code)) ∷ (2, Tasks (task_in from)) ∷ (0, values.Space (Some s)) ∷ []
wait_values _ s = []

abbrev pub message_values : RequestName → Reply → SpaceNo → List (ℕ × Value)
message_values names.Send r s = send_values r
message_values names.Wait r s = wait_values r s
message_values names.Call r s = call_values r s
message_values _ r s = []

-- what a message brings is for a variable of this number, which there is among those of these kinds, and it is of its kind, and no text
abbrev pub Suits : List Kind → ℕ × Value → Type 0
Suits ks e = (k : Kind) × (slice_get ks e.0 ≡ Some k) × (kind_of e.1 ≡ k) × (held_of e.1 ≡ Word (cell_of e.1))
