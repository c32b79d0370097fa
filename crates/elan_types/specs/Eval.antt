-- What a program does. Evaluation knows the values of variables, the marks and the replies that are left, and no code. A value is the list
-- of the values of its cells: that of an INT, BOOL or TEXT has one, that of a row those of its items, one after another, that of a structure
-- those of its fields.
use Rattle.std.specs.Prelude.{ℕ, zero, suc, ◌+◌, ◌-◌, ◌*◌, Bool, true, false, cond, not, ◌||◌, List, [], ◌∷◌, ◌++◌, map, length, take, drop, Option, Some, None}
use Rattle.std.specs.Prelude.{Ok, Err}
use Rattle.std.specs.Prelude.{slice_get, slice_index_or, slice_set, ℤ, pos}
use Rattle.std.specs.Ordering.{int_eq}
use Rattle.eu_base.specs.declared.address.Area.{Area}
use Rattle.eu_base.specs.declared.address.Area.TheVariants as areas
use Rattle.eu_base.specs.declared.value.Kind.{Kind}
use Rattle.eu_base.specs.declared.value.Kind.TheVariants as kinds
use Rattle.eu_base.specs.declared.shape.Shape.{Shape}
use Rattle.eu_base.specs.declared.value.Value.{Value}
use Rattle.eu_base.specs.declared.value.Value.TheVariants.{Int, Truth, Text, Space}
use Rattle.eu_base.specs.declared.stop.Stop.{Stop}
use Rattle.eu_base.specs.declared.stop.Stop.TheVariants.{Index, CellRoom, OperandRoom, TextRoom, NoSpace, Own}
use Rattle.eu_base.specs.declared.request.Request.{Request}
use Rattle.eu_base.specs.declared.request.RequestName.{RequestName}
use Rattle.eu_base.specs.declared.request.Reply.{Reply}
use Rattle.eu_base.specs.declared.request.Reply.TheVariants as replies
use Rattle.eu_base.specs.declared.operation.Change.{Change}
use Rattle.eu_base.specs.declared.operation.Change.TheVariants.{Increase}
use Rattle.eu_base.specs.declared.operation.Way.{Way}
use Rattle.eu_base.specs.Values.{SpaceNo, number_of, truth_of, text_of, space_of, kind_of, blank_of}
use Rattle.eu_base.specs.DataSpaces.{Spaces, heads_of, SpaceChange, spaces_after}
use Rattle.eu_base.specs.SpaceOperations.{Plan, planned, copy_plan, bind_plan, forgetting}
use Rattle.eu_base.specs.SpacePlaces.{is_in, values_of, with_values}
use Rattle.eu_base.specs.Cells.{same_area}
use Rattle.eu_base.specs.Shapes.{cell_kinds}
use Rattle.eu_base.specs.Room.{values_bytes, value_blocks, values_blocks, place_bytes, cells_fit, bytes_fit, texts_fit}
use Rattle.eu_base.specs.Operations.{Given, result_of, change_kind, changed, is_past, has_reached, next_number, in_row}
use Rattle.eu_base.specs.Requests.{request_kinds, is_message, sends, request_of, read_as, answer_of}
use Rattle.eu_base.specs.Requests.{Answer, reply_changes, then_asked, message_values}
use Rattle.elan_types.specs.declared.core_phrase.Exit.{Exit}
use Rattle.elan_types.specs.declared.core_phrase.Exit.TheVariants as exits
use Rattle.elan_types.specs.declared.core_phrase.Scope.{Scope}
use Rattle.elan_types.specs.declared.core_phrase.Scope.TheVariants.{Own}
use Rattle.elan_types.specs.declared.core_phrase.Content.{Content}
use Rattle.elan_types.specs.declared.core_phrase.Content.TheVariants as contents
use Rattle.elan_types.specs.declared.core_phrase.Body.{Body}
use Rattle.elan_types.specs.declared.core_phrase.ValuePhrase.{ValuePhrase}
use Rattle.elan_types.specs.declared.core_phrase.Action.{Action}
use Rattle.elan_types.specs.declared.core_phrase.Action.TheOpen as t
use Rattle.elan_types.specs.declared.core_phrase.Action.TheOpen.{Action-F, PlacePhrase-F, Actual-F, ValuePhrase-F, Arm-F, ValueArm-F}
use Rattle.elan_types.specs.declared.core_phrase.Action.TheFolds.{fold-Action, fold-ValuePhrase}

-- where a value stands: among the slots of the command or of the packets, its first slot by its number
pub record Place : Type 0 where
  pub area : Area
  pub variable : ℕ

-- what a store has, one after another in order of making. Each has one cell
pub data Slot : Type 0 where
  -- the value of a cell of a variable, a constant or a CONST parameter
  Holds : Value → Slot
  -- the place that a VAR parameter holds
  Refers : Place → Slot
  -- a cell that only counts: a call and a refinement have two, a FOR with a limit has one
  Taken : Slot

-- the variables of the command and of its live calls, those of the packets, the data spaces of the task, the marks that are left, and the
-- answers that are left
pub record World : Type 0 where
  pub store : List Slot
  pub packets : List Slot
  pub spaces : Spaces
  pub marks : ℕ
  pub replies : List Answer

-- how a phrase ends, and the world then
pub data Outcome (A : Type 0) : Type 0 where
  -- it delivers this
  Gives : A → World → Outcome A
  -- a body is left, and delivers this
  Left : Exit → Option (List Value) → World → Outcome A
  Stopped : Stop → World → Outcome A
  -- a mark is due, and none is left
  OutOfMarks : World → Outcome A
  -- a request is made, and no reply is left
  Asks : Request → World → Outcome A

-- goes on with what a phrase gives
abbrev pub bind : {A B : Type 0} → Outcome A → (A → World → Outcome B) → Outcome B
bind (Gives a w) go = go a w
bind (Left e v w) go = Left e v w
bind (Stopped s w) go = Stopped s w
bind (OutOfMarks w) go = OutOfMarks w
bind (Asks q w) go = Asks q w

abbrev pub spend_at : {A : Type 0} → ℕ → World → (World → Outcome A) → Outcome A
spend_at zero w go = OutOfMarks w
spend_at (suc m) w go = go (record w { marks = m })

-- spends a mark
abbrev pub spend : {A : Type 0} → (World → Outcome A) → World → Outcome A
spend go w = spend_at w.marks w go

-- the data spaces change so
abbrev pub changed_by : List SpaceChange → World → World
changed_by changes w = record w { spaces = spaces_after changes w.spaces }

-- after an answer to a request, with so many left
abbrev pub after_answer : Request → Answer → List Answer → World → World
after_answer q a left w = record (changed_by (reply_changes q a (heads_of w.spaces)) w) { replies = left }

-- goes on with a reply, or stops where it says so
abbrev pub heed : {A : Type 0} → Reply → (Reply → World → Outcome A) → World → Outcome A
heed (replies.Stopped s) go w = Stopped s w
heed replies.Done go w = go replies.Done w
heed (replies.Text t) go w = go (replies.Text t) w
heed (replies.Task n) go w = go (replies.Task n) w
heed (replies.Truth b) go w = go (replies.Truth b) w
heed replies.Taken go w = go replies.Taken w
heed (replies.Receipt z) go w = go (replies.Receipt z) w
heed (replies.Message code from space) go w = go (replies.Message code from space) w

-- goes on with a reply, or with the request that follows it
abbrev pub followed : {A : Type 0} → Option Request → Reply → (Request → World → Outcome A) → (Reply → World → Outcome A) → World → Outcome A
followed (Some q) r again go w = again q w
followed None r again go w = heed r go w

-- a request takes the next answer. It changes the data spaces, and its reply is heeded; a call whose message was taken asks for the answer then
abbrev pub ask_at : {A : Type 0} → List Answer → Request → World → (Reply → World → Outcome A) → Outcome A
ask_at [] q w go = Asks q w
ask_at (a ∷ as') q w go = followed (then_asked q a.reply) a.reply (λ q w. ask_at as' q w go) go (after_answer q a as' w)

-- spends a mark and makes a request
abbrev pub ask : {A : Type 0} → Request → (Reply → World → Outcome A) → World → Outcome A
ask q go w = spend (λ w'. ask_at w'.replies q w' go) w

abbrev pub branch : {A : Type 0} → Bool → (World → Outcome A) → (World → Outcome A) → World → Outcome A
branch true f g w = f w
branch false f g w = g w

abbrev pub or_stop : {A : Type 0} → Given → (Value → World → Outcome A) → World → Outcome A
or_stop (Ok v) go w = go v w
or_stop (Err s) go w = Stopped s w

-- goes on with the number of items before an item, or stops where there is no such item
abbrev pub or_outside : {A : Type 0} → Option ℕ → (ℕ → World → Outcome A) → World → Outcome A
or_outside (Some k) go w = go k w
or_outside None go w = Stopped Index w

abbrev pub slot_at : List Slot → ℕ → Slot
slot_at store x = slice_index_or store x Taken

-- the value and the place in a slot. A slot that has none has 0; no well typed phrase asks for it
abbrev pub value_of : Slot → Value
value_of (Holds v) = v
value_of _ = Int (pos 0)

abbrev pub place_of : Slot → Place
place_of (Refers x) = x
place_of _ = record { area = areas.Run; variable = 0 }

-- the slots of an area; a data space that is gone has none
abbrev pub slots_in : Area → World → List Slot
slots_in areas.Run w = w.store
slots_in areas.Packets w = w.packets
slots_in (areas.Space s) w = map Holds (values_of s w.spaces)

-- whether cells of these kinds stand at a place. A data space is looked at in each access: it may be gone
abbrev pub is_there : List Kind → Place → World → Bool
is_there ks x w = is_in ks x.area x.variable (heads_of w.spaces)

abbrev pub fetch : Place → World → Value
fetch x w = value_of (slot_at (slots_in x.area w) x.variable)

-- so many slots further on
abbrev pub beyond : Place → ℕ → Place
beyond x n = record x { variable = x.variable + n }

-- the value of these cells at a place
abbrev pub fetch_all : List Kind → Place → World → List Value
fetch_all [] x w = []
fetch_all (k ∷ ks) x w = fetch x w ∷ fetch_all ks (beyond x 1) w

-- the value of a value of one cell. Another has none; 0 stands for it, and no well typed phrase asks for it
abbrev pub the : List Value → Value
the [] = Int (pos 0)
the (v ∷ vs) = v

abbrev pub stored_from : ℕ → List Value → List Slot → List Slot
stored_from x [] store = store
stored_from x (v ∷ vs) store = stored_from (x + 1) vs (slice_set store x (Holds v))

-- the slots of an area, after a value was stored at a place
abbrev pub stored_in : Area → Place → List Value → List Slot → List Slot
stored_in area x vs slots = cond (same_area x.area area) (stored_from x.variable vs slots) slots

-- values with others in the place of some from one on, and data spaces with such values
abbrev pub values_from : ℕ → List Value → List Value → List Value
values_from x [] us = us
values_from x (v ∷ vs) us = values_from (x + 1) vs (slice_set us x v)

abbrev pub stored_in_space : Area → ℕ → List Value → Spaces → Spaces
stored_in_space areas.Run x vs spaces = spaces
stored_in_space areas.Packets x vs spaces = spaces
stored_in_space (areas.Space s) x vs spaces = with_values s (values_from x vs (values_of s spaces)) spaces

abbrev pub assign : Place → List Value → World → World
assign x vs w = record w {
  store = stored_in areas.Run x vs w.store;
  packets = stored_in areas.Packets x vs w.packets;
  spaces = stored_in_space x.area x.variable vs w.spaces;
}

-- the blocks that the texts of slots take. A pending text stands in none, and takes none
abbrev pub slot_blocks : Slot → ℕ
slot_blocks (Holds v) = value_blocks v
slot_blocks _ = 0

abbrev pub store_blocks : List Slot → ℕ
store_blocks [] = 0
store_blocks (s ∷ store) = slot_blocks s + store_blocks store

-- goes on where cells of these kinds stand at a place
abbrev pub if_there : {A : Type 0} → List Kind → Place → (World → Outcome A) → World → Outcome A
if_there ks x go w = branch (is_there ks x w) go (Stopped NoSpace) w

-- goes on with what stands at a place, and after a value was stored there in place of another, where its texts then have room; where they
-- have none, nothing is stored. Reads and stores are outcomes, as all steps that a program can stop at
abbrev pub load : {A : Type 0} → Kind → Place → (Value → World → Outcome A) → World → Outcome A
load k x go = if_there (k ∷ []) x (λ w. go (fetch x w) w)

abbrev pub load_all : {A : Type 0} → List Kind → Place → (List Value → World → Outcome A) → World → Outcome A
load_all ks x go = if_there ks x (λ w. go (fetch_all ks x w) w)

abbrev pub save : {A : Type 0} → Place → List Value → (World → Outcome A) → World → Outcome A
save x vs go =
    if_there (map kind_of vs) x (λ w.
    branch (texts_fit (values_blocks vs) (store_blocks (slots_in x.area (assign x vs w)))) (λ w. go (assign x vs w)) (Stopped TextRoom) w)

-- what calls of bodies do: of a PROC with what its parameters hold, and of a refinement from a body whose variables begin at a
-- number in the store; each with so many bytes of operands pending. They deliver a value or nothing
pub record Calls : Type 0 where
  pub call : ℕ → List Slot → ℕ → World → Outcome (Option (List Value))
  pub refer : ℕ → ℕ → ℕ → World → Outcome (Option (List Value))

-- how far a phrase can go, and from where: what calls do, the turns that a loop can make, the number in the store at which
-- the variables of the body begin, and the bytes of pending operands
pub record Reach : Type 0 where
  pub calls : Calls
  pub turns : ℕ
  pub base : ℕ
  pub held : ℕ

-- what a phrase does
abbrev pub Run : Type 0 → Type 0
Run A = Reach → World → Outcome A

-- with a value or a place pending besides
abbrev pub holding : List Value → Reach → Reach
holding vs r = record r { held = values_bytes vs + r.held }

abbrev pub holding_place : Reach → Reach
holding_place r = record r { held = place_bytes + r.held }

-- what a parameter is given: a value, or a place
pub data Passed : Type 0 where
  AsValue : List Value → Passed
  AsPlace : Place → Passed

abbrev pub holding_passed : Passed → Reach → Reach
holding_passed (AsValue vs) r = holding vs r
holding_passed (AsPlace x) r = holding_place r

-- the value of one cell that it is. Another is none; 0 stands for it, and no well typed request asks for it
abbrev pub value_given : Passed → Value
value_given (AsValue (v ∷ [])) = v
value_given _ = Int (pos 0)

-- the slots of a parameter that is given this
abbrev pub slots_of : Passed → List Slot
slots_of (AsValue vs) = map Holds vs
slots_of (AsPlace x) = Refers x ∷ []

-- those of parameters in turn
abbrev pub all_slots : List Passed → List Slot
all_slots [] = []
all_slots (a ∷ as') = slots_of a ++ all_slots as'

-- a value is delivered, where its bytes have room
abbrev pub deliver : List Value → Run (List Value)
deliver vs r = branch (bytes_fit (values_bytes vs + r.held)) (Gives vs) (Stopped OperandRoom)

abbrev pub deliver_place : Place → Run Place
deliver_place x r = branch (bytes_fit (place_bytes + r.held)) (Gives x) (Stopped OperandRoom)

-- goes on with more slots, where these have room, and then their texts
abbrev pub with_room : {A : Type 0} → List Slot → (World → Outcome A) → World → Outcome A
with_room more go w =
    branch (cells_fit (length w.store + length more))
    (branch (texts_fit (store_blocks more) (store_blocks (w.store ++ more))) (λ w. go (record w { store = w.store ++ more })) (Stopped TextRoom))
    (Stopped CellRoom) w

-- without the slots from n on
abbrev pub cut : ℕ → World → World
cut n w = record w { store = take n w.store }

-- one after another
abbrev pub all : List (Run (Unit {0})) → Run (Unit {0})
all [] n w = Gives tt w
all (a ∷ as') n w = bind (a n w) (λ _. all as' n)

-- the operands of an operation, which have one cell each
abbrev pub values : List (Run (List Value)) → Run (List Value)
values [] n w = Gives [] w
values (a ∷ as') n w = bind (a n w) (λ vs w. bind (values as' (holding vs n) w) (λ us. Gives (the vs ∷ us)))

-- what parameters are given
abbrev pub actuals : List (Run Passed) → Run (List Passed)
actuals [] n w = Gives [] w
actuals (a ∷ as') n w = bind (a n w) (λ x w. bind (actuals as' (holding_passed x n) w) (λ xs. Gives (x ∷ xs)))

-- a part of a SELECT, with its labels
pub record Labelled (A : Type 0) : Type 0 where
  pub labels : List ℤ
  pub part : A

abbrev pub holds : List ℤ → ℤ → Bool
holds [] z = false
holds (l ∷ ls) z = int_eq z l || holds ls z

-- the part whose labels hold the number, else the other
abbrev pub selected : {A : Type 0} → ℤ → List (Labelled (Run A)) → Run A → Run A
selected z [] other n w = other n w
selected z (arm ∷ arms) other n w = branch (holds arm.labels z) (arm.part n) (selected z arms other n) w

-- turns of a loop, each for a mark: a turn tells whether the loop goes on. There are at most n of them,
-- and where that is at least the marks that are left it is no bound
abbrev pub turns : ℕ → (World → Outcome Bool) → World → Outcome (Unit {0})
turns zero turn w = OutOfMarks w
turns (suc n) turn w = spend (λ w. bind (turn w) (λ on. branch on (turns n turn) (Gives tt))) w

-- a WHILE test: the loop goes on where it is TRUE, or not written
abbrev pub while_true : Option (Run (List Value)) → Run Bool
while_true None n w = Gives true w
while_true (Some a) n w = bind (a n w) (λ vs. Gives (truth_of (the vs)))

-- an UNTIL test: the loop goes on where it is FALSE, or not written
abbrev pub until_true : Option (Run (List Value)) → Run Bool
until_true None n w = Gives true w
until_true (Some a) n w = bind (a n w) (λ vs. Gives (not (truth_of (the vs))))

-- where the loop goes on, the next part of its turn
abbrev pub then_on : Run Bool → Run Bool → Run Bool
then_on f g n w = bind (f n w) (λ on. branch on (g n) (Gives false))

abbrev pub done : Run (Unit {0}) → Run Bool
done a n w = bind (a n w) (λ _. Gives true)

-- a turn: WHILE, the units, UNTIL, and the step
abbrev pub turn : Option (Run (List Value)) → Run (Unit {0}) → Option (Run (List Value)) → Run Bool → Run Bool
turn while' units until step = then_on (while_true while') (then_on (done units) (then_on (until_true until) step))

abbrev pub go_on : Run Bool
go_on n w = Gives true w

-- the data space that a variable held is forgotten
abbrev pub without_held : Option SpaceNo → World → World
without_held held w = changed_by (forgetting held (heads_of w.spaces)) w

-- stores the value that a reply brings in the variable of a request, where it has one. No well typed request is given another value there
abbrev pub keep : List Passed → Value → World → Outcome (Unit {0})
keep (AsPlace x ∷ as') v w = save x (v ∷ []) (Gives tt) w
keep _ v w = Gives tt w

-- stores what a message brings in a variable of a request; where it held a data space, that is forgotten then. No well typed request has another
-- number of variables
abbrev pub receive_at : {A : Type 0} → Option Passed → Value → (World → Outcome A) → World → Outcome A
receive_at (Some (AsPlace x)) v go w = load (kind_of v) x (λ held w. go (without_held (space_of held) (assign x (v ∷ []) w))) w
receive_at _ v go w = go w

-- and all that it brings, one after another
abbrev pub receive : List Passed → List (ℕ × Value) → World → Outcome (Unit {0})
receive as' [] w = Gives tt w
receive as' (e ∷ es) w = receive_at (slice_get as' e.0) e.1 (receive as' es) w

-- the number that the last data space got
abbrev pub last_made : World → SpaceNo
last_made w = record { 0 = w.spaces.last }

-- its variables get what a reply brings
abbrev pub settle : RequestName → List Passed → Reply → World → Outcome (Unit {0})
settle name as' r w =
    branch (is_message name) (receive as' (message_values name r (last_made w))) (or_stop (read_as name r) (keep as')) w

-- a request that sends a data space is made with the one in its first variable, which is looked at once the mark is spent. No well typed request
-- has none
abbrev pub with_sent : {A : Type 0} → List Value → List Passed → (List Value → World → Outcome A) → World → Outcome A
with_sent vs (AsPlace x ∷ as') go w = load kinds.Space x (λ v. go (v ∷ vs)) w
with_sent vs _ go w = Stopped NoSpace w

abbrev pub ask_for : {A : Type 0} → RequestName → List Value → List Passed → (Reply → World → Outcome A) → World → Outcome A
ask_for name vs as' go w =
    branch (sends name) (spend (with_sent vs as' (λ vs w. ask_at w.replies (request_of name vs) w go))) (ask (request_of name vs) go) w

-- makes a request with what it is given, its variables behind its values
abbrev pub request : RequestName → List Passed → World → Outcome (Unit {0})
request name as' =
    ask_for name (map value_given as') (drop (length (request_kinds name)) as') (settle name (drop (length (request_kinds name)) as'))

-- makes a request that delivers a value
abbrev pub request_value : RequestName → List Passed → Run (List Value)
request_value name as' n = ask (request_of name (map value_given as')) (λ r. or_stop (answer_of name r) (λ v. deliver (v ∷ []) n))

-- INCR, DECR and CAT
abbrev pub modify : {A : Type 0} → Change → Place → Value → A → World → Outcome A
modify change x v a = load (change_kind change) x (λ y. or_stop (changed change y v) (λ z. save x (z ∷ []) (Gives a)))

-- the step of a counter without limit: it delivers the place and the number 1
abbrev pub step : Run Place → Run Bool
step p n w = bind (p n w) (λ x w. bind (deliver (Int (pos 1) ∷ []) (holding_place n) w) (λ vs. modify Increase x (the vs) true))

-- the step of a counter with a limit, at the number z: it ends at the limit, and no number past it is made
abbrev pub step_from : Place → Way → ℤ → ℤ → World → Outcome Bool
step_from x way limit z = branch (has_reached way limit z) (Gives false) (save x (Int (next_number way z) ∷ []) (Gives true))

-- it delivers the place
abbrev pub step_to : Run Place → Way → ℤ → Run Bool
step_to p way limit n w = bind (p n w) (λ x. load kinds.Int x (λ v. step_from x way limit (number_of v)))

-- the turns under a limit, which has a cell meanwhile; x is the place at which the counter is tested first
abbrev pub limited : Place → Way → ℤ → Run Bool → Run (Unit {0})
limited x way limit turn' n =
    with_room (Taken ∷ []) (λ w.
    bind (load kinds.Int x (λ v. branch (is_past way limit (number_of v)) (Gives tt) (turns n.turns (turn' n))) w) (λ _ w. Gives tt (cut (length w.store - 1) w)))

-- the turns of a counted loop, whose counter has its first value. The limit is evaluated once
abbrev pub counted : Run Place → Way → Option (Run (List Value)) → (Run Bool → Run Bool) → Run (Unit {0})
counted p way None turn' n w = turns n.turns (turn' (step p) n) w
counted p way (Some a) turn' n w =
    bind (p n w) (λ x w. bind (a (holding_place n) w) (λ vs. limited x way (number_of (the vs)) (turn' (step_to p way (number_of (the vs)))) n))

-- turns without end: all marks are spent
abbrev pub forever : Run (Unit {0})
forever n = turns n.turns (go_on n)

-- a value is stored at a place, which is evaluated first
abbrev pub stored : Run Place → Run (List Value) → Run (Unit {0})
stored p a n w = bind (p n w) (λ x w. bind (a (holding_place n) w) (λ vs. save x vs (Gives tt)))

-- ---- data spaces

-- goes on with what is planned, after its changes, or stops
abbrev pub or_refused : {A B : Type 0} → Plan A → (A → World → Outcome B) → World → Outcome B
or_refused (Ok plan) go w = go plan.0 (changed_by plan.1 w)
or_refused (Err s) go w = Stopped s w

-- the value of a procedure. One that delivers none has no cells; no well typed phrase asks for it
abbrev pub answer : Option Value → List Value
answer None = []
answer (Some v) = v ∷ []

-- it is delivered, and the data spaces change where it has room
abbrev pub consult : Plan (Option Value) → Run (List Value)
consult (Ok plan) n w = bind (deliver (answer plan.0) n w) (λ vs w. Gives vs (changed_by plan.1 w))
consult (Err s) n w = Stopped s w

-- the content of the data space that a BOUND variable is bound to begins here. The nil space has none; the number 0, which no data space has,
-- stands for it
abbrev pub content_of : Option SpaceNo → Place
content_of (Some s) = record { area = areas.Space s; variable = 0 }
content_of None = record { area = areas.Space (record { 0 = 0 }); variable = 0 }

-- a DATASPACE variable gets a copy, and then what it held is forgotten
abbrev pub copy_into : Place → Value → World → Outcome (Unit {0})
copy_into x v =
    load kinds.Space x (λ held w.
    or_refused (copy_plan None (space_of v) (heads_of w.spaces))
    (λ s w. Gives tt (without_held (space_of held) (assign x (Space (Some s) ∷ []) w))) w)

-- a BOUND variable is bound to a data space, whose content has this shape then
abbrev pub bind_to : Place → Shape → Value → World → Outcome (Unit {0})
bind_to x shape v =
    if_there (kinds.Space ∷ []) x
    (branch (cells_fit (length (cell_kinds shape)))
    (λ w. or_refused (bind_plan shape (space_of v) (heads_of w.spaces)) (λ s w. Gives tt (assign x (Space (Some s) ∷ []) w)) w)
    (Stopped CellRoom))

-- the value that a body delivers. Where it delivers none it has no cells; no well typed phrase asks for it
abbrev pub delivered : Option (List Value) → List Value
delivered (Some vs) = vs
delivered None = []

-- so many cells of a value behind so many others
abbrev pub part_of : ℕ → ℕ → List Value → List Value
part_of before cells vs = take cells (drop before vs)

abbrev pub Layer : (Type 0 → Type 0 → Type 0 → Type 0 → Type 0 → Type 0 → Type 0) → Type 0
Layer F = F (Run (Unit {0})) (Run Passed) (Run Place) (Run (List Value)) (Labelled (Run (Unit {0}))) (Labelled (Run (List Value)))

-- the place that a phrase names. An index is looked at here, once
abbrev pub place_step : Layer PlacePhrase-F → Run Place
place_step (t.Variable k) n w = deliver_place (record { area = areas.Run; variable = k }) n w
place_step (t.Packet k) n w = deliver_place (record { area = areas.Packets; variable = k }) n w
place_step (t.Local k) n w = deliver_place (record { area = areas.Run; variable = n.base + k }) n w
place_step (t.Parameter k) n w = deliver_place (place_of (slot_at w.store (n.base + k))) n w
place_step (t.Item p a items) n w =
    bind (p n w) (λ x w. bind (a (holding_place n) w) (λ vs.
    or_outside (in_row items.count (number_of (the vs))) (λ k. deliver_place (beyond x (k * items.cells)) n)))
place_step (t.Field p before) n w = bind (p n w) (λ x. deliver_place (beyond x before) n)
place_step (t.Content p s) n w = bind (p n w) (λ x. load kinds.Space x (λ v. deliver_place (content_of (space_of v)) n))

abbrev pub value_step : Layer ValuePhrase-F → Run (List Value)
value_step (t.Number z) n w = deliver (Int z ∷ []) n w
value_step (t.Truth b) n w = deliver (Truth b ∷ []) n w
value_step (t.Text x) n w = deliver (Text x ∷ []) n w
value_step (t.Load p s) n w = bind (p n w) (λ x. load_all (cell_kinds s) x (λ vs. deliver vs n))
value_step (t.Apply op as') n w = bind (values as' n w) (λ vs. or_stop (result_of op vs) (λ v. deliver (v ∷ []) n))
value_step (t.ValuePhrase::If c a b) n w = bind (c n w) (λ vs. branch (truth_of (the vs)) (a n) (b n))
value_step (t.ValuePhrase::Select a arms other) n w = bind (a n w) (λ vs. selected (number_of (the vs)) arms other n)
value_step (t.ValuePhrase::Unit a) n w = spend (a n) w
value_step (t.After us a) n w = bind (all us n w) (λ _. a n)
value_step (t.Never s) n w = bind (forever n w) (λ _. Gives [])
value_step (t.ValuePhrase::Call p as' s) n w =
    bind (actuals as' n w) (λ xs w. bind (n.calls.call p (all_slots xs) n.held w) (λ vs. Gives (delivered vs)))
value_step (t.ValuePhrase::Refer p s) n w = bind (n.calls.refer p n.base n.held w) (λ vs. Gives (delivered vs))
value_step (t.Pick a i items s) n w =
    bind (a n w) (λ vs w. bind (i (holding vs n) w) (λ us.
    or_outside (in_row items.count (number_of (the us))) (λ k. deliver (part_of (k * items.cells) items.cells vs) n)))
value_step (t.Take a part s) n w = bind (a n w) (λ vs. deliver (part_of part.before part.cells vs) n)
value_step (t.ValuePhrase::Ask name as') n w = bind (actuals as' n w) (λ xs. request_value name xs n)
value_step (t.Consult op as') n w = bind (values as' n w) (λ vs w. consult (planned op vs (heads_of w.spaces)) n w)

abbrev pub actual_step : Layer Actual-F → Run Passed
actual_step (t.Value a) n w = bind (a n w) (λ vs. Gives (AsValue vs))
actual_step (t.Place p s) n w = bind (p n w) (λ x. Gives (AsPlace x))

abbrev pub value_arm_step : Layer ValueArm-F → Labelled (Run (List Value))
value_arm_step arm = record { labels = arm.labels; part = arm.value }

abbrev pub action_step : Layer Action-F → Run (Unit {0})
action_step (t.Action::Unit us) n w = spend (all us n) w
action_step (t.Store p s a) n w = stored p a n w
action_step (t.Modify change p a) n w = bind (p n w) (λ x w. bind (a (holding_place n) w) (λ vs. modify change x (the vs) tt))
action_step (t.Action::If c us us') n w = bind (c n w) (λ vs. branch (truth_of (the vs)) (all us n) (all us' n))
action_step (t.Action::Select a arms us) n w = bind (a n w) (λ vs. selected (number_of (the vs)) arms (all us) n)
action_step (t.Loop while' us until) n w = turns n.turns (turn while' (all us) until go_on n) w
action_step (t.Count p from way limit while' us until) n w =
    bind (stored p from n w) (λ _. counted p way limit (turn while' (all us) until) n)
action_step (t.Action::Ask name as') n w = bind (actuals as' n w) (request name)
action_step (t.ErrorStop a) n w = bind (a n w) (λ vs. Stopped (Own (text_of (the vs))))
action_step (t.Action::Call p as') n w = bind (actuals as' n w) (λ xs w. bind (n.calls.call p (all_slots xs) n.held w) (λ _. Gives tt))
action_step (t.Action::Refer p) n w = bind (n.calls.refer p n.base n.held w) (λ _. Gives tt)
action_step (t.Leave e) n w = Left e None w
action_step (t.LeaveWith e s a) n w = bind (a n w) (λ vs. Left e (Some vs))
action_step (t.Perform op as') n w = bind (values as' n w) (λ vs w. or_refused (planned op vs (heads_of w.spaces)) (λ _. Gives tt) w)
action_step (t.Copy p a) n w = bind (p n w) (λ x w. bind (a (holding_place n) w) (λ vs. copy_into x (the vs)))
action_step (t.Bind p s a) n w = bind (p n w) (λ x w. bind (a (holding_place n) w) (λ vs. bind_to x s (the vs)))

abbrev pub arm_step : Layer Arm-F → Labelled (Run (Unit {0}))
arm_step arm = record { labels = arm.labels; part = all arm.units }

-- what a phrase that delivers a value does
abbrev pub value : ValuePhrase → Run (List Value)
value =
    fold-ValuePhrase (Run (Unit {0})) (Run Passed) (Run Place) (Run (List Value)) (Labelled (Run (Unit {0}))) (Labelled (Run (List Value)))
    action_step actual_step place_step value_step arm_step value_arm_step

-- what an action does
abbrev pub act : Action → Run (Unit {0})
act =
    fold-Action (Run (Unit {0})) (Run Passed) (Run Place) (Run (List Value)) (Labelled (Run (Unit {0}))) (Labelled (Run (List Value)))
    action_step actual_step place_step value_step arm_step value_arm_step

-- what a body does when it is entered
abbrev pub content : Content → Run (Option (List Value))
content (contents.Units us) n w = bind (all (map act us) n w) (λ _. Gives None)
content (contents.Value s a) n w = bind (value a n w) (λ vs. Gives (Some vs))

-- the slots of a call: two, what the parameters hold, and the variables
abbrev pub frame : List Slot → List Kind → List Slot
frame xs variables = Taken ∷ Taken ∷ (xs ++ map (λ k. Holds (blank_of k)) variables)

-- the slots of a refinement
abbrev pub link : List Slot
link = Taken ∷ Taken ∷ []

-- a PROC has come to its end, or is left from itself or from a refinement of it; its slots, those from n on, are given back
abbrev pub called : ℕ → Outcome (Option (List Value)) → Outcome (Option (List Value))
called n (Gives v w) = Gives v (cut n w)
called n (Left e v w) = Gives v (cut n w)
called n (Stopped s w) = Stopped s w
called n (OutOfMarks w) = OutOfMarks w
called n (Asks q w) = Asks q w

-- a refinement has come to its end or is left, or it leaves the PROC
abbrev pub referred : ℕ → Outcome (Option (List Value)) → Outcome (Option (List Value))
referred n (Gives v w) = Gives v (cut n w)
referred n (Left exits.Body v w) = Gives v (cut n w)
referred n (Left exits.Around v w) = Left exits.Around v w
referred n (Stopped s w) = Stopped s w
referred n (OutOfMarks w) = OutOfMarks w
referred n (Asks q w) = Asks q w

-- the kinds of a PROC's own variables
abbrev pub own_variables : Scope → List Kind
own_variables (Own parameters variables) = variables
own_variables _ = []

-- a body that is called, and one that is referred to. There is always one; no well typed phrase names another
abbrev pub run_called : Calls → ℕ → Option Body → List Slot → ℕ → World → Outcome (Option (List Value))
run_called calls n None xs held w = OutOfMarks w
run_called calls n (Some b) xs held w =
    with_room (frame xs (own_variables b.scope))
    (λ w'. called (length w.store) (content b.content (record { calls = calls; turns = n; base = length w.store + 2; held = held }) w')) w

abbrev pub run_referred : Calls → ℕ → Option Body → ℕ → ℕ → World → Outcome (Option (List Value))
run_referred calls n None base held w = OutOfMarks w
run_referred calls n (Some b) base held w =
    with_room link (λ w'. referred (length w.store) (content b.content (record { calls = calls; turns = n; base = base; held = held }) w')) w

-- calls of these bodies, each for a mark, at most n deep; where n is at least the marks that are left it is no bound
abbrev pub level : List Body → ℕ → Calls
level bodies zero = record { call = λ p xs held. OutOfMarks; refer = λ p base held. OutOfMarks }
level bodies (suc n) = record {
  call = λ p xs held. spend (run_called (level bodies n) n (slice_get bodies p) xs held);
  refer = λ p base held. spend (run_referred (level bodies n) n (slice_get bodies p) base held);
}
