-- What the machine does with a list of instructions, one by one.
use Rattle.std.specs.Prelude.{ℕ, zero, suc, ◌+◌, ◌-◌, Bool, true, false, ◌&&◌, cond, List, [], ◌∷◌, ◌++◌, map, flat_map, length, take, drop, Option, Some, None, Ok, Err}
use Rattle.std.specs.Prelude.{ℤ, pos, ◌*◌, ◌%◌, nat_lt, slice_get}
use Rattle.std.specs.Ordering.{int_eq}
use Rattle.eu_base.specs.declared.address.Area.{Area}
use Rattle.eu_base.specs.declared.address.Area.TheVariants as areas
use Rattle.eu_base.specs.declared.address.Addr.{Addr}
use Rattle.cell_kinds.specs.Kinds.{packet_kinds}
use Rattle.eu_base.specs.declared.value.Kind.{Kind}
use Rattle.eu_base.specs.declared.value.Kind.TheVariants as kinds
use Rattle.eu_base.specs.declared.value.Value.{Value}
use Rattle.eu_base.specs.declared.value.Value.TheVariants as item
use Rattle.eu_base.specs.declared.stop.Stop.{Stop}
use Rattle.eu_base.specs.declared.stop.Stop.TheVariants.{Index as OutsideRow, CellRoom, OperandRoom, TextRoom, NoSpace, Own}
use Rattle.eu_base.specs.declared.operation.Way.{Way}
use Rattle.eu_base.specs.declared.request.Request.{Request}
use Rattle.eu_base.specs.declared.request.Reply.{Reply}
use Rattle.eu_base.specs.declared.request.RequestName.{RequestName}
use Rattle.eu_base.specs.declared.request.Reply.TheVariants as replies
use Rattle.eu_base.specs.Values.{SpaceNo, number_of, truth_of, text_of, space_of, kind_of, blank_of, number_in, truth_in, task_in, space_in}
use Rattle.eu_base.specs.Room.{value_bytes, values_bytes, place_bytes, values_blocks, cells_fit, bytes_fit, texts_fit}
use Rattle.eu_base.specs.declared.shape.Shape.{Shape}
use Rattle.eu_base.specs.Shapes.{cell_kinds}
use Rattle.eu_base.specs.Operations.{Given, operand_kinds, result_of, change_kind, changed, is_past, has_reached, next_number, in_row}
use Rattle.eu_base.specs.Requests.{request_kinds, request_result, request_size, is_message, sends, request_of, read_as, answer_of}
use Rattle.eu_base.specs.Requests.{Answer, reply_changes, then_asked, message_values}
use Rattle.eu_base.specs.Cells.{Cell, Free, Word, Letters, Cells, held_of, area_cell, run_cell, packet_cell, place_number, place_in, written, without, freed, cell_blocks}
use Rattle.eu_base.specs.Cells.{AreBare, area_blocks, blocks_in}
use Rattle.eu_base.specs.DataSpaces.{Heads, SpaceChange, Fills, heads_by}
use Rattle.eu_base.specs.SpaceOperations.{space_operand_kinds, Plan, planned, copy_plan, bind_plan, forgetting}
use Rattle.eu_base.specs.SpaceCells.{cells_by}
use Rattle.eu_base.specs.SpacePlaces.{lies_in}
use Rattle.eu_base.specs.declared.address.TheConstants.{CELLS}
use Rattle.code_form.specs.declared.operand.Operand.{Operand}
use Rattle.code_form.specs.declared.operand.Operand.TheVariants.{Value as Of, Place as At, Aggregate}
use Rattle.code_form.specs.declared.halt.Halt.{Halt}
use Rattle.code_form.specs.declared.halt.Halt.TheVariants as halts
use Rattle.code_form.specs.declared.waits.Waits.{Waits}
use Rattle.code_form.specs.declared.waits.Waits.TheVariants.{Nothing, Asked, Given as Replied, Refused}
use Rattle.code_form.specs.declared.instr.Instr.{Instr}
use Rattle.code_form.specs.declared.instr.Instr.TheVariants.{Mark, Number, Truth, Text, Outer, Packet, Local, Param, Index, Field, Content, Pick, Take, Load, Store, Do, OnSpaces, Copy, Bind, Modify, Jump, False}
use Rattle.code_form.specs.declared.instr.Instr.TheVariants.{When, Drop, Limit, Unlimit, Step, Ask, ErrorStop, Call, Refer, Back, Out, End}
use Rattle.code_form.specs.declared.code.Entry.{Entry}
use Rattle.code_form.specs.declared.code.Start.{Start}
use Rattle.code_form.specs.declared.code.Layout.{Layout}
use Rattle.code_form.specs.declared.code.Layout.TheVariants.{Own}
use Rattle.code_form.specs.Program.{Program, kinds_in_packets, start_kinds, instr_of, CellUse, HoldsValue, HoldsPlace, layout_of, cells_at}

-- a live call or refinement: the instruction to which it returns, its first cell, which is that of the frame below for a refinement,
-- the cells that were in use before it, its body, and what is pending in the frame below
pub record Frame : Type 0 where
  pub back : ℕ
  pub base : ℕ
  pub used : ℕ
  pub refines : Bool
  pub body : ℕ
  pub ops : List Operand

-- where the machine stands: its instruction, the pending operands, the newest first, the cells in use, and the live frames, the
-- innermost first
pub record Position : Type 0 where
  pub pc : ℕ
  pub ops : List Operand
  pub used : ℕ
  pub frames : List Frame

-- a position, and what is waited for there
pub record Control : Type 0 where
  pub position : Position
  pub waits : Waits

abbrev pub free : Position → Control
free c = record { position = c; waits = Nothing }

abbrev pub asking : Position → Request → Control
asking c q = record { position = c; waits = Asked q }

abbrev pub given : Position → Reply → Control
given c r = record { position = c; waits = Replied r }

abbrev pub refused : Position → Stop → Control
refused c stop = record { position = c; waits = Refused stop }

-- what is known of the cells, and the data spaces without their content
pub record Mem : Type 0 where
  pub cells : Cells
  pub heads : Heads

-- where an instruction leads once its mark is spent: on, to a request, or to a stop; or it is not known that the cells that it takes are free
pub data After : Type 0 where
  To : Position → Mem → After
  Asks : Position → Request → Mem → After
  Stops : Stop → After
  Unsaid : After

-- what an instruction does: it goes on, spends a mark and then does more, stops and has done nothing, goes on to where a stop waits, ends the command;
-- or what it reads is not known; or it cannot be done
pub data Move : Type 0 where
  Goes : Position → Mem → Move
  Spends : After → Move
  Halts : Stop → Move
  Refuses : Stop → Position → Mem → Move
  Ends : Move
  Unknown : Move
  Stuck : Move

-- another instruction and other operands
abbrev pub at : Position → ℕ → List Operand → Position
at c pc ops = record c { pc = pc; ops = ops }

-- more or fewer cells in use
abbrev pub using : Position → ℕ → Position
using c n = record c { used = n }

abbrev pub goes : Position → List Operand → Mem → Move
goes c ops m = Goes (at c (c.pc + 1) ops) m

-- with other cells
abbrev pub with_cells : Cells → Mem → Mem
with_cells cells m = record m { cells = cells }

-- a value is the list of the values of its cells; one of one cell is pushed as it is
abbrev pub operand_of : List Value → Operand
operand_of (v ∷ []) = Of v
operand_of vs = Aggregate vs

-- a value of a shape takes so many bytes at least where it is pending
abbrev pub least_bytes : Shape → ℕ
least_bytes s = 8 * length (cell_kinds s)

-- the bytes of pending operands
abbrev pub operand_bytes : Operand → ℕ
operand_bytes (Of v) = value_bytes v
operand_bytes (At a) = place_bytes
operand_bytes (Aggregate vs) = values_bytes vs

abbrev pub bytes_on : List Operand → ℕ → ℕ
bytes_on [] held = held
bytes_on (o ∷ ops) held = operand_bytes o + bytes_on ops held

abbrev pub bytes_of : List Frame → ℕ
bytes_of [] = 0
bytes_of (f ∷ fs) = bytes_on f.ops (bytes_of fs)

-- the first cell of the innermost frame
abbrev pub base_of : List Frame → ℕ
base_of [] = 0
base_of (f ∷ fs) = f.base

-- goes on so where so many bytes more can be pending
abbrev pub on_room : Position → ℕ → List Operand → Move → Move
on_room c bytes ops move = cond (bytes_fit (bytes + bytes_on ops (bytes_of c.frames))) move (Halts OperandRoom)

-- the next instruction, with one operand more, where it has room
abbrev pub pushes : Position → Operand → List Operand → Mem → Move
pushes c o ops m = on_room c (operand_bytes o) ops (goes c (o ∷ ops) m)

-- takes what is on top: a value of one cell, the values of the cells of any value, a place
abbrev pub on_value : List Operand → (Value → List Operand → Move) → Move
on_value (Of v ∷ ops) go = go v ops
on_value _ go = Stuck

abbrev pub on_all : List Operand → (List Value → List Operand → Move) → Move
on_all (Of v ∷ ops) go = go (v ∷ []) ops
on_all (Aggregate vs ∷ ops) go = go vs ops
on_all _ go = Stuck

abbrev pub on_place : List Operand → (Addr → List Operand → Move) → Move
on_place (At a ∷ ops) go = go a ops
on_place _ go = Stuck

-- takes so many values, and puts them before those that were taken, so that the newest comes last
abbrev pub on_values : ℕ → List Value → List Operand → (List Value → List Operand → Move) → Move
on_values zero vs ops go = go vs ops
on_values (suc n) vs (Of v ∷ ops) go = on_values n (v ∷ vs) ops go
on_values (suc n) vs _ go = Stuck

-- takes so many operands, and puts them before those that were taken
abbrev pub on_operands : ℕ → List Operand → List Operand → (List Operand → List Operand → Move) → Move
on_operands zero os ops go = go os ops
on_operands (suc n) os (o ∷ ops) go = on_operands n (o ∷ os) ops go
on_operands (suc n) os [] go = Stuck

abbrev pub or_halt : Given → (Value → Move) → Move
or_halt (Ok v) go = go v
or_halt (Err s) go = Halts s

-- the number that a cell holds, the one that this stands for, and the text; and the value of a kind
abbrev pub on_word : Cell → (ℕ → Move) → Move
on_word (Word n) go = go n
on_word (Letters t) go = Unknown
on_word Free go = Unknown

abbrev pub on_number : Cell → (ℤ → Move) → Move
on_number cell go = on_word cell (λ n. go (number_in n))

abbrev pub on_text : Cell → (List ℕ → Move) → Move
on_text (Word n) go = Unknown
on_text (Letters t) go = go t
on_text Free go = Unknown

abbrev pub on_cell : Kind → Cell → (Value → Move) → Move
on_cell kinds.Int cell go = on_number cell (λ z. go (item.Int z))
on_cell kinds.Truth cell go = on_word cell (λ n. go (item.Truth (truth_in n)))
on_cell kinds.Text cell go = on_text cell (λ t. go (item.Text t))
on_cell kinds.Task cell go = on_word cell (λ n. go (item.Task (task_in n)))
on_cell kinds.Space cell go = on_word cell (λ n. go (item.Space (space_in n)))

-- the place so many cells further on
abbrev pub further : Addr → ℕ → Addr
further a n = area_cell a.area (a.cell + n)

-- goes on with it, where its area has such a cell
abbrev pub on_further : Addr → ℕ → (Addr → Move) → Move
on_further a n go = cond (nat_lt (a.cell + n) CELLS) (go (further a n)) (Halts NoSpace)

-- the next cell. Behind the last of an area none is looked at, so it does not matter that the first one stands for it
abbrev pub next : Addr → Addr
next a = area_cell a.area ((a.cell + 1) % CELLS)

-- goes on where cells of these kinds stand at a place, within its area. A data space is looked at in each access: it may be gone
abbrev pub if_there : List Kind → Addr → Mem → Move → Move
if_there ks a m move = cond (lies_in ks a.area a.cell m.heads) move (Halts NoSpace)

-- the values of these kinds in the cells from a place on
abbrev pub on_cells : List Kind → Addr → Cells → (List Value → Move) → Move
on_cells [] a cells go = go []
on_cells (k ∷ ks) a cells go = on_cell k (cells a) (λ v. on_cells ks (next a) cells (λ vs. go (v ∷ vs)))

-- a number is put into a cell that is not known to hold a text, and a text into one that is
abbrev pub takes_number : Cell → Bool
takes_number Free = true
takes_number (Word n) = true
takes_number (Letters t) = false

abbrev pub is_text : Cell → Bool
is_text Free = false
is_text (Word n) = false
is_text (Letters t) = true

abbrev pub takes : Cell → Cell → Bool
takes Free cell = false
takes (Word n) cell = takes_number cell
takes (Letters t) cell = is_text cell

abbrev pub puts : Position → Addr → Value → List Operand → Mem → Move
puts c a v ops m =
    if_there (kind_of v ∷ []) a m
    (cond (takes (held_of v) (m.cells a))
    (cond (texts_fit (cell_blocks (held_of v)) (area_blocks a.area (written m.cells a (held_of v)))) (goes c ops (with_cells (written m.cells a (held_of v)) m))
    (Halts TextRoom))
    Unknown)

-- values are put into the cells from a place on, all of them or, where their texts have no room in the area, none
abbrev pub written_all : Cells → Addr → List Value → Cells
written_all cells a [] = cells
written_all cells a (v ∷ vs) = written_all (written cells a (held_of v)) (next a) vs

abbrev pub takes_all : List Value → Addr → Cells → Bool
takes_all [] a cells = true
takes_all (v ∷ vs) a cells = takes (held_of v) (cells a) && takes_all vs (next a) cells

abbrev pub puts_all : Position → Addr → List Value → List Operand → Mem → Move
puts_all c a vs ops m =
    if_there (map kind_of vs) a m
    (cond (takes_all vs a m.cells)
    (cond (texts_fit (values_blocks vs) (area_blocks a.area (written_all m.cells a vs))) (goes c ops (with_cells (written_all m.cells a vs) m)) (Halts TextRoom))
    Unknown)

abbrev pub on_item : Option ℕ → (ℕ → Move) → Move
on_item None go = Halts OutsideRow
on_item (Some k) go = go k

-- what stands for an operand in cells, one after the other
abbrev pub held_cells : Operand → List Cell
held_cells (Of v) = held_of v ∷ []
held_cells (At a) = Word (place_number a) ∷ []
held_cells (Aggregate vs) = map held_of vs

-- what the cells of a frame hold: two for the call, what the parameters hold, and the variables
abbrev pub frame_contents : List Operand → List Kind → List Cell
frame_contents args variables = Word 0 ∷ Word 0 ∷ (flat_map held_cells args ++ map (λ k. held_of (blank_of k)) variables)

abbrev pub link_contents : List Cell
link_contents = Word 0 ∷ Word 0 ∷ []

-- the blocks of the texts in it
abbrev pub content_blocks : List Cell → ℕ
content_blocks [] = 0
content_blocks (n ∷ ns) = cell_blocks n + content_blocks ns

-- it is put into cells of an area, one after another; all frames stand in those of the command
abbrev pub written_in : Area → ℕ → List Cell → Cells → Cells
written_in area at [] cells = cells
written_in area at (n ∷ ns) cells = written_in area (suc at) ns (written cells (area_cell area at) n)

abbrev pub written_from : ℕ → List Cell → Cells → Cells
written_from at ns cells = written_in areas.Run at ns cells

-- variables of these kinds are made from a cell on, where they have room
abbrev pub made_in : Area → ℕ → List Kind → Cells → Cells
made_in area at kinds cells = cond (cells_fit (at + length kinds)) (written_in area at (map (λ k. held_of (blank_of k)) kinds) cells) cells

-- no texts with blocks stand where variables are made
abbrev pub CanBeMade : Program → Cells → Type 0
CanBeMade p cells =
    AreBare areas.Run 0 (length (start_kinds p)) cells × AreBare areas.Packets (length (packet_kinds p.packets)) (length p.inserted) cells

-- those of a command, or those of the call of a start procedure, and those of the packet that is inserted, behind those of the packets of
-- the task
abbrev pub made : Program → Cells → Cells
made p cells = made_in areas.Packets (length (packet_kinds p.packets)) p.inserted (made_in areas.Run 0 (start_kinds p) cells)

-- nothing is known of a cell, and of as many of the command's as these from one on
abbrev pub is_free : Cell → Bool
is_free Free = true
is_free (Word n) = false
is_free (Letters t) = false

abbrev pub are_free : ℕ → List Cell → Cells → Bool
are_free at [] cells = true
are_free at (n ∷ ns) cells = is_free (cells (run_cell at)) && are_free (suc at) ns cells

-- goes to a body, with a frame that has this in its cells, which were free, where the cells have room, and then the texts
abbrev pub entering : Position → ℕ → ℕ → Bool → ℕ → List Operand → List Cell → Mem → After
entering c first base refines body ops contents m =
    cond (cells_fit (c.used + length contents))
    (cond (texts_fit (content_blocks contents) (blocks_in (written_from c.used contents m.cells)))
    (To (record {
      pc = first;
      ops = [];
      used = c.used + length contents;
      frames =
          record { back = c.pc + 1; base = base; used = c.used; refines = refines; body = body; ops = ops } ∷ c.frames;
    }) (with_cells (written_from c.used contents m.cells) m))
    (Stops TextRoom))
    (Stops CellRoom)

abbrev pub enters : Position → ℕ → ℕ → Bool → ℕ → List Operand → List Cell → Mem → After
enters c first base refines body ops contents m = cond (are_free c.used contents m.cells) (entering c first base refines body ops contents m) Unsaid

abbrev pub calls_to : Position → ℕ → ℕ → Layout → Mem → Move
calls_to c n first (Own parameters variables) m =
    on_operands (length parameters) [] c.ops (λ args ops. Spends (enters c first (c.used + 2) false n ops (frame_contents args variables) m))
calls_to c n first _ m = Stuck

abbrev pub call_move : Position → ℕ → Option Entry → Mem → Move
call_move c n (Some e) m = calls_to c n e.first e.layout m
call_move c n None m = Stuck

abbrev pub refer_move : Position → ℕ → Option Entry → Mem → Move
refer_move c n (Some e) m = Spends (enters c e.first (base_of c.frames) true n c.ops link_contents m)
refer_move c n None m = Stuck

-- the result, where there is one
abbrev pub on_result : Option Shape → List Operand → (List Operand → Move) → Move
on_result None ops go = go []
on_result (Some s) (Of v ∷ ops) go = go (Of v ∷ [])
on_result (Some s) (Aggregate vs ∷ ops) go = go (Aggregate vs ∷ [])
on_result (Some s) _ go = Stuck

-- a cell is known to hold a number, and what it is used for
abbrev pub is_word : Cell → Bool
is_word Free = false
is_word (Word n) = true
is_word (Letters t) = false

abbrev pub is_of : CellUse → Cell → Bool
is_of (HoldsValue kinds.Int) cell = is_word cell
is_of (HoldsValue kinds.Truth) cell = is_word cell
is_of (HoldsValue kinds.Text) cell = is_text cell
is_of (HoldsValue kinds.Task) cell = is_word cell
is_of (HoldsValue kinds.Space) cell = is_word cell
is_of HoldsPlace cell = is_word cell

-- so many of the command's cells from one on are known to hold what they are used for, and the others of them numbers
abbrev pub are_of : List CellUse → ℕ → ℕ → Cells → Bool
are_of us at zero cells = true
are_of [] at (suc n) cells = is_word (cells (run_cell at)) && are_of [] (suc at) n cells
are_of (u ∷ us) at (suc n) cells = is_of u (cells (run_cell at)) && are_of us (suc at) n cells

-- a frame's cells are known to hold what the tables say: two numbers for the call, what its parameters and variables hold, and limits
abbrev pub is_framed : Option Entry → ℕ → ℕ → Cells → Bool
is_framed e from used cells = are_of (HoldsValue kinds.Int ∷ HoldsValue kinds.Int ∷ cells_at (layout_of e)) from (used - from) cells

-- leaves a frame, and leaves those of refinements and that of their PROC; so many cells were in use, and what those of the frames hold is
-- known: numbers are forgotten, and texts freed
abbrev pub back_into : Program → List Operand → ℕ → Frame → List Frame → Mem → Move
back_into p result used f fs m =
    cond (is_framed (slice_get p.bodies f.body) f.used used m.cells)
    (Goes (record { pc = f.back; ops = result ++ f.ops; used = f.used; frames = fs }) (with_cells (freed f.used used m.cells) m)) Unknown

abbrev pub back_to : Program → List Operand → ℕ → List Frame → Mem → Move
back_to p result used [] m = Stuck
back_to p result used (f ∷ fs) m = back_into p result used f fs m

abbrev pub out_to : Program → List Operand → ℕ → List Frame → Mem → Move
out_to p result used [] m = Stuck
out_to p result used (f ∷ fs) m = cond f.refines (out_to p result used fs m) (back_into p result used f fs m)

-- keeps a limit in a cell, and looks whether the counter is past it
abbrev pub limit_to : Position → Way → ℕ → ℤ → Addr → List Operand → Mem → Move
limit_to c way a limit x ops m =
    cond (cells_fit (c.used + 1))
    (cond (is_free (m.cells (run_cell c.used)))
    (if_there (kinds.Int ∷ []) x m (on_number (m.cells x) (λ z.
    Goes (using (at c (cond (is_past way limit z) a (c.pc + 1)) ops) (c.used + 1))
    (with_cells (written m.cells (run_cell c.used) (held_of (item.Int limit))) m))))
    Unknown)
    (Halts CellRoom)

-- the value of one cell that an operand is; 0 stands for it where it is another
abbrev pub value_in : Operand → Value
value_in (Of v) = v
value_in _ = item.Int (pos 0)

-- goes on from a request, and puts a value into its variable, where it has one
abbrev pub keeps : Position → List Operand → Value → List Operand → Mem → Move
keeps c [] v ops m = goes c ops m
keeps c (At a ∷ os) v ops m = puts c a v ops m
keeps c _ v ops m = Stuck

-- ---- data spaces

-- the place where the content of a data space begins. The nil space has none; the number 0, which no data space has, stands for it
abbrev pub content_at : Option SpaceNo → Addr
content_at (Some s) = area_cell (areas.Space s) 0
content_at None = area_cell (areas.Space (record { 0 = 0 })) 0

-- the data spaces change so, and with them what is known of their cells
abbrev pub mem_by : SpaceChange → Mem → Mem
mem_by change m = record { cells = cells_by change m.heads m.cells; heads = heads_by change m.heads }

abbrev pub mem_after : List SpaceChange → Mem → Mem
mem_after [] m = m
mem_after (change ∷ changes) m = mem_after changes (mem_by change m)

-- goes on with what is planned, after its changes, or stops
abbrev pub changes : {A : Type 0} → Plan A → Mem → (A → Mem → Move) → Move
changes (Ok plan) m go = go plan.0 (mem_after plan.1 m)
changes (Err s) m go = Halts s

-- what a procedure on data spaces delivers is pushed, where it delivers something
abbrev pub answers : Position → Option Value → List Operand → Mem → Move
answers c None ops m = goes c ops m
answers c (Some v) ops m = pushes c (Of v) ops m

-- the cell of a variable gets the number of a data space
abbrev pub keeps_space : Addr → SpaceNo → Mem → (Mem → Move) → Move
keeps_space a s m go = cond (takes_number (m.cells a)) (go (with_cells (written m.cells a (held_of (item.Space (Some s)))) m)) Unknown

-- the data space that a variable held is forgotten
abbrev pub without_held : Option SpaceNo → Mem → Mem
without_held held m = mem_after (forgetting held m.heads) m

-- ---- requests

-- a variable gets what a message brings, which is no text; where it held a data space, that is forgotten then. Where the variable is gone, the command
-- stops behind the request
abbrev pub receives_in : Position → List Operand → Addr → Value → Mem → (Mem → Move) → Move
receives_in c ops a v m go =
    cond (lies_in (kind_of v ∷ []) a.area a.cell m.heads)
    (on_cell (kind_of v) (m.cells a) (λ held.
    cond (takes (held_of v) (m.cells a)) (go (without_held (space_of held) (with_cells (written m.cells a (held_of v)) m))) Unknown))
    (Refuses NoSpace (at c (c.pc + 1) ops) m)

abbrev pub receives_at : Position → List Operand → Option Operand → Value → Mem → (Mem → Move) → Move
receives_at c ops (Some (At a)) v m go = receives_in c ops a v m go
receives_at c ops _ v m go = Stuck

-- variables get all that a message brings, one after another
abbrev pub receives : Position → List Operand → List Operand → List (ℕ × Value) → Mem → Move
receives c ops os [] m = goes c ops m
receives c ops os (e ∷ es) m = receives_at c ops (slice_get os e.0) e.1 m (receives c ops os es)

-- the number that the last data space got
abbrev pub last_made : Mem → SpaceNo
last_made m = record { 0 = m.heads.last }

-- the variables of a request, behind its values, get what a reply brings
abbrev pub puts_reply : Bool → RequestName → Reply → Position → List Operand → List Operand → Mem → Move
puts_reply true name r c os ops m = receives c ops os (message_values name r (last_made m)) m
puts_reply false name r c os ops m = or_halt (read_as name r) (λ v. keeps c os v ops m)

-- what a request does with the reply, where it took these operands: what it delivers is pushed; where it delivers nothing, its variables
-- get what it reads
abbrev pub settles : RequestName → Option Kind → Reply → Position → List Operand → List Operand → Mem → Move
settles name None r c os ops m = puts_reply (is_message name) name r c (drop (length (request_kinds name)) os) ops m
settles name (Some k) r c os ops m = or_halt (answer_of name r) (λ v. pushes c (Of v) ops m)

-- what an instruction does that made a request, with the reply. No other makes one
abbrev pub takes_reply : Option Instr → Reply → Position → Mem → Move
takes_reply (Some (Ask name)) r c m =
    on_operands (request_size name) [] c.ops (λ os ops. settles name (request_result name) r c os ops m)
takes_reply _ r c m = Stuck

-- the number that a cell holds, once a mark is spent
abbrev pub after_word : Cell → (ℕ → After) → After
after_word (Word n) go = go n
after_word (Letters t) go = Unsaid
after_word Free go = Unsaid

-- a request that sends a data space is made with the one in its first variable
abbrev pub asks_with : RequestName → List Value → List Operand → Position → Mem → After
asks_with name vs (At a ∷ os) c m =
    cond (lies_in (kinds.Space ∷ []) a.area a.cell m.heads)
    (after_word (m.cells a) (λ n. Asks c (request_of name (item.Space (space_in n) ∷ vs)) m))
    (Stops NoSpace)
asks_with _ vs _ c m = Unsaid

-- what a request asks for with these operands
abbrev pub asks_for : Bool → RequestName → List Operand → Position → Mem → After
asks_for true name os c m = asks_with name (map value_in os) (drop (length (request_kinds name)) os) c m
asks_for false name os c m = Asks c (request_of name (map value_in os)) m

-- ---- what is done with data spaces

-- a variable gets a copy of a data space
abbrev pub copies : Position → Option SpaceNo → Addr → List Operand → Mem → Move
copies c from a ops m =
    if_there (kinds.Space ∷ []) a m (on_word (m.cells a) (λ held.
    changes (copy_plan None from m.heads) m (λ s m'. keeps_space a s m' (λ m''. goes c ops (without_held (space_in held) m'')))))

-- nothing is known of so many cells of an area from one on, and so it is with those that get their first values by changes
abbrev pub are_unknown : Area → ℕ → ℕ → Cells → Bool
are_unknown area at zero cells = true
are_unknown area at (suc n) cells = is_free (cells (area_cell area at)) && are_unknown area (suc at) n cells

abbrev pub can_change : SpaceChange → Cells → Bool
can_change (Fills s shape) cells = are_unknown (areas.Space s) 0 (length (cell_kinds shape)) cells
can_change _ cells = true

abbrev pub can_all_change : List SpaceChange → Cells → Bool
can_all_change [] cells = true
can_all_change (change ∷ changes) cells = can_change change cells && can_all_change changes cells

abbrev pub fills : {A : Type 0} → Plan A → Mem → (A → Mem → Move) → Move
fills (Ok plan) m go = cond (can_all_change plan.1 m.cells) (go plan.0 (mem_after plan.1 m)) Unknown
fills (Err s) m go = Halts s

-- a variable is bound to a data space, which has this shape then
abbrev pub binds : Position → Shape → Option SpaceNo → Addr → List Operand → Mem → Move
binds c shape space a ops m =
    if_there (kinds.Space ∷ []) a m
    (cond (cells_fit (length (cell_kinds shape)))
    (fills (bind_plan shape space m.heads) m (λ s m'. keeps_space a s m' (goes c ops)))
    (Halts CellRoom))

-- the cell of the innermost limit
abbrev pub limit_cell : Position → Cells → Cell
limit_cell c cells = cells (run_cell (c.used - 1))

-- what an instruction of a program does. It looks at where bodies begin and what frames they have, not at the other tables
abbrev pub instruction : Program → Option Instr → Position → Mem → Move
instruction p None c m = Stuck
instruction p (Some Mark) c m = Spends (To (at c (c.pc + 1) c.ops) m)
instruction p (Some (Number z)) c m = pushes c (Of (item.Int z)) c.ops m
instruction p (Some (Truth b)) c m = pushes c (Of (item.Truth b)) c.ops m
instruction p (Some (Text t)) c m = pushes c (Of (item.Text t)) c.ops m
instruction p (Some (Outer k)) c m = pushes c (At (run_cell k)) c.ops m
instruction p (Some (Packet k)) c m = pushes c (At (packet_cell (k % CELLS))) c.ops m
instruction p (Some (Local k)) c m = pushes c (At (run_cell (base_of c.frames + k))) c.ops m
instruction p (Some (Param k)) c m = on_word (m.cells (run_cell (base_of c.frames + k))) (λ n. pushes c (At (place_in n)) c.ops m)
instruction p (Some (Index n size)) c m =
    on_value c.ops (λ v ops. on_place ops (λ a ops. on_item (in_row n (number_of v)) (λ k. on_further a (k * size) (λ to. pushes c (At to) ops m))))
instruction p (Some (Field n)) c m = on_place c.ops (λ a ops. on_further a n (λ to. pushes c (At to) ops m))
instruction p (Some Content) c m =
    on_place c.ops (λ a ops. if_there (kinds.Space ∷ []) a m (on_word (m.cells a) (λ n. pushes c (At (content_at (space_in n))) ops m)))
instruction p (Some (Pick n size)) c m =
    on_value c.ops (λ v ops.
    on_all ops (λ vs ops. on_item (in_row n (number_of v)) (λ k. pushes c (operand_of (take size (drop (k * size) vs))) ops m)))
instruction p (Some (Take of from size)) c m = on_all c.ops (λ vs ops. pushes c (operand_of (take size (drop from vs))) ops m)
instruction p (Some (Load s)) c m =
    on_place c.ops (λ a ops.
    if_there (cell_kinds s) a m (on_room c (least_bytes s) ops (on_cells (cell_kinds s) a m.cells (λ vs. pushes c (operand_of vs) ops m))))
instruction p (Some (Store s)) c m = on_all c.ops (λ vs ops. on_place ops (λ a ops. puts_all c a vs ops m))
instruction p (Some (Do op)) c m =
    on_values (length (operand_kinds op)) [] c.ops (λ vs ops. or_halt (result_of op vs) (λ v. pushes c (Of v) ops m))
instruction p (Some (OnSpaces op)) c m =
    on_values (length (space_operand_kinds op)) [] c.ops (λ vs ops. changes (planned op vs m.heads) m (λ v m'. answers c v ops m'))
instruction p (Some Copy) c m = on_value c.ops (λ v ops. on_place ops (λ a ops. copies c (space_of v) a ops m))
instruction p (Some (Bind s)) c m = on_value c.ops (λ v ops. on_place ops (λ a ops. binds c s (space_of v) a ops m))
instruction p (Some (Modify change)) c m =
    on_value c.ops (λ v ops.
    on_place ops (λ a ops.
    if_there (change_kind change ∷ []) a m (on_cell (change_kind change) (m.cells a) (λ w. or_halt (changed change w v) (λ x. puts c a x ops m)))))
instruction p (Some (Jump a)) c m = Goes (at c a c.ops) m
instruction p (Some (False a)) c m = on_value c.ops (λ v ops. Goes (at c (cond (truth_of v) (c.pc + 1) a) ops) m)
instruction p (Some (When z a)) c m =
    on_value c.ops (λ v ops. cond (int_eq (number_of v) z) (Goes (at c a ops) m) (goes c (Of v ∷ ops) m))
instruction p (Some Drop) c m = on_value c.ops (λ v ops. goes c ops m)
instruction p (Some (Limit way a)) c m = on_value c.ops (λ v ops. on_place ops (λ x ops. limit_to c way a (number_of v) x ops m))
instruction p (Some Unlimit) c m = Goes (using (at c (c.pc + 1) c.ops) (c.used - 1)) (with_cells (without (c.used - 1) c.used m.cells) m)
instruction p (Some (Step way a)) c m =
    on_place c.ops (λ x ops. on_number (limit_cell c m.cells) (λ limit.
    if_there (kinds.Int ∷ []) x m (on_number (m.cells x) (λ z.
    cond (has_reached way limit z) (Goes (at c a ops) m) (goes c ops (with_cells (written m.cells x (held_of (item.Int (next_number way z)))) m))))))
instruction p (Some (Ask name)) c m =
    on_operands (request_size name) [] c.ops (λ os ops. Spends (asks_for (sends name) name os c m))
instruction p (Some ErrorStop) c m = on_value c.ops (λ v ops. Refuses (Own (text_of v)) (at c (c.pc + 1) ops) m)
instruction p (Some (Call n)) c m = call_move c n (slice_get p.bodies n) m
instruction p (Some (Refer n)) c m = refer_move c n (slice_get p.bodies n) m
instruction p (Some (Back s)) c m = on_result s c.ops (λ result. back_to p result c.used c.frames m)
instruction p (Some (Out s)) c m = on_result s c.ops (λ result. out_to p result c.used c.frames m)
instruction p (Some End) c m = Ends

-- one step, where nothing is waited for
abbrev pub step : Program → Position → Mem → Move
step p c m = instruction p (instr_of (slice_get p.lines c.pc)) c m

-- what the machine runs on: its memory, the marks that are left, and the answers that are left
pub record Scene : Type 0 where
  pub mem : Mem
  pub marks : ℕ
  pub replies : List Answer

-- how a run came to rest, and where
pub record Rest : Type 0 where
  pub how : Halt
  pub control : Control
  pub scene : Scene

-- what a reply leads to: the request that follows it, a stop, or its instruction goes on with it
abbrev pub answered_by : Option Request → Reply → Position → Control
answered_by (Some q) r c = asking c q
answered_by None (replies.Stopped stop) c = refused c stop
answered_by None replies.Done c = given c replies.Done
answered_by None (replies.Text t) c = given c (replies.Text t)
answered_by None (replies.Task n) c = given c (replies.Task n)
answered_by None (replies.Truth b) c = given c (replies.Truth b)
answered_by None replies.Taken c = given c replies.Taken
answered_by None (replies.Receipt z) c = given c (replies.Receipt z)
answered_by None (replies.Message code from space) c = given c (replies.Message code from space)

abbrev pub answered : Request → Reply → Position → Control
answered q r c = answered_by (then_asked q r) r c

-- and what it does to the data spaces
abbrev pub after_reply : Request → Answer → Mem → Mem
after_reply q a m = mem_after (reply_changes q a m.heads) m

-- what a step leads to: a next state, rest, or nothing
pub data Stage : Type 0 where
  On : Control → Scene → Stage
  Over : Rest → Stage
  Lost : Stage

abbrev pub rest_at : Halt → Control → Scene → Rest
rest_at h c s = record { how = h; control = c; scene = s }

-- where it rests, it stays as it was
abbrev pub after_stage : After → Control → Scene → Stage
after_stage (To c' m) d s = On (free c') (record s { mem = m })
after_stage (Asks c' q m) d s = On (asking c' q) (record s { mem = m })
after_stage (Stops stop) d s = Over (rest_at (halts.Stopped stop) d s)
after_stage Unsaid d s = Lost

abbrev pub mark_stage : ℕ → After → Control → Scene → Stage
mark_stage zero a d s = Over (rest_at halts.Marked d s)
mark_stage (suc m) a d s = after_stage a d (record s { marks = m })

abbrev pub move_stage : Move → Control → Scene → Stage
move_stage (Goes c' m) d s = On (free c') (record s { mem = m })
move_stage (Spends a) d s = mark_stage s.marks a d s
move_stage (Halts stop) d s = Over (rest_at (halts.Stopped stop) d s)
move_stage (Refuses stop c' m) d s = On (refused c' stop) (record s { mem = m })
move_stage Ends d s = Over (rest_at halts.Ended d s)
move_stage Unknown d s = Lost
move_stage Stuck d s = Lost

abbrev pub stage : Move → Position → Scene → Stage
stage m c s = move_stage m (free c) s

abbrev pub reply_stage : List Answer → Request → Position → Scene → Stage
reply_stage [] q c s = Over (rest_at (halts.Asks q) (asking c q) s)
reply_stage (a ∷ as') q c s = On (answered q a.reply c) (record s { mem = after_reply q a s.mem; replies = as' })

-- where nothing is waited for, a step is made; a request takes the next answer, and goes on with it; and what was refused stops
abbrev pub stage_at : Waits → Program → Position → Scene → Stage
stage_at Nothing p c s = stage (step p c s.mem) c s
stage_at (Asked q) p c s = reply_stage s.replies q c s
stage_at (Replied r) p c s = move_stage (takes_reply (instr_of (slice_get p.lines c.pc)) r c s.mem) (given c r) s
stage_at (Refused stop) p c s = Over (rest_at (halts.Stopped stop) (refused c stop) s)

abbrev pub advance : Program → Control → Scene → Stage
advance p c s = stage_at c.waits p c.position s

abbrev pub carry_on : Stage → (Control → Scene → Option Rest) → Option Rest
carry_on (On c s) next = next c s
carry_on (Over r) next = Some r
carry_on Lost next = None

-- at most n steps, and none where these are too few
abbrev pub exec : Program → ℕ → Control → Scene → Option Rest
exec p zero c s = None
exec p (suc n) c s = carry_on (advance p c s) (exec p n)

-- the cells that a command has at its start have room, and so have those of all packets
abbrev pub have_room : Program → Bool
have_room p = cells_fit (length (start_kinds p)) && cells_fit (length (kinds_in_packets p))

-- the frame of a start procedure is made already
abbrev pub start_frames : Option Start → List Frame
start_frames None = []
start_frames (Some s) =
    record { back = s.back; base = 2; used = 0; refines = false; body = s.body; ops = [] } ∷ []

-- where a command starts. Where its cells have no room, it stops there
abbrev pub start : Program → Control
start p = record {
  position = record { pc = 0; ops = []; used = length (start_kinds p); frames = start_frames p.start };
  waits = cond (have_room p) Nothing (Refused CellRoom);
}
