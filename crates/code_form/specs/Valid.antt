-- The tables of code agree along each step, and each cycle of jumps spends a mark.
use Rattle.std.specs.Prelude.{◌≡◌, ℕ, ◌+◌, ◌*◌, ◌<◌, ◌≤◌, Bool, true, false, List, [], ◌∷◌, ◌++◌, map, flat_map, length, take, drop, Option, Some, None, slice_get}
use Rattle.eu_base.specs.declared.value.Kind.{Kind}
use Rattle.eu_base.specs.declared.value.Kind.TheVariants as kinds
use Rattle.eu_base.specs.declared.value.Value.{Value as Item}
use Rattle.eu_base.specs.declared.shape.Shape.{Shape}
use Rattle.eu_base.specs.declared.shape.Shape.TheVariants.{Cell}
use Rattle.eu_base.specs.Shapes.{cell_kinds}
use Rattle.eu_base.specs.Values.{kind_of}
use Rattle.eu_base.specs.Room.{cells_fit, bytes_fit}
use Rattle.eu_base.specs.Operations.{operand_kinds, result_kind, change_kind}
use Rattle.eu_base.specs.declared.request.RequestName.{RequestName}
use Rattle.eu_base.specs.Requests.{request_kinds, request_places, request_result}
use Rattle.eu_base.specs.Cells.{IsCell}
use Rattle.eu_base.specs.SpaceOperations.{space_operand_kinds, space_result_kind}
use Rattle.code_form.specs.declared.operand.Operand.{Operand}
use Rattle.code_form.specs.declared.operand.Operand.TheVariants.{Place as At}
use Rattle.code_form.specs.declared.operand.OperandKind.{OperandKind}
use Rattle.code_form.specs.declared.operand.OperandKind.TheVariants.{Value, Place}
use Rattle.code_form.specs.declared.instr.Instr.{Instr}
use Rattle.code_form.specs.declared.instr.Instr.TheVariants.{Mark, Number, Truth, Text, Outer, Packet, Local, Param, Index, Field, Content, Pick, Take, Load, Store, Do, OnSpaces, Copy, Bind, Modify, Jump, False}
use Rattle.code_form.specs.declared.instr.Instr.TheVariants.{When, Drop, Limit, Unlimit, Step, Ask, ErrorStop, Call, Refer, Back, Out, End}
use Rattle.code_form.specs.declared.code.Line.{Line}
use Rattle.code_form.specs.declared.code.Spot.{Spot}
use Rattle.code_form.specs.declared.code.Entry.{Entry}
use Rattle.code_form.specs.declared.code.Start.{Start}
use Rattle.code_form.specs.declared.code.Layout.{Layout}
use Rattle.code_form.specs.declared.code.Layout.TheVariants as layouts
use Rattle.code_form.specs.Program.{Program, kinds_in_packets, line_of, instr_of, at_level, spot_at, in_body, deeper, HoldsValue, HoldsPlace, cell_uses, owner, owner_in, frame_cells}
use Rattle.code_form.specs.Machine.{Frame, Control, base_of, bytes_on, bytes_of, operand_of}
use Rattle.code_form.specs.declared.waits.Waits.{Waits}
use Rattle.code_form.specs.declared.waits.Waits.TheVariants.{Nothing, Asked, Given, Refused}

-- these operands are pending at an instruction of this body, with so many limits
abbrev pub Next : List Line → ℕ → List OperandKind → Spot → Type 0
Next lines pc ks m = (i : Instr) × (slice_get lines pc ≡ Some (line_of i ks m))

abbrev pub is_mark : Option Instr → Bool
is_mark (Some Mark) = true
is_mark _ = false

abbrev pub is_ask : Option Instr → Bool
is_ask (Some (Ask _)) = true
is_ask _ = false

-- and a jump from here back to it goes to a mark
pub record Lands (lines : List Line) (pc a : ℕ) (ks : List OperandKind) (m : Spot) : Type 0 where
  pub next : Next lines a ks m
  pub spaced : a ≤ pc → is_mark (instr_of (slice_get lines a)) ≡ true

-- a value and a place of one cell
abbrev pub cell_value : Kind → OperandKind
cell_value k = Value (Cell k)

abbrev pub cell_place : Kind → OperandKind
cell_place k = Place (Cell k)

-- values of these kinds, and operands of these kinds, pushed from left to right
abbrev pub pushed_kinds : List Kind → List OperandKind → List OperandKind
pushed_kinds [] ks = ks
pushed_kinds (k ∷ more) ks = pushed_kinds more (cell_value k ∷ ks)

abbrev pub pushed_operands : List OperandKind → List OperandKind → List OperandKind
pushed_operands [] ks = ks
pushed_operands (k ∷ more) ks = pushed_operands more (k ∷ ks)

-- the operands of a request: values, and then places
abbrev pub request_operands : RequestName → List OperandKind
request_operands name = map cell_value (request_kinds name) ++ map cell_place (request_places name)

-- what is pending behind a request
abbrev pub with_answer : Option Kind → List OperandKind → List OperandKind
with_answer None ks = ks
with_answer (Some k) ks = cell_value k ∷ ks

-- with a result, where there is one
abbrev pub with_result : Option Shape → List OperandKind → List OperandKind
with_result None ks = ks
with_result (Some s) ks = Value s ∷ ks

abbrev pub IsRefinement : Layout → Type 0
IsRefinement (layouts.Own parameters variables) = ⊥
IsRefinement _ = Unit {0}

-- a PROC and its refinement can be called from here
pub record IsCalled (p : Program) (pc n : ℕ) (ks : List OperandKind) (m : Spot) : Type 0 where
  pub entry : Entry
  pub has : slice_get p.bodies n ≡ Some entry
  pub parameters : List OperandKind
  pub variables : List Kind
  pub own : entry.layout ≡ layouts.Own parameters variables
  pub rest : List OperandKind
  pub taken : ks ≡ pushed_operands parameters rest
  pub next : Next p.lines (pc + 1) (with_result entry.delivers rest) m

pub record IsReferred (p : Program) (pc n : ℕ) (ks : List OperandKind) (m : Spot) : Type 0 where
  pub entry : Entry
  pub has : slice_get p.bodies n ≡ Some entry
  pub refinement : IsRefinement entry.layout
  -- it uses the cells that are used here
  pub owned : owner_in n entry.layout ≡ owner p m.body
  pub next : Next p.lines (pc + 1) (with_result entry.delivers ks) m

-- a result is on top, where there is one
abbrev pub HasResult : Option Shape → List OperandKind → Type 0
HasResult None ks = Unit {0}
HasResult (Some s) ks = (rest : List OperandKind) × (ks ≡ Value s ∷ rest)

-- a body can be left from here, and the PROC of a refinement
pub record IsLeft (p : Program) (result : Option Shape) (ks : List OperandKind) (m : Spot) : Type 0 where
  pub number : ℕ
  pub here : m.body ≡ Some number
  pub entry : Entry
  pub has : slice_get p.bodies number ≡ Some entry
  pub delivers : entry.delivers ≡ result
  pub top : HasResult result ks

pub record IsLeftAround (p : Program) (result : Option Shape) (ks : List OperandKind) (m : Spot) : Type 0 where
  pub number : ℕ
  pub proc : owner p m.body ≡ Some number
  pub entry : Entry
  pub has : slice_get p.bodies number ≡ Some entry
  pub delivers : entry.delivers ≡ result
  pub top : HasResult result ks

-- a place is on top, and a place, which may be of another shape, is pending at the next instruction in its stead
pub record GivesPlace (lines : List Line) (pc : ℕ) (ks : List OperandKind) (m : Spot) : Type 0 where
  pub shape : Shape
  pub given : Shape
  pub rest : List OperandKind
  pub taken : ks ≡ Place shape ∷ rest
  pub next : Next lines (pc + 1) (Place given ∷ rest) m

-- a value is on top, and a value of these of its cells is pending at the next instruction in its stead
pub record GivesPart (lines : List Line) (pc : ℕ) (ks : List OperandKind) (m : Spot) (Parts : List Kind → List Kind → Type 0) : Type 0 where
  pub shape : Shape
  pub given : Shape
  pub rest : List OperandKind
  pub taken : ks ≡ Value shape ∷ rest
  pub part : Parts (cell_kinds shape) (cell_kinds given)
  pub next : Next lines (pc + 1) (Value given ∷ rest) m

-- of a row of so many items of so many cells, each item has these kinds
pub record AreItems (count size : ℕ) (all item : List Kind) : Type 0 where
  pub many : length all ≡ count * size
  pub each : (k : ℕ) → k < count → take size (drop (k * size) all) ≡ item

-- of so many cells, so many from one on have these kinds
pub record IsPart (cells from size : ℕ) (all part : List Kind) : Type 0 where
  pub many : length all ≡ cells
  pub is : take size (drop from all) ≡ part

-- an instruction finds what it takes, and leads to instructions where what it leaves is pending
abbrev pub IsFine : Program → ℕ → Instr → List OperandKind → Spot → Type 0
IsFine p pc Mark ks m = Next p.lines (pc + 1) ks m
IsFine p pc (Number z) ks m = Next p.lines (pc + 1) (cell_value kinds.Int ∷ ks) m
IsFine p pc (Truth b) ks m = Next p.lines (pc + 1) (cell_value kinds.Truth ∷ ks) m
IsFine p pc (Text t) ks m = Next p.lines (pc + 1) (cell_value kinds.Text ∷ ks) m
IsFine p pc (Outer x) ks m = (k : Kind) × (slice_get p.variables x ≡ Some k) × ((s : Shape) × Next p.lines (pc + 1) (Place s ∷ ks) m)
IsFine p pc (Packet x) ks m = (k : Kind) × (slice_get (kinds_in_packets p) x ≡ Some k) × ((s : Shape) × Next p.lines (pc + 1) (Place s ∷ ks) m)
IsFine p pc (Local x) ks m =
    (k : Kind) × (slice_get (frame_cells p m.body) x ≡ Some (HoldsValue k)) × ((s : Shape) × Next p.lines (pc + 1) (Place s ∷ ks) m)
IsFine p pc (Param x) ks m = (slice_get (frame_cells p m.body) x ≡ Some HoldsPlace) × ((s : Shape) × Next p.lines (pc + 1) (Place s ∷ ks) m)
IsFine p pc (Index n size) ks m = (rest : List OperandKind) × (ks ≡ cell_value kinds.Int ∷ rest) × GivesPlace p.lines pc rest m
IsFine p pc (Field n) ks m = GivesPlace p.lines pc ks m
IsFine p pc Content ks m = GivesPlace p.lines pc ks m
IsFine p pc (Pick n size) ks m = (rest : List OperandKind) × (ks ≡ cell_value kinds.Int ∷ rest) × GivesPart p.lines pc rest m (AreItems n size)
IsFine p pc (Take cells from size) ks m = GivesPart p.lines pc ks m (IsPart cells from size)
IsFine p pc (Load s) ks m = (rest : List OperandKind) × (ks ≡ Place s ∷ rest) × Next p.lines (pc + 1) (Value s ∷ rest) m
IsFine p pc (Store s) ks m = (rest : List OperandKind) × (ks ≡ Value s ∷ Place s ∷ rest) × Next p.lines (pc + 1) rest m
IsFine p pc (Do op) ks m =
    (rest : List OperandKind) × (ks ≡ pushed_kinds (operand_kinds op) rest) × Next p.lines (pc + 1) (cell_value (result_kind op) ∷ rest) m
IsFine p pc (OnSpaces op) ks m =
    (rest : List OperandKind) × (ks ≡ pushed_kinds (space_operand_kinds op) rest) × Next p.lines (pc + 1) (with_answer (space_result_kind op) rest) m
IsFine p pc Copy ks m =
    (rest : List OperandKind) × (ks ≡ cell_value kinds.Space ∷ cell_place kinds.Space ∷ rest) × Next p.lines (pc + 1) rest m
IsFine p pc (Bind s) ks m =
    (rest : List OperandKind) × (ks ≡ cell_value kinds.Space ∷ cell_place kinds.Space ∷ rest) × Next p.lines (pc + 1) rest m
IsFine p pc (Modify change) ks m =
    (rest : List OperandKind) × (ks ≡ cell_value (change_kind change) ∷ cell_place (change_kind change) ∷ rest) × Next p.lines (pc + 1) rest m
IsFine p pc (Jump a) ks m = Lands p.lines pc a ks m
IsFine p pc (False a) ks m = (rest : List OperandKind) × (ks ≡ cell_value kinds.Truth ∷ rest) × Next p.lines (pc + 1) rest m × Lands p.lines pc a rest m
IsFine p pc (When z a) ks m = (rest : List OperandKind) × (ks ≡ cell_value kinds.Int ∷ rest) × Next p.lines (pc + 1) ks m × Lands p.lines pc a rest m
IsFine p pc Drop ks m = (k : Kind) × ((rest : List OperandKind) × (ks ≡ cell_value k ∷ rest) × Next p.lines (pc + 1) rest m)
IsFine p pc (Limit way a) ks m =
    (rest : List OperandKind) × (ks ≡ cell_value kinds.Int ∷ cell_place kinds.Int ∷ rest) × Next p.lines (pc + 1) rest (deeper m) × Lands p.lines pc a rest (deeper m)
IsFine p pc Unlimit ks m = (outer : Spot) × (m ≡ deeper outer) × Next p.lines (pc + 1) ks outer
IsFine p pc (Step way a) ks m =
    (outer : Spot) × (m ≡ deeper outer) × ((rest : List OperandKind) × (ks ≡ cell_place kinds.Int ∷ rest) × Next p.lines (pc + 1) rest m × Lands p.lines pc a rest m)
IsFine p pc (Ask name) ks m =
    (rest : List OperandKind) × (ks ≡ pushed_operands (request_operands name) rest) × Next p.lines (pc + 1) (with_answer (request_result name) rest) m
IsFine p pc ErrorStop ks m = (rest : List OperandKind) × (ks ≡ cell_value kinds.Text ∷ rest) × Next p.lines (pc + 1) rest m
IsFine p pc (Call n) ks m = IsCalled p pc n ks m
IsFine p pc (Refer n) ks m = IsReferred p pc n ks m
IsFine p pc (Back result) ks m = IsLeft p result ks m
IsFine p pc (Out result) ks m = IsLeftAround p result ks m
IsFine p pc End ks m = Unit {0}

-- a refinement is one of the level, or of a PROC
abbrev pub IsOwned : Program → Layout → Type 0
IsOwned p (layouts.Of q) =
    (e : Entry) × ((parameters : List OperandKind)
    × ((variables : List Kind) × (slice_get p.bodies q ≡ Some e) × (e.layout ≡ layouts.Own parameters variables)))
IsOwned p _ = Unit {0}

-- the call of a start procedure, which takes and delivers nothing, stands in a level without variables, and is followed by the
-- instruction to which it returns
pub record IsStarted (p : Program) (s : Start) : Type 0 where
  pub entry : Entry
  pub has : slice_get p.bodies s.body ≡ Some entry
  pub variables : List Kind
  pub own : entry.layout ≡ layouts.Own [] variables
  pub delivers : entry.delivers ≡ None
  pub pc : ℕ
  pub back : s.back ≡ pc + 1
  pub call : slice_get p.lines pc ≡ Some (line_of (Call s.body) [] at_level)
  pub level : p.variables ≡ []

abbrev pub StartsSo : Program → Option Start → Type 0
StartsSo p None = Unit {0}
StartsSo p (Some s) = IsStarted p s

pub record IsValid (p : Program) : Type 0 where
  -- nothing is pending at the start, and at the start of a body
  pub first : Next p.lines 0 [] (spot_at p.start)
  pub starts : StartsSo p p.start
  pub bodies : (n : ℕ) (e : Entry) → slice_get p.bodies n ≡ Some e → Next p.lines e.first [] (in_body n)
  pub owned : (n : ℕ) (e : Entry) → slice_get p.bodies n ≡ Some e → IsOwned p e.layout
  pub each : (pc : ℕ) (l : Line) → slice_get p.lines pc ≡ Some l → IsFine p pc l.instr l.operands l.spot

-- an operand is a value with cells of these kinds
pub record HasKinds (o : Operand) (ks : List Kind) : Type 0 where
  pub values : List Item
  pub is : o ≡ operand_of values
  pub kinds : map kind_of values ≡ ks

-- an operand is the place of a cell
abbrev pub IsPlace : Operand → Type 0
IsPlace (At a) = IsCell a
IsPlace _ = ⊥

-- an operand is of a kind
abbrev pub FitsKind : Operand → OperandKind → Type 0
FitsKind o (Value s) = HasKinds o (cell_kinds s)
FitsKind o (Place s) = IsPlace o

abbrev pub FitsKinds : List Operand → List OperandKind → Type 0
FitsKinds [] [] = Unit {0}
FitsKinds (o ∷ ops) (k ∷ ks) = FitsKind o k × FitsKinds ops ks
FitsKinds _ _ = ⊥

-- the instruction that makes a frame for a body of this layout: its first cell is `base`, and behind `floor` cells its FOR limits begin;
-- `below` is the first cell of the frame below
abbrev pub MadeSo : Program → Layout → ℕ → ℕ → List OperandKind → Spot → Frame → ℕ → ℕ → Type 0
MadeSo p (layouts.Own parameters variables) n pc rest m f floor below =
    (slice_get p.lines pc ≡ Some (line_of (Call n) (pushed_operands parameters rest) m)) × (f.refines ≡ false) × (f.base ≡ f.used + 2)
    × (floor ≡ f.base + length (flat_map cell_uses parameters) + length variables)
MadeSo p _ n pc rest m f floor below =
    (slice_get p.lines pc ≡ Some (line_of (Refer n) rest m)) × (f.refines ≡ true) × (f.base ≡ below) × (floor ≡ f.used + 2)

-- a frame of a body is one that a CALL or REFER makes at an instruction of the frame below, which has so many cells without its FOR limits;
-- it returns to the instruction after that one, and what is pending below is what the tables give there, without what this step takes
pub record IsMade (p : Program) (f : Frame) (body : Option ℕ) (floor below : ℕ) (m : Spot) (floor_below : ℕ) : Type 0 where
  pub number : ℕ
  pub is : body ≡ Some number
  pub named : f.body ≡ number
  pub entry : Entry
  pub has : slice_get p.bodies number ≡ Some entry
  pub pc : ℕ
  pub rest : List OperandKind
  pub back : f.back ≡ pc + 1
  pub used : f.used ≡ floor_below + m.limits
  pub operands : FitsKinds f.ops rest
  pub made : MadeSo p entry.layout number pc rest m f floor below

-- the frames are made so, the innermost for this body, and without its FOR limits so many cells are in use
abbrev pub FitsFrames : Program → List Frame → Option ℕ → ℕ → Type 0
FitsFrames p [] body floor = (body ≡ None) × (floor ≡ length p.variables)
FitsFrames p (f ∷ fs) body floor =
    (m : Spot) × ((floor_below : ℕ) × (IsMade p f body floor (base_of fs) m floor_below × FitsFrames p fs m.body floor_below))

-- what was needed was refused
abbrev pub is_refused : Waits → Bool
is_refused (Refused stop) = true
is_refused _ = false

-- a request was made
abbrev pub is_asking : Waits → Bool
is_asking Nothing = false
is_asking (Asked q) = true
is_asking (Given r) = true
is_asking (Refused stop) = false

-- a state fits its code: its instruction is one of the body of its innermost frame, the frames are such as CALL and REFER make, the
-- pending operands and FOR limits are those that the tables give, a request was made by its instruction, and cells and pending operands
-- have room, or it stops
pub record Fits (p : Program) (c : Control) : Type 0 where
  pub kinds : List OperandKind
  pub spot : Spot
  pub floor : ℕ
  pub next : Next p.lines c.position.pc kinds spot
  pub operands : FitsKinds c.position.ops kinds
  pub frames : FitsFrames p c.position.frames spot.body floor
  pub used : c.position.used ≡ floor + spot.limits
  pub asks : is_asking c.waits ≡ true → is_ask (instr_of (slice_get p.lines c.position.pc)) ≡ true
  pub cells : is_refused c.waits ≡ false → cells_fit c.position.used ≡ true
  pub bytes : bytes_fit (bytes_on c.position.ops (bytes_of c.position.frames)) ≡ true
