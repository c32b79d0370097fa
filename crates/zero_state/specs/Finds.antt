-- What an instruction finds.
use Rattle.std.specs.Prelude.{◌≡◌, ℕ, zero, suc, ◌+◌, ◌≤◌, Bool, true, false, cond, List, [], ◌∷◌, length, take, drop, reverse}
use Rattle.std.specs.Prelude.{Option, Some, None, slice_get}
use Rattle.eu_base.specs.declared.address.Addr.{Addr}
use Rattle.eu_base.specs.declared.value.Kind.{Kind}
use Rattle.eu_base.specs.declared.shape.Shape.{Shape}
use Rattle.eu_base.specs.declared.value.Value.{Value}
use Rattle.eu_base.specs.Cells.{IsCell, run_cell}
use Rattle.eu_base.specs.Operations.{operand_kinds}
use Rattle.eu_base.specs.SpaceOperations.{space_operand_kinds}
use Rattle.eu_base.specs.declared.request.RequestName.{RequestName}
use Rattle.eu_base.specs.Requests.{request_kinds, request_places, request_size}
use Rattle.code_form.specs.declared.instr.Instr.{Instr}
use Rattle.code_form.specs.declared.instr.Instr.TheVariants.{Outer, Local, Param, Index, Field, Content, Pick, Take, Load, Store, Do, OnSpaces, Copy, Bind, Modify, False, When, Drop, Limit}
use Rattle.code_form.specs.declared.instr.Instr.TheVariants.{Unlimit, Step, Ask, ErrorStop, Call, Refer, Back, Out}
use Rattle.code_form.specs.declared.code.Entry.{Entry}
use Rattle.code_form.specs.declared.code.Layout.{Layout}
use Rattle.code_form.specs.declared.code.Layout.TheVariants.{Own}
use Rattle.code_form.specs.declared.operand.Operand.{Operand}
use Rattle.code_form.specs.declared.operand.Operand.TheVariants.{Value as Of, Place as At, Aggregate}
use Rattle.code_form.specs.declared.operand.OperandKind.{OperandKind}
use Rattle.code_form.specs.Machine.{Frame, Position, base_of}

-- a value of one cell
pub record TopValue (ops : List Operand) : Type 0 where
  pub value : Value
  pub rest : List Operand
  pub top : ops ≡ Of value ∷ rest

-- an operand is a value, and the values of its cells
abbrev pub is_value : Operand → Bool
is_value (Of v) = true
is_value (At a) = false
is_value (Aggregate vs) = true

abbrev pub all_of : Operand → List Value
all_of (Of v) = v ∷ []
all_of (At a) = []
all_of (Aggregate vs) = vs

-- any value
pub record TopAny (ops : List Operand) : Type 0 where
  pub operand : Operand
  pub rest : List Operand
  pub top : ops ≡ operand ∷ rest
  pub value : is_value operand ≡ true

-- a value of one cell, and any value below it
pub record TopPicked (ops : List Operand) : Type 0 where
  pub number : Value
  pub operand : Operand
  pub rest : List Operand
  pub top : ops ≡ Of number ∷ operand ∷ rest
  pub value : is_value operand ≡ true

-- any value, and the place of a cell below it
pub record TopStored (ops : List Operand) : Type 0 where
  pub operand : Operand
  pub place : Addr
  pub rest : List Operand
  pub top : ops ≡ operand ∷ At place ∷ rest
  pub value : is_value operand ≡ true
  pub cell : IsCell place

-- the place of a cell
pub record TopPlace (ops : List Operand) : Type 0 where
  pub place : Addr
  pub rest : List Operand
  pub top : ops ≡ At place ∷ rest
  pub cell : IsCell place

-- a value of one cell, and the place of a cell below it
pub record TopBoth (ops : List Operand) : Type 0 where
  pub value : Value
  pub place : Addr
  pub rest : List Operand
  pub top : ops ≡ Of value ∷ At place ∷ rest
  pub cell : IsCell place

-- so many values
abbrev pub TopValues : ℕ → List Operand → Type 0
TopValues zero ops = Unit {0}
TopValues (suc n) ops = (v : Value) × ((r : List Operand) × (ops ≡ Of v ∷ r) × TopValues n r)

-- the operands of a request behind its values, from left to right
abbrev pub behind_values : RequestName → List Operand → List Operand
behind_values name ops = drop (length (request_kinds name)) (reverse (take (request_size name) ops))

-- nothing, or the place of a cell first
abbrev pub IsVariable : List Operand → Type 0
IsVariable [] = Unit {0}
IsVariable (At a ∷ os) = IsCell a
IsVariable _ = ⊥

-- places of cells, as many as there are kinds
abbrev pub AreVariables : List Kind → List Operand → Type 0
AreVariables [] [] = Unit {0}
AreVariables (k ∷ ks) (At a ∷ os) = IsCell a × AreVariables ks os
AreVariables _ _ = ⊥

-- what a request takes when it is made, and when its reply is there
pub record FindsReply (name : RequestName) (ops : List Operand) : Type 0 where
  pub taken : request_size name ≤ length ops
  pub variable : IsVariable (behind_values name ops)
  pub variables : AreVariables (request_places name) (behind_values name ops)

-- a result, where there is one of a shape
abbrev pub TopResult : Option Shape → List Operand → Type 0
TopResult None ops = Unit {0}
TopResult (Some s) ops = TopAny ops

-- the operands that a PROC takes
pub record IsCallable (layout : Layout) (ops : List Operand) : Type 0 where
  pub parameters : List OperandKind
  pub variables : List Kind
  pub own : layout ≡ Own parameters variables
  pub taken : length parameters ≤ length ops

-- a body of this number
pub record HasBody (bodies : List Entry) (n : ℕ) : Type 0 where
  pub entry : Entry
  pub has : slice_get bodies n ≡ Some entry

pub record HasProc (bodies : List Entry) (n : ℕ) (ops : List Operand) : Type 0 where
  pub entry : Entry
  pub has : slice_get bodies n ≡ Some entry
  pub callable : IsCallable entry.layout ops

-- a frame, and one of a PROC
pub record IsInside (frames : List Frame) : Type 0 where
  pub frame : Frame
  pub below : List Frame
  pub inside : frames ≡ frame ∷ below

abbrev pub is_in_proc : List Frame → Bool
is_in_proc [] = false
is_in_proc (f ∷ fs) = cond f.refines (is_in_proc fs) true

-- what an instruction takes is there
abbrev pub Finds : List Entry → Instr → Position → Type 0
Finds bodies (Outer k) c = IsCell (run_cell k)
Finds bodies (Local k) c = IsCell (run_cell (base_of c.frames + k))
Finds bodies (Param k) c = IsCell (run_cell (base_of c.frames + k))
Finds bodies (Index n size) c = TopBoth c.ops
Finds bodies (Field n) c = TopPlace c.ops
Finds bodies Content c = TopPlace c.ops
Finds bodies (Pick n size) c = TopPicked c.ops
Finds bodies (Take n from size) c = TopAny c.ops
Finds bodies (Load s) c = TopPlace c.ops
Finds bodies (Store s) c = TopStored c.ops
Finds bodies (Do op) c = TopValues (length (operand_kinds op)) c.ops
Finds bodies (OnSpaces op) c = TopValues (length (space_operand_kinds op)) c.ops
Finds bodies Copy c = TopBoth c.ops
Finds bodies (Bind s) c = TopBoth c.ops
Finds bodies (Modify change) c = TopBoth c.ops
Finds bodies (False a) c = TopValue c.ops
Finds bodies (When z a) c = TopValue c.ops
Finds bodies Drop c = TopValue c.ops
Finds bodies (Limit way a) c = TopBoth c.ops
Finds bodies Unlimit c = 1 ≤ c.used
Finds bodies (Step way a) c = TopPlace c.ops × (1 ≤ c.used)
Finds bodies (Ask name) c = FindsReply name c.ops
Finds bodies ErrorStop c = TopValue c.ops
Finds bodies (Call n) c = HasProc bodies n c.ops
Finds bodies (Refer n) c = HasBody bodies n
Finds bodies (Back s) c = TopResult s c.ops × IsInside c.frames
Finds bodies (Out s) c = TopResult s c.ops × (is_in_proc c.frames ≡ true)
Finds _ _ c = Unit {0}
