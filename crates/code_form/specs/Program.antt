-- Code as a list of instructions with its tables.
use Rattle.std.specs.Prelude.{ℕ, suc, List, [], ◌∷◌, ◌++◌, map, flat_map, Option, Some, None, slice_get}
use Rattle.eu_base.specs.declared.value.Kind.{Kind}
use Rattle.eu_base.specs.declared.value.Kind.TheVariants as kinds
use Rattle.eu_base.specs.Shapes.{cell_kinds}
use Rattle.cell_kinds.specs.declared.packet.Packet.{Packet}
use Rattle.cell_kinds.specs.Kinds.{packet_kinds}
use Rattle.code_form.specs.declared.instr.Instr.{Instr}
use Rattle.code_form.specs.declared.operand.OperandKind.{OperandKind}
use Rattle.code_form.specs.declared.operand.OperandKind.TheVariants.{Value, Place}
use Rattle.code_form.specs.declared.code.Line.{Line}
use Rattle.code_form.specs.declared.code.Spot.{Spot}
use Rattle.code_form.specs.declared.code.Layout.{Layout}
use Rattle.code_form.specs.declared.code.Layout.TheVariants.{Own, Of, Level}
use Rattle.code_form.specs.declared.code.Entry.{Entry}
use Rattle.code_form.specs.declared.code.Start.{Start}

-- the packets of the task, the kinds of the variables of the packet that is inserted, and of the level's, the call in which a start procedure
-- starts, the bodies, and the instructions with what is pending at each
pub record Program : Type 0 where
  pub packets : List Packet
  pub inserted : List Kind
  pub variables : List Kind
  pub start : Option Start
  pub bodies : List Entry
  pub lines : List Line

-- the kinds of the cells of packets, one packet behind the other, that which is inserted last
abbrev pub kinds_in_packets : Program → List Kind
kinds_in_packets p = packet_kinds p.packets ++ p.inserted

abbrev pub line_of : Instr → List OperandKind → Spot → Line
line_of i kinds spot = record { instr = i; operands = kinds; spot = spot }

abbrev pub instr_of : Option Line → Option Instr
instr_of None = None
instr_of (Some l) = Some l.instr

-- the first instruction of the command, and of a body
abbrev pub at_level : Spot
at_level = record { body = None; limits = 0 }

abbrev pub in_body : ℕ → Spot
in_body n = record { body = Some n; limits = 0 }

-- under one limit more
abbrev pub deeper : Spot → Spot
deeper spot = record { body = spot.body; limits = suc spot.limits }

-- what a cell of a frame holds: a value of a kind, or the place of a cell
pub data CellUse : Type 0 where
  HoldsValue : Kind → CellUse
  HoldsPlace : CellUse

-- the cells in which an operand stands that is a parameter
abbrev pub cell_uses : OperandKind → List CellUse
cell_uses (Value s) = map HoldsValue (cell_kinds s)
cell_uses (Place s) = HoldsPlace ∷ []

-- the cells of a PROC's frame: those of its parameters, and its variables
abbrev pub cells_of : Layout → List CellUse
cells_of (Own parameters variables) = flat_map cell_uses parameters ++ map HoldsValue variables
cells_of _ = []

-- the PROC whose cells a body uses; none where it is a refinement of the level
abbrev pub owner_in : ℕ → Layout → Option ℕ
owner_in n (Own parameters variables) = Some n
owner_in n (Of p) = Some p
owner_in n Level = None

abbrev pub layout_of : Option Entry → Option Layout
layout_of None = None
layout_of (Some e) = Some e.layout

abbrev pub owner_at : ℕ → Option Layout → Option ℕ
owner_at n None = None
owner_at n (Some l) = owner_in n l

abbrev pub cells_at : Option Layout → List CellUse
cells_at None = []
cells_at (Some l) = cells_of l

-- the kinds of the cells of a call of a PROC without parameters: two of the call, and its variables
abbrev pub call_kinds : Option Layout → List Kind
call_kinds (Some (Own parameters variables)) = kinds.Int ∷ kinds.Int ∷ variables
call_kinds _ = []

-- the kinds of the cells that are made when a command starts: those of the variables of its level, or of the call of a start procedure
abbrev pub kinds_at : Program → Option Start → List Kind
kinds_at p None = p.variables
kinds_at p (Some s) = call_kinds (layout_of (slice_get p.bodies s.body))

abbrev pub start_kinds : Program → List Kind
start_kinds p = kinds_at p p.start

-- what the first instruction is of: the level, or the body of a start procedure
abbrev pub spot_at : Option Start → Spot
spot_at None = at_level
spot_at (Some s) = in_body s.body

module _ (p : Program) where
  -- the PROC whose cells the instructions of a body use
  abbrev pub owner : Option ℕ → Option ℕ
  owner None = None
  owner (Some n) = owner_at n (layout_of (slice_get p.bodies n))

  abbrev pub cells_in : Option ℕ → List CellUse
  cells_in None = []
  cells_in (Some n) = cells_at (layout_of (slice_get p.bodies n))

  -- the cells that they use
  abbrev pub frame_cells : Option ℕ → List CellUse
  frame_cells body = cells_in (owner body)
