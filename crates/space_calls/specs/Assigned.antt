-- What the assignment of a data space to a variable comes to, over a memory.
use Rattle.std.specs.Prelude.{◌≡◌, ◌⊎◌, Bool, List, Option, Some, None}
use Rattle.eu_base.specs.declared.stop.Stop.{Stop}
use Rattle.eu_base.specs.Cells.{Cells}
use Rattle.eu_base.specs.declared.shape.Shape.{Shape}
use Rattle.eu_base.specs.Shapes.{same_shape}
use Rattle.eu_base.specs.DataSpaces.{Heads}
use Rattle.space_calls.specs.Below.code_form.specs.declared.operand.Operand.{Operand}
use Rattle.space_calls.specs.Below.code_form.specs.Machine.{Mem, Position, Move, Halts, Unknown, goes}
use Rattle.zero_state.specs.declared.next.Next.{Next}
use Rattle.zero_state.specs.Stepping.{mem_of}
use Rattle.space_calls.specs.Planned.{IsStop}

-- what an instruction does once its operands are taken
abbrev pub Act : Type 0
Act = Position → List Operand → Mem → Move

-- it goes on, over a memory that held this and had these data spaces, and holds that and has those; where memory is not known to hold what it
-- asks for, nothing is said. There is a memory from which it goes on
pub record Assigned (before after : Cells → Type 0) (had has : Heads) (act : Act) : Type 0 where
  pub known : (c : Position) (ops : List Operand) (cells : Cells) → before cells → (act c ops (mem_of had cells) ≡ Unknown)
      ⊎ ((now : Cells) × (after now × (act c ops (mem_of had cells) ≡ goes c ops (mem_of has now))))
  pub seen : Mem
  pub now : Mem
  pub is : (c : Position) (ops : List Operand) → act c ops seen ≡ goes c ops now

-- or it stops, and nothing changed
pub record Refused (before after : Cells → Type 0) (had has : Heads) (act : Act) (next : Next) : Type 0 where
  pub stop : Stop
  pub stops : IsStop next stop
  pub known : (c : Position) (ops : List Operand) (cells : Cells) → before cells
      → (act c ops (mem_of had cells) ≡ Unknown) ⊎ (act c ops (mem_of had cells) ≡ Halts stop)
  pub seen : Mem
  pub is : (c : Position) (ops : List Operand) → act c ops seen ≡ Halts stop
  pub heads : has ≡ had
  pub kept : (cells : Cells) → before cells → after cells

abbrev pub Assigns : (before after : Cells → Type 0) (had has : Heads) → Act → Option Next → Type 0
Assigns before after had has act None = Assigned before after had has act
Assigns before after had has act (Some next) = Refused before after had has act next

-- nothing stands in a data space, or something of this shape, or of another
abbrev pub Shaped : Shape → Option Shape → Option Bool → Type 0
Shaped shape there None = there ≡ None
Shaped shape there (Some same) = (other : Shape) × ((there ≡ Some other) × (same ≡ same_shape shape other))
