-- What the machine's state stands for.
use Rattle.std.specs.Prelude.{◌≡◌, ◌⊎◌, ℕ, ◌+◌, ◌^◌, ◌<◌, ◌≤◌, Bool, true, List, [], ◌∷◌, map, Option, Some, None}
use Rattle.eu_base.specs.Room.{value_bytes, values_bytes, cells_fit, bytes_fit}
use Rattle.eu_base.specs.Values.{kind_of}
use Rattle.eu_base.specs.Cells.{Cells, IsCell}
use Rattle.eu_base.specs.DataSpaces.{Heads}
use Rattle.eu_base.specs.declared.stop.Stop.TheVariants as stops
use Rattle.code_form.specs.declared.halt.Halt.{Halt}
use Rattle.code_form.specs.declared.halt.Halt.TheVariants as halts
use Rattle.code_form.specs.declared.instr.Instr.{Instr}
use Rattle.code_form.specs.declared.operand.Operand.{Operand}
use Rattle.code_form.specs.declared.operand.Operand.TheVariants.{Value as Of, Place as At, Aggregate}
use Rattle.code_form.specs.declared.waits.Waits.{Waits}
use Rattle.code_form.specs.declared.waits.Waits.TheVariants.{Nothing, Asked, Given, Refused}
use Rattle.code_form.specs.Program.{Program}
use Rattle.code_form.specs.Machine.{Mem, Position, Control, free, Scene, Stage, On, Over, Lost, rest_at, bytes_on, bytes_of, instruction, stage}
use Rattle.zero_state.specs.declared.state.State.{State}
use Rattle.zero_state.specs.declared.next.Next.{Next}
use Rattle.zero_state.specs.declared.next.Next.TheVariants.{On as On', Marked, Ended, Overflow, Division, Index, TextLong, BadCode, CellRoom, OperandRoom, TextRoom}
use Rattle.zero_state.specs.declared.next.Next.TheVariants.{NoSpace, WrongShape, ManySpaces, SpaceNumbers, BadName, NoName, NameThere}

abbrev pub position_of : State → Position
position_of s = record { pc = s.pc; ops = s.stack.ops; used = s.used; frames = s.stack.frames }

abbrev pub control_of : State → Control
control_of s = record { position = position_of s; waits = s.waits }

-- a memory with these data spaces that has these cells
abbrev pub mem_of : Heads → Cells → Mem
mem_of heads cells = record { cells = cells; heads = heads }

-- memory and marks, with no replies
abbrev pub scene_of : Mem → ℕ → Scene
scene_of mem marks = record { mem = mem; marks = marks; replies = [] }

-- what an instruction of a program leads to
abbrev pub stage_by : Program → Instr → ℕ → Position → Mem → Stage
stage_by p i marks c mem = stage (instruction p (Some i) c mem) c (scene_of mem marks)

-- what a step of the machine answers
abbrev pub stage_of : Option Halt → Control → Scene → Stage
stage_of None c s = On c s
stage_of (Some h) c s = Over (rest_at h c s)

-- there is room for what is pending
abbrev pub has_room : State → Bool
has_room s = bytes_fit (bytes_on s.stack.ops (bytes_of s.stack.frames))

-- nothing is waited for, the next instruction can be reached, and there is room for what is pending and in use
pub record IsReady (s : State) : Type 0 where
  pub free : s.waits ≡ Nothing
  pub next : s.pc + 1 < 2 ^ 64
  pub bytes : has_room s ≡ true
  pub cells : cells_fit s.used ≡ true

-- why the machine rests after an instruction, and before one
abbrev pub halt_of : Next → Option Halt
halt_of On' = None
halt_of Marked = Some halts.Marked
halt_of Ended = Some halts.Ended
halt_of Overflow = Some (halts.Stopped stops.Overflow)
halt_of Division = Some (halts.Stopped stops.Division)
halt_of Index = Some (halts.Stopped stops.Index)
halt_of TextLong = Some (halts.Stopped stops.TextLong)
halt_of BadCode = Some (halts.Stopped stops.BadCode)
halt_of CellRoom = Some (halts.Stopped stops.CellRoom)
halt_of OperandRoom = Some (halts.Stopped stops.OperandRoom)
halt_of TextRoom = Some (halts.Stopped stops.TextRoom)
halt_of NoSpace = Some (halts.Stopped stops.NoSpace)
halt_of WrongShape = Some (halts.Stopped stops.WrongShape)
halt_of ManySpaces = Some (halts.Stopped stops.ManySpaces)
halt_of SpaceNumbers = Some (halts.Stopped stops.SpaceNumbers)
halt_of BadName = Some (halts.Stopped stops.BadName)
halt_of NoName = Some (halts.Stopped stops.NoName)
halt_of NameThere = Some (halts.Stopped stops.NameThere)

abbrev pub due : Waits → Option Halt
due Nothing = None
due (Asked q) = Some (halts.Asks q)
due (Given r) = None
due (Refused stop) = Some (halts.Stopped stop)

-- an instruction that spends no mark leads so on, or comes so to rest
abbrev pub StepsSo : Instr → Position → Mem → Control → Mem → Next → Type 0
StepsSo i c mem c' mem' next = (p : Program) (marks : ℕ) → stage_of (halt_of next) c' (scene_of mem' marks) ≡ stage_by p i marks c mem

-- an instruction goes on so
abbrev pub GoesOn : Instr → Position → Mem → Control → Mem → Type 0
GoesOn i c mem c' mem' = StepsSo i c mem c' mem' On'

-- the machine goes on or rests so, over a memory that has these data spaces and holds what the definition has there. Where the definition is
-- lost, since memory is not known to hold what is asked, nothing is said
abbrev pub Does : (Cells → Type 0) → Heads → Option Halt → Control → ℕ → Stage → Type 0
Does holds heads how c marks Lost = Unit {0}
Does holds heads how c marks st = (now : Cells) × (holds now × (stage_of how c (scene_of (mem_of heads now) marks) ≡ st))

-- an operand of the same kinds, that takes no more bytes
abbrev pub IsLike : Operand → Operand → Type 0
IsLike (Of v) (Of w) = (kind_of v ≡ kind_of w) × (value_bytes w ≤ value_bytes v)
IsLike (At a) (At b) = IsCell a → IsCell b
IsLike (Aggregate vs) (Aggregate ws) = (map kind_of vs ≡ map kind_of ws) × (values_bytes ws ≤ values_bytes vs)
IsLike _ _ = ⊥

abbrev pub AreLike : List Operand → List Operand → Type 0
AreLike [] [] = Unit {0}
AreLike (o ∷ ops) (q ∷ qs) = IsLike o q × AreLike ops qs
AreLike _ _ = ⊥

-- the machine stops for want of room for texts and stays where it stood, where the definition goes on
pub record Stays (next : Next) (c : Position) (c' : Control) (marks : ℕ) (st : Stage) : Type 0 where
  pub stops : next ≡ TextRoom
  pub stays : c' ≡ free c
  pub after : Control
  pub now : Mem
  pub goes : st ≡ On after (scene_of now marks)

-- it does what the definition does, or stays
abbrev pub Leads : Next → Position → Control → ℕ → Stage → Type 0
Leads next c c' marks st = ((now : Mem) × (stage_of (halt_of next) c' (scene_of now marks) ≡ st)) ⊎ Stays next c c' marks st

-- a step of the machine, of a memory that held this and had these data spaces before it, and holds that and has those after it
pub record Steps (before after : Cells → Type 0) (had has : Heads) (to : Position → Mem → Stage) (c : Position) (c' : Control) (marks : ℕ) (next : Next) : Type 0 where
  -- it is the definition's for all that memory is known to hold
  pub does : (cells : Cells) → before cells → Does after has (halt_of next) c' marks (to c (mem_of had cells))
  -- and whatever memory answers, it leads where the definition leads for some cells and data spaces, and some operands of the same kinds
  pub ops : List Operand
  pub like : AreLike c.ops ops
  pub mem : Mem
  pub leads : Leads next c c' marks (to (record c { ops = ops }) mem)

-- an instruction that spends no mark makes such a step
abbrev pub Acts : (before after : Cells → Type 0) (had has : Heads) → Instr → Position → Control → Next → Type 0
Acts before after had has i c c' next = (p : Program) (marks : ℕ) → Steps before after had has (stage_by p i marks) c c' marks next

-- one that leaves the data spaces what they are
abbrev pub Accesses : (before after : Cells → Type 0) → Heads → Instr → Position → Control → Next → Type 0
Accesses before after heads i c c' next = Acts before after heads heads i c c' next
