-- How a request goes on with its reply.
use Rattle.std.specs.Prelude.{◌≡◌, ◌⊎◌, ℕ, Bool, true, false, List, [], ◌∷◌, Option, Some, None}
use Rattle.eu_base.specs.declared.stop.Stop.TheVariants.{NoSpace}
use Rattle.code_form.specs.declared.waits.Waits.{Waits}
use Rattle.code_form.specs.declared.waits.Waits.TheVariants.{Nothing, Refused}
use Rattle.eu_base.specs.declared.request.RequestName.{RequestName}
use Rattle.eu_base.specs.declared.request.Reply.{Reply}
use Rattle.eu_base.specs.declared.address.Addr.{Addr}
use Rattle.eu_base.specs.declared.set.Set.{Set}
use Rattle.eu_base.specs.declared.set.Set.TheVariants.{Done}
use Rattle.eu_base.specs.Cells.{Cell, Cells}
use Rattle.eu_base.specs.DataSpaces.{Heads}
use Rattle.code_form.specs.declared.operand.Operand.{Operand}
use Rattle.code_form.specs.declared.operand.Operand.TheVariants.{Place as At}
use Rattle.zero_steps.specs.Reading.{PutsTaken}
use Rattle.code_form.specs.declared.halt.Halt.{Halt}
use Rattle.code_form.specs.declared.instr.Instr.TheVariants.{Ask}
use Rattle.code_form.specs.Machine.{Mem, Position, Control, given, Stage, On, takes_reply, move_stage}
use Rattle.zero_state.specs.declared.next.Next.{Next}
use Rattle.zero_state.specs.Stepping.{stage_of, mem_of, scene_of, halt_of, Does}

-- the place that comes first, or none where there is nothing
abbrev pub IsAt : List Operand → Option Addr → Type 0
IsAt os None = os ≡ []
IsAt os (Some a) = (rest : List Operand) × (os ≡ At a ∷ rest)

-- what came of putting this there; nothing where there is no place
abbrev pub PutsIn : (before after : Cells → Type 0) → Option Addr → Cell → Set → Type 0
PutsIn before after None x set = (set ≡ Done) × ((cells : Cells) → before cells → after cells)
PutsIn before after (Some a) x set = PutsTaken before after a x set

-- it goes on, or stops since a variable is not there
abbrev pub left_waiting : Bool → Waits
left_waiting true = Nothing
left_waiting false = Refused NoSpace

-- what a reply leads to
abbrev pub replied_by : RequestName → Reply → ℕ → Position → Mem → Stage
replied_by name r marks c mem = move_stage (takes_reply (Some (Ask name)) r c mem) (given c r) (scene_of mem marks)

-- the machine goes on as the definition does with some reply and for some memory, or rests where it was
abbrev pub GoesOrRests : RequestName → Reply → Position → Control → Next → Type 0
GoesOrRests name r c c' next =
    ((some : Reply) × ((marks : ℕ) → (mem : Mem) × ((now : Mem) × (On c' (scene_of now marks) ≡ replied_by name some marks c mem))))
    ⊎ ((c' ≡ given c r) × ((h : Halt) × (halt_of next ≡ Some h)))

-- a request goes on with its reply, over a memory that held this and had these data spaces before it, and holds that and has those after it: for all
-- that memory is known to hold as the definition does
pub record Replies (before after : Cells → Type 0) (had has : Heads) (name : RequestName) (r : Reply) (c : Position) (c' : Control) (next : Next) : Type 0 where
  pub does : (marks : ℕ) (cells : Cells) → before cells → Does after has (halt_of next) c' marks (replied_by name r marks c (mem_of had cells))
  pub leads : GoesOrRests name r c c' next

-- a request goes on with its reply, and memory stays as it is
pub record Answers (name : RequestName) (r : Reply) (c : Position) (c' : Control) (next : Next) : Type 0 where
  pub does : (marks : ℕ) (mem : Mem) → stage_of (halt_of next) c' (scene_of mem marks) ≡ replied_by name r marks c mem
  pub leads : GoesOrRests name r c c' next
