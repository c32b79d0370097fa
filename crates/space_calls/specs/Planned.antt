-- What is done of a plan on data spaces, over a memory.
use Rattle.std.specs.Prelude.{◌≡◌, List, [], Option, Some, None, Result, Ok, Err}
use Rattle.eu_base.specs.declared.stop.Stop.{Stop}
use Rattle.eu_base.specs.Cells.{Cells}
use Rattle.eu_base.specs.DataSpaces.{Heads, SpaceChange, heads_after}
use Rattle.eu_base.specs.SpaceOperations.{Plan}
use Rattle.space_calls.specs.Below.code_form.specs.declared.halt.Halt.TheVariants as halts
use Rattle.space_calls.specs.Below.code_form.specs.Machine.{mem_after}
use Rattle.zero_state.specs.declared.next.Next.{Next}
use Rattle.zero_state.specs.Stepping.{mem_of, halt_of}

-- the cells after changes
abbrev pub cells_after : List SpaceChange → Heads → Cells → Cells
cells_after changes heads cells = (mem_after changes (mem_of heads cells)).cells

-- what comes of an instruction is this stop
abbrev pub IsStop : Next → Stop → Type 0
IsStop next stop = halt_of next ≡ Some (halts.Stopped stop)

-- there is a reason to stop, or none
abbrev pub Refuses : Option Next → Option Stop → Type 0
Refuses None refusal = refusal ≡ None
Refuses (Some next) refusal = (stop : Stop) × ((refusal ≡ Some stop) × IsStop next stop)

-- a plan was carried out, over a memory that held this and had these data spaces, and holds that and has those; it gives this
pub record CarriesOut {A : Type 0} (before after : Cells → Type 0) (had has : Heads) (plan : Plan A) (given : A) : Type 0 where
  pub changes : List SpaceChange
  pub is : plan ≡ Ok (given, changes)
  pub heads : has ≡ heads_after changes had
  pub kept : (cells : Cells) → before cells → after (cells_after changes had cells)

-- or it stops, and nothing changed
pub record StopsSo {A : Type 0} (before after : Cells → Type 0) (had has : Heads) (plan : Plan A) (next : Next) : Type 0 where
  pub stop : Stop
  pub is : plan ≡ Err stop
  pub stops : IsStop next stop
  pub heads : has ≡ had
  pub kept : (cells : Cells) → before cells → after cells

abbrev pub Performs : {A : Type 0} → (before after : Cells → Type 0) (had has : Heads) → Plan A → Result A Next → Type 0
Performs before after had has plan (Ok given) = CarriesOut before after had has plan given
Performs before after had has plan (Err next) = StopsSo before after had has plan next

-- a plan without changes gives this, or stops
abbrev pub Looks : {A : Type 0} → Plan A → Result A Next → Type 0
Looks plan (Ok given) = plan ≡ Ok (given, [])
Looks plan (Err next) = (stop : Stop) × ((plan ≡ Err stop) × IsStop next stop)
