-- A run of code that stands where a command stands.
use Rattle.std.specs.Prelude.{◌≡◌, ℕ, ◌+◌, ◌≤◌, false, List, [], ◌++◌, length, Option, Some, None}
use Rattle.eu_base.specs.declared.address.Area.TheVariants.{Packets}
use Rattle.eu_base.specs.declared.request.Request.{Request}
use Rattle.eu_base.specs.Requests.{Answer}
use Rattle.eu_base.specs.Room.{cells_fit}
use Rattle.eu_base.specs.Cells.{Free, packet_cell}
use Rattle.eu_base.specs.DataSpaces.{Spaces}
use Rattle.eu_base.specs.SoundSpaces.{AllCanCome}
use Rattle.code_form.specs.declared.halt.Halt.{Halt}
use Rattle.code_form.specs.declared.halt.Halt.TheVariants as halts
use Rattle.code_form.specs.Program.{Program, kinds_in_packets}
use Rattle.code_form.specs.Machine.{Control, Mem, Rest, start}
use Rattle.code_form.specs.Runs.{Rests, Stands, asked}
use Rattle.task_job.specs.Below.place_gen.specs.Correct.{Image, HasSlots}
use Rattle.task_job.specs.Below.code_gen.specs.Codes.{IsCodeOf}
use Rattle.elan_types.specs.declared.core_phrase.Core.{Core}
use Rattle.elan_types.specs.Eval.{Slot}
use Rattle.elan_types.specs.Command.{blanks, start_kinds}

-- what a run waits for where it comes to rest so
abbrev pub asked_by : Halt → Option Request
asked_by (halts.Asks q) = Some q
asked_by _ = None

-- without a mark more the run stays where it is
pub record IsStill (code : Program) (c : Control) (mem : Mem) : Type 0 where
  pub rest : Rest
  pub rests : Rests code c (record { mem = mem; marks = 0; replies = [] }) rest
  pub mem_is : rest.scene.mem ≡ mem
  pub asks : asked c.waits ≡ asked_by rest.how

-- The code is that of a command that starts with these variables of packets and these data spaces. From the memory in which the command's
-- variables were made, with the marks that were spent and the answers that were given, it stands here, and it goes on as the command does. Where
-- the variables of packets have no room with those of the packet that is inserted, these were not made.
pub record Reaches (core : Core) (variables : List Slot) (spaces : Spaces) (spent : ℕ) (replies : List Answer) (code : Program) (c : Control) (now : Mem) :
    Type 0 where
  pub code_is : IsCodeOf core code
  pub first : Mem
  pub has : HasSlots code (blanks (start_kinds core)) (variables ++ blanks core.inserted) spaces first
  pub front : Image Packets variables first.cells
  pub bare : cells_fit (length (kinds_in_packets code)) ≡ false → (x : ℕ) → length variables ≤ x → first.cells (packet_cell x) ≡ Free
  pub contents : AllCanCome replies
  pub stands : Stands code (start code) first spent replies c now
  pub comes : (marks : ℕ) (more : List Answer) (last : Rest)
      → Rests code (start code) (record { mem = first; marks = spent + marks; replies = replies ++ more }) last
      → Rests code c (record { mem = now; marks = marks; replies = more }) last
