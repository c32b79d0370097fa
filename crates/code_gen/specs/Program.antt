-- The code of a whole command, with its bodies.
use Rattle.std.specs.Prelude.{ℕ, suc, ◌+◌, List, [], ◌∷◌, ◌++◌, map, Option, Some, None, slice_get}
use Rattle.code_form.specs.declared.instr.Instr.TheVariants.{Call, End}
use Rattle.code_form.specs.declared.code.Line.{Line}
use Rattle.code_form.specs.declared.code.Entry.{Entry}
use Rattle.code_form.specs.declared.code.Start.{Start}
use Rattle.code_form.specs.Program.{Program, at_level, in_body}
use Rattle.elan_types.specs.declared.core_phrase.Body.{Body}
use Rattle.elan_types.specs.declared.core_phrase.Core.{Core}
use Rattle.elan_types.specs.Typing.{result_of_content}
use Rattle.place_gen.specs.Layouts.{layout_of}
use Rattle.place_gen.specs.Stretch.{Stretch, one, keeps, join, all_code, action_code, content_code}

-- the level's units, and the end of the command
abbrev pub level_code : Core → Stretch
level_code core = join (all_code (map action_code core.units)) (one End keeps)

-- the call of a start procedure, and the end of the command
abbrev pub call_code : ℕ → Stretch
call_code q = join (one (Call q) keeps) (one End keeps)

-- a start procedure: its body, in which the command starts, and behind it the call that it returns from
abbrev pub started_size : Option Body → ℕ
started_size None = 0
started_size (Some b) = (content_code b.content).size + 2

abbrev pub started_lines : ℕ → Option Body → List Line
started_lines q None = []
started_lines q (Some b) = (content_code b.content).lines [] (in_body q) 0 ++ (call_code q).lines [] at_level (content_code b.content).size

abbrev pub started_at : ℕ → Option Body → Option Start
started_at q None = None
started_at q (Some b) = Some (record { body = q; back = (content_code b.content).size + 1 })

-- what a command begins with: the units of its level, or a start procedure
abbrev pub size_from : Option ℕ → Core → ℕ
size_from None core = (level_code core).size
size_from (Some q) core = started_size (slice_get core.bodies q)

abbrev pub lines_from : Option ℕ → Core → List Line
lines_from None core = (level_code core).lines [] at_level 0
lines_from (Some q) core = started_lines q (slice_get core.bodies q)

abbrev pub start_from : Option ℕ → Core → Option Start
start_from None core = None
start_from (Some q) core = started_at q (slice_get core.bodies q)

-- the table of a body that begins with this instruction
abbrev pub entry_of : Body → ℕ → Entry
entry_of b at = record { first = at; layout = layout_of b.scope; delivers = result_of_content b.content }

-- the entries and the lines of bodies, from this number and this instruction on
abbrev pub entries : List Body → ℕ → List Entry
entries [] at = []
entries (b ∷ bs) at = entry_of b at ∷ entries bs (at + (content_code b.content).size)

abbrev pub body_lines : List Body → ℕ → ℕ → List Line
body_lines [] n at = []
body_lines (b ∷ bs) n at = (content_code b.content).lines [] (in_body n) at ++ body_lines bs (suc n) (at + (content_code b.content).size)

-- the command, and behind it its bodies
abbrev pub program_of : Core → Program
program_of core = record {
  packets = core.packets;
  inserted = core.inserted;
  variables = core.variables;
  start = start_from core.start core;
  bodies = entries core.bodies (size_from core.start core);
  lines = lines_from core.start core ++ body_lines core.bodies 0 (size_from core.start core);
}
