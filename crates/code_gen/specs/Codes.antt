-- Which code a command has.
use Rattle.std.specs.Prelude.{◌≡◌, Bool, List}
use Rattle.elan_types.specs.declared.core_phrase.Core.{Core}
use Rattle.elan_types.specs.Typing.{IsWellTyped}
use Rattle.code_form.specs.Program.{Program}
use Rattle.code_gen.specs.Program.{program_of}
use Rattle.code_gen.specs.Reached.{with_bodies}
use Rattle.code_gen.specs.walks.Marks.{AreMarks, left_from}

-- This is the code of a command: that of its core, in which the bodies that the command does not reach do nothing. A command has one.
pub record IsCodeOf (core : Core) (code : Program) : Type 0 where
  pub typed : IsWellTyped core
  pub marks : List Bool
  pub are_marks : AreMarks core marks
  pub is : code ≡ program_of (with_bodies core (left_from 0 marks core.bodies))
