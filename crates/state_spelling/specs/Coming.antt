-- What a step of revival answers: what is found, and where the walk stands then.
use Rattle.std.specs.Prelude.{◌≡◌, ℕ, Bool, true, List, [], reverse, Option, Some, None, Result, Ok, Err}
use Rattle.eu_base.specs.Room.{bytes_fit}
use Rattle.byte_spelling.specs.Gives.{Fails}
use Rattle.byte_spelling.specs.declared.reading.ReadError.{ReadError}
use Rattle.byte_spelling.specs.declared.reading.ReadError.TheVariants as errors
use Rattle.code_form.specs.declared.operand.Operand.{Operand}
use Rattle.code_form.specs.Machine.{Control, bytes_on, bytes_of}
use Rattle.zero_state.specs.declared.state.State.{State}
use Rattle.zero_state.specs.Stepping.{control_of}
use Rattle.state_spelling.specs.declared.walking.Walking.{Walking}
use Rattle.state_spelling.specs.Revived.{Walk}

abbrev pub CameTo : {X Y : Type 0} → Result X ReadError → Option Y → Y → Type 0
CameTo (Ok u) found now = found ≡ Some now
CameTo (Err e) found now = Fails e found

-- the operands that are left stand with the next one last
abbrev pub walk_of : Walking → Walk
walk_of w = record { body = w.body; floor = w.floor; frames = w.stack.frames; left = reverse w.left }

-- between two frames nothing is pending in the innermost one, and what is pending below has room
pub record IsBetween (w : Walking) : Type 0 where
  pub nothing : w.stack.ops ≡ []
  pub room : bytes_fit (bytes_of w.stack.frames) ≡ true

-- a state was found, seen as the control of the machine
abbrev pub StateIs : Result State ReadError → Option Control → Type 0
StateIs (Ok s) found = found ≡ Some (control_of s)
StateIs (Err errors.NoMemory) found = Unit {0}
StateIs (Err errors.NotSpelled) found = found ≡ None
