-- The invariant of a program that is served.
use Rattle.std.specs.Prelude.{◌≡◌, ℕ, ◌+◌, ◌-◌, ◌≤◌, List, ◌++◌, length}
use Rattle.eu_base.specs.Requests.{Answer}
use Rattle.eu_base.specs.SoundSpaces.{AllCanCome}
use Rattle.code_form.specs.Program.{Program}
use Rattle.code_form.specs.Machine.{Mem, Control, Rest, start}
use Rattle.code_form.specs.Runs.{Rests}
use Rattle.elan_types.specs.declared.core_phrase.Core.{Core}
use Rattle.line_command.specs.Screen.{Screen, Written, blank, put_all}
use Rattle.line_command.specs.Program.{line_marks, Output, output_in, output_of}

-- these first, and then more
abbrev pub behind : List Written → Output → Output
behind ws more = record { written = ws ++ more.written; stop = more.stop }

-- the run began over this first memory and has come to this control over this; its requests so far were answered, each for a mark, and
-- their output is on the screen
pub record IsServed (core : Core) (p : Program) (first : Mem) (control : Control) (now : Mem) (marks : ℕ) (s : Screen) : Type 0 where
  pub replies : List Answer
  pub contents : AllCanCome replies
  pub written : List Written
  -- with more answers it comes from here to the rest to which it comes from its start
  pub on : (more : List Answer) (last : Rest)
      → Rests p (start p) (record { mem = first; marks = line_marks; replies = replies ++ more }) last
      → Rests p control (record { mem = now; marks = marks; replies = more }) last
  pub shown : s ≡ put_all blank written
  pub paid : marks + length replies ≤ line_marks
  -- what the program writes, it has written, or writes in the evaluations that are left
  pub so_far : output_of core ≡ behind written (output_in (line_marks + 1 - length replies) core line_marks replies)
