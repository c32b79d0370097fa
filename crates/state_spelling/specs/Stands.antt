-- What it means that a record, with a memory, stands where a command stands.
use Rattle.std.specs.Prelude.{◌≡◌, ℕ, ◌+◌, Bool, true, List, ◌++◌}
use Rattle.eu_base.specs.Requests.{Answer}
use Rattle.eu_base.specs.Cells.{Cells}
use Rattle.eu_base.specs.DataSpaces.{Heads}
use Rattle.code_form.specs.Program.{Program}
use Rattle.code_form.specs.Machine.{Mem, Control, Rest, start}
use Rattle.code_form.specs.Valid.{Fits}
use Rattle.code_form.specs.Runs.{Rests, Stands}
use Rattle.zero_state.specs.Stepping.{mem_of}
use Rattle.state_spelling.specs.Kept.{kept}
use Rattle.state_spelling.specs.Standing.{kept_of}

-- From this memory, with so many marks and these answers, the code stands here, and goes on as from the start; of the memory now it is known that it
-- holds these cells, and it has these data spaces.
pub record StandsHere (p : Program) (was : Mem) (spent : ℕ) (replies : List Answer) (c : Control) (holds : Cells → Type 0) (heads : Heads) : Type 0 where
  pub fits : Fits p c
  pub now : Cells
  pub held : holds now
  pub stands : Stands p (start p) was spent replies c (mem_of heads now)
  pub comes : (marks : ℕ) (more : List Answer) (last : Rest)
      → Rests p (start p) (record { mem = was; marks = spent + marks; replies = replies ++ more }) last
      → Rests p c (record { mem = mem_of heads now; marks = marks; replies = more }) last

-- the bytes are what is kept of a state that stands so
pub record RecordStands (p : Program) (was : Mem) (spent : ℕ) (replies : List Answer) (bytes : List ℕ) (holds : Cells → Type 0) (heads : Heads) : Type 0 where
  pub control : Control
  pub fine : kept.fine (kept_of control) ≡ true
  pub spelled : bytes ≡ kept.spell (kept_of control)
  pub here : StandsHere p was spent replies control holds heads
