-- Couplings are one to one, and queued lines are short.
use Rattle.std.specs.Prelude.{◌≡◌, ◌≤◌, ℕ, false, List, length, slice_index_or, All}
use Rattle.task_numbers.specs.declared.limits.TheConstants.{LONGEST_LINE}
use Rattle.task_numbers.specs.declared.number.TaskNo.{TaskNo}
use Rattle.task_numbers.specs.Numbers.{is_nil}
use Rattle.terminals.specs.Channels.{Channel, unused}

-- the task at the channel with this place, from 0
abbrev pub task_at : ℕ → List Channel → TaskNo
task_at k s = (slice_index_or s k unused).task

-- two channels that are coupled to one task are one
abbrev pub IsOneToOne : List Channel → Type 0
IsOneToOne s = (i j : ℕ) → is_nil (task_at i s) ≡ false → task_at i s ≡ task_at j s → i ≡ j

-- no line of a queue is longer than a line can be
abbrev pub HasShortLines : List (List ℕ) → Type 0
HasShortLines queue = All (λ line. length line ≤ LONGEST_LINE) queue
