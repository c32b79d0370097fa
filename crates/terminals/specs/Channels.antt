-- The four channels: which task each is coupled to, its last task, and the lines that wait there, the oldest first.
use Rattle.std.specs.Prelude.{ℕ, ◌+◌, ◌-◌, Bool, nat_le, nat_lt, List, [], ◌∷◌, ◌++◌, length, drop, slice_index_or, slice_set, position, Option, None, option_map}
use Rattle.std.specs.Prelude.{if◌then◌else◌}
use Rattle.task_numbers.specs.declared.number.TaskNo.{TaskNo}
use Rattle.task_numbers.specs.Numbers.{niltask, is_nil, is_task}
use Rattle.terminals.specs.declared.channel.TheConstants.{QUEUED_LINES}

-- niltask stands for no task
pub record Channel : Type 0 where
  pub task : TaskNo
  pub last : TaskNo
  pub queue : List (List ℕ)

abbrev pub unused : Channel
unused = record { task = niltask; last = niltask; queue = [] }

-- an uncoupled channel keeps its last task, and no line
abbrev pub alone : Channel → Channel
alone c = record c { task = niltask; queue = [] }

abbrev pub is_queue_full : Channel → Bool
is_queue_full c = nat_le QUEUED_LINES (length c.queue)

abbrev pub has_line : Channel → Bool
has_line c = nat_lt 0 (length c.queue)

-- a line comes last, where there is a place for it
abbrev pub with_line : List ℕ → Channel → Channel
with_line line c = if is_queue_full c then c else record c { queue = c.queue ++ line ∷ [] }

-- the oldest line is taken
abbrev pub without_line : Channel → Channel
without_line c = record c { queue = drop 1 c.queue }

-- the channel of a number, from 1
abbrev pub channel : ℕ → List Channel → Channel
channel c s = slice_index_or s (c - 1) unused

abbrev pub with_channel : ℕ → Channel → List Channel → List Channel
with_channel c x s = slice_set s (c - 1) x

-- all four at the beginning
abbrev pub opening : List Channel
opening = unused ∷ (unused ∷ (unused ∷ (unused ∷ [])))

abbrev pub is_at : TaskNo → Channel → Bool
is_at t c = is_task c.task t

-- the channel of a task; niltask has none
abbrev pub channel_of : TaskNo → List Channel → Option ℕ
channel_of t s = if is_nil t then None else option_map (λ k. k + 1) (position (is_at t) s)

abbrev pub coupled : ℕ → TaskNo → List Channel → List Channel
coupled c t s = with_channel c (record (channel c s) { task = t }) s

abbrev pub uncoupled : ℕ → List Channel → List Channel
uncoupled c s = with_channel c (alone (channel c s)) s

abbrev pub with_last : ℕ → TaskNo → List Channel → List Channel
with_last c t s = with_channel c (record (channel c s) { last = t }) s

-- a line comes in at a channel
abbrev pub queued : ℕ → List ℕ → List Channel → List Channel
queued c line s = with_channel c (with_line line (channel c s)) s

-- the oldest line of a channel is taken
abbrev pub unqueued : ℕ → List Channel → List Channel
unqueued c s = with_channel c (without_line (channel c s)) s
