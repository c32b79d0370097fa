-- The rows of the channels, one for each.
use Rattle.std.specs.Prelude.{◌≡◌, ◌≤◌, Bool, true, not, ◌||◌, List, length, All, AllPairs}
use Rattle.task_numbers.specs.Numbers.{is_nil, is_task}
use Rattle.terminals.specs.declared.channel.TheConstants.{QUEUED_LINES}
use Rattle.terminals.specs.declared.row.ChannelRow.{ChannelRow}
use Rattle.terminals.specs.Channels.{Channel}
use Rattle.terminals.specs.Couplings.{IsOneToOne, HasShortLines}

abbrev pub channel_of : ChannelRow → Channel
channel_of r = record { task = r.task; last = r.last; queue = r.queue }

-- at most 16 lines wait, of at most 250 bytes each
pub record HasRoom (c : Channel) : Type 0 where
  pub few : length c.queue ≤ QUEUED_LINES
  pub short : HasShortLines c.queue

-- what holds of all channels: they are four, no two have one task, and their queues have room
pub record AreChannels (cs : List Channel) : Type 0 where
  pub four : length cs ≡ 4
  pub one : IsOneToOne cs
  pub rooms : All HasRoom cs

-- the first has no task, or another than the second
abbrev pub is_apart : ChannelRow → ChannelRow → Bool
is_apart a b = is_nil a.task || not (is_task a.task b.task)

abbrev pub AreApart : List ChannelRow → Type 0
AreApart rows = AllPairs (λ a b. is_apart a b ≡ true) rows
