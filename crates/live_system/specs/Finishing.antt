-- What a command that is over leaves, apart from what is told of it.
use Rattle.std.specs.Prelude.{◌≡◌, Bool, true, false, length, Option, Some, None}
use Rattle.task_numbers.specs.declared.number.TaskNo.{TaskNo}
use Rattle.eu_base.specs.declared.stop.Stop.{Stop}
use Rattle.live_system.specs.Below.elan_names.specs.declared.interface.Interface.{Interface}
use Rattle.eu_base.specs.Room.{cells_fit}
use Rattle.elan_types.specs.Eval.{World}
use Rattle.elan_types.specs.Typing.{all_packet_kinds}
use Rattle.live_system.specs.Below.system_meaning.specs.Tasks.{Command, Idle, store_in, own_variables}
use Rattle.live_system.specs.Below.system_meaning.specs.Systems.{Moment, does, on_system}
use Rattle.live_system.specs.Below.system_meaning.specs.Monitor.{settle, tidy, inserted, is_full}
use Rattle.live_packets.specs.Packets.{insertion_told}

-- a packet is installed, or its variables go
abbrev pub insertion_leaves : Option Stop → Bool → TaskNo → Command → Interface → Moment → Moment
insertion_leaves (Some stop) full t c i m = on_system (settle t (own_variables c)) m
insertion_leaves None true t c i m = on_system (settle t (own_variables c)) m
insertion_leaves None false t c i m = on_system (inserted t c.unit i) m

abbrev pub leaves_by : Option Interface → Option Stop → TaskNo → Command → Moment → Moment
leaves_by None stop t c m = m
leaves_by (Some i) stop t c m = insertion_leaves stop (is_full m.system.shared.library) t c i m

-- the task is idle, an insertion has come to its end, and what nothing denotes of the data spaces is gone
abbrev pub finished : Option Stop → TaskNo → Command → World → Moment → Moment
finished stop t c w m = on_system (tidy t) (leaves_by c.unit.shown stop t c (on_system (does t (Idle (store_in w))) m))

-- a command that ended, and did not stop, had room for the variables of all packets, with those of one that it inserted
abbrev pub HasRoom : Option Stop → Command → Type 0
HasRoom None c = cells_fit (length (all_packet_kinds c.unit.core)) ≡ true
HasRoom (Some stop) c = Unit {0}

-- the stop that is told of a command
abbrev pub told_by : Option Interface → Option Stop → Moment → Option Stop
told_by None stop m = stop
told_by (Some i) stop m = insertion_told stop (is_full m.system.shared.library)
