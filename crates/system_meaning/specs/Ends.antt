-- Tasks begin and end.
use Rattle.std.specs.Prelude.{ℕ, Bool, List, [], ◌∷◌, ◌++◌, fold, remove, ◌==◌, negsuc, Option, Some, None, if◌then◌else◌}
use Rattle.std.specs.List.{list_any}
use Rattle.system_meaning.specs.Below.task_numbers.specs.declared.number.TaskNo.{TaskNo}
use Rattle.eu_base.specs.declared.stop.Stop.{Stop}
use Rattle.eu_base.specs.declared.stop.Stop.TheVariants.{TaskThere, ManyTasks, TaskNumbers}
use Rattle.eu_base.specs.declared.request.Reply.TheVariants.{Receipt}
use Rattle.eu_base.specs.Requests.{Answer, plain}
use Rattle.message_wait.specs.Rendezvous as waits
use Rattle.task_tree.specs.Tree as tree
use Rattle.task_tree.specs.declared.refusal.BeginError.{BeginError}
use Rattle.task_tree.specs.declared.refusal.BeginError.TheVariants.{NameTaken, TreeFull, NumbersSpent}
use Rattle.task_tree.specs.Families.{family}
use Rattle.slicer.specs.Rotation as rotation
use Rattle.terminals.specs.Channels as channels
use Rattle.units.specs.Library.{Library, released}
use Rattle.system_meaning.specs.Tasks.{Doing, Own}
use Rattle.system_meaning.specs.Systems.{System, Moment, place, packets, woken, on_waits, on_system, uncouple_at}

-- why no task begins, as a stop
abbrev pub as_stop : BeginError → Stop
as_stop NameTaken = TaskThere
as_stop TreeFull = ManyTasks
as_stop NumbersSpent = TaskNumbers
as_stop _ = ManyTasks

abbrev pub number_refusal : Option BeginError → Option Stop
number_refusal None = None
number_refusal (Some e) = Some (as_stop e)

-- the number of the next task that begins
abbrev pub next : System → TaskNo
next s = tree.next s.shared.tree

-- a son of a task begins: it has the packets of its father
abbrev pub begun : List ℕ → TaskNo → Doing → System → System
begun name father d s = record {
  shared = record s.shared { tree = tree.begun name father s.shared.tree };
  owns = s.owns ++ record { packets = packets father s; doing = d } ∷ [];
}

-- a packet lives while a task has it
abbrev pub has_packet : ℕ → Own → Bool
has_packet n o = list_any (λ p. p == n) o.packets

abbrev pub released_unless : Bool → ℕ → Library → Library
released_unless had n lib = if had then lib else released n lib

abbrev pub without_packets : List ℕ → List Own → Library → Library
without_packets ps others lib = fold (λ (lib : Library) (n : ℕ). released_unless (list_any (has_packet n) others) n lib) lib ps

-- all that it had is gone, and the packets that it alone had
abbrev pub removed_at : Option ℕ → TaskNo → System → System
removed_at None t s = s
removed_at (Some k) t s = record {
  shared = record s.shared {
    tree = tree.ended t s.shared.tree;
    ready = rotation.without t s.shared.ready;
    waits = waits.left t s.shared.waits;
    library = without_packets (packets t s) (remove s.owns k) s.shared.library;
  };
  owns = remove s.owns k;
}

abbrev pub removed : TaskNo → System → System
removed t s = removed_at (place t s) t s

-- the receipt of a call: no task answers that lives
abbrev pub no_task : Answer
no_task = plain (Receipt (negsuc 0))

-- those that waited for a task get it, first those whose message it had taken, by number, and then its callers in order of arrival
abbrev pub freed_by : TaskNo → System → System
freed_by t s = fold (λ (s : System) (u : TaskNo). woken u no_task s) (on_waits (waits.released t) s) (waits.waiting_for t s.shared.waits)

-- its channel is free then, and nobody waits for it any more
abbrev pub ended : Moment → TaskNo → Moment
ended m t = on_system (freed_by t) (on_system (removed t) (uncouple_at (channels.channel_of t m.system.shared.channels) m))

-- a task ends, and before it its descendants
abbrev pub ended_with_descendants : TaskNo → Moment → Moment
ended_with_descendants t m = fold ended m (family t m.system.shared.tree)
