use Rattle.std.proofs.Common.{◌≡◌, List, take}
use Rattle.live_packets.specs.Below.system_meaning.specs.Tasks.{Own}
use Rattle.live_packets.specs.Below.system_meaning.specs.Ends.{without_packets}
use Rattle.live_tasks.specs.Tasks.{Stand}
use Rattle.live_packets.specs.Packets.{kinds_in}
use Rattle.live_packets.proofs.packets.release_unused.Given as goal

-- the packets so far are gone that no task has, and the tasks stand for what they stood for
abbrev pub invariant-loop-number : goal.invariant-loop-number
invariant-loop-number l = (owns : List Own) → Stand (kinds_in l.fn.packets) l.tasks owns
    → (l.packets ≡ without_packets (take l.number-index l.numbers) owns l.fn.packets) × Stand (kinds_in l.packets) l.tasks owns
