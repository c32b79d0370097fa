use Rattle.std.proofs.Common.{List, map}
use Rattle.std.specs.Prelude.{sum}
use Rattle.live_system.specs.Below.system_meaning.specs.Tasks.{Own}
use Rattle.live_system.specs.Below.system_meaning.specs.Supervisor.{spaces_of}
use Rattle.live_packets.specs.Packets.{kinds_in}
use Rattle.live_system.proofs.Moments.{all_looked}
use Rattle.live_system.proofs.system.System.spaces.Goals as goal

pub returns : goal.returns
returns c =
    all_looked c.self.inside.desk c.self.inside.packets c.self.inside.tasks c.args.self.now c.self.view_is
    (λ (owns : List Own). sum (map spaces_of owns)) c.spaces.result (λ owns stand. c.spaces.ensures.count (kinds_in c.self.inside.packets) owns stand)
