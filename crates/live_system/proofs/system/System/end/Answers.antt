use Rattle.live_system.specs.Below.terminals.specs.Channels.{channel_of}
use Rattle.live_system.specs.Below.system_meaning.specs.Systems.{on_system, uncouple_at}
use Rattle.live_system.specs.Below.system_meaning.specs.Ends.{removed}
use Rattle.live_system.proofs.system.System.end.Goals as goal

pub returns : goal.returns
returns c = λ m live childless later s.
    c.in_ok-free.ensures (on_system (removed c.args.task) (uncouple_at (channel_of c.args.task m.system.shared.channels) m))
    (c.in_ok-take_out.ensures m live childless later s)
