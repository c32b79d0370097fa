use Rattle.std.proofs.Common.{subst}
use Rattle.supervisor.specs.Below.system_meaning.specs.Systems.{couple, on_system}
use Rattle.supervisor.specs.Below.system_meaning.specs.Supervisor.{halted_by}
use Rattle.supervisor.specs.Below.live_system.specs.Machines.{StandsAt}
use Rattle.supervisor.proofs.Coupled.{doing_couple}
use Rattle.supervisor.proofs.halting.halted.Goals as goal

pub returns : goal.returns
returns c = λ read reads m stands.
    let coupled = on_system (couple c.args.channel c.args.task) m in
    subst (λ d. StandsAt c.stopped.new.system (halted_by read d c.args.channel c.args.task coupled))
    (doing_couple c.args.channel c.args.task c.args.task m.system)
    (c.in_ok-stopped.ensures read reads coupled (c.couple.ensures m stands))
