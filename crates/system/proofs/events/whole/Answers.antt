use Rattle.system.specs.Below.system_meaning.specs.Systems.{Moment, at_event}
use Rattle.system.specs.Below.system_meaning.specs.Events.{happens}
use Rattle.system.specs.Systems.{StandsFor}
use Rattle.system.proofs.events.whole.Goals as goal

pub returns : goal.returns
unfolding StandsFor
returns c = λ read reads s short stands.
    let shown : Moment = record { system = s; display = stands.0 } in
    let begun = c.in_ok-begin_event.ensures shown stands.1.at in
    let done = c.in_ok-happens.ensures read reads (at_event s) short (record { at = begun; orderly = stands.1.orderly }) in
    record {
      at = c.in_ok-close_all.ensures (happens read c.args.event.now (at_event s)) done;
      orderly = (c.waits.ensures.events read s c.args.event.now (c.law.ensures shown stands.1.at) stands.1.orderly).1;
    }
