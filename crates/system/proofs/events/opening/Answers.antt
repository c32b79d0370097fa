use Rattle.session_text.specs.Display.{blank}
use Rattle.system.specs.Below.system_meaning.specs.Systems.{opening, at_event}
use Rattle.system.specs.Below.live_system.specs.Machines.{StandsAt}
use Rattle.system.specs.Systems.{StandsFor}
use Rattle.system.proofs.Kept.{if_ok}
use Rattle.system.proofs.events.opening.Goals as goal

pub returns : goal.returns
unfolding StandsFor
returns c =
    if_ok c.opening.result (λ system. StandsAt system (at_event opening)) (λ system. StandsFor system opening)
    (λ system h. (blank, record { at = h; orderly = c.waits.ensures.begins })) c.opening.ensures
