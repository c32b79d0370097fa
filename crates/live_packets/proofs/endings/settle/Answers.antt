use Rattle.std.proofs.Common.{sym, ap, ◌∙◌}
use Rattle.cell_kinds.specs.Kinds.{packet_kinds}
use Rattle.live_packets.specs.Below.units.specs.declared.unit.Compiled.{Compiled}
use Rattle.live_packets.specs.Below.system_meaning.specs.Tasks.{own_variables, settled, store_in}
use Rattle.live_packets.proofs.Ending.{tidied_then}
use Rattle.live_packets.proofs.endings.settle.Goals as goal

pub returns : goal.returns
returns c kinds_of owns own command w over has is =
    let unit = c.compiled-compiled.ensures.compiled in
    tidied_then kinds_of c.args.tasks.now c.settle.new.self c.tidy_alone.new.tasks owns c.args.place own command w c.args.unit.now over has is
    (λ ks os o store stand there idle kinds.
    c.in_ok-tidy_alone.ensures ks os o store stand there idle
    (ap (λ ps. packet_kinds ps) c.as_slice.ensures ∙ ap (λ (u : Compiled). packet_kinds u.core.packets) unit ∙ kinds))
    (settled (own_variables command) (store_in w)) (c.in_ok-settle.ensures.settled kinds_of owns own command w over has (is ∙ sym unit))
