use Rattle.std.proofs.Common.{ap, ◌∙◌, ◌++◌}
use Rattle.cell_kinds.specs.Kinds.{packet_kinds}
use Rattle.live_packets.specs.Below.units.specs.declared.unit.Compiled.{Compiled}
use Rattle.live_packets.proofs.Ending.{inserted_then}
use Rattle.live_packets.proofs.endings.keep_inserted.Goals as goal

pub returns : goal.returns
returns c kinds_of later owns own command w over has is agree fits kinds =
    let unit = c.compiled-compiled.ensures.compiled in
    inserted_then kinds_of c.args.tasks.now c.install.new.self c.tidy.new.self owns c.args.place own command w c.args.unit.now over has is later c.args.number
    (λ ks os o store stand there idle all.
    c.in_ok-tidy.ensures ks os o store stand there idle
    (ap (λ ps. packet_kinds ps ++ c.compiled-compiled.result.now.core.inserted) c.as_slice.ensures
    ∙ ap (λ (u : Compiled). packet_kinds u.core.packets ++ u.core.inserted) unit ∙ all))
    kinds (c.in_ok-install.ensures.installed kinds_of later owns own command w over has agree fits kinds)
