use Rattle.std.proofs.Common.{List, ◌++◌, length, ap, subst, sym, ◌∙◌}
use Rattle.eu_base.specs.declared.value.Kind.{Kind}
use Rattle.eu_base.specs.Room.{cells_fit}
use Rattle.live_packets.specs.Below.units.specs.declared.unit.Compiled.{Compiled}
use Rattle.live_packets.specs.Below.packet_store.specs.Units.{IsUnit}
use Rattle.live_packets.specs.Below.packet_store.proofs.Sound.{sound}
use Rattle.live_packets.specs.Below.units.specs.Library.{IsInstalled}
use Rattle.live_packets.specs.Packets.{kinds_in}
use Rattle.live_packets.proofs.Installing.{over_kinds, installs_so}
use Rattle.live_packets.proofs.changes.install.Goals as goal

pub returns-in_ok-install-in-Ok : goal.returns-in_ok-install-in-Ok
returns-in_ok-install-in-Ok c i owns own command w shows is numbered given over has fits =
    let unit = c.of-unit.ensures ∙ c.parts-unit.ensures.compiled in
    installs_so c.args.unit c.args.packets.now c.install.new.self i owns c.args.place own command w
    (sound c.args.unit (subst (λ (u : Compiled). IsUnit u) c.parts-unit.ensures.compiled c.parts-unit.ensures.unit)) shows is numbered given c.args.tasks.now over has
    (subst (λ (u : Compiled). IsInstalled c.args.packets.now u c.install.new.self) unit c.in_ok-install-in-Ok.ensures.installed)
    c.in-Some.number c.in-Some.ensures.some c.keep_inserted.new.tasks
    (λ later agree kinds. c.in-Ok.ensures (kinds_in c.args.packets.now) later owns own command w over has (is ∙ sym unit) agree
    (ap (λ (ks : List Kind). cells_fit (length (ks ++ command.unit.core.inserted)))
    (sym (over_kinds (kinds_in c.args.packets.now) c.args.tasks.now owns c.args.place command w over own has)) ∙ fits) kinds)
