use Rattle.std.proofs.Common.{◌++◌, ◌∙◌, ap, append-nil}
use Rattle.cell_kinds.specs.Kinds.{packet_kinds}
use Rattle.live_packets.proofs.endings.tidy_alone.Goals as goal

pub returns : goal.returns
returns c kinds_of owns own store stand has idle kinds =
    c.in_ok-tidy.ensures kinds_of owns own store stand has idle
    (ap (λ ks. packet_kinds c.args.packets.now ++ ks) c.new-none.ensures ∙ append-nil (packet_kinds c.args.packets.now) ∙ kinds)
