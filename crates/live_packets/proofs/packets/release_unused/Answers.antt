use Rattle.std.proofs.Common.{ℕ, get_or, ap, sym, ◌∙◌, arith}
use Rattle.std.specs.List.{list_any}
use Rattle.live_packets.specs.Below.units.specs.Library.{Library}
use Rattle.live_packets.specs.Below.system_meaning.specs.Ends.{has_packet, released_unless}
use Rattle.live_packets.proofs.PacketKinds.{without_more}
use Rattle.live_packets.proofs.packets.release_unused.Goals as goal

pub loop-number-preserved : goal.loop-number-preserved
loop-number-preserved c = λ owns h.
    let so_far = c.loop-number.invariant owns h in
    let goes = c.release_if_unused.ensures owns so_far.1 in
    let n : ℕ = get_or c.args.numbers.now c.loop-number.number-index 0 in (
      goes.0 ∙ ap (λ (lib : Library). released_unless (list_any (has_packet n) owns) n lib) so_far.0
          ∙ sym (without_more c.args.numbers.now c.loop-number.number-index (omega arith) owns c.args.packets.now),
      goes.1,
    )
