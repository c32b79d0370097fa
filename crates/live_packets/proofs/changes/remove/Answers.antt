use Rattle.std.proofs.Common.{ℕ, List, ap, ◌∙◌}
use Rattle.std.specs.List.{remove}
use Rattle.live_packets.specs.Below.system_meaning.specs.Ends.{without_packets}
use Rattle.live_packets.specs.Packets.{kinds_in}
use Rattle.live_packets.proofs.changes.remove.Goals as goal

pub returns : goal.returns
returns c = λ owns own h has.
    let gone = c.release_unused.ensures (remove owns c.args.place) (c.end.ensures (kinds_in c.args.packets.now) owns h) in (
      gone.0 ∙ ap (λ (ns : List ℕ). without_packets ns (remove owns c.args.place) c.args.packets.now)
          (c.as_slice.ensures ∙ c.in_ok-numbers.ensures ∙ c.packets.ensures (kinds_in c.args.packets.now) owns own h has),
      gone.1,
    )
