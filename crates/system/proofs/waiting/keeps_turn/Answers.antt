use Rattle.std.proofs.Common.{refl}
use Rattle.turn_laws.specs.Waits.{Asking}
use Rattle.system.specs.Keeping.{evaluated}
use Rattle.system.proofs.Keeping.{rightly}
use Rattle.system.proofs.waiting.keeps_turn.Goals as goal

pub returns : goal.returns
returns c = λ m stands task turn command left q w at e.
    let is = c.law.ensures m stands in
    let there = evaluated left task command w m in
    let asking : Asking task q m there = record { command = command; left = left; world = w; has = at; asks = e; stands = refl } in
    rightly c.steady.ensures task m turn command left q w at e (c.turns_go_on.ensures.asks task q m there is turn asking).1
    (c.turns_go_on.ensures.serves task q m there is turn asking)
