use Rattle.std.proofs.Common.{arith}
use Rattle.named_texts.proofs.Giving.{one_less, room_left}
use Rattle.named_texts.proofs.keep.forget_named.Goals as goal

pub returns-clause-room : goal.returns-clause-room
returns-clause-room c =
    room_left c.args.memory.now c.forget.new.self c.in-Some.s.0 c.in-Some.ensures.live c.forget.ensures.forgotten
    (omega (arith, c.count.ensures.count, c.count.ensures.few))

pub returns-clause-fewer : goal.returns-clause-fewer
returns-clause-fewer c =
    let less = one_less c.args.memory.now c.forget.new.self c.in-Some.s.0 c.in-Some.ensures.live c.forget.ensures.forgotten in
    omega (arith, less)
