use Rattle.std.proofs.Common.{Some}
use Rattle.space_calls.proofs.Plans.{made_lives}
use Rattle.space_calls.proofs.calls.copy_named.Goals as goal

pub name-requires-clause-live : goal.name-requires-clause-live
name-requires-clause-live g c =
    made_lives (Some c.in-Some.s) (g.M.Memory.heads c.args.m.now) (g.M.Memory.heads c.make.new.self) c.in_ok-made.made c.in_ok-made.ensures.number
    c.in_ok-made.ensures.heads
