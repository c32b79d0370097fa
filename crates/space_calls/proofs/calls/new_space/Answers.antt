use Rattle.std.proofs.Common.{None}
use Rattle.space_calls.proofs.Plans.{made_lives}
use Rattle.space_calls.proofs.calls.new_space.Goals as goal

pub name-requires-clause-live : goal.name-requires-clause-live
name-requires-clause-live g c =
    made_lives None (g.M.Memory.heads c.args.m.now) (g.M.Memory.heads c.make.new.self) c.in_ok-s.s c.in_ok-s.ensures.number c.in_ok-s.ensures.heads
