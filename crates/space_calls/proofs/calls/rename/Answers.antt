use Rattle.space_calls.proofs.Plans.{freed_name}
use Rattle.space_calls.proofs.calls.rename.Goals as goal

pub name-requires-clause-free : goal.name-requires-clause-free
name-requires-clause-free g c =
    freed_name c.args.name.now c.args.new.now (g.M.Memory.heads c.args.m.now) (g.M.Memory.heads c.unname.new.self) c.unname.ensures.heads
    c.in_default-name_refusal.ensures
