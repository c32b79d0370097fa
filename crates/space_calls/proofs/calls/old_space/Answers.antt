use Rattle.std.proofs.Common.{refl}
use Rattle.eu_base.specs.declared.stop.Stop.TheVariants.{NoName}
use Rattle.space_calls.proofs.Plans.{no_name}
use Rattle.space_calls.proofs.calls.old_space.Goals as goal

pub returns-in-None : goal.returns-in-None
returns-in-None g c = (NoName, (no_name _ c.args.name.now (g.M.Memory.heads c.args.m.now) c.in-None.ensures.space, refl))
