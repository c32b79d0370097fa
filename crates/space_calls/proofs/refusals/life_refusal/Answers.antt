use Rattle.std.proofs.Common.{sym, ◌∙◌, refl}
use Rattle.eu_base.specs.declared.stop.Stop.TheVariants.{NoSpace}
use Rattle.space_calls.proofs.Plans.{not_live}
use Rattle.space_calls.proofs.refusals.life_refusal.Goals as goal

pub returns : goal.returns
returns g c = (NoSpace, (not_live c.args.s (g.M.Memory.heads c.args.m.now) (sym c.live.ensures ∙ c.if-live.false), refl))
