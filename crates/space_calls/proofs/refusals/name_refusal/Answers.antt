use Rattle.std.proofs.Common.{sym, ◌∙◌, refl}
use Rattle.eu_base.specs.declared.stop.Stop.TheVariants.{BadName, NameThere}
use Rattle.space_calls.proofs.Plans.{bad_name, name_there}
use Rattle.space_calls.proofs.refusals.name_refusal.Goals as goal

pub returns-then-not-is_name : goal.returns-then-not-is_name
returns-then-not-is_name g c =
    (BadName, (bad_name c.args.name.now (g.M.Memory.heads c.args.m.now) (sym c.is_name.ensures ∙ c.if-not-is_name.true), refl))

pub returns-in-Some : goal.returns-in-Some
returns-in-Some g c = (
  NameThere,
  (name_there c.args.name.now (g.M.Memory.heads c.args.m.now) c.in-Some.field-0 (sym c.is_name.ensures ∙ c.if-not-is_name.false) c.in-Some.ensures.space, refl),
)
