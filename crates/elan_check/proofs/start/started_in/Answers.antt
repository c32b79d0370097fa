use Rattle.std.proofs.Common.{◌≡◌, true, sym, ap, ◌∙◌, subst}
use Rattle.std.specs.Prelude.{slice_get}
use Rattle.elan_types.specs.Typing.{IsWellTyped}
use Rattle.units.specs.Starts.{is_start}
use Rattle.elan_check.proofs.Starting.{start_typed}
use Rattle.elan_check.proofs.start.started_in.Goals as goal

pub returns-in_ok-start_core-clause-typed : goal.returns-in_ok-start_core-clause-typed
returns-in_ok-start_core-clause-typed c =
    let env = c.args.env.now in
    let starts : is_start (slice_get env.bodies c.args.number) ≡ true = ap is_start c.requires.here ∙ sym c.is_start.ensures ∙ c.if-is_start.true in
    subst IsWellTyped (sym c.in_ok-start_core.ensures) (start_typed env c.args.number c.requires.compiled starts)
