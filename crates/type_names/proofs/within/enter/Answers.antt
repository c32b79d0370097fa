use Rattle.type_names.specs.Bodies.{body_within}
use Rattle.type_names.proofs.Scopes.{entered}
use Rattle.type_names.proofs.within.enter.Goals as goal

pub returns-clause-entered : goal.returns-clause-entered
returns-clause-entered c =
    let s = c.args.scope.now in
    entered s c.in_ok-within.within (body_within s.types c.args.number c.args.formals.now c.args.body.now) c.requires
    c.in_ok-within.ensures
