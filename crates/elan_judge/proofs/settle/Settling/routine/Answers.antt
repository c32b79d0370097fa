use Rattle.std.proofs.Common.{◌+◌, ap, ◌∙◌}
use Rattle.elan_scope.specs.declared.scope.Scope.{Scope}
use Rattle.type_names.specs.Bodies.{body_within, routine_scope}
use Rattle.elan_judge.specs.walks.OnTheWay.{bodies_at}
use Rattle.elan_judge.proofs.Settling.{routine_here}
use Rattle.elan_judge.proofs.settle.Settling.routine.Goals as goal

pub refinements-requires : goal.refinements-requires
refinements-requires c = ap (λ (z : Scope). z.refinement) c.in_ok-enter.ensures.entered

pub returns-clause-found : goal.returns-clause-found
returns-clause-found c = λ w s h.
    let z = c.args.scope.now in
    let own = body_within z.types c.args.number c.args.formals.now c.args.body.now in
    c.in_ok-refinements.ensures.found w s
    (routine_here (bodies_at w) (routine_scope z own) c.enter.new.scope (c.args.number + 1) c.in_ok-first.first c.as_slice.result.now
    c.args.body.now.refinements c.in_ok-enter.ensures.entered c.in_ok-first.ensures c.as_slice.ensures h)

pub returns-clause-kept : goal.returns-clause-kept
returns-clause-kept c =
    let s = c.args.scope.now in
    c.leave.ensures s (body_within s.types c.args.number c.args.formals.now c.args.body.now) c.requires.level c.requires.unit
    (c.in_ok-refinements.ensures.kept ∙ c.in_ok-enter.ensures.entered)
