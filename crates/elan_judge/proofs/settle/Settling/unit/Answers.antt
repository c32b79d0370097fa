use Rattle.std.proofs.Common.{◌+◌, List, sym, subst}
use Rattle.elan_tree.specs.declared.written_type.Formal.{Formal}
use Rattle.elan_tree.specs.declared.tree.LevelUnit.{LevelUnit}
use Rattle.type_names.specs.Bodies.{body_within, routine_scope}
use Rattle.elan_judge.specs.Level.{all_refined_units, unit_bodies}
use Rattle.elan_judge.specs.walks.OnTheWay.{Holds, bodies_at}
use Rattle.elan_judge.proofs.Settling.{behind_one}
use Rattle.elan_judge.proofs.settle.Settling.unit.Goals as goal

pub returns-in-Proc-clause-found : goal.returns-in-Proc-clause-found
returns-in-Proc-clause-found c = λ w s h.
    let all = bodies_at w in
    let z = c.args.scope.now in
    let n = c.args.number in
    let b = c.in-Proc.body in
    c.routine.ensures.found w s
    (subst (λ (fs : List Formal). Holds all (n + 1) (all_refined_units (routine_scope z (body_within z.types n fs b)) (n + 1) b.refinements)) (sym c.as_slice.ensures)
    (behind_one all (routine_scope z (body_within z.types n c.in-Proc.formals b)) n _ b.refinements
    (subst (λ (v : LevelUnit). Holds all n (unit_bodies z n v)) c.in-Proc.is h)))

pub returns-in-Op-clause-found : goal.returns-in-Op-clause-found
returns-in-Op-clause-found c = λ w s h.
    let all = bodies_at w in
    let z = c.args.scope.now in
    let n = c.args.number in
    let b = c.in-Op.body in
    c.routine-in-Op.ensures.found w s
    (subst (λ (fs : List Formal). Holds all (n + 1) (all_refined_units (routine_scope z (body_within z.types n fs b)) (n + 1) b.refinements))
    (sym c.as_slice-in-Op.ensures)
    (behind_one all (routine_scope z (body_within z.types n c.in-Op.formals b)) n _ b.refinements
    (subst (λ (v : LevelUnit). Holds all n (unit_bodies z n v)) c.in-Op.is h)))
