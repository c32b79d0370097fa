use Rattle.std.proofs.Common.{◌++◌, ◌∷◌, []}
use Rattle.elan_scope.specs.Phrase.{all_of}
use Rattle.elan_check.specs.Below.elan_rules.specs.Meaning.{judged, judged_all}
use Rattle.elan_judge.specs.Level.{declare_parameters}
use Rattle.elan_judge.proofs.Rows.{row_is}
use Rattle.elan_check.proofs.Routines.{body_in, inside_goes}
use Rattle.elan_check.proofs.routine.judge_inside.Goals as goal

pub returns-clause-meaning : goal.returns-clause-meaning
returns-clause-meaning c = λ ps h.
    let of = c.args.of in
    let s = c.args.scope.now in
    let k = c.args.known.now in
    let qs = declare_parameters s of.formals.now in
    let q = body_in s of.result.now of.formals.now of.body.now in
    inside_goes k c.judge_refinements.result ps s of.number c.in-Ok.first of.result.now of.formals.now of.body.now c.as_slice-refinements.result.now
    c.in-Ok.ensures c.as_slice-refinements.ensures
    (c.judge_refinements.ensures.meaning ((ps ++ qs) ++ q ∷ [])
    (row_is k c.with-row.result (ps ++ qs) q
    (c.with-row.ensures (judged_all k (all_of (ps ++ qs))) (judged k q) (c.declare_parameters-row.ensures k ps h) c.judge_body.ensures)))
