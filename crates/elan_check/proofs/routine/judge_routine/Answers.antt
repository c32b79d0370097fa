use Rattle.std.proofs.Common.{◌++◌, ◌∷◌, [], ap, ◌∙◌}
use Rattle.elan_scope.specs.Phrase.{all_of}
use Rattle.elan_scope.specs.declared.scope.Scope.{Scope}
use Rattle.elan_check.specs.Below.elan_rules.specs.Meaning.{judged, judged_all}
use Rattle.type_names.specs.Bodies.{body_within, routine_scope}
use Rattle.elan_judge.specs.Level as l
use Rattle.elan_judge.proofs.Rows.{row_is}
use Rattle.elan_check.proofs.Routines.{headed, routine_row}
use Rattle.elan_check.proofs.routine.judge_routine.Goals as goal

pub judge_inside-row-requires : goal.judge_inside-row-requires
judge_inside-row-requires c = ap (λ (z : Scope). z.refinement) c.in-Ok.ensures.entered

pub returns-clause-meaning : goal.returns-clause-meaning
returns-clause-meaning c = λ ps h.
    let of = c.args.of in
    let s = c.args.scope.now in
    let k = c.args.known.now in
    let own = body_within s.types of.number of.formals.now of.body.now in
    let p = headed k c.judge_inside-row.result s of.number of.at of.name.now of.result.now of.formals.now of.body.now of.sort ps in
    c.routine_of.ensures k (l.heading_phrases s of.number of.at of.name.now of.result.now of.formals.now of.body.now of.sort ps
    ++ l.body_phrases s of.number of.at of.name.now of.result.now of.formals.now of.body.now)
    (routine_row k c.judge_inside-row.result s of.number of.at of.name.now of.result.now of.formals.now of.body.now of.sort ps
    c.enter.new.scope c.in-Ok.ensures.entered
    (c.judge_inside-row.ensures.meaning (ps ++ p ∷ [])
    (row_is k c.with-row.result ps p
    (c.with-row.ensures (judged_all k (all_of ps)) (judged k p) h (c.judge_heading.ensures k (routine_scope s own))))))

pub returns-clause-kept : goal.returns-clause-kept
returns-clause-kept c =
    let s = c.args.scope.now in
    c.leave.ensures s (body_within s.types c.args.of.number c.args.of.formals.now c.args.of.body.now) c.requires.level c.requires.unit
    (c.judge_inside-row.ensures.kept ∙ c.in-Ok.ensures.entered)
