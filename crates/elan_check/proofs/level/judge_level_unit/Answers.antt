use Rattle.std.proofs.Common.{[], sym, subst}
use Rattle.elan_tree.specs.declared.tree.LevelUnit.{LevelUnit}
use Rattle.elan_names.specs.declared.heading.Sort.TheVariants.{Operator}
use Rattle.elan_scope.specs.Answer.{Is}
use Rattle.elan_check.specs.Below.elan_rules.specs.Meaning.{judged}
use Rattle.elan_walk.specs.Operators.{operator_text}
use Rattle.elan_judge.specs.Level.{procedure_name, level_unit}
use Rattle.elan_check.proofs.Routines.{procedure_at, operator_at}
use Rattle.elan_check.proofs.level.judge_level_unit.Goals as goal

pub returns-in-Proc-clause-meaning : goal.returns-in-Proc-clause-meaning
returns-in-Proc-clause-meaning c =
    let k = c.args.known.now in
    let s = c.args.scope.now in
    subst (λ (v : LevelUnit). Is c.judge_routine.result (judged k (level_unit s c.args.number v))) (sym c.in-Proc.is)
    (procedure_at k s c.args.number c.in-Proc.name c.as_slice-in-Proc.result.now c.in-Proc.result c.in-Proc.formals c.as_slice-formals.result.now c.in-Proc.body
    c.judge_routine.result c.as_slice-in-Proc.ensures c.as_slice-formals.ensures
    (c.judge_routine.ensures.meaning (procedure_name s c.in-Proc.name c.as_slice-formals.result.now) (c.procedure_name-names.ensures k)))

pub returns-in-Op-clause-meaning : goal.returns-in-Op-clause-meaning
returns-in-Op-clause-meaning c =
    let k = c.args.known.now in
    let s = c.args.scope.now in
    subst (λ (v : LevelUnit). Is c.judge_routine-in-Op.result (judged k (level_unit s c.args.number v))) (sym c.in-Op.is)
    (operator_at k s c.args.number c.in-Op.name.at (operator_text c.in-Op.name.operator) c.operator_text.result.now c.in-Op.result c.in-Op.formals
    c.as_slice-in-Op.result.now c.in-Op.body Operator c.judge_routine-in-Op.result c.operator_text.ensures c.as_slice-in-Op.ensures
    (c.judge_routine-in-Op.ensures.meaning [] c.none.ensures))
