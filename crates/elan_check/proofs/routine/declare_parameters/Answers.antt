use Rattle.std.proofs.Common.{List, ◌++◌, subst}
use Rattle.std.specs.Prelude.{map}
use Rattle.elan_tree.specs.declared.written_type.Name.{Name}
use Rattle.elan_scope.specs.Phrase.{all_of}
use Rattle.elan_scope.specs.Answer.{Is}
use Rattle.elan_check.specs.Below.elan_rules.specs.Meaning.{judged_all}
use Rattle.elan_judge.specs.Level.{declares}
use Rattle.elan_check.proofs.Routines.{formals_go}
use Rattle.elan_check.proofs.routine.declare_parameters.Goals as goal

pub loop-formal-preserved : goal.loop-formal-preserved
loop-formal-preserved c = λ k ps h.
    formals_go k c.loop-formal.row c.declare_all-row.result c.args.scope.now c.args.formals.now c.loop-formal.formal-index c.formal-item.result _
    c.loop-formal-test.true c.formal-item.is
    (c.loop-formal.invariant k ps h)
    (λ qs g. subst (λ (ns : List Name). Is c.declare_all-row.result (judged_all k (all_of (qs ++ map (declares c.args.scope.now) ns)))) c.as_slice.ensures
    (c.declare_all-row.ensures k qs g))
