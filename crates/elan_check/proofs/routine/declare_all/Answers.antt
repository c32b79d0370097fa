use Rattle.std.proofs.Common.{List, ℕ, subst}
use Rattle.elan_scope.specs.Phrase as form
use Rattle.elan_scope.specs.Phrase.{leaf}
use Rattle.elan_scope.specs.Answer.{Is}
use Rattle.elan_check.specs.Below.elan_rules.specs.Meaning.{judged}
use Rattle.elan_check.proofs.Routines.{names_go}
use Rattle.elan_check.proofs.routine.declare_all.Goals as goal

pub loop-name-preserved : goal.loop-name-preserved
loop-name-preserved c = λ k ps h.
    names_go k c.loop-name.row c.declared.result c.with-row.result c.with-row.ensures c.args.scope.now c.args.names.now c.loop-name.name-index
    c.name-item.result _ c.loop-name-test.true c.name-item.is
    (c.loop-name.invariant k ps h)
    (subst (λ (x : List ℕ). Is c.declared.result (judged k (leaf c.name-item.result.at (form.declares c.args.scope.now x)))) c.as_slice.ensures
    c.declared.ensures)
