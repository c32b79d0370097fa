use Rattle.std.proofs.Common.{◌++◌, List, drop}
use Rattle.elan_scope.specs.declared.known.Known.{Known}
use Rattle.elan_scope.specs.Phrase.{Phrase, all_of}
use Rattle.elan_check.specs.Below.elan_rules.specs.Meaning.{judged_all}
use Rattle.elan_scope.specs.Answer.{Is}
use Rattle.elan_judge.specs.Level.{declare_parameters}
use Rattle.elan_check.proofs.Routines.{Grown}
use Rattle.elan_check.proofs.routine.declare_parameters.Given as goal

abbrev pub invariant-loop-formal : goal.invariant-loop-formal
invariant-loop-formal l =
    (k : Known) → (ps : List Phrase) → Is l.fn.before (judged_all k (all_of ps))
    → Grown k l.row (declare_parameters l.scope (drop l.formal-index l.formals)) (ps ++ declare_parameters l.scope l.formals)
