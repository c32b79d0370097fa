use Rattle.std.proofs.Common.{◌≡◌, ◌++◌, List, drop}
use Rattle.elan_scope.specs.Phrase.{Phrase, all_of}
use Rattle.elan_check.specs.Below.elan_rules.specs.Meaning.{judged_all}
use Rattle.elan_scope.specs.Answer.{Is}
use Rattle.elan_judge.specs.Level.{refinements}
use Rattle.elan_check.proofs.Routines.{Grown}
use Rattle.elan_check.proofs.routine.judge_refinements.Given as goal

pub record Kept (P Q : Type 0) : Type 0 where
  pub scope : P
  pub row : Q

abbrev pub invariant-loop-refinement : goal.invariant-loop-refinement
invariant-loop-refinement l =
    Kept (l.scope ≡ l.fn.scope)
    ((ps : List Phrase) → Is l.fn.before (judged_all l.known (all_of ps))
    → Grown l.known l.row (refinements l.fn.scope l.number (drop l.refinement-index l.refinements)) (ps ++ refinements l.fn.scope l.first l.refinements))
