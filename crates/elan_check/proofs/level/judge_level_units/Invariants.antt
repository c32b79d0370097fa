use Rattle.std.proofs.Common.{◌≡◌, ◌++◌, List, drop}
use Rattle.elan_scope.specs.Phrase.{Phrase, all_of}
use Rattle.elan_check.specs.Below.elan_rules.specs.Meaning.{judged_all}
use Rattle.elan_scope.specs.Answer.{Is}
use Rattle.elan_check.proofs.Routines.{Grown}
use Rattle.elan_check.proofs.level.judge_level_units.Given as goal
use Rattle.elan_judge.specs.walks.Units.{level_units}

pub record Kept (P Q : Type 0) : Type 0 where
  pub scope : P
  pub row : Q

abbrev pub invariant-loop-unit : goal.invariant-loop-unit
invariant-loop-unit l =
    Kept (l.scope ≡ l.fn.scope)
    ((ps : List Phrase) → Is l.fn.before (judged_all l.known (all_of ps))
    → Grown l.known l.row (level_units l.fn.scope l.number (drop l.unit-index l.units)) (ps ++ level_units l.fn.scope 0 l.units))
