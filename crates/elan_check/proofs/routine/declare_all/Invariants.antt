use Rattle.std.proofs.Common.{◌++◌, List, drop}
use Rattle.std.specs.Prelude.{map}
use Rattle.elan_scope.specs.declared.known.Known.{Known}
use Rattle.elan_scope.specs.Phrase.{Phrase, all_of}
use Rattle.elan_check.specs.Below.elan_rules.specs.Meaning.{judged_all}
use Rattle.elan_scope.specs.Answer.{Is}
use Rattle.elan_judge.specs.Level.{declares}
use Rattle.elan_check.proofs.Routines.{Grown}
use Rattle.elan_check.proofs.routine.declare_all.Given as goal

abbrev pub invariant-loop-name : goal.invariant-loop-name
invariant-loop-name l =
    (k : Known) → (ps : List Phrase) → Is l.fn.before (judged_all k (all_of ps))
    → Grown k l.row (map (declares l.scope) (drop l.name-index l.names)) (ps ++ map (declares l.scope) l.names)
