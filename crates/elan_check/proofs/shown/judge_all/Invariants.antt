use Rattle.std.proofs.Common.{◌≡◌, [], drop}
use Rattle.elan_tree.specs.declared.tree.Level.{Level}
use Rattle.elan_scope.specs.declared.known.Known.{Known}
use Rattle.elan_walk.specs.Definitions.{level_definitions}
use Rattle.elan_judge.specs.Level.{exports}
use Rattle.elan_check.proofs.Routines.{Grown}
use Rattle.elan_check.proofs.shown.judge_all.Given as goal

abbrev pub invariant-loop-export : goal.invariant-loop-export
invariant-loop-export l =
    (k : Known) (w : Level) → l.list ≡ level_definitions w
    → Grown k l.row (exports l.scope w l.earlier (drop l.export-index l.exports)) (exports l.scope w [] l.exports)
