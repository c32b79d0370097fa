use Rattle.std.proofs.Common.{◌≡◌, drop}
use Rattle.std.specs.Prelude.{option_and_then}
use Rattle.elan_walk.specs.Definitions.{first_from}
use Rattle.elan_judge.specs.Level.{may_show_type}
use Rattle.elan_check.proofs.shown.may_show_defined.Given as goal

abbrev pub invariant-loop-definition : goal.invariant-loop-definition
invariant-loop-definition l =
    option_and_then (λ f. may_show_type f.1.what) (first_from l.definition-index (drop l.definition-index l.list) l.name)
    ≡ option_and_then (λ f. may_show_type f.1.what) (first_from 0 l.list l.name)
