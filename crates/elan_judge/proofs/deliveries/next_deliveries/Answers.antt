use Rattle.std.proofs.Common.{ap, ◌∙◌}
use Rattle.elan_judge.specs.declared.deliveries.Round.{Round}
use Rattle.elan_judge.specs.Level.{level_bodies}
use Rattle.elan_judge.proofs.Steps.{round_found}
use Rattle.elan_judge.proofs.deliveries.next_deliveries.Goals as goal

pub returns-in-Ok-clause-found : goal.returns-in-Ok-clause-found
returns-in-Ok-clause-found c =
    ap (λ (s : Round). s.deliveries) c.in-Ok.ensures.found
    ∙ round_found _ (level_bodies c.args.scope.now c.args.level.now) (c.in_ok-deliveries.ensures ∙ c.as_slice.ensures) c.requires.count
