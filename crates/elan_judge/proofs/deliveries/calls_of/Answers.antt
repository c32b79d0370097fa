use Rattle.std.proofs.Common.{List, ℕ, ◌++◌, map, ap, ◌∙◌}
use Rattle.elan_judge.specs.declared.deliveries.Calls.{Calls}
use Rattle.elan_judge.specs.Level.{level_bodies}
use Rattle.elan_judge.specs.Refinements.{called_in}
use Rattle.elan_judge.specs.walks.Rounds.{called_last}
use Rattle.elan_judge.proofs.Steps.{all_calls, calls_with}
use Rattle.elan_judge.proofs.deliveries.calls_of.Goals as goal

pub returns-in-Ok-clause-all : goal.returns-in-Ok-clause-all
returns-in-Ok-clause-all c =
    let us = level_bodies c.args.scope.now c.args.level.now in
    ap (λ (s : Calls). s.all) (c.in-Ok.ensures.found ∙ all_calls (calls_with c.new.result c.new-2.result) 0 us)
    ∙ ap (λ (cs : List (List ℕ)). cs ++ map called_in us) c.new.ensures

pub returns-in-Ok-clause-last : goal.returns-in-Ok-clause-last
returns-in-Ok-clause-last c =
    let us = level_bodies c.args.scope.now c.args.level.now in
    ap (λ (s : Calls). s.last) (c.in-Ok.ensures.found ∙ all_calls (calls_with c.new.result c.new-2.result) 0 us)
    ∙ ap (λ (cs : List (List ℕ)). cs ++ map called_last us) c.new-2.ensures
