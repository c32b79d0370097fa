use Rattle.std.proofs.Common.{List, sym, ap, subst, ◌∙◌}
use Rattle.elan_scope.specs.Answer.{Fails}
use Rattle.elan_meant.specs.Verdict.{Verdict, gives, told}
use Rattle.elan_meant.specs.declared.meant.Meant.{Meant}
use Rattle.elan_rules.specs.Choices.{Guard, chain}
use Rattle.elan_rules.proofs.ChoiceLists.{chain_fails, chain_next}
use Rattle.elan_rules.proofs.choice.chain.Goals as goal

pub returns-in-Err : goal.returns-in-Err
returns-in-Err c =
    subst (λ (r : Verdict Meant). Fails c.in-Err.trouble (told r)) c.loop-branch.invariant
    (subst (λ (gs : List Guard). Fails c.in-Err.trouble (told (chain c.args.at gs (gives c.loop-branch.rest)))) (sym c.in-Some.ensures)
    (chain_fails c.args.at c.pop.new.self c.in-Some.branch c.loop-branch.rest c.in-Err.trouble c.in-Err.ensures))

pub loop-branch-preserved : goal.loop-branch-preserved
loop-branch-preserved c =
    sym (chain_next c.args.at c.pop.new.self c.in-Some.branch c.loop-branch.rest c.in-Ok.part c.in-Ok.ensures)
    ∙ ap (λ (gs : List Guard). chain c.args.at gs (gives c.loop-branch.rest)) (sym c.in-Some.ensures) ∙ c.loop-branch.invariant
