use Rattle.std.proofs.Common.{List, subst}
use Rattle.elan_names.specs.declared.heading.Sort.TheVariants.{Procedure}
use Rattle.elan_scope.specs.Answer.{Is}
use Rattle.elan_meant.specs.Operands.{is_unclear}
use Rattle.elan_meant.specs.Verdict.{told, unless}
use Rattle.elan_meant.specs.declared.meant.Meant.{Meant}
use Rattle.value_rules.specs.Calls.{applied}
use Rattle.value_rules.proofs.call.applied_alone.Goals as goal

pub returns : goal.returns
returns c =
    let s = c.args.scope.now in
    let x = c.args.name.now in
    subst (λ (ms : List Meant). Is c.applied.result (unless (is_unclear s Procedure x ms) (told (applied c.args.at s Procedure x ms)))) c.new.ensures
    c.applied.ensures
