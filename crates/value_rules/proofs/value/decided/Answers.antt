use Rattle.std.proofs.Common.{subst}
use Rattle.elan_types.specs.declared.elan_type.ElanType.TheVariants.{Bool as Truths}
use Rattle.elan_types.specs.declared.core_phrase.ValuePhrase.{ValuePhrase}
use Rattle.elan_types.specs.declared.core_phrase.ValuePhrase.TheVariants as value
use Rattle.elan_meant.specs.Verdict.{gives, Tells}
use Rattle.elan_meant.specs.declared.meant.Meant.TheVariants.{Value}
use Rattle.elan_meant.specs.Parts.{value_of}
use Rattle.value_rules.specs.walks.Steps.{choice}
use Rattle.elan_meant.proofs.Halves.{pair_is}
use Rattle.value_rules.proofs.value.decided.Goals as goal

pub returns : goal.returns
returns c =
    let l = value_of c.args.left in
    let r = value_of c.args.right in
    let b = c.args.stop in
    let sides = pair_is c.both-values.result l r (c.both-values.ensures l r c.value_of.ensures c.value_of-2.ensures) in
    let values = c.in_ok-left.ensures (l, r) (value.Truth b) sides c.new.ensures in
    let is = λ (v : ValuePhrase). Tells c.delivering.result (gives (Value c.args.at Truths v)) in
    subst (λ (p : ValuePhrase × ValuePhrase). is (choice b p.0 p.1 (value.Truth b))) values.0
    (subst (λ (v : ValuePhrase). is (choice b c.in_ok-left.left c.in_ok-left.right v)) values.1 (subst is c.choice-value.ensures c.delivering.ensures))
