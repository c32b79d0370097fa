use Rattle.std.proofs.Common.{List, ℕ, Option, Some, ap, ◌∙◌, sym}
use Rattle.elan_names.specs.declared.heading.Heading.{Heading}
use Rattle.elan_names.specs.Callables.{is_refined, number_in}
use Rattle.elan_names.specs.walks.Numbers.{first_among}
use Rattle.elan_names.proofs.Named.{refined_first, among_found, among_next, among_end, none_there, some_there, number_is}
use Rattle.elan_names.proofs.headings.Headings.first_refined.Goals as goal

pub loop-number-init : goal.loop-number-init
loop-number-init c =
    ap (λ (ns : List ℕ). first_among (is_refined c.args.home c.args.name.now) c.args.self.now ns) c.named-number-items.ensures
    ∙ refined_first c.args.home c.args.name.now c.args.self.now

pub returns-then-is_refined_at : goal.returns-then-is_refined_at
returns-then-is_refined_at c =
    let test = is_refined c.args.home c.args.name.now in
    let r = some_there _ (sym c.is_refined_at.ensures ∙ c.if-is_refined_at.true) in
    ap (λ (n : ℕ). Some n) (sym (number_is test _ _ r.0 r.1))
    ∙ ap (λ (o : Option (ℕ × Heading)). number_in o)
    (among_found test c.args.self.now _ c.named-number-items.result.now c.loop-number.number-index c.loop-number.invariant r.0 c.loop-number-test.true r.1)

pub loop-number-preserved : goal.loop-number-preserved
loop-number-preserved c =
    among_next (is_refined c.args.home c.args.name.now) c.args.self.now _ c.named-number-items.result.now c.loop-number.number-index
    c.loop-number.invariant c.loop-number-test.true (none_there _ (sym c.is_refined_at.ensures ∙ c.if-is_refined_at.false))

pub returns : goal.returns
returns c =
    ap (λ (o : Option (ℕ × Heading)). number_in o)
    (among_end (is_refined c.args.home c.args.name.now) c.args.self.now _ c.named-number-items.result.now c.loop-number.number-index
    c.loop-number.invariant c.loop-number-test.false)
