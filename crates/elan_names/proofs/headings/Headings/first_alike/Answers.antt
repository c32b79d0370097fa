use Rattle.std.proofs.Common.{List, ℕ, ap, ◌∙◌, sym}
use Rattle.elan_names.specs.Callables.{is_alike, types_of}
use Rattle.elan_names.specs.walks.Numbers.{first_among}
use Rattle.elan_names.proofs.Named.{alike_first, among_found, among_next, among_end}
use Rattle.elan_names.proofs.headings.Headings.first_alike.Goals as goal

pub loop-number-init : goal.loop-number-init
loop-number-init c =
    let test = is_alike c.args.sort c.args.name.now (types_of c.args.parameters.now) in
    ap (λ (ns : List ℕ). first_among test c.args.self.now ns) c.named-number-items.ensures
    ∙ alike_first c.args.sort c.args.name.now (types_of c.args.parameters.now) c.args.self.now

pub returns-in-Some : goal.returns-in-Some
returns-in-Some c =
    among_found (is_alike c.args.sort c.args.name.now (types_of c.args.parameters.now)) c.args.self.now _ c.named-number-items.result.now
    c.loop-number.number-index c.loop-number.invariant _ c.loop-number-test.true (sym c.in-Some.ensures)

pub loop-number-preserved : goal.loop-number-preserved
loop-number-preserved c =
    among_next (is_alike c.args.sort c.args.name.now (types_of c.args.parameters.now)) c.args.self.now _ c.named-number-items.result.now
    c.loop-number.number-index c.loop-number.invariant c.loop-number-test.true (sym c.in_default.ensures)

pub returns : goal.returns
returns c =
    among_end (is_alike c.args.sort c.args.name.now (types_of c.args.parameters.now)) c.args.self.now _ c.named-number-items.result.now
    c.loop-number.number-index c.loop-number.invariant c.loop-number-test.false
