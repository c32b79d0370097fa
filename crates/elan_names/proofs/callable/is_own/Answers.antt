use Rattle.std.proofs.Common.{List, ℕ, Option, ap, ◌∙◌, sym}
use Rattle.std.specs.Option.{is_some}
use Rattle.elan_names.specs.Callables.{Callable, first, has_as_many}
use Rattle.elan_names.specs.walks.Numbers.{callables_among}
use Rattle.elan_names.proofs.Named.{callables_known, callables_found, callables_next, callables_end, none_there, some_there}
use Rattle.elan_names.proofs.callable.is_own.Goals as goal

pub loop-number-init : goal.loop-number-init
loop-number-init c =
    ap (λ (ns : List ℕ). first (has_as_many c.args.sort c.args.name.now c.args.count) (callables_among c.args.before c.args.headings.now ns)) c.named-number-items.ensures
    ∙ callables_known c.args.sort c.args.name.now c.args.count c.args.before c.args.headings.now

pub returns-then-is_such : goal.returns-then-is_such
returns-then-is_such c =
    let test = has_as_many c.args.sort c.args.name.now c.args.count in
    let r = some_there _ (ap (λ (cs : List Callable). is_some (first test cs)) (sym c.callable_at.ensures) ∙ sym c.is_such.ensures ∙ c.if-is_such.true) in
    ap (λ (o : Option Callable). is_some o)
    (callables_found test c.args.before c.args.headings.now _ c.named-number-items.result.now c.loop-number.number-index c.loop-number.invariant r.0
    c.loop-number-test.true r.1)

pub loop-number-preserved : goal.loop-number-preserved
loop-number-preserved c =
    let test = has_as_many c.args.sort c.args.name.now c.args.count in
    callables_next test c.args.before c.args.headings.now _ c.named-number-items.result.now c.loop-number.number-index c.loop-number.invariant c.loop-number-test.true
    (none_there _ (ap (λ (cs : List Callable). is_some (first test cs)) (sym c.callable_at.ensures) ∙ sym c.is_such.ensures ∙ c.if-is_such.false))

pub returns : goal.returns
returns c =
    ap (λ (o : Option Callable). is_some o)
    (callables_end (has_as_many c.args.sort c.args.name.now c.args.count) c.args.before c.args.headings.now _ c.named-number-items.result.now c.loop-number.number-index
    c.loop-number.invariant c.loop-number-test.false)
