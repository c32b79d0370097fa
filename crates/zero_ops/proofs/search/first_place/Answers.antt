use Rattle.std.proofs.Common.{◌≡◌, ◌<◌, ◌∙◌, ap, sym, arith, length}
use Rattle.std.specs.Prelude.{unwrap_or}
use Rattle.std.proofs.lemmas.Bool.Decides.{nat_tests}
use Rattle.eu_base.specs.Texts.{stands_at}
use Rattle.zero_ops.proofs.Places.{find_next, find_here, find_none, stands_is, place_is}
use Rattle.zero_ops.proofs.search.first_place.Goals as goal

pub loop-before-preserved : goal.loop-before-preserved
loop-before-preserved c =
    let stands = stands_is c.args.t.now c.args.u.now c.loop-before.before c.starts_with.result c.starts_with.ensures.value in
    find_next (stands_at c.args.t.now c.args.u.now) _ _ c.loop-before-test.true (stands ∙ c.if-starts_with.false) ∙ c.loop-before.invariant

pub returns-then-starts_with : goal.returns-then-starts_with
returns-then-starts_with c =
    let stands = stands_is c.args.t.now c.args.u.now c.loop-before.before c.starts_with.result c.starts_with.ensures.value in
    let found = find_here (stands_at c.args.t.now c.args.u.now) _ _ c.loop-before-test.true (stands ∙ c.if-starts_with.true) in
    let some : 0 < length c.args.u.now = grind (arith, nat_tests) in
    sym (place_is c.args.t.now c.args.u.now some ∙ ap (λ o. unwrap_or o 0) (sym c.loop-before.invariant ∙ found))

pub returns : goal.returns
returns c =
    let end : c.loop-before.before ≡ length c.args.t.now = omega arith in
    let none = find_none (stands_at c.args.t.now c.args.u.now) (length c.args.t.now) in
    let some : 0 < length c.args.u.now = grind (arith, nat_tests) in
    let passed = rw end at c.loop-before.invariant in
    sym (place_is c.args.t.now c.args.u.now some ∙ ap (λ o. unwrap_or o 0) (sym passed ∙ none))
