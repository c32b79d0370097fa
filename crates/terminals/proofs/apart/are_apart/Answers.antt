-- Each row is apart from those before it.
use Rattle.std.proofs.Common.{sym, ◌∙◌}
use Rattle.std.proofs.lemmas.Bool.{false≢true}
use Rattle.terminals.proofs.Rows.{apart_before, apart_more}
use Rattle.terminals.proofs.apart.are_apart.Goals as goal

pub returns-then-not-is_apart_from-clause-some : goal.returns-then-not-is_apart_from-clause-some
returns-then-not-is_apart_from-clause-some c = λ _ apart.
    let r = c.index-rows-place.result in
    false≢true (sym c.if-not-is_apart_from.true ∙ c.is_apart_from.ensures ∙ apart_before c.args.rows.now c.loop-place.place r apart c.loop-place-test.true c.index-rows-place.is)

pub loop-place-preserved : goal.loop-place-preserved
loop-place-preserved c =
    let r = c.index-rows-place.result in
    apart_more c.args.rows.now c.loop-place.place r c.loop-place.invariant c.loop-place-test.true c.index-rows-place.is (sym c.is_apart_from.ensures ∙ c.if-not-is_apart_from.false)
