use Rattle.std.proofs.lemmas.Result.{err_from_is_err_and}
use Rattle.byte_spelling.specs.Spelling.{items_at}
use Rattle.byte_spelling.proofs.Loop.{goes_on, ends, is_done}
use Rattle.byte_spelling.proofs.speller.some_at.Goals as goal

pub returns-in_err-item : goal.returns-in_err-item
returns-in_err-item g c =
    let p = err_from_is_err_and c.from_residual.result c.from_residual.ensures.1 in
    rw (p.1, p.2)
    (ends c.in_err-item.field-0.0 g.S.Speller.spelling c.loop.items c.args.count c.loop.counter c.loop.rest.now (items_at g.S.Speller.spelling c.args.count c.args.from.now) c.loop-test.true
    c.in_err-item.ensures c.loop.invariant)

pub loop-preserved : goal.loop-preserved
loop-preserved g c =
    rw c.in_ok-push.ensures.ok
    (goes_on g.S.Speller.spelling c.loop.items c.args.count c.loop.counter c.loop.rest.now c.in_ok-item.item c.in_ok-item.after.now (items_at g.S.Speller.spelling c.args.count c.args.from.now) c.loop-test.true
    c.in_ok-item.ensures c.loop.invariant)

pub returns : goal.returns
returns g c = is_done g.S.Speller.spelling c.loop.items c.args.count c.loop.counter c.loop.rest.now (items_at g.S.Speller.spelling c.args.count c.args.from.now) c.loop-test.false c.loop.invariant
