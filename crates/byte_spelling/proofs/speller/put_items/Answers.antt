use Rattle.byte_spelling.proofs.Items.{no_items, item_more, all_items}
use Rattle.byte_spelling.proofs.speller.put_items.Goals as goal

pub loop-item-init : goal.loop-item-init
loop-item-init g c = no_items g.S.Speller.spelling c.args.out.now c.args.items.now

pub loop-item-preserved : goal.loop-item-preserved
loop-item-preserved g c =
    item_more g.S.Speller.spelling c.args.out.now c.args.items.now c.loop-item.item-index c.loop-item.out c.item-item.result c.put.new.out c.loop-item.invariant c.loop-item-test.true
    (rw (← c.item-item.is) c.in_ok-put.ensures.spelled) (rw (← c.item-item.is) c.in_ok-put.ensures.fine)

pub returns-clause-spelled : goal.returns-clause-spelled
returns-clause-spelled g c = (all_items g.S.Speller.spelling c.args.out.now c.args.items.now c.loop-item.item-index c.loop-item.out c.loop-item.invariant c.loop-item-test.false).0

pub returns-clause-fine : goal.returns-clause-fine
returns-clause-fine g c = (all_items g.S.Speller.spelling c.args.out.now c.args.items.now c.loop-item.item-index c.loop-item.out c.loop-item.invariant c.loop-item-test.false).1
