use Rattle.std.proofs.Common.{◌∙◌, ap, get_or}
use Rattle.state_spelling.specs.Operands.{operand}
use Rattle.state_spelling.specs.Held.{held}
use Rattle.state_spelling.proofs.Put.{no_items, next_items, items_of, all_lists}
use Rattle.state_spelling.proofs.record.put_below.Goals as goal

pub loop-frame-init : goal.loop-frame-init
loop-frame-init c = no_items operand c.args.out.now

pub loop-frame-preserved : goal.loop-frame-preserved
loop-frame-preserved c =
    next_items operand held c.args.out.now c.args.frames.now c.loop-frame.frame-index c.loop-frame.out c.frame-item.result c.put_items.new.out c.loop-frame.invariant c.loop-frame-test.true
    (items_of operand c.loop-frame.out c.as_slice.result.now (held (get_or c.args.frames.now c.loop-frame.frame-index c.frame-item.result)) c.put_items.new.out
    (c.as_slice.ensures ∙ ap held c.frame-item.is) c.in_ok-put_items.ensures.spelled c.in_ok-put_items.ensures.fine)

pub returns-clause-spelled : goal.returns-clause-spelled
returns-clause-spelled c = (all_lists operand held c.args.out.now c.args.frames.now c.loop-frame.frame-index c.loop-frame.out c.loop-frame.invariant c.loop-frame-test.false).spelled

pub returns-clause-fine : goal.returns-clause-fine
returns-clause-fine c = (all_lists operand held c.args.out.now c.args.frames.now c.loop-frame.frame-index c.loop-frame.out c.loop-frame.invariant c.loop-frame-test.false).fine
