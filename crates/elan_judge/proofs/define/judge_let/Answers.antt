use Rattle.std.proofs.Common.{map, take}
use Rattle.elan_rules.specs.Meaning.{judged, judged_all}
use Rattle.elan_scope.specs.Phrase.{all_of}
use Rattle.elan_judge.specs.Shape as shape
use Rattle.elan_judge.proofs.Rows.{row_goes}
use Rattle.elan_judge.proofs.define.judge_let.Goals as goal

pub loop-item-preserved : goal.loop-item-preserved
loop-item-preserved c =
    row_goes c.args.known.now (shape.let_item c.args.scope.now) c.args.items.now c.loop-item.item-index c.item-item.result c.with-row.result c.loop-item-test.true
    c.item-item.is
    (c.with-row.ensures (judged_all c.args.known.now (all_of (map (shape.let_item c.args.scope.now) (take c.loop-item.item-index c.args.items.now))))
    (judged c.args.known.now (shape.let_item c.args.scope.now c.item-item.result)) c.loop-item.invariant c.judge_let_item.ensures)
