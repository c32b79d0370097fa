use Rattle.byte_spelling.proofs.Items.{HasItems}
use Rattle.byte_spelling.proofs.speller.put_items.Given as goal

abbrev pub invariant-loop-item : goal.invariant-loop-item
invariant-loop-item g l = HasItems g.S.Speller.spelling l.fn.out l.items l.item-index l.out
