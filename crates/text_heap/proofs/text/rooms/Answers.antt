use Rattle.std.proofs.Common.{◌+◌, ap, ◌∙◌}
use Rattle.text_heap.specs.Texts.{blocks_in}
use Rattle.text_heap.proofs.Stored.{room}
use Rattle.text_heap.proofs.text.rooms.Goals as goal

pub returns-clause-texts : goal.returns-clause-texts
returns-clause-texts g c = λ known texts h.
    ap (λ n. n + blocks_in texts) (c.in_ok-count.ensures.count known) ∙ room (g.S.Space.content c.args.space.now) texts h
