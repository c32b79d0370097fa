use Rattle.std.proofs.Common.{sym}
use Rattle.cell_kinds.proofs.Sames.{parts_apart}
use Rattle.cell_kinds.proofs.same.+same.Goals as goal

pub are_same-returns-then-parts-others : goal.are_same-returns-then-parts-others
are_same-returns-then-parts-others t c = sym (parts_apart c.args.parts.now c.args.others.now c.if-parts-others.true)
