use Rattle.std.proofs.Common.{◌≡◌, ◌++◌, map, take, replicate}
use Rattle.eu_base.specs.Shapes.{cell_kinds, joined}
use Rattle.eu_base.proofs.shape.+kinds.Given as goal

-- the kinds of the items so far
abbrev pub invariant-add_row-loop : goal.invariant-add_row-loop
invariant-add_row-loop l = l.kinds ≡ take l.most (l.fn.kinds ++ joined (replicate l.counter (cell_kinds l.of)))

-- those of the parts so far
abbrev pub invariant-add_all-loop-part : goal.invariant-add_all-loop-part
invariant-add_all-loop-part l = l.kinds ≡ take l.most (l.fn.kinds ++ joined (map cell_kinds (take l.part-index l.parts)))
