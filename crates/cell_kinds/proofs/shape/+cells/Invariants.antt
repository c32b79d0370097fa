use Rattle.std.proofs.Common.{◌≡◌, ◌+◌, ◌<◌, ◌^◌, length, drop}
use Rattle.cell_kinds.specs.Kinds.{all_kinds}
use Rattle.cell_kinds.proofs.shape.+cells.Given as goal

-- what is counted and what is left
abbrev pub invariant-count_all-loop-part : goal.invariant-count_all-loop-part
invariant-count_all-loop-part l =
    (l.total < 2 ^ 64) × (l.total + length (all_kinds (drop l.part-index l.parts)) ≡ length (all_kinds l.fn.parts))
