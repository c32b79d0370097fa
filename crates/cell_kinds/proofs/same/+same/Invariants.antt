use Rattle.std.proofs.Common.{◌≡◌, length, map, drop}
use Rattle.eu_base.specs.Shapes.{same_shape, are_parts}
use Rattle.cell_kinds.proofs.same.+same.Given as goal

-- there are as many of both, and what is left decides
abbrev pub invariant-are_same-loop-k : goal.invariant-are_same-loop-k
invariant-are_same-loop-k l =
    (length l.parts ≡ length l.others)
    × (are_parts (map same_shape (drop l.k l.parts)) (drop l.k l.others) ≡ are_parts (map same_shape l.parts) l.others)
