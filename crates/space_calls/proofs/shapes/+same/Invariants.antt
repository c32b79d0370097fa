use Rattle.std.proofs.Common.{◌≡◌, map, drop}
use Rattle.eu_base.specs.Shapes.{same_shape, are_parts}
use Rattle.space_calls.proofs.shapes.+same.Given as goal

abbrev pub invariant-are_same-loop-part : goal.invariant-are_same-loop-part
invariant-are_same-loop-part l = are_parts (map same_shape l.fn.parts) l.fn.others ≡ are_parts (map same_shape (drop l.part-index l.parts)) l.rest
