use Rattle.std.proofs.Common.{◌≡◌, map, take}
use Rattle.std.specs.Prelude.{Err}
use Rattle.eu_base.specs.Shapes.{cell_kinds, joined}
use Rattle.space_calls.specs.Kinds.{found_in}
use Rattle.space_calls.proofs.there.+found.Given as goal

-- it is behind the parts so far
abbrev pub invariant-found_in_parts-loop-part : goal.invariant-found_in_parts-loop-part
invariant-found_in_parts-loop-part l = found_in (joined (map cell_kinds (take l.part-index l.parts))) l.place ≡ Err l.left
