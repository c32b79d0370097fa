use Rattle.std.proofs.Common.{◌≡◌, take}
use Rattle.cell_kinds.specs.Kinds.{all_kinds}
use Rattle.cell_kinds.proofs.kinds.CellKinds.try_clone.Given as goal

-- the kinds of the shapes so far
abbrev pub invariant-loop-shape : goal.invariant-loop-shape
invariant-loop-shape l = l.copy ≡ all_kinds (take l.shape-index l.shape-items)
