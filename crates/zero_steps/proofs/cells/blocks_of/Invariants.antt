use Rattle.std.proofs.Common.{◌≡◌, take}
use Rattle.eu_base.specs.Room.{values_blocks}
use Rattle.zero_steps.proofs.cells.blocks_of.Given as goal

-- the blocks of the values so far
abbrev pub invariant-loop-value : goal.invariant-loop-value
invariant-loop-value l = l.blocks ≡ values_blocks (take l.value-index l.values)
