use Rattle.std.proofs.Common.{◌≡◌, length, take}
use Rattle.std.specs.Prelude.{flat_map}
use Rattle.state_spelling.specs.Held.{held}
use Rattle.state_spelling.proofs.record.count_below.Given as goal

abbrev pub invariant-loop-frame : goal.invariant-loop-frame
invariant-loop-frame l = l.count ≡ length (flat_map held (take l.frame-index l.frames))
