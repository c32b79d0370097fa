use Rattle.std.proofs.Common.{take}
use Rattle.std.specs.Prelude.{flat_map}
use Rattle.state_spelling.specs.Operands.{operand}
use Rattle.state_spelling.specs.Held.{held}
use Rattle.state_spelling.proofs.Put.{HasItems}
use Rattle.state_spelling.proofs.record.put_below.Given as goal

abbrev pub invariant-loop-frame : goal.invariant-loop-frame
invariant-loop-frame l = HasItems operand l.fn.out (flat_map held (take l.frame-index l.frames)) l.out
