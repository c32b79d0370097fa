use Rattle.std.proofs.Common.{take}
use Rattle.line_command.specs.Streams.{HasNoLineEnd}
use Rattle.line_command.proofs.stream.line_end.Given as goal

abbrev pub invariant-loop-at : goal.invariant-loop-at
invariant-loop-at l = HasNoLineEnd (take l.at l.piece)
