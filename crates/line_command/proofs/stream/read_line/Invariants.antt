use Rattle.std.proofs.Common.{◌≤◌, ◌+◌, ◌-◌, length}
use Rattle.std.specs.Io.KnownBytes.{Consumes}
use Rattle.line_command.specs.Line.{longest_line}
use Rattle.line_command.specs.Streams.{HasNoLineEnd}
use Rattle.line_command.proofs.stream.read_line.Given as goal

-- the line so far was taken, and has no end
abbrev pub invariant-pieces : goal.invariant-pieces
invariant-pieces g l =
    let left = g.S.Source.left in
    let faults = g.S.Source.faults in
    record {
      taken : Consumes (left l.fn.source) (left l.source) l.line;
      open_ : HasNoLineEnd l.line;
      later : faults l.fn.source ≤ faults l.source;
    }

abbrev pub decreases-pieces : goal.decreases-pieces
decreases-pieces g l = longest_line + 1 - length l.line
