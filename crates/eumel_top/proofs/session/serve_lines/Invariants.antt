use Rattle.std.proofs.Common.{◌≡◌, ◌-◌, ◌≤◌}
use Rattle.session_lines.specs.declared.ending.TheConstants.{MOST_LINES}
use Rattle.eumel_top.specs.Midway.{Midway}
use Rattle.eumel_top.proofs.session.serve_lines.Given as goal

-- each line that was read was served, and what it shows was put
abbrev pub invariant-lines : goal.invariant-lines
invariant-lines g l =
    let left = g.S.Source.left in
    let taken = g.K.Sink.taken in
    record {
      midway : Midway (left l.fn.source) (left l.source) (taken l.fn.sink) (taken l.sink) l.desk l.lines;
      plain : l.desk.plain ≡ l.fn.desk.plain;
      source_later : g.S.Source.faults l.fn.source ≤ g.S.Source.faults l.source;
      sink_later : g.K.Sink.faults l.fn.sink ≤ g.K.Sink.faults l.sink;
    }

abbrev pub decreases-lines : goal.decreases-lines
decreases-lines g l = MOST_LINES - l.desk.count
