use Rattle.std.proofs.Common.{List, ℕ, subst}
use Rattle.std.specs.Prelude.{MatchOption}
use Rattle.session_lines.specs.Reading as reading
use Rattle.eumel_top.specs.Midway.{LineGoes, LineEnds}
use Rattle.eumel_top.proofs.Midway.{wants, line_steps, concludes_long, ends_input, faults}
use Rattle.eumel_top.proofs.session.serve_next.Goals as goal

pub returns-in_default-clause-next : goal.returns-in_default-clause-next
returns-in_default-clause-next g c =
    let left = g.S.Source.left in
    wants c.args.desk.now c.args.lines.now (left c.args.source.now) (left c.next_line.new.source) (g.K.Sink.taken c.args.sink.now)

pub returns-in-Line-clause-next : goal.returns-in-Line-clause-next
returns-in-Line-clause-next g c =
    let left = g.S.Source.left in
    let taken = g.K.Sink.taken in
    let old = c.args.desk.now in
    let new = c.serve_line.new.desk in
    line_steps c.serve_line.result old new c.args.lines.now c.next_line.new.self c.in-Line.line (left c.args.source.now) (left c.next_line.new.source)
    (taken c.args.sink.now) (taken c.serve_line.new.sink)
    (subst (reading.GoesOn (left c.args.source.now) (left c.next_line.new.source) c.args.lines.now c.next_line.new.self) c.in-Line.is c.in-Ok.ensures.goes_on)
    (subst
    (λ (line : List ℕ).
    MatchOption c.serve_line.result (LineGoes old new line (taken c.args.sink.now) (taken c.serve_line.new.sink))
    (LineEnds old line (taken c.args.sink.now) (taken c.serve_line.new.sink)))
    c.as_slice.ensures c.serve_line.ensures.line)
    c.serve_line.ensures.plain

pub returns-in-TooLong-clause-next : goal.returns-in-TooLong-clause-next
returns-in-TooLong-clause-next g c =
    let left = g.S.Source.left in
    let taken = g.K.Sink.taken in
    concludes_long c.refuse_long.result c.args.desk.now c.args.lines.now c.next_line.new.self (left c.args.source.now) (left c.next_line.new.source)
    (taken c.args.sink.now) (taken c.refuse_long.new.sink)
    (subst (reading.GoesOn (left c.args.source.now) (left c.next_line.new.source) c.args.lines.now c.next_line.new.self) c.in-TooLong.is c.in-Ok.ensures.goes_on)
    c.refuse_long.ensures.line

pub returns-in-End-clause-next : goal.returns-in-End-clause-next
returns-in-End-clause-next g c =
    let left = g.S.Source.left in
    ends_input c.args.desk.now c.args.lines.now c.next_line.new.self (left c.args.source.now) (left c.next_line.new.source) (g.K.Sink.taken c.args.sink.now)
    (subst (reading.GoesOn (left c.args.source.now) (left c.next_line.new.source) c.args.lines.now c.next_line.new.self) c.in-End.is c.in-Ok.ensures.goes_on)

pub returns-in-Fault-clause-next : goal.returns-in-Fault-clause-next
returns-in-Fault-clause-next g c =
    let left = g.S.Source.left in
    faults c.args.desk.now c.args.lines.now c.next_line.new.self (left c.args.source.now) (left c.next_line.new.source) (g.K.Sink.taken c.args.sink.now)
    (subst (reading.GoesOn (left c.args.source.now) (left c.next_line.new.source) c.args.lines.now c.next_line.new.self) c.in-Fault.is c.in-Ok.ensures.goes_on)
