use Rattle.std.proofs.Common.{◌≡◌, ◌++◌, arith}
use Rattle.edge.proofs.Composed.{consumes_more}
use Rattle.line_command.proofs.Lines.{no_end_more, line_ends, line_too_long}
use Rattle.line_command.proofs.stream.read_line.Goals as goal

pub returns-in-Some-clause-line : goal.returns-in-Some-clause-line
returns-in-Some-clause-line g c =
    let left = g.S.Source.left in
    let piece = c.split_at.result.0.now in
    let next = rw (← c.split_at.ensures.front) at c.in-Ok.ensures.bytes.0 in
    line_ends (left c.args.source.now) (left c.pieces.source) (left c.take.new.self) c.pieces.line piece c.append.new.self c.in-Some.end c.whole.result
    c.pieces.invariant.taken c.pieces.invariant.open_ next c.in-Some.ensures
    (rw (← c.split_at-in-Some.ensures.front) c.in_ok-append-in-Some.ensures.ok) c.whole.ensures

pub pieces-preserved : goal.pieces-preserved
pieces-preserved g c =
    let left = g.S.Source.left in
    let piece = c.split_at.result.0.now in
    let next = rw (← c.split_at.ensures.front) at c.in-Ok.ensures.bytes.0 in
    let grown : c.append-in-None.new.self ≡ c.pieces.line ++ piece = c.in_ok-append-in-None.ensures.ok in
    record {
      taken = rw grown (consumes_more (left c.args.source.now) (left c.pieces.source) (left c.take.new.self) c.pieces.line piece c.pieces.invariant.taken next);
      open_ = rw grown (no_end_more c.pieces.line piece c.pieces.invariant.open_ c.in-None.ensures);
      later = omega (arith, c.pieces.invariant.later, c.in-Ok.ensures.cause.later);
    }

pub returns-clause-line : goal.returns-clause-line
returns-clause-line g c =
    line_too_long (g.S.Source.left c.args.source.now) (g.S.Source.left c.pieces.source) c.pieces.line c.pieces.invariant.taken c.pieces.invariant.open_
    (rw c.as_slice.ensures at c.pieces-test.false)
