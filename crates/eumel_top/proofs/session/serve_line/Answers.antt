use Rattle.std.proofs.Common.{sym, subst, ◌∙◌}
use Rattle.eumel_top.specs.Midway.{LineEnds}
use Rattle.eumel_top.specs.Serving.{Serves}
use Rattle.eumel_top.proofs.Midway.{has_room, has_most, full_ends, shut_ends, goes, fault_ends}
use Rattle.eumel_top.proofs.session.serve_line.Goals as goal

pub returns-then-is_full-clause-line : goal.returns-then-is_full-clause-line
returns-then-is_full-clause-line g c =
    full_ends c.args.desk.now c.args.line.now (g.K.Sink.taken c.args.sink.now) (has_most c.args.desk.now (sym c.is_full.ensures ∙ c.if-is_full.true))

pub line-requires : goal.line-requires
line-requires g c = record { more = has_room c.args.desk.now (sym c.is_full.ensures ∙ c.if-is_full.false) }

pub returns-in-Ok-true-clause-line : goal.returns-in-Ok-true-clause-line
returns-in-Ok-true-clause-line g c =
    let taken = g.K.Sink.taken in
    let old = c.args.desk.now in
    let new = c.line.new.self in
    let line = c.args.line.now in
    shut_ends old new line (taken c.args.sink.now) (taken c.line.new.sink)
    (subst (Serves old new line (taken c.args.sink.now) (taken c.line.new.sink)) c.in-Ok-true.field-0-test c.in-Ok-true.ensures.served)
    (has_room old (sym c.is_full.ensures ∙ c.if-is_full.false))

pub returns-in-Ok-false-clause-line : goal.returns-in-Ok-false-clause-line
returns-in-Ok-false-clause-line g c =
    let taken = g.K.Sink.taken in
    let old = c.args.desk.now in
    let new = c.line.new.self in
    let line = c.args.line.now in
    goes old new line (taken c.args.sink.now) (taken c.line.new.sink)
    (subst (Serves old new line (taken c.args.sink.now) (taken c.line.new.sink)) c.in-Ok-false.field-0-test c.in-Ok-false.ensures.served)
    (has_room old (sym c.is_full.ensures ∙ c.if-is_full.false)) c.line.ensures.counted

pub returns-in-Err-clause-line : goal.returns-in-Err-clause-line
returns-in-Err-clause-line g c =
    let taken = g.K.Sink.taken in
    let old = c.args.desk.now in
    let line = c.args.line.now in
    subst (LineEnds old line (taken c.args.sink.now) (taken c.line.new.sink)) (sym c.end_by.ensures)
    (fault_ends c.in-Err.fault old line (taken c.args.sink.now) (taken c.line.new.sink) c.in-Err.ensures.refused (has_room old (sym c.is_full.ensures ∙ c.if-is_full.false)))
