use Rattle.std.proofs.Common.{Err}
use Rattle.eu_base.specs.Faults.{Rose}
use Rattle.session_lines.proofs.Forms.{no_form}
use Rattle.eumel_top.proofs.Serving.{no_form_refused, settles}
use Rattle.eumel_top.proofs.desk.Desk.too_long.Goals as goal

pub returns-clause-refused : goal.returns-clause-refused
returns-clause-refused g c =
    λ line long.
    let taken = g.K.Sink.taken in
    let old = c.args.self.now in
    no_form_refused c.put_bad_line.result old line (taken c.args.sink.now) (taken c.put_bad_line.new.sink) (no_form old.plain line long) c.put_bad_line.ensures.named

pub returns-clause-settles : goal.returns-clause-settles
returns-clause-settles g c =
    λ line long no_sink.
    let taken = g.K.Sink.taken in
    let old = c.args.self.now in
    settles (Err c.put_bad_line.result) old old line (taken c.args.sink.now) (taken c.put_bad_line.new.sink) (Unit {0})
    (Rose (g.K.Sink.faults c.args.sink.now) (g.K.Sink.faults c.put_bad_line.new.sink)) tt
    (no_form_refused c.put_bad_line.result old line (taken c.args.sink.now) (taken c.put_bad_line.new.sink) (no_form old.plain line long) c.put_bad_line.ensures.named)
    c.put_bad_line.ensures.cause no_sink
