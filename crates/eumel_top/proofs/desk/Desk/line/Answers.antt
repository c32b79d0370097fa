use Rattle.std.proofs.Common.{◌≡◌, ◌+◌, List, None, Err, ap, subst, ◌∙◌}
use Rattle.std.specs.Prelude.{OnOk, IfOk, IfErr}
use Rattle.session_text.specs.declared.events.Event.{Event}
use Rattle.session_text.specs.Lines.{events_of}
use Rattle.eu_base.specs.Faults.{Rose}
use Rattle.session_lines.specs.Sessions.{shuts}
use Rattle.eumel_top.specs.declared.desk.Desk.{Desk}
use Rattle.eumel_top.specs.Serving.{ServesEvents, RefusesEvents}
use Rattle.eumel_top.proofs.Serving.{line_served, line_refused, line_caused, line_wanting, no_form_refused, no_form_caused, settles}
use Rattle.eumel_top.proofs.desk.Desk.line.Goals as goal

pub returns-in-Ok-clause-served : goal.returns-in-Ok-clause-served
returns-in-Ok-clause-served g c =
    let taken = g.K.Sink.taken in
    let old = c.args.self.now in
    let next : Desk = record old { count = old.count + 1 } in
    line_served c.serve.result old c.serve.new.self c.args.line.now c.in-Ok.events (taken c.args.sink.now) (taken c.serve.new.sink) c.in-Ok.ensures.events
    (subst (λ (events : List Event). IfOk c.serve.result (λ shut. shut ≡ shuts events)) c.as_slice.ensures c.serve.ensures.answer)
    (subst (λ (events : List Event). OnOk c.serve.result (ServesEvents next c.serve.new.self events (taken c.args.sink.now) (taken c.serve.new.sink))) c.as_slice.ensures
    c.serve.ensures.served)

pub returns-in-Ok-clause-refused : goal.returns-in-Ok-clause-refused
returns-in-Ok-clause-refused g c =
    let taken = g.K.Sink.taken in
    let old = c.args.self.now in
    let next : Desk = record old { count = old.count + 1 } in
    line_refused c.serve.result old c.args.line.now c.in-Ok.events (taken c.args.sink.now) (taken c.serve.new.sink) c.in-Ok.ensures.events
    (subst (λ (events : List Event). IfErr c.serve.result (RefusesEvents next events (taken c.args.sink.now) (taken c.serve.new.sink))) c.as_slice.ensures
    c.serve.ensures.refused)

pub returns-in-Ok-clause-cause : goal.returns-in-Ok-clause-cause
returns-in-Ok-clause-cause g c =
    line_caused c.serve.result (events_of c.args.self.now.plain c.args.line.now ≡ None) (Rose (g.K.Sink.faults c.args.sink.now) (g.K.Sink.faults c.serve.new.sink))
    c.serve.ensures.cause

pub returns-in-Ok-clause-settles : goal.returns-in-Ok-clause-settles
returns-in-Ok-clause-settles g c =
    λ no_sink.
    let taken = g.K.Sink.taken in
    let old = c.args.self.now in
    settles c.serve.result old c.serve.new.self c.args.line.now (taken c.args.sink.now) (taken c.serve.new.sink) (events_of old.plain c.args.line.now ≡ None)
    (Rose (g.K.Sink.faults c.args.sink.now) (g.K.Sink.faults c.serve.new.sink)) (returns-in-Ok-clause-served g c) (returns-in-Ok-clause-refused g c)
    (returns-in-Ok-clause-cause g c) no_sink

pub returns-in-Err-BadLine-clause-refused : goal.returns-in-Err-BadLine-clause-refused
returns-in-Err-BadLine-clause-refused g c =
    let taken = g.K.Sink.taken in
    let none = c.event.ensures.bad (c.in-Err-BadLine.is ∙ ap Err c.in-Err-BadLine.field-0-is) in
    no_form_refused c.put_bad_line.result c.args.self.now c.args.line.now (taken c.args.sink.now) (taken c.put_bad_line.new.sink) none c.put_bad_line.ensures.named

pub returns-in-Err-BadLine-clause-cause : goal.returns-in-Err-BadLine-clause-cause
returns-in-Err-BadLine-clause-cause g c =
    let none = c.event.ensures.bad (c.in-Err-BadLine.is ∙ ap Err c.in-Err-BadLine.field-0-is) in
    no_form_caused c.put_bad_line.result (events_of c.args.self.now.plain c.args.line.now ≡ None)
    (Rose (g.K.Sink.faults c.args.sink.now) (g.K.Sink.faults c.put_bad_line.new.sink)) none c.put_bad_line.ensures.cause

pub returns-in-Err-BadLine-clause-settles : goal.returns-in-Err-BadLine-clause-settles
returns-in-Err-BadLine-clause-settles g c =
    λ no_sink.
    let taken = g.K.Sink.taken in
    let old = c.args.self.now in
    settles (Err c.put_bad_line.result) old old c.args.line.now (taken c.args.sink.now) (taken c.put_bad_line.new.sink) (events_of old.plain c.args.line.now ≡ None)
    (Rose (g.K.Sink.faults c.args.sink.now) (g.K.Sink.faults c.put_bad_line.new.sink)) tt (returns-in-Err-BadLine-clause-refused g c)
    (returns-in-Err-BadLine-clause-cause g c) no_sink

pub returns-in-Err-NoMemory-clause-refused : goal.returns-in-Err-NoMemory-clause-refused
returns-in-Err-NoMemory-clause-refused g c = line_wanting c.args.self.now c.args.line.now (g.K.Sink.taken c.args.sink.now)
