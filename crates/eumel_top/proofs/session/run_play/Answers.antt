use Rattle.std.proofs.Common.{Bool, subst}
use Rattle.std.specs.Prelude.{IfOk, IfErr}
use Rattle.eu_base.specs.Faults.{Rose}
use Rattle.eumel_top.specs.SessionPlay.{PlayEnds, PlayStops}
use Rattle.eumel_top.proofs.Causes.{settles}
use Rattle.eumel_top.proofs.Midway.{nothing}
use Rattle.eumel_top.proofs.session.run_play.Goals as goal

pub returns-in_default-clause-stops : goal.returns-in_default-clause-stops
returns-in_default-clause-stops g c =
    let left = g.S.Source.left in
    nothing (left c.args.source.now) (left c.args.source.now) (g.K.Sink.taken c.args.sink.now) c.args.plain

pub returns-clause-stops : goal.returns-clause-stops
returns-clause-stops g c =
    let left = g.S.Source.left in
    let taken = g.K.Sink.taken in
    subst
    (λ (form : Bool).
    IfErr c.serve_lines-end.result
    (PlayStops form (left c.args.source.now) (left c.serve_lines-end.new.source) (taken c.args.sink.now) (taken c.serve_lines-end.new.sink)))
    c.in-Ok.ensures.plain c.serve_lines-end.ensures.stops

pub returns-clause-ends : goal.returns-clause-ends
returns-clause-ends g c =
    let left = g.S.Source.left in
    let taken = g.K.Sink.taken in
    subst (λ (form : Bool). IfOk c.serve_lines-end.result (PlayEnds form (left c.args.source.now) (taken c.args.sink.now) (taken c.serve_lines-end.new.sink)))
    c.in-Ok.ensures.plain c.serve_lines-end.ensures.ends

pub returns-clause-settles : goal.returns-clause-settles
returns-clause-settles g c =
    let taken = g.K.Sink.taken in
    let source = Rose (g.S.Source.faults c.args.source.now) (g.S.Source.faults c.serve_lines-end.new.source) in
    let sink = Rose (g.K.Sink.faults c.args.sink.now) (g.K.Sink.faults c.serve_lines-end.new.sink) in
    settles c.args.plain (g.S.Source.left c.args.source.now) (taken c.args.sink.now) (taken c.serve_lines-end.new.sink) source sink c.serve_lines-end.result
    (returns-clause-ends g c) c.serve_lines-end.ensures.cause
