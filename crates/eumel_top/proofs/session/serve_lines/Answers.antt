use Rattle.std.proofs.Common.{Bool, refl, subst, ◌∙◌, arith}
use Rattle.eu_base.specs.Faults.{Rose}
use Rattle.eumel_top.specs.Midway.{PlayTells}
use Rattle.eumel_top.proofs.Causes.{rose_before, caused_in}
use Rattle.eumel_top.proofs.Midway.{begins, told_ok, told_err}
use Rattle.eumel_top.proofs.session.serve_lines.Goals as goal

pub lines-init : goal.lines-init
lines-init g c =
    let left = g.S.Source.left in
    let taken = g.K.Sink.taken in
    record {
      midway = begins (left c.args.source.now) (taken c.args.sink.now) c.args.desk.now c.new-lines.result c.requires.stands c.requires.count
          (c.new-lines.ensures.nothing (left c.args.source.now));
      plain = refl;
      source_later = omega arith;
      sink_later = omega arith;
    }

pub lines-preserved : goal.lines-preserved
lines-preserved g c =
    let left = g.S.Source.left in
    let taken = g.K.Sink.taken in
    let on = c.lines.invariant in
    record {
      midway = c.in_default.ensures.next (left c.args.source.now) (taken c.args.sink.now) on.midway;
      plain = c.serve_next.ensures.plain ∙ on.plain;
      source_later = omega (arith, on.source_later, c.serve_next.ensures.source_later);
      sink_later = omega (arith, on.sink_later, c.serve_next.ensures.sink_later);
    }

pub returns-in-Some-clause-ends : goal.returns-in-Some-clause-ends
returns-in-Some-clause-ends g c =
    let left = g.S.Source.left in
    let taken = g.K.Sink.taken in
    let on = c.lines.invariant in
    told_ok c.in-Some.end c.args.desk.now.plain (left c.args.source.now) (left c.serve_next.new.source) (taken c.args.sink.now) (taken c.serve_next.new.sink)
    (subst
    (λ (form : Bool). PlayTells form (left c.args.source.now) (left c.serve_next.new.source) (taken c.args.sink.now) (taken c.serve_next.new.sink) c.in-Some.end)
    on.plain (c.in-Some.ensures.next (left c.args.source.now) (taken c.args.sink.now) on.midway))

pub returns-in-Some-clause-stops : goal.returns-in-Some-clause-stops
returns-in-Some-clause-stops g c =
    let left = g.S.Source.left in
    let taken = g.K.Sink.taken in
    let on = c.lines.invariant in
    told_err c.in-Some.end c.args.desk.now.plain (left c.args.source.now) (left c.serve_next.new.source) (taken c.args.sink.now) (taken c.serve_next.new.sink)
    (subst
    (λ (form : Bool). PlayTells form (left c.args.source.now) (left c.serve_next.new.source) (taken c.args.sink.now) (taken c.serve_next.new.sink) c.in-Some.end)
    on.plain (c.in-Some.ensures.next (left c.args.source.now) (taken c.args.sink.now) on.midway))

pub returns-in-Some-clause-cause : goal.returns-in-Some-clause-cause
returns-in-Some-clause-cause g c =
    let source = g.S.Source.faults in
    let sink = g.K.Sink.faults in
    let on = c.lines.invariant in
    caused_in c.in-Some.end (Rose (source c.lines.source) (source c.serve_next.new.source)) (Rose (sink c.lines.sink) (sink c.serve_next.new.sink))
    (Rose (source c.args.source.now) (source c.serve_next.new.source)) (Rose (sink c.args.sink.now) (sink c.serve_next.new.sink))
    (rose_before (source c.args.source.now) (source c.lines.source) (source c.serve_next.new.source) on.source_later)
    (rose_before (sink c.args.sink.now) (sink c.lines.sink) (sink c.serve_next.new.sink) on.sink_later) c.in-Some.ensures.cause
