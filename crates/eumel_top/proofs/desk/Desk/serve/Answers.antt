use Rattle.std.proofs.Common.{refl, ◌∙◌, arith}
use Rattle.eu_base.specs.Faults.{Rose}
use Rattle.eumel_top.proofs.Serving.{none_so_far, one_more, all_served, refused_at}
use Rattle.eumel_top.proofs.desk.Desk.serve.Goals as goal

pub events-init : goal.events-init
events-init g c = record {
  so_far = none_so_far c.args.self.now c.args.events.now (g.K.Sink.taken c.args.sink.now);
  counted = refl;
  plain = refl;
  later = omega arith;
}

pub returns-in-Err-clause-refused : goal.returns-in-Err-clause-refused
returns-in-Err-clause-refused g c =
    let taken = g.K.Sink.taken in
    let faults = g.K.Sink.faults in
    refused_at c.args.self.now c.events.self c.args.events.now c.events.event-index c.event-item.result (taken c.args.sink.now) (taken c.events.sink)
    (taken c.event.new.sink) (Rose (faults c.events.sink) (faults c.event.new.sink)) c.in-Err.fault c.events.invariant.so_far c.events.invariant.plain c.events-test.true
    c.event-item.is c.in-Err.ensures.refused c.in-Err.ensures.cause

pub events-preserved : goal.events-preserved
events-preserved g c =
    let taken = g.K.Sink.taken in
    record {
      so_far = one_more c.args.self.now c.events.self c.event.new.self c.args.events.now c.events.event-index c.event-item.result (taken c.args.sink.now)
          (taken c.events.sink) (taken c.event.new.sink) c.events.invariant.so_far c.events.invariant.plain c.events-test.true c.event-item.is c.in_default.ensures.served;
      counted = c.event.ensures.counted ∙ c.events.invariant.counted;
      plain = c.event.ensures.plain ∙ c.events.invariant.plain;
      later = omega (arith, c.events.invariant.later, c.event.ensures.later);
    }

pub returns-clause-served : goal.returns-clause-served
returns-clause-served g c =
    let taken = g.K.Sink.taken in
    all_served c.args.self.now c.events.self c.args.events.now c.events.event-index (taken c.args.sink.now) (taken c.events.sink) c.events.invariant.so_far
    c.events-test.false
