use Rattle.std.proofs.Common.{◌≡◌, ◌≤◌}
use Rattle.eumel_top.proofs.Serving.{SoFar}
use Rattle.eumel_top.proofs.desk.Desk.serve.Given as goal

-- each event so far was served, and what it shows was put
abbrev pub invariant-events : goal.invariant-events
invariant-events g l =
    let taken = g.K.Sink.taken in
    record {
      so_far : SoFar l.fn.self l.self l.events l.event-index (taken l.fn.sink) (taken l.sink);
      counted : l.self.count ≡ l.fn.self.count;
      plain : l.self.plain ≡ l.fn.self.plain;
      later : g.K.Sink.faults l.fn.sink ≤ g.K.Sink.faults l.sink;
    }
