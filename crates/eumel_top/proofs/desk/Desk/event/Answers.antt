use Rattle.std.proofs.Common.{◌++◌, ap, ◌∙◌}
use Rattle.std.proofs.KnownBytes.{Keeps-refl}
use Rattle.eumel_top.specs.Below.system_meaning.specs.Events.{shown}
use Rattle.eumel_top.specs.declared.desk.Desk.{Desk}
use Rattle.eumel_top.proofs.Serving.{ShowsIn, serves, refuses}
use Rattle.eumel_top.proofs.desk.Desk.event.Goals as goal

pub returns-in_default-clause-refused : goal.returns-in_default-clause-refused
returns-in_default-clause-refused g c = λ short read is s stands. Keeps-refl (g.K.Sink.taken c.args.sink.now)

pub returns-clause-served : goal.returns-clause-served
returns-clause-served g c =
    let taken = g.K.Sink.taken in
    let old = c.args.self.now in
    let new : Desk = record old { system = c.event.new.system } in
    let event = c.args.event.now in
    let shows : ShowsIn old event c.as_slice.result.now =
    λ short read is s stands.
    c.as_slice.ensures ∙ c.in-Ok.ensures.shown read is s short stands ∙ ap (λ bytes. bytes ++ shown read old.plain s event) c.new-out.ensures in
    serves c.put_whole.result old new event c.as_slice.result.now (taken c.args.sink.now) (taken c.put_whole.new.sink) shows
    (λ short read is s stands. c.in-Ok.ensures.after read is s short stands) c.put_whole.ensures.ok

pub returns-clause-refused : goal.returns-clause-refused
returns-clause-refused g c =
    let taken = g.K.Sink.taken in
    let old = c.args.self.now in
    let event = c.args.event.now in
    let shows : ShowsIn old event c.as_slice.result.now =
    λ short read is s stands.
    c.as_slice.ensures ∙ c.in-Ok.ensures.shown read is s short stands ∙ ap (λ bytes. bytes ++ shown read old.plain s event) c.new-out.ensures in
    refuses c.put_whole.result old event c.as_slice.result.now (taken c.args.sink.now) (taken c.put_whole.new.sink) shows c.put_whole.ensures.less
