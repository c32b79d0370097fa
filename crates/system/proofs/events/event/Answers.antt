use Rattle.session_text.specs.Display.{rendered}
use Rattle.system.specs.Below.system_meaning.specs.Events.{whole, point_shown}
use Rattle.system.proofs.Happening.{stands_after, joined}
use Rattle.system.proofs.events.event.Goals as goal

pub returns-clause-after : goal.returns-clause-after
returns-clause-after c = λ read reads s short stands.
    stands_after read c.whole.new.system s c.args.event.now (c.in_ok-whole.ensures read reads s short stands)

pub returns-clause-shown : goal.returns-clause-shown
returns-clause-shown c = λ read reads s short stands.
    let last = whole read s c.args.event.now in
    joined c.args.out.now (rendered c.args.plain last.display.shown) (point_shown c.args.event.now) c.render.new.out c.point_shown.result.now c.append.new.self
    (c.in_ok-render.ensures last (c.in_ok-whole.ensures read reads s short stands).at) c.in_ok-append.ensures.ok c.point_shown.ensures
