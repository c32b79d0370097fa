use Rattle.std.proofs.Common.{sym, ◌∙◌}
use Rattle.live_system.proofs.Finishing.{program_at, settled_at, inserted_at, none_over, shown_some, shown_none}
use Rattle.live_system.proofs.system.System.finish.Goals as goal

pub returns-in_default : goal.returns-in_default
returns-in_default c = λ m command w is s room.
    absurd (none_over c.self.inside.desk c.self.inside.packets c.self.inside.tasks c.args.self.now c.self.view_is c.args.task c.in_default.ensures.place command w m s)

pub returns-then-is_program : goal.returns-then-is_program
returns-then-is_program c = λ m command w is s room.
    program_at c.self.inside.desk c.self.inside.packets c.self.inside.tasks c.args.self.now c.self.view_is c.args.task c.in-Some.place c.in-Some.ensures.place c.in-Some.ensures.within
    c.args.finished.unit c.args.finished.stop command w m is s (shown_none c.args.finished.unit.shown (sym c.is_program.ensures ∙ c.if-is_program.true))
    c.finish-kept.new.tasks c.in_ok-kept.ensures

pub returns-in_ok-install-in-None : goal.returns-in_ok-install-in-None
returns-in_ok-install-in-None c = λ m command w is s room.
    let shows = shown_some c.args.finished.unit.shown (sym c.is_program.ensures ∙ c.if-is_program.false) in
    inserted_at c.self.inside.desk c.self.inside.packets c.self.inside.tasks c.args.self.now c.self.view_is c.args.task c.in-Some.place c.in-Some.ensures.place c.in-Some.ensures.within
    c.args.finished.unit c.args.finished.stop command w m is s room shows.0 shows.1 c.in-None.ensures c.install.new.packets c.install.new.tasks c.in_ok-install-in-None.ensures

pub returns-in_ok-settled-in-Some-told : goal.returns-in_ok-settled-in-Some-told
returns-in_ok-settled-in-Some-told c = λ m command w is s room.
    let shows = shown_some c.args.finished.unit.shown (sym c.is_program.ensures ∙ c.if-is_program.false) in
    settled_at c.self.inside.desk c.self.inside.packets c.self.inside.tasks c.args.self.now c.self.view_is c.args.task c.in-Some.place c.in-Some.ensures.place c.in-Some.ensures.within
    c.args.finished.unit c.args.finished.stop command w m is s shows.0 shows.1 c.in-Some-told.stop c.in-Some-told.ensures c.settle-settled.new.tasks
    c.in_ok-settled-in-Some-told.ensures
