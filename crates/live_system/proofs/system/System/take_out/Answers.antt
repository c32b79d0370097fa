use Rattle.std.proofs.Common.{refl, sym, ap, ◌∙◌}
use Rattle.std.proofs.lemmas.Bool.{false≢true}
use Rattle.task_tree.specs.Tree.{Tree, lives, son}
use Rattle.live_system.specs.Below.terminals.specs.Channels.{channel_of}
use Rattle.live_system.specs.Below.system_meaning.specs.Systems.{uncouple_at}
use Rattle.live_system.proofs.Moments.{machine, found}
use Rattle.live_system.proofs.Ending.{tree_same, can_end_at, uncoupled_at, ends, gone_already}
use Rattle.live_system.proofs.system.System.take_out.Goals as goal

pub end-requires : goal.end-requires
end-requires c =
    let same = tree_same c.self.inside.desk c.uncouple_task.new.self (channel_of c.args.task c.self.inside.desk.channels) c.in_ok-uncouple_task.ensures in
    record {
      live = ap (λ (t : Tree). lives c.args.task t) same ∙ c.can_end.ensures.live c.if-not-can_end.false;
      childless = ap (λ (t : Tree). son c.args.task t) same ∙ c.can_end.ensures.childless c.if-not-can_end.false;
      later = c.can_end.ensures.later c.if-not-can_end.false;
    }

pub returns-then-not-can_end : goal.returns-then-not-can_end
returns-then-not-can_end c = λ m live childless later s.
    absurd (false≢true (sym c.if-not-can_end.true ∙ can_end_at c.self.inside.desk c.self.inside.packets c.self.inside.tasks c.args.self.now c.self.view_is c.args.task c.can_end.result c.can_end.ensures.can m s live childless later))

pub returns-in_default : goal.returns-in_default
returns-in_default c = λ m live childless later s.
    gone_already c.uncouple_task.new.self c.self.inside.packets c.self.inside.tasks (machine c.uncouple_task.new.self c.self.inside.packets c.self.inside.tasks) refl
    (uncouple_at (channel_of c.args.task m.system.shared.channels) m)
    (uncoupled_at c.self.inside.desk c.self.inside.packets c.self.inside.tasks c.args.self.now c.self.view_is c.args.task c.uncouple_task.new.self c.in_ok-uncouple_task.ensures m s) c.args.task c.in_default.ensures.place

pub returns : goal.returns
returns c = λ m live childless later s.
    let free = uncoupled_at c.self.inside.desk c.self.inside.packets c.self.inside.tasks c.args.self.now c.self.view_is c.args.task c.uncouple_task.new.self c.in_ok-uncouple_task.ensures m s in
    let was = machine c.uncouple_task.new.self c.self.inside.packets c.self.inside.tasks in
    let moment = uncouple_at (channel_of c.args.task m.system.shared.channels) m in
    let o = found c.uncouple_task.new.self c.self.inside.packets c.self.inside.tasks was refl moment free c.in-Some.place c.in-Some.ensures.within in
    let gone = c.in_ok-remove.ensures free.owns o.0 free.stand o.1 in
    ends c.uncouple_task.new.self c.self.inside.packets c.self.inside.tasks was refl moment free c.args.task c.in-Some.place c.in-Some.ensures.place o.0 o.1
    (ap (λ (t : Tree). lives c.args.task t) (tree_same c.self.inside.desk c.uncouple_task.new.self (channel_of c.args.task c.self.inside.desk.channels) c.in_ok-uncouple_task.ensures)
    ∙ c.can_end.ensures.live c.if-not-can_end.false) c.law.ensures.tree c.end.new.self c.end.ensures c.remove.new.packets gone.0 c.remove.new.tasks gone.1
