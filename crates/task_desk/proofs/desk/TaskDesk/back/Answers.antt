use Rattle.std.proofs.Common.{◌≡◌, ◌<◌, true, false, [], List, length, sym, ◌∙◌, subst}
use Rattle.task_numbers.specs.declared.limits.TheConstants.{TASKS}
use Rattle.task_numbers.specs.declared.number.TaskNo.{TaskNo}
use Rattle.task_tree.specs.Tree.{lives}
use Rattle.slicer.specs.Rotation.{is_ready}
use Rattle.task_desk.specs.Below.units.specs.Library.{none_live}
use Rattle.task_desk.specs.Desks.{Desk, AllLive}
use Rattle.task_desk.proofs.Living.{can_be_ready_lives, can_be_ready_waits, has_room, live_at_back, comes_back, stays_away}
use Rattle.task_desk.proofs.desk.TaskDesk.back.Goals as goal

pub back-requires-clause-apart : goal.back-requires-clause-apart
back-requires-clause-apart c =
    subst (λ (d : Desk). is_ready c.args.task d.ready ≡ false) (sym c.self.view_is)
    (can_be_ready_waits c.args.task c.args.self.now (sym (c.can_be_ready.ensures none_live []) ∙ c.if-can_be_ready.true))

pub back-requires-clause-room : goal.back-requires-clause-room
back-requires-clause-room c =
    subst (λ (d : Desk). length d.ready < TASKS) (sym c.self.view_is)
    (has_room c.args.task c.args.self.now c.law.ensures (sym (c.can_be_ready.ensures none_live []) ∙ c.if-can_be_ready.true))

pub invariant_of-self : goal.invariant_of-self
invariant_of-self c = (
  subst (λ (ready : List TaskNo). AllLive c.self.inside.tree ready) (sym c.back.ensures)
      (live_at_back c.args.task c.self.inside.tree c.self.inside.ready c.self.invariant.0
      (subst (λ (d : Desk). lives c.args.task d.tree ≡ true) (sym c.self.view_is)
      (can_be_ready_lives c.args.task c.args.self.now (sym (c.can_be_ready.ensures none_live []) ∙ c.if-can_be_ready.true)))),
  c.self.invariant.1,
)

pub returns-then-can_be_ready : goal.returns-then-can_be_ready
returns-then-can_be_ready c =
    let inside : Desk = record {
      tree = c.self.inside.tree;
      ready = c.self.inside.ready;
      waits = c.self.inside.waits;
      channels = c.self.inside.channels;
      display = c.self.inside.display;
    } in
    comes_back c.args.task inside c.args.self.now c.back.new.self c.self.view_is c.back.ensures
    (λ library owns. sym (c.can_be_ready.ensures library owns) ∙ c.if-can_be_ready.true)

pub returns-else-can_be_ready : goal.returns-else-can_be_ready
returns-else-can_be_ready c =
    stays_away c.args.task c.args.self.now (λ library owns. sym (c.can_be_ready.ensures library owns) ∙ c.if-can_be_ready.false)
