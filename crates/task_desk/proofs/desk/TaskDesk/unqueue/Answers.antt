use Rattle.std.proofs.Common.{sym, ◌∙◌}
use Rattle.task_desk.specs.Desks.{Desk}
use Rattle.task_desk.proofs.Queues.{none_taken}
use Rattle.task_desk.proofs.desk.TaskDesk.unqueue.Goals as goal

pub returns-clause-none : goal.returns-clause-none
returns-clause-none c none =
    let inside : Desk = record {
      tree = c.self.inside.tree;
      ready = c.self.inside.ready;
      waits = c.self.inside.waits;
      channels = c.self.inside.channels;
      display = c.self.inside.display;
    } in
    none_taken c.args.channel inside c.args.self.now c.line_back.new.self c.self.view_is c.line_back.ensures.queue (sym c.line_back.ensures.line ∙ none)
