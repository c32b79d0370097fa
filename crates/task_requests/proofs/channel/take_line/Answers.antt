use Rattle.task_requests.proofs.Lines.{line_given, none_given}
use Rattle.task_requests.proofs.channel.take_line.Goals as goal

pub returns-in-Some-clause-served : goal.returns-in-Some-clause-served
returns-in-Some-clause-served c = λ m h.
    line_given c.unqueue.new.self c.args.channel m c.in-Some.line (c.in-Some.ensures.line m h) (c.in-Some.ensures.taken m h)

pub returns-in-None-clause-served : goal.returns-in-None-clause-served
returns-in-None-clause-served c = λ m h. none_given c.unqueue.new.self c.args.channel m (c.in-None.ensures.line m h) (c.in-None.ensures.taken m h)
