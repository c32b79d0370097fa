use Rattle.std.proofs.Common.{Some}
use Rattle.system.specs.Below.system_meaning.specs.Serving.{input}
use Rattle.system.proofs.Kept.{on_ok}
use Rattle.system.proofs.Awaiting.{answered_so, unanswered}
use Rattle.system.proofs.lines.answered.Goals as goal

pub returns-in-Some : goal.returns-in-Some
returns-in-Some c =
    on_ok c.woken.result c.woken.ensures
    (λ f m h. answered_so c.woken.new.system c.args.task c.input.new.system (input (Some c.args.channel) m) c.in-Some.reply (c.in-Some.ensures.served m h) f)

pub returns-in-None : goal.returns-in-None
returns-in-None c = λ m h. unanswered c.input.new.system c.args.task (input (Some c.args.channel) m) (c.in-None.ensures.served m h)
