use Rattle.task_lines.specs.Below.system_meaning.specs.Monitor.{words_of}
use Rattle.task_lines.proofs.Kept.{on_ok}
use Rattle.task_lines.proofs.Taking.{worded_so}
use Rattle.task_lines.proofs.idle.take_idle.Goals as goal

pub returns : goal.returns
returns c =
    on_ok c.take_formed.result c.take_formed.ensures
    (λ h read reads m store is short stands.
    worded_so read c.args.task c.args.line.now m c.take_formed.new.system c.in_ok-form.form (words_of c.args.line.now) (c.in_ok-form.ensures short)
    (h read reads m store is short stands))
