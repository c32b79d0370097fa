use Rattle.task_lines.proofs.Kept.{on_ok}
use Rattle.task_lines.proofs.Finishing.{over_stands}
use Rattle.task_lines.proofs.ending.over.Goals as goal

pub returns : goal.returns
returns c =
    on_ok c.rest_with.result c.rest_with.ensures
    (λ h read reads m command w same stands room.
    over_stands read c.args.task command c.finish.new.self c.rest_with.new.system c.args.finished.stop c.in_ok-stop.stop w m
    (c.in_ok-stop.ensures m command w same stands room) (h read reads))
