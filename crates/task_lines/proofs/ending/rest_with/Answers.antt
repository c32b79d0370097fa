use Rattle.std.proofs.Common.{Some, None}
use Rattle.task_lines.specs.Below.system_meaning.specs.Systems.{tell}
use Rattle.task_lines.specs.Below.system_meaning.specs.Monitor.{stop_told}
use Rattle.task_lines.proofs.Kept.{on_ok}
use Rattle.task_lines.proofs.Finishing.{rested_so}
use Rattle.task_lines.proofs.ending.rest_with.Goals as goal

pub returns-in-None : goal.returns-in-None
returns-in-None c =
    on_ok c.rest.result c.rest.ensures
    (λ h read reads m stands. rested_so read c.args.task c.rest.new.system c.args.stop None m c.in-None.is (h read reads m stands))

pub returns-in_ok-tell_stop-in-Some : goal.returns-in_ok-tell_stop-in-Some
returns-in_ok-tell_stop-in-Some c =
    on_ok c.rest-in-Some.result c.rest-in-Some.ensures
    (λ h read reads m stands.
    rested_so read c.args.task c.rest-in-Some.new.system c.args.stop (Some c.in-Some.stop) m c.in-Some.is
    (h read reads (tell c.args.task (stop_told c.in-Some.stop) m) (c.in_ok-tell_stop-in-Some.ensures m stands)))
