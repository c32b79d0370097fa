use Rattle.std.proofs.lemmas.Result.{on_ok_weaker}
use Rattle.system_meaning.specs.Systems.{say, supervisor_prompt}
use Rattle.task_desk.proofs.Steps.{makes_both}
use Rattle.task_desk.proofs.desk.TaskDesk.refuse.Goals as goal

pub returns : goal.returns
returns c =
    on_ok_weaker c.supervisor_prompt.result
    (makes_both (say c.args.channel c.args.answer.now) (say c.args.channel supervisor_prompt) c.args.self.now c.say.new.self c.supervisor_prompt.new.self
    c.in_ok-say.ensures)
    c.supervisor_prompt.ensures
