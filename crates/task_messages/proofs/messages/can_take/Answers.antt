use Rattle.std.proofs.Common.{◌∙◌}
use Rattle.task_messages.proofs.Passed.{runs_where, room_where}
use Rattle.task_messages.proofs.messages.can_take.Goals as goal

pub returns-then-runs-clause-can : goal.returns-then-runs-clause-can
returns-then-runs-clause-can c kinds pages own q h asks free =
    let room = room_where kinds pages c.args.task.now own h free in c.has_room.ensures.room room.0 room.1

pub returns-else-runs-clause-can : goal.returns-else-runs-clause-can
returns-else-runs-clause-can c kinds pages own q h asks free = c.runs.ensures ∙ runs_where kinds pages c.args.task.now own q h asks
