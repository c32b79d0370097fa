use Rattle.std.proofs.Common.{refl}
use Rattle.task_requests.proofs.messages.answered.Goals as goal

pub returns : goal.returns
returns c = λ m h. (refl, c.in_ok-reply.ensures m h)
