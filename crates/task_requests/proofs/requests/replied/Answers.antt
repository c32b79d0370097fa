use Rattle.std.proofs.Common.{subst}
use Rattle.task_requests.specs.Below.system_meaning.specs.Serving.{serve}
use Rattle.task_requests.specs.Served.{ServedAs}
use Rattle.task_requests.proofs.Sending.{replied_so, rests_so}
use Rattle.task_requests.proofs.requests.replied.Goals as goal

pub returns-in_ok-reply-in-Some : goal.returns-in_ok-reply-in-Some
returns-in_ok-reply-in-Some c = λ m about live h.
    replied_so c.reply_to.new.system c.reply.new.self c.args.task (serve c.args.task c.args.request.now m) c.in-Some.reply
    (subst (λ o. ServedAs (serve c.args.task c.args.request.now m) c.reply_to.new.system o) c.in-Some.is (c.in_ok-reply.ensures.served m about live h))
    c.in_ok-reply-in-Some.ensures

pub returns-in-None : goal.returns-in-None
returns-in-None c = λ m about live h.
    rests_so c.reply_to.new.system c.args.task (serve c.args.task c.args.request.now m)
    (subst (λ o. ServedAs (serve c.args.task c.args.request.now m) c.reply_to.new.system o) c.in-None.is (c.in_ok-reply.ensures.served m about live h))
