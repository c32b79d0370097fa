use Rattle.std.proofs.Common.{ℕ, ◌+◌, length, set, ap, ◌∙◌, length-set}
use Rattle.eu_base.specs.DataSpaces.{Heads, the_space}
use Rattle.eu_base.specs.declared.request.Reply.TheVariants.{Taken, Message}
use Rattle.eu_base.specs.Requests.{plain}
use Rattle.live_tasks.specs.Below.task_job.specs.Here.{nowhere}
use Rattle.live_tasks.specs.Below.system_meaning.specs.Tasks.{now}
use Rattle.live_tasks.specs.Below.task_texts.proofs.Seen.{heads_now}
use Rattle.live_tasks.specs.Tasks.{Live}
use Rattle.live_tasks.proofs.Handing.{goes, at_other, takes_it, can_lose, lost_it, passed_it, both_owed}
use Rattle.live_tasks.proofs.Standing.{reads, stood, stands_at}
use Rattle.live_tasks.proofs.tasks.Tasks.pass.Goals as goal

pub send_out-sent-requires : goal.send_out-sent-requires
send_out-sent-requires c =
    let at = reads c.self.inside.pool c.self.inside.tasks.items c.args.self.now c.args.from c.index_mut-giver.result.now c.self.view_is c.requires.from
    c.index_mut-giver.ensures.value in
    record {
      live =
          ((goes c.self.inside.pool c.self.inside.tasks.items c.args.self.now c.self.view_is c.self.invariant c.args.from c.args.to c.args.space c.requires.go
          c.index_mut-giver.result.now at).sends c.index_mut-giver.result.now at).1;
    }

pub take_in-requires-clause-few : goal.take_in-requires-clause-few
take_in-requires-clause-few c =
    let at = reads c.self.inside.pool c.self.inside.tasks.items c.args.self.now c.args.from c.index_mut-giver.result.now c.self.view_is c.requires.from
    c.index_mut-giver.ensures.value in
    (takes_it c.self.inside.pool c.self.inside.tasks.items c.args.self.now c.self.view_is c.self.invariant c.args.from c.args.to c.args.space c.requires.go
    c.index_mut-giver.result.now at c.send_out-sent.new.task c.send_out-sent.ensures.same c.index_mut-taker.result.now c.requires.to
    c.index_mut-taker.ensures.value).1

pub take_in-requires-clause-left : goal.take_in-requires-clause-left
take_in-requires-clause-left c =
    let at = reads c.self.inside.pool c.self.inside.tasks.items c.args.self.now c.args.from c.index_mut-giver.result.now c.self.view_is c.requires.from
    c.index_mut-giver.ensures.value in
    (takes_it c.self.inside.pool c.self.inside.tasks.items c.args.self.now c.self.view_is c.self.invariant c.args.from c.args.to c.args.space c.requires.go
    c.index_mut-giver.result.now at c.send_out-sent.new.task c.send_out-sent.ensures.same c.index_mut-taker.result.now c.requires.to
    c.index_mut-taker.ensures.value).2

pub forget-requires : goal.forget-requires
forget-requires c =
    let at = reads c.self.inside.pool c.self.inside.tasks.items c.args.self.now c.args.from c.index_mut-giver.result.now c.self.view_is c.requires.from
    c.index_mut-giver.ensures.value in
    record {
      agree =
          can_lose c.self.inside.pool c.self.inside.tasks.items c.args.self.now c.self.view_is c.self.invariant c.args.from c.args.to c.args.space c.requires.go
          c.index_mut-giver.result.now at c.send_out-sent.new.task c.send_out-sent.ensures.same c.index_mut-taker.result.now c.requires.to
          c.index_mut-taker.ensures.value c.send_out-sent.result (c.send_out-sent.ensures.frames c.self.inside.pool) c.in-Err.back c.in-Err.ensures.back;
    }

pub invariant_of-self : goal.invariant_of-self
invariant_of-self c =
    let at = reads c.self.inside.pool c.self.inside.tasks.items c.args.self.now c.args.from c.index_mut-giver.result.now c.self.view_is c.requires.from
    c.index_mut-giver.ensures.value in
    passed_it c.self.inside.pool c.self.inside.tasks.items c.args.self.now c.self.view_is c.self.invariant c.args.from c.args.to c.args.space c.requires.go
    c.index_mut-giver.result.now at c.send_out-sent.new.task c.send_out-sent.ensures.same c.index_mut-taker.result.now c.requires.to
    c.index_mut-taker.ensures.value c.send_out-sent.result (c.send_out-sent.ensures.frames c.self.inside.pool) c.take_in.new.task c.in-Ok.ensures.same
    (c.in-Ok.ensures.frames c.self.inside.pool)

pub invariant_of-self-in-Err : goal.invariant_of-self-in-Err
invariant_of-self-in-Err c =
    let at = reads c.self.inside.pool c.self.inside.tasks.items c.args.self.now c.args.from c.index_mut-giver.result.now c.self.view_is c.requires.from
    c.index_mut-giver.ensures.value in
    lost_it c.self.inside.pool c.self.inside.tasks.items c.args.self.now c.self.view_is c.self.invariant c.args.from c.args.to c.args.space c.requires.go
    c.index_mut-giver.result.now at c.send_out-sent.new.task c.send_out-sent.ensures.same c.index_mut-taker.result.now c.requires.to
    c.index_mut-taker.ensures.value c.send_out-sent.result (c.send_out-sent.ensures.frames c.self.inside.pool) c.in-Err.back c.in-Err.ensures.back
    c.forget.new.pool (c.forget.ensures.frames nowhere) c.take_in.new.task c.in-Err.ensures.err

pub returns-in-Ok-clause-many : goal.returns-in-Ok-clause-many
returns-in-Ok-clause-many c =
    length-set (set c.self.inside.tasks.items c.args.from c.send_out-sent.new.task) c.args.to c.take_in.new.task
    ∙ length-set c.self.inside.tasks.items c.args.from c.send_out-sent.new.task ∙ ap (λ (l : Live). length l.tasks) c.self.view_is

pub returns-in-Err-clause-many : goal.returns-in-Err-clause-many
returns-in-Err-clause-many c =
    length-set (set c.self.inside.tasks.items c.args.from c.send_out-sent.new.task) c.args.to c.take_in.new.task
    ∙ length-set c.self.inside.tasks.items c.args.from c.send_out-sent.new.task ∙ ap (λ (l : Live). length l.tasks) c.self.view_is

pub returns-in-Ok-clause-passed : goal.returns-in-Ok-clause-passed
returns-in-Ok-clause-passed c = λ kinds_of owns mine other request asked code sender h has has' asks sends asks'.
    let at = reads c.self.inside.pool c.self.inside.tasks.items c.args.self.now c.args.from c.index_mut-giver.result.now c.self.view_is c.requires.from
    c.index_mut-giver.ensures.value in
    let at' = at_other c.self.inside.pool c.self.inside.tasks.items c.args.self.now c.self.view_is c.self.invariant c.args.from c.args.to c.args.space c.requires.go
    c.index_mut-giver.result.now at c.send_out-sent.new.task c.send_out-sent.ensures.same c.index_mut-taker.result.now c.requires.to
    c.index_mut-taker.ensures.value in
    let all = stood kinds_of c.self.inside.pool c.self.inside.tasks.items c.args.self.now owns c.self.view_is h in
    let gives = stands_at kinds_of c.self.inside.pool c.self.inside.tasks.items owns c.args.from c.index_mut-giver.result.now mine all at has in
    let takes = stands_at kinds_of c.self.inside.pool c.self.inside.tasks.items owns c.args.to c.index_mut-taker.result.now other all at' has' in
    let last = ap (λ (u : Heads). u.last) (heads_now (kinds_of other.packets) c.self.inside.pool c.index_mut-taker.result.now other takes) in (
      c.in-Ok.ensures.number ∙ ap (λ (n : ℕ). n + 1) last,
      both_owed kinds_of c.self.inside.pool c.self.inside.tasks.items owns c.args.from c.args.to c.send_out-sent.new.task c.take_in.new.task mine other (plain Taken)
          (record { reply = Message code sender c.in-Ok.number.0; content = the_space c.args.space (now mine.doing).spaces }) all
          (c.send_out-sent.ensures.due (kinds_of mine.packets) c.self.inside.pool mine request gives asks sends)
          (c.in-Ok.ensures.due (kinds_of other.packets) c.self.inside.pool other asked (the_space c.args.space (now mine.doing).spaces) code sender c.in-Ok.number.0
          takes asks' (c.send_out-sent.ensures.carries (kinds_of mine.packets) c.self.inside.pool mine gives)),
    )
