use Rattle.std.proofs.Common.{false, to_z, of_z, refl, sym, ◌∙◌, subst}
use Rattle.std.specs.Int.{w16}
use Rattle.std.proofs.lemmas.Int.{to_z-of_z}
use Rattle.eu_base.specs.declared.request.Request.TheVariants.{Send}
use Rattle.task_requests.specs.Below.message_wait.specs.declared.waits.Offer.TheVariants.{Taken, NotReady}
use Rattle.task_requests.specs.Below.system_meaning.specs.Serving.{Served, caller}
use Rattle.task_requests.specs.Served.{GoesAs}
use Rattle.task_requests.proofs.Results.{if_ok}
use Rattle.task_requests.proofs.Waiting.{never_queued, offer_refused}
use Rattle.task_requests.proofs.Sending.{send_nothing, send_to_none, send_offered, taken_so}
use Rattle.task_requests.proofs.messages.send.Goals as goal

pub returns-then-not-has_space : goal.returns-then-not-has_space
returns-then-not-has_space c =
    if_ok c.answered.result _ _
    (λ goes f m asks h. subst (λ (x : Served). GoesAs c.args.task x c.answered.new.system goes)
    (sym (send_nothing c.args.task c.args.to c.args.code c.args.space m (sym (c.has_space.ensures m h) ∙ c.if-not-has_space.true))) (f m h))
    c.answered.ensures

pub returns-then-not-lives : goal.returns-then-not-lives
returns-then-not-lives c =
    if_ok c.answered-then-not-lives.result _ _
    (λ goes f m asks h. subst (λ (x : Served). GoesAs c.args.task x c.answered-then-not-lives.new.system goes)
    (sym (send_to_none c.args.task c.args.to c.args.code c.args.space m (sym (c.has_space.ensures m h) ∙ c.if-not-has_space.false)
    (sym (c.lives.ensures m h) ∙ c.if-not-lives.true))) (f m h))
    c.answered-then-not-lives.ensures

pub returns-in-Taken : goal.returns-in-Taken
returns-in-Taken c =
    if_ok c.handed.result _ _
    (λ goes f m asks h.
    let there = sym (c.has_space.ensures m h) ∙ c.if-not-has_space.false in
    let live = sym (c.lives.ensures m h) ∙ c.if-not-lives.false in
    let taken = c.in-Taken.ensures.answer m asks.live asks.free h in
    subst (λ (x : Served). GoesAs c.args.task x c.handed.new.system goes)
    (sym (send_offered c.args.task c.args.to c.args.code c.args.space m there live Taken taken))
    (taken_so c.args.task c.args.to c.args.code c.args.space m c.offer.new.self c.handed.new.system goes false
    (Send c.args.to.0 c.args.code c.args.space) asks (λ never. never) refl there taken (to_z w16 (of_z w16 c.args.code)) (to_z-of_z w16 c.args.code c.ranges.code) (c.in-Taken.ensures.after m asks.live asks.free h) f))
    c.handed.ensures

pub returns-in-NotReady : goal.returns-in-NotReady
returns-in-NotReady c =
    if_ok c.answered-in-NotReady.result _ _
    (λ goes f m asks h.
    let there = sym (c.has_space.ensures m h) ∙ c.if-not-has_space.false in
    let live = sym (c.lives.ensures m h) ∙ c.if-not-lives.false in
    let refused = c.in-NotReady.ensures.answer m asks.live asks.free h in
    subst (λ (x : Served). GoesAs c.args.task x c.answered-in-NotReady.new.system goes)
    (sym (send_offered c.args.task c.args.to c.args.code c.args.space m there live NotReady refused))
    (f m (offer_refused c.offer.new.self (caller c.args.task c.args.to.0 (to_z w16 (of_z w16 c.args.code))) false m refused
    (c.in-NotReady.ensures.after m asks.live asks.free h))))
    c.answered-in-NotReady.ensures

pub returns-in-Queued : goal.returns-in-Queued
returns-in-Queued c = λ m asks h.
    absurd (never_queued c.args.task c.args.to m.system.shared.waits (c.in-Queued.ensures.answer m asks.live asks.free h))
