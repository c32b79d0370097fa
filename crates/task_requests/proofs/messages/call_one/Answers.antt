use Rattle.std.proofs.Common.{ℤ, true, false, to_z, of_z, refl, sym, ◌∙◌, subst}
use Rattle.std.specs.Int.{w16}
use Rattle.std.proofs.lemmas.Int.{to_z-of_z}
use Rattle.eu_base.specs.declared.request.Request.TheVariants.{Call}
use Rattle.task_requests.specs.Below.message_wait.specs.declared.waits.Offer.TheVariants.{Taken, NotReady, Queued}
use Rattle.task_requests.specs.Below.message_wait.specs.Rendezvous.{offered}
use Rattle.task_requests.specs.Below.system_meaning.specs.Systems.{on_system, on_waits}
use Rattle.task_requests.specs.Below.system_meaning.specs.Serving.{Served, caller}
use Rattle.live_system.specs.Machines.{StandsAt}
use Rattle.task_requests.specs.Served.{GoesAs}
use Rattle.task_requests.proofs.Results.{if_ok}
use Rattle.task_requests.proofs.Waiting.{offer_refused}
use Rattle.task_requests.proofs.Sending.{call_none, call_itself, call_offered, taken_so}
use Rattle.task_requests.proofs.messages.call_one.Goals as goal

pub returns-then-not-lives : goal.returns-then-not-lives
returns-then-not-lives c =
    if_ok c.answered.result _ _
    (λ goes f m asks there h. subst (λ (x : Served). GoesAs c.args.task x c.answered.new.system goes)
    (sym (call_none c.args.task c.args.to c.args.code c.args.space m (sym (c.lives.ensures m h) ∙ c.if-not-lives.true))) (f m h))
    c.answered.ensures

pub returns-then-is : goal.returns-then-is
returns-then-is c =
    if_ok c.answered-then-is.result _ _
    (λ goes f m asks there h. subst (λ (x : Served). GoesAs c.args.task x c.answered-then-is.new.system goes)
    (sym (call_itself c.args.task c.args.to c.args.code c.args.space m (sym (c.lives.ensures m h) ∙ c.if-not-lives.false) (sym c.is.ensures ∙ c.if-is.true)))
    (f m h))
    c.answered-then-is.ensures

pub returns-in-Taken : goal.returns-in-Taken
returns-in-Taken c =
    if_ok c.handed.result _ _
    (λ goes f m asks there h.
    let live = sym (c.lives.ensures m h) ∙ c.if-not-lives.false in
    let taken = c.in-Taken.ensures.answer m asks.live asks.free h in
    subst (λ (x : Served). GoesAs c.args.task x c.handed.new.system goes)
    (sym (call_offered c.args.task c.args.to c.args.code c.args.space m live (sym c.is.ensures ∙ c.if-is.false) Taken taken))
    (taken_so c.args.task c.args.to c.args.code c.args.space m c.offer.new.self c.handed.new.system goes true
    (Call c.args.to.0 c.args.code c.args.space) asks (λ never. never) refl there taken (to_z w16 (of_z w16 c.args.code)) (to_z-of_z w16 c.args.code c.ranges.code) (c.in-Taken.ensures.after m asks.live asks.free h) f))
    c.handed.ensures

pub returns-in-NotReady : goal.returns-in-NotReady
returns-in-NotReady c =
    if_ok c.answered-in-NotReady.result _ _
    (λ goes f m asks there h.
    let live = sym (c.lives.ensures m h) ∙ c.if-not-lives.false in
    let refused = c.in-NotReady.ensures.answer m asks.live asks.free h in
    subst (λ (x : Served). GoesAs c.args.task x c.answered-in-NotReady.new.system goes)
    (sym (call_offered c.args.task c.args.to c.args.code c.args.space m live (sym c.is.ensures ∙ c.if-is.false) NotReady refused))
    (f m (offer_refused c.offer.new.self (caller c.args.task c.args.to.0 (to_z w16 (of_z w16 c.args.code))) true m refused
    (c.in-NotReady.ensures.after m asks.live asks.free h))))
    c.answered-in-NotReady.ensures

pub returns-in-Queued : goal.returns-in-Queued
returns-in-Queued c = λ m asks there h.
    let live = sym (c.lives.ensures m h) ∙ c.if-not-lives.false in
    subst (λ (x : Served). GoesAs c.args.task x c.offer.new.self false)
    (sym (call_offered c.args.task c.args.to c.args.code c.args.space m live (sym c.is.ensures ∙ c.if-is.false) Queued
    (c.in-Queued.ensures.answer m asks.live asks.free h))) (
      refl,
      subst (λ (code : ℤ). StandsAt c.offer.new.self (on_system (on_waits (offered (caller c.args.task c.args.to.0 code) true)) m)) (to_z-of_z w16 c.args.code c.ranges.code)
          (c.in-Queued.ensures.after m asks.live asks.free h),
    )
