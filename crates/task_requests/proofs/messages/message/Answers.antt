use Rattle.std.proofs.Common.{rules, ℤ, false, refl, sym, subst}
use Rattle.std.specs.Int.{w16}
use Rattle.std.specs.Int.RustNames.{FitsSigned}
use Rattle.std.proofs.lemmas.Int.{to_z-of_z}
use Rattle.eu_base.specs.declared.request.Request.{Request}
use Rattle.eu_base.specs.declared.request.Request.TheVariants.{Send, Call}
use Rattle.task_requests.specs.Below.system_meaning.specs.Serving.{serve}
use Rattle.task_requests.specs.Served.{IsAsking, GoesAs}
use Rattle.task_requests.proofs.Results.{if_ok}
use Rattle.task_requests.proofs.messages.message.Goals as goal

pub returns-in-Send : goal.returns-in-Send
returns-in-Send c =
    let fits : FitsSigned w16 c.in-Send.code = search rules in
    if_ok c.send.result _ _
    (λ goes f m about asks h. subst (λ (q : Request). GoesAs c.args.task (serve c.args.task q m) c.send.new.system goes) (sym c.in-Send.is)
    (subst (λ (code : ℤ). IsAsking c.args.task (Send c.in-Send.to code c.in-Send.space) m.system →
    GoesAs c.args.task (serve c.args.task (Send c.in-Send.to code c.in-Send.space) m) c.send.new.system goes)
    (to_z-of_z w16 c.in-Send.code fits) (λ asking. f m asking h) (subst (λ (q : Request). IsAsking c.args.task q m.system) c.in-Send.is asks)))
    c.send.ensures

pub returns-in-Call : goal.returns-in-Call
returns-in-Call c =
    let fits : FitsSigned w16 c.in-Call.code = search rules in
    if_ok c.call.result _ _
    (λ goes f m about asks h. subst (λ (q : Request). GoesAs c.args.task (serve c.args.task q m) c.call.new.system goes) (sym c.in-Call.is)
    (subst (λ (code : ℤ). IsAsking c.args.task (Call c.in-Call.to code c.in-Call.space) m.system →
    GoesAs c.args.task (serve c.args.task (Call c.in-Call.to code c.in-Call.space) m) c.call.new.system goes)
    (to_z-of_z w16 c.in-Call.code fits) (λ asking. f m asking h) (subst (λ (q : Request). IsAsking c.args.task q m.system) c.in-Call.is asks)))
    c.call.ensures

pub returns-in-Answer : goal.returns-in-Answer
returns-in-Answer c = λ m about asks h.
    subst (λ (q : Request). GoesAs c.args.task (serve c.args.task q m) c.wait_from.new.self false) (sym c.in-Answer.is)
    (refl, c.wait_from.ensures m asks.live asks.free h)
