use Rattle.std.proofs.Common.{ℤ, sym, ◌∙◌, subst}
use Rattle.std.specs.Int.{w16}
use Rattle.std.proofs.lemmas.Int.{to_z-of_z}
use Rattle.eu_base.specs.declared.request.Request.TheVariants.{Call}
use Rattle.task_requests.specs.Below.task_tree.specs.Tree.{lives}
use Rattle.task_requests.specs.Below.system_meaning.specs.Serving.{Served, caller, call_living}
use Rattle.task_requests.specs.Served.{IsAsking, GoesAs}
use Rattle.task_requests.proofs.Results.{if_ok}
use Rattle.task_requests.proofs.Sending.{call_nothing, call_stopped, calls_one}
use Rattle.task_requests.proofs.messages.call.Goals as goal

pub returns-then-not-has_space : goal.returns-then-not-has_space
returns-then-not-has_space c =
    if_ok c.answered.result _ _
    (λ goes f m asks h. subst (λ (x : Served). GoesAs c.args.task x c.answered.new.system goes)
    (sym (call_nothing c.args.task c.args.to c.args.code c.args.space m (sym (c.has_space.ensures m h) ∙ c.if-not-has_space.true))) (f m h))
    c.answered.ensures

pub returns-in-Some : goal.returns-in-Some
returns-in-Some c =
    if_ok c.answered-in-Some.result _ _
    (λ goes f m asks h.
    let there = sym (c.has_space.ensures m h) ∙ c.if-not-has_space.false in
    subst (λ (x : Served). GoesAs c.args.task x c.answered-in-Some.new.system goes)
    (sym (call_stopped c.args.task c.args.to c.args.code c.args.space m there c.in-Some.stop (c.in-Some.ensures m there h))) (f m h))
    c.answered-in-Some.ensures

pub returns-in-None : goal.returns-in-None
returns-in-None c =
    if_ok c.call_one.result _ _
    (λ goes f m asks h.
    let there = sym (c.has_space.ensures m h) ∙ c.if-not-has_space.false in
    subst (λ (x : Served). GoesAs c.args.task x c.call_one.new.system goes)
    (sym (calls_one c.args.task c.args.to c.args.code c.args.space m there (c.in-None.ensures m there h)))
    (subst (λ (code : ℤ). IsAsking c.args.task (Call c.args.to.0 code c.args.space) m.system →
    GoesAs c.args.task (call_living (lives c.args.to m.system.shared.tree) (caller c.args.task c.args.to.0 code) c.args.space m) c.call_one.new.system goes)
    (to_z-of_z w16 c.args.code c.ranges.code) (λ same. f m same there h) asks))
    c.call_one.ensures
