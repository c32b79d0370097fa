use Rattle.std.proofs.Common.{rules, ℤ, false, Option, to_z, of_z, refl, sym, subst}
use Rattle.std.specs.Int.{w16}
use Rattle.std.proofs.lemmas.Int.{to_z-of_z}
use Rattle.std.specs.Int.RustNames.{FitsSigned}
use Rattle.task_requests.specs.Below.message_wait.specs.declared.waits.Caller.{Caller}
use Rattle.task_requests.specs.Below.message_wait.specs.Rendezvous.{waited}
use Rattle.task_requests.specs.Below.system_meaning.specs.Systems.{on_system, on_waits}
use Rattle.task_requests.specs.Below.system_meaning.specs.Serving.{call_taken}
use Rattle.task_requests.specs.Served.{GoesAs}
use Rattle.task_requests.proofs.Waiting.{HasCalled, has_called, none_called}
use Rattle.task_requests.proofs.Answering.{answered}
use Rattle.task_requests.proofs.messages.message_for.Goals as goal

pub returns-in-None : goal.returns-in-None
returns-in-None c = λ m asks room h.
    subst (λ (p : Option Caller). GoesAs c.args.task (call_taken p c.args.task m) c.wait_any.new.self false)
    (sym (none_called c.args.task m.system.shared.waits (c.in-None.ensures.message m asks.live asks.free h)))
    (refl, c.in-None.ensures.after m asks.live asks.free h)

pub returns-in_ok-hand-in-Some : goal.returns-in_ok-hand-in-Some
returns-in_ok-hand-in-Some c = λ m asks room h.
    let after = c.in-Some.ensures.after m asks.live asks.free h in
    let fits : FitsSigned w16 c.in-Some.code = search rules in
    answered c.args.task c.in-Some.caller (to_z w16 (of_z w16 c.in-Some.code)) m asks room
    (subst (λ (code : ℤ). HasCalled c.args.task c.in-Some.caller code m.system.shared.waits) (sym (to_z-of_z w16 c.in-Some.code fits))
    (has_called c.args.task c.in-Some.caller c.in-Some.code m.system.shared.waits (c.in-Some.ensures.message m asks.live asks.free h)))
    c.space_of-space.result (c.space_of-space.ensures (on_system (on_waits (waited c.args.task)) m) after)
    c.wait_any.new.self c.hand.new.self c.wait_from.new.self c.in_ok-hand-in-Some.ensures c.wait_from.ensures after
