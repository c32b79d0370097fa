use Rattle.std.proofs.Common.{ℤ, to_z, of_z, refl, subst}
use Rattle.std.specs.Int.{w16}
use Rattle.std.proofs.lemmas.Int.{to_z-of_z}
use Rattle.eu_base.specs.declared.request.Reply.TheVariants.{Taken}
use Rattle.eu_base.specs.Requests.{plain}
use Rattle.task_requests.specs.Below.system_meaning.specs.Systems.{Moment, given, woken, on_system}
use Rattle.task_requests.specs.Below.system_meaning.specs.Serving.{content, message}
use Rattle.live_system.specs.Machines.{StandsAt}
use Rattle.task_requests.proofs.Sending.{handed_moment}
use Rattle.task_requests.proofs.messages.handed.Goals as goal

pub returns : goal.returns
returns c = λ m request asked differ asks sends there asks_too room h.
    let sent = content c.args.task c.args.space m.system in
    let letter = message (to_z w16 (of_z w16 c.args.code)) c.args.task sent c.args.to m.system in
    let stands = c.in_ok-hand.ensures m request asked differ asks sends there asks_too room h in
    let ready = c.back.ensures (on_system (given c.args.to letter) (on_system (given c.args.task (plain Taken)) m)) stands in
    let done = subst (λ (n : Moment). StandsAt c.back.new.self n) (handed_moment c.args.task c.args.to (plain Taken) letter m differ) ready in (
      refl,
      subst (λ (code : ℤ). StandsAt c.back.new.self
          (on_system (given c.args.task (plain Taken)) (on_system (woken c.args.to (message code c.args.task sent c.args.to m.system)) m)))
          (to_z-of_z w16 c.args.code c.ranges.code) done,
    )
