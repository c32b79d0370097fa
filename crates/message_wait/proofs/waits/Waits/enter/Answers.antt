-- There was room, so the receiver stands at its place.
use Rattle.std.proofs.Common.{◌≡◌, insert, sym, subst, arith}
use Rattle.std.specs.List.{position_or_len}
use Rattle.std.proofs.lemmas.Grind.{common_steps}
use Rattle.message_wait.specs.declared.waits.Receiver.{Receiver}
use Rattle.message_wait.specs.Rendezvous as spec
use Rattle.message_wait.proofs.Ordered.{entered_by_number}
use Rattle.message_wait.proofs.waits.Waits.enter.Goals as goal

pub invariant_of-self : goal.invariant_of-self
invariant_of-self c =
    let r : Receiver = record { task = c.args.task; of = c.args.of } in
    let old = c.self.inside.receivers.items in
    let place : c.place_of-place.result ≡ position_or_len (spec.is_after c.args.task) old = grind (arith, c.place_of-place.ensures.place, c.self.view_is) in
    let items : c.insert-entered.new.self.items ≡ insert old (position_or_len (spec.is_after c.args.task) old) r =
    grind (arith, common_steps, place, c.insert-entered.ensures.items, c.insert-entered.ensures.succeeds, c.self.invariant.1, c.requires, c.self.view_is) in (
      c.self.invariant.0,
      omega (arith, c.self.invariant.1, c.insert-entered.ensures.capacity),
      subst spec.AreByNumber (sym items) (entered_by_number old r c.self.invariant.2),
    )
