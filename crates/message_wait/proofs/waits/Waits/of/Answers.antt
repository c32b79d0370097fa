-- Each receiver has a place behind those before it.
use Rattle.std.proofs.Common.{◌≡◌, ◌+◌, ◌&&◌, [], ◌∷◌, ◌++◌, true, None, get_or, take, sym, ap, subst, ◌∙◌}
use Rattle.std.proofs.lemmas.Bool.{false≢true, and_from}
use Rattle.std.proofs.lemmas.List.{get_or_default, take_more}
use Rattle.task_numbers.specs.Numbers.{niltask}
use Rattle.message_wait.specs.declared.waits.Receiver.{Receiver}
use Rattle.message_wait.specs.Rendezvous.{Waits}
use Rattle.message_wait.specs.Rows.{IsRendezvous, has_place, is_last}
use Rattle.message_wait.proofs.Rows.{receiver_comes, receiver_has_place, receiver_is_last}
use Rattle.message_wait.proofs.waits.Waits.of.Goals as goal

abbrev nobody : Receiver
nobody = record { task = niltask; of = None }

pub returns-then-not-can_follow-clause-refused : goal.returns-then-not-can_follow-clause-refused
returns-then-not-can_follow-clause-refused c = λ _ is.
    let k = c.loop-receiver.receiver-index in
    let receiver = get_or c.args.receivers.now k nobody in
    let w : Waits = record { callers = c.args.callers.now; receivers = c.args.receivers.now } in
    let at = get_or_default c.args.receivers.now k nobody receiver c.loop-receiver-test.true in
    let place = receiver_has_place w k receiver is c.loop-receiver-test.true at in
    let last = receiver_is_last w k receiver is c.loop-receiver-test.true at in
    let here : (has_place receiver.task c.loop-receiver.made && is_last receiver.task c.loop-receiver.made.receivers) ≡ true =
    subst (λ (v : Waits). (has_place receiver.task v && is_last receiver.task v.receivers) ≡ true) (sym c.loop-receiver.invariant.rows) (and_from _ _ place last) in
    false≢true (sym c.if-not-can_follow.true ∙ c.can_follow.ensures ∙ here)

pub loop-receiver-preserved : goal.loop-receiver-preserved
loop-receiver-preserved c =
    let k = c.loop-receiver.receiver-index in
    let receiver = get_or c.args.receivers.now k nobody in
    let receivers : c.loop-receiver.made.receivers ++ receiver ∷ [] ≡ take (k + 1) c.args.receivers.now =
    ap (λ (w : Waits). w.receivers ++ receiver ∷ []) c.loop-receiver.invariant.rows ∙ sym (take_more c.args.receivers.now k nobody c.loop-receiver-test.true) in
    record {
      rows = c.add_receiver.ensures ∙ ap (λ rs. record { callers = c.loop-receiver.made.callers; receivers = rs }) receivers
          ∙ ap (λ (w : Waits). record { callers = w.callers; receivers = take (k + 1) c.args.receivers.now }) c.loop-receiver.invariant.rows;
      fine = subst IsRendezvous (sym c.add_receiver.ensures)
          (receiver_comes c.loop-receiver.made c.loop-receiver.invariant.fine receiver (sym c.can_follow.ensures ∙ c.if-not-can_follow.false));
    }
