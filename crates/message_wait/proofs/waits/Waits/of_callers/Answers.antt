-- Each caller has a place.
use Rattle.std.proofs.Common.{◌≡◌, ◌+◌, [], ◌∷◌, ◌++◌, true, get_or, take, sym, ap, subst, ◌∙◌}
use Rattle.std.proofs.lemmas.Bool.{false≢true}
use Rattle.std.proofs.lemmas.List.{get_or_default, take_more}
use Rattle.task_numbers.specs.Numbers.{niltask}
use Rattle.message_wait.specs.Rendezvous.{Waits}
use Rattle.message_wait.specs.Rows.{IsRendezvous, has_place}
use Rattle.message_wait.proofs.Rows.{caller_of, caller_comes, caller_has_place}
use Rattle.message_wait.proofs.waits.Waits.of_callers.Goals as goal

pub returns-then-not-has_place-clause-refused : goal.returns-then-not-has_place-clause-refused
returns-then-not-has_place-clause-refused c = λ _ receivers is.
    let k = c.loop-caller.caller-index in
    let caller = get_or c.args.callers.now k (caller_of niltask) in
    let there = caller_has_place (record { callers = c.args.callers.now; receivers = receivers }) k caller is c.loop-caller-test.true
    (get_or_default c.args.callers.now k (caller_of niltask) caller c.loop-caller-test.true) in
    let here : has_place caller.from c.loop-caller.made ≡ true = subst (λ (w : Waits). has_place caller.from w ≡ true) (sym c.loop-caller.invariant.rows) there in
    false≢true (sym c.if-not-has_place.true ∙ c.has_place.ensures ∙ here)

pub loop-caller-preserved : goal.loop-caller-preserved
loop-caller-preserved c =
    let k = c.loop-caller.caller-index in
    let caller = get_or c.args.callers.now k (caller_of niltask) in
    let none = ap (λ (w : Waits). w.receivers) c.loop-caller.invariant.rows in
    let callers : c.loop-caller.made.callers ++ caller ∷ [] ≡ take (k + 1) c.args.callers.now =
    ap (λ (w : Waits). w.callers ++ caller ∷ []) c.loop-caller.invariant.rows ∙ sym (take_more c.args.callers.now k (caller_of niltask) c.loop-caller-test.true) in
    record {
      rows = c.add_caller.ensures ∙ ap (λ cs. record { callers = cs; receivers = c.loop-caller.made.receivers }) callers
          ∙ ap (λ rs. record { callers = take (k + 1) c.args.callers.now; receivers = rs }) none;
      fine = subst IsRendezvous (sym c.add_caller.ensures)
          (caller_comes c.loop-caller.made c.loop-caller.invariant.fine caller none (sym c.has_place.ensures ∙ c.if-not-has_place.false));
    }
