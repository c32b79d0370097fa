-- What is found in the parts of a phrase, one after the other, is found in the phrase.
use Rattle.std.proofs.Common.{rules, ◌≡◌, ◌+◌, ◌++◌, [], ◌∷◌, map, drop, ap, refl}
use Rattle.std.specs.Prelude.{option_map}
use Rattle.std.proofs.lemmas.List.{drop_all}
use Rattle.elan_types.specs.declared.core_phrase.Action.TheFolds.{the_lemmas}
use Rattle.code_gen.specs.Names as spec
use Rattle.code_gen.proofs.Adds.{rest_of, none, one, two, three, turn, ends}
use Rattle.code_gen.proofs.names.+names.Goals as goal

pub in_action-returns-in-Unit : goal.in_action-returns-in-Unit
in_action-returns-in-Unit t c =
    let a = spec.all (map spec.in_action c.as_slice.result.now) in
    let e : a ≡ spec.in_action c.args.action.now = search (rules, the_lemmas, c.in-Unit.is, c.as_slice.ensures) in
    one a c.args.found c.in_actions.result e c.in_actions.ensures

pub in_action-returns-in-Store : goal.in_action-returns-in-Store
in_action-returns-in-Store t c =
    let a = spec.in_place c.in-Store.place in
    let b = spec.in_value c.in-Store.value in
    let e : a ++ b ≡ spec.in_action c.args.action.now = search (rules, the_lemmas, c.in-Store.is) in
    two a b c.args.found c.in_place-found-in-Store.result c.in_value-in-Store.result e c.in_place-found-in-Store.ensures c.in_value-in-Store.ensures

pub in_action-returns-in-If : goal.in_action-returns-in-If
in_action-returns-in-If t c =
    let a = spec.in_value c.in-If.c in
    let b = spec.all (map spec.in_action c.as_slice-in-If.result.now) in
    let d = spec.all (map spec.in_action c.as_slice-in-If-2.result.now) in
    let e : a ++ (b ++ d) ≡ spec.in_action c.args.action.now = search (rules, the_lemmas, c.in-If.is, c.as_slice-in-If.ensures, c.as_slice-in-If-2.ensures) in
    three a b d c.args.found c.in_value-found.result c.in_actions-found.result c.in_actions-in-If.result e c.in_value-found.ensures c.in_actions-found.ensures c.in_actions-in-If.ensures

pub in_action-returns-in-Select : goal.in_action-returns-in-Select
in_action-returns-in-Select t c =
    let a = spec.in_value c.in-Select.of in
    let b = spec.all (map spec.in_arm c.as_slice-in-Select.result.now) in
    let d = spec.all (map spec.in_action c.as_slice-in-Select-2.result.now) in
    let e : a ++ (b ++ d) ≡ spec.in_action c.args.action.now = search (rules, the_lemmas, c.in-Select.is, c.as_slice-in-Select.ensures, c.as_slice-in-Select-2.ensures) in
    three a b d c.args.found c.in_value-found-in-Select.result c.in_arms-found.result c.in_actions-in-Select.result e c.in_value-found-in-Select.ensures c.in_arms-found.ensures c.in_actions-in-Select.ensures

pub in_action-returns-in-Loop : goal.in_action-returns-in-Loop
in_action-returns-in-Loop t c =
    let a = spec.if_written (option_map spec.in_value c.in-Loop.condition) in
    let b = spec.all (map spec.in_action c.as_slice-in-Loop.result.now) in
    let d = spec.if_written (option_map spec.in_value c.in-Loop.until) in
    let e : a ++ (b ++ d) ≡ spec.in_action c.args.action.now = search (rules, the_lemmas, c.in-Loop.is, c.as_slice-in-Loop.ensures) in
    three a b d c.args.found c.in_optional-found.result c.in_actions-found-in-Loop.result c.in_optional.result e c.in_optional-found.ensures c.in_actions-found-in-Loop.ensures c.in_optional.ensures

pub in_action-returns-in-Count : goal.in_action-returns-in-Count
in_action-returns-in-Count t c =
    let a = spec.in_place c.in-Count.counter in
    let b = spec.in_value c.in-Count.from in
    let d = spec.if_written (option_map spec.in_value c.in-Count.limit) in
    let f = spec.if_written (option_map spec.in_value c.in-Count.condition) in
    let h = spec.all (map spec.in_action c.as_slice-in-Count.result.now) in
    let k = spec.if_written (option_map spec.in_value c.in-Count.until) in
    let e : a ++ (b ++ (d ++ (f ++ (h ++ k)))) ≡ spec.in_action c.args.action.now = search (rules, the_lemmas, c.in-Count.is, c.as_slice-in-Count.ensures) in
    let last = f ++ (h ++ k) in
    two a (b ++ (d ++ last)) c.args.found c.in_place-found.result c.in_optional-in-Count.result e c.in_place-found.ensures
    (three b d last c.in_place-found.result c.in_value-found-in-Count.result c.in_optional-found-in-Count.result c.in_optional-in-Count.result refl c.in_value-found-in-Count.ensures c.in_optional-found-in-Count.ensures
    (three f h k c.in_optional-found-in-Count.result c.in_optional-found-in-Count-2.result c.in_actions-found-in-Count.result c.in_optional-in-Count.result refl c.in_optional-found-in-Count-2.ensures c.in_actions-found-in-Count.ensures c.in_optional-in-Count.ensures))

pub in_action-returns-in-Ask : goal.in_action-returns-in-Ask
in_action-returns-in-Ask t c =
    let a = spec.all (map spec.in_actual c.as_slice-in-Ask.result.now) in
    let e : a ≡ spec.in_action c.args.action.now = search (rules, the_lemmas, c.in-Ask.is, c.as_slice-in-Ask.ensures) in
    one a c.args.found c.in_actuals.result e c.in_actuals.ensures

pub in_action-returns-in-ErrorStop : goal.in_action-returns-in-ErrorStop
in_action-returns-in-ErrorStop t c =
    let a = spec.in_value c.in-ErrorStop.text in
    let e : a ≡ spec.in_action c.args.action.now = search (rules, the_lemmas, c.in-ErrorStop.is) in
    one a c.args.found c.in_value.result e c.in_value.ensures

pub in_action-returns-in-Call : goal.in_action-returns-in-Call
in_action-returns-in-Call t c =
    let a = c.in-Call.number ∷ [] in
    let b = spec.all (map spec.in_actual c.as_slice-in-Call.result.now) in
    let e : a ++ b ≡ spec.in_action c.args.action.now = search (rules, the_lemmas, c.in-Call.is, c.as_slice-in-Call.ensures) in
    two a b c.args.found c.with-found.result c.in_actuals-in-Call.result e c.with-found.ensures c.in_actuals-in-Call.ensures

pub in_action-returns-in-Refer : goal.in_action-returns-in-Refer
in_action-returns-in-Refer t c =
    let a = c.in-Refer.number ∷ [] in
    let e : a ≡ spec.in_action c.args.action.now = search (rules, the_lemmas, c.in-Refer.is) in
    one a c.args.found c.with.result e c.with.ensures

pub in_action-returns-in-Leave : goal.in_action-returns-in-Leave
in_action-returns-in-Leave t c =
    let e : [] ≡ spec.in_action c.args.action.now = search (rules, the_lemmas, c.in-Leave.is) in
    none c.args.found e

pub in_action-returns-in-LeaveWith : goal.in_action-returns-in-LeaveWith
in_action-returns-in-LeaveWith t c =
    let a = spec.in_value c.in-LeaveWith.value in
    let e : a ≡ spec.in_action c.args.action.now = search (rules, the_lemmas, c.in-LeaveWith.is) in
    one a c.args.found c.in_value-in-LeaveWith.result e c.in_value-in-LeaveWith.ensures

pub in_action-returns-in-Perform : goal.in_action-returns-in-Perform
in_action-returns-in-Perform t c =
    let a = spec.all (map spec.in_value c.as_slice-in-Perform.result.now) in
    let e : a ≡ spec.in_action c.args.action.now = search (rules, the_lemmas, c.in-Perform.is, c.as_slice-in-Perform.ensures) in
    one a c.args.found c.in_values.result e c.in_values.ensures

pub in_value-returns-in-Load : goal.in_value-returns-in-Load
in_value-returns-in-Load t c =
    let a = spec.in_place c.in-Load.place in
    let e : a ≡ spec.in_value c.args.value.now = search (rules, the_lemmas, c.in-Load.is) in
    one a c.args.found c.in_place.result e c.in_place.ensures

pub in_value-returns-in-Apply : goal.in_value-returns-in-Apply
in_value-returns-in-Apply t c =
    let a = spec.all (map spec.in_value c.as_slice-in-Apply.result.now) in
    let e : a ≡ spec.in_value c.args.value.now = search (rules, the_lemmas, c.in-Apply.is, c.as_slice-in-Apply.ensures) in
    one a c.args.found c.in_values.result e c.in_values.ensures

pub in_value-returns-in-If : goal.in_value-returns-in-If
in_value-returns-in-If t c =
    let a = spec.in_value c.get.result.now in
    let b = spec.in_value c.get-in-If.result.now in
    let d = spec.in_value c.get-in-If-2.result.now in
    let e : a ++ (b ++ d) ≡ spec.in_value c.args.value.now = search (rules, the_lemmas, c.in-If.is, c.get.ensures, c.get-in-If.ensures, c.get-in-If-2.ensures) in
    three a b d c.args.found c.in_value-found.result c.in_value-found-in-If.result c.in_value.result e c.in_value-found.ensures c.in_value-found-in-If.ensures c.in_value.ensures

pub in_value-returns-in-Select : goal.in_value-returns-in-Select
in_value-returns-in-Select t c =
    let a = spec.in_value c.get-in-Select.result.now in
    let b = spec.all (map spec.in_value_arm c.as_slice.result.now) in
    let d = spec.in_value c.get-in-Select-2.result.now in
    let e : a ++ (b ++ d) ≡ spec.in_value c.args.value.now = search (rules, the_lemmas, c.in-Select.is, c.get-in-Select.ensures, c.as_slice.ensures, c.get-in-Select-2.ensures) in
    three a b d c.args.found c.in_value-found-in-Select.result c.in_value_arms-found.result c.in_value-in-Select.result e c.in_value-found-in-Select.ensures c.in_value_arms-found.ensures c.in_value-in-Select.ensures

pub in_value-returns-in-Unit : goal.in_value-returns-in-Unit
in_value-returns-in-Unit t c =
    let a = spec.in_value c.get-in-Unit.result.now in
    let e : a ≡ spec.in_value c.args.value.now = search (rules, the_lemmas, c.in-Unit.is, c.get-in-Unit.ensures) in
    one a c.args.found c.in_value-in-Unit.result e c.in_value-in-Unit.ensures

pub in_value-returns-in-After : goal.in_value-returns-in-After
in_value-returns-in-After t c =
    let a = spec.all (map spec.in_action c.as_slice-in-After.result.now) in
    let b = spec.in_value c.get-in-After.result.now in
    let e : a ++ b ≡ spec.in_value c.args.value.now = search (rules, the_lemmas, c.in-After.is, c.as_slice-in-After.ensures, c.get-in-After.ensures) in
    two a b c.args.found c.in_actions-found.result c.in_value-in-After.result e c.in_actions-found.ensures c.in_value-in-After.ensures

pub in_value-returns-in-Never : goal.in_value-returns-in-Never
in_value-returns-in-Never t c =
    let e : [] ≡ spec.in_value c.args.value.now = search (rules, the_lemmas, c.in-Never.is) in
    none c.args.found e

pub in_value-returns-in-Call : goal.in_value-returns-in-Call
in_value-returns-in-Call t c =
    let a = c.in-Call.number ∷ [] in
    let b = spec.all (map spec.in_actual c.as_slice-in-Call.result.now) in
    let e : a ++ b ≡ spec.in_value c.args.value.now = search (rules, the_lemmas, c.in-Call.is, c.as_slice-in-Call.ensures) in
    two a b c.args.found c.with-found.result c.in_actuals.result e c.with-found.ensures c.in_actuals.ensures

pub in_value-returns-in-Refer : goal.in_value-returns-in-Refer
in_value-returns-in-Refer t c =
    let a = c.in-Refer.number ∷ [] in
    let e : a ≡ spec.in_value c.args.value.now = search (rules, the_lemmas, c.in-Refer.is) in
    one a c.args.found c.with.result e c.with.ensures

pub in_value-returns-in-Pick : goal.in_value-returns-in-Pick
in_value-returns-in-Pick t c =
    let a = spec.in_value c.get-in-Pick.result.now in
    let b = spec.in_value c.get-in-Pick-2.result.now in
    let e : a ++ b ≡ spec.in_value c.args.value.now = search (rules, the_lemmas, c.in-Pick.is, c.get-in-Pick.ensures, c.get-in-Pick-2.ensures) in
    two a b c.args.found c.in_value-found-in-Pick.result c.in_value-in-Pick.result e c.in_value-found-in-Pick.ensures c.in_value-in-Pick.ensures

pub in_value-returns-in-Take : goal.in_value-returns-in-Take
in_value-returns-in-Take t c =
    let a = spec.in_value c.get-in-Take.result.now in
    let e : a ≡ spec.in_value c.args.value.now = search (rules, the_lemmas, c.in-Take.is, c.get-in-Take.ensures) in
    one a c.args.found c.in_value-in-Take.result e c.in_value-in-Take.ensures

pub in_value-returns-in-Ask : goal.in_value-returns-in-Ask
in_value-returns-in-Ask t c =
    let a = spec.all (map spec.in_actual c.as_slice-in-Ask.result.now) in
    let e : a ≡ spec.in_value c.args.value.now = search (rules, the_lemmas, c.in-Ask.is, c.as_slice-in-Ask.ensures) in
    one a c.args.found c.in_actuals-in-Ask.result e c.in_actuals-in-Ask.ensures

pub in_place-returns-in-Item : goal.in_place-returns-in-Item
in_place-returns-in-Item t c =
    let a = spec.in_place c.get.result.now in
    let b = spec.in_value c.get-in-Item.result.now in
    let e : a ++ b ≡ spec.in_place c.args.place.now = search (rules, the_lemmas, c.in-Item.is, c.get.ensures, c.get-in-Item.ensures) in
    two a b c.args.found c.in_place-found.result c.in_value.result e c.in_place-found.ensures c.in_value.ensures

pub in_place-returns-in-Field : goal.in_place-returns-in-Field
in_place-returns-in-Field t c =
    let a = spec.in_place c.get-in-Field.result.now in
    let e : a ≡ spec.in_place c.args.place.now = search (rules, the_lemmas, c.in-Field.is, c.get-in-Field.ensures) in
    one a c.args.found c.in_place.result e c.in_place.ensures

pub in_actual-returns-in-Value : goal.in_actual-returns-in-Value
in_actual-returns-in-Value t c =
    let a = spec.in_value c.in-Value.value in
    let e : a ≡ spec.in_actual c.args.actual.now = search (rules, the_lemmas, c.in-Value.is) in
    one a c.args.found c.in_value.result e c.in_value.ensures

pub in_actual-returns-in-Place : goal.in_actual-returns-in-Place
in_actual-returns-in-Place t c =
    let a = spec.in_place c.in-Place.place in
    let e : a ≡ spec.in_actual c.args.actual.now = search (rules, the_lemmas, c.in-Place.is) in
    one a c.args.found c.in_place.result e c.in_place.ensures

pub in_actions-loop-action-preserved : goal.in_actions-loop-action-preserved
in_actions-loop-action-preserved t c =
    let rest = rest_of c.args.actions.now c.loop-action.action-index c.action-item.result c.loop-action-test.true c.action-item.is in
    turn (spec.in_action c.action-item.result) (spec.all (map spec.in_action (drop (c.loop-action.action-index + 1) c.args.actions.now))) (spec.all (map spec.in_action c.args.actions.now))
    c.args.found c.loop-action.found c.in_action-found.result
    (ap (λ l. spec.all (map spec.in_action l)) rest) c.loop-action.invariant c.in_action-found.ensures

pub in_actions-returns : goal.in_actions-returns
in_actions-returns t c =
    ends (spec.all (map spec.in_action c.args.actions.now)) c.args.found c.loop-action.found
    (ap (λ l. spec.all (map spec.in_action l)) (drop_all c.loop-action.action-index c.args.actions.now c.loop-action-test.false)) c.loop-action.invariant

pub in_values-loop-value-preserved : goal.in_values-loop-value-preserved
in_values-loop-value-preserved t c =
    let rest = rest_of c.args.values.now c.loop-value.value-index c.value-item.result c.loop-value-test.true c.value-item.is in
    turn (spec.in_value c.value-item.result) (spec.all (map spec.in_value (drop (c.loop-value.value-index + 1) c.args.values.now))) (spec.all (map spec.in_value c.args.values.now))
    c.args.found c.loop-value.found c.in_value-found.result
    (ap (λ l. spec.all (map spec.in_value l)) rest) c.loop-value.invariant c.in_value-found.ensures

pub in_values-returns : goal.in_values-returns
in_values-returns t c =
    ends (spec.all (map spec.in_value c.args.values.now)) c.args.found c.loop-value.found
    (ap (λ l. spec.all (map spec.in_value l)) (drop_all c.loop-value.value-index c.args.values.now c.loop-value-test.false)) c.loop-value.invariant

pub in_actuals-loop-actual-preserved : goal.in_actuals-loop-actual-preserved
in_actuals-loop-actual-preserved t c =
    let rest = rest_of c.args.actuals.now c.loop-actual.actual-index c.actual-item.result c.loop-actual-test.true c.actual-item.is in
    turn (spec.in_actual c.actual-item.result) (spec.all (map spec.in_actual (drop (c.loop-actual.actual-index + 1) c.args.actuals.now))) (spec.all (map spec.in_actual c.args.actuals.now))
    c.args.found c.loop-actual.found c.in_actual-found.result
    (ap (λ l. spec.all (map spec.in_actual l)) rest) c.loop-actual.invariant c.in_actual-found.ensures

pub in_actuals-returns : goal.in_actuals-returns
in_actuals-returns t c =
    ends (spec.all (map spec.in_actual c.args.actuals.now)) c.args.found c.loop-actual.found
    (ap (λ l. spec.all (map spec.in_actual l)) (drop_all c.loop-actual.actual-index c.args.actuals.now c.loop-actual-test.false)) c.loop-actual.invariant

pub in_arms-loop-arm-preserved : goal.in_arms-loop-arm-preserved
in_arms-loop-arm-preserved t c =
    let rest = rest_of c.args.arms.now c.loop-arm.arm-index c.arm-item.result c.loop-arm-test.true c.arm-item.is in
    turn (spec.in_arm c.arm-item.result) (spec.all (map spec.in_arm (drop (c.loop-arm.arm-index + 1) c.args.arms.now))) (spec.all (map spec.in_arm c.args.arms.now))
    c.args.found c.loop-arm.found c.in_actions-found.result
    (ap (λ l. spec.all (map spec.in_arm l)) rest) c.loop-arm.invariant
    (one (spec.all (map spec.in_action c.as_slice.result.now)) c.loop-arm.found c.in_actions-found.result (search (rules, the_lemmas, c.as_slice.ensures)) c.in_actions-found.ensures)

pub in_arms-returns : goal.in_arms-returns
in_arms-returns t c =
    ends (spec.all (map spec.in_arm c.args.arms.now)) c.args.found c.loop-arm.found
    (ap (λ l. spec.all (map spec.in_arm l)) (drop_all c.loop-arm.arm-index c.args.arms.now c.loop-arm-test.false)) c.loop-arm.invariant

pub in_value_arms-loop-arm-preserved : goal.in_value_arms-loop-arm-preserved
in_value_arms-loop-arm-preserved t c =
    let rest = rest_of c.args.arms.now c.loop-arm.arm-index c.arm-item.result c.loop-arm-test.true c.arm-item.is in
    turn (spec.in_value_arm c.arm-item.result) (spec.all (map spec.in_value_arm (drop (c.loop-arm.arm-index + 1) c.args.arms.now))) (spec.all (map spec.in_value_arm c.args.arms.now))
    c.args.found c.loop-arm.found c.in_value-found.result
    (ap (λ l. spec.all (map spec.in_value_arm l)) rest) c.loop-arm.invariant
    (one (spec.in_value c.arm-item.result.value) c.loop-arm.found c.in_value-found.result (search (rules, the_lemmas)) c.in_value-found.ensures)

pub in_value_arms-returns : goal.in_value_arms-returns
in_value_arms-returns t c =
    ends (spec.all (map spec.in_value_arm c.args.arms.now)) c.args.found c.loop-arm.found
    (ap (λ l. spec.all (map spec.in_value_arm l)) (drop_all c.loop-arm.arm-index c.args.arms.now c.loop-arm-test.false)) c.loop-arm.invariant
