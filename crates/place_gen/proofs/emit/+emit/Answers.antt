use Rattle.std.proofs.Common.{rules, ◌⊎◌, inl, inr, ◌≡◌, ◌+◌, ◌∷◌, List, Option, Some, map, drop, length, subst, ◌∙◌, sym, refl, arith}
use Rattle.std.specs.Prelude.{option_map}
use Rattle.std.proofs.lemmas.Grind.{common_steps}
use borrow.Author.Tests.{tests}
use Rattle.elan_types.specs.Eval.{Labelled}
use Rattle.elan_types.specs.declared.core_phrase.Action.TheFolds.{the_lemmas}
use Rattle.eu_base.specs.declared.value.Kind.{Kind}
use Rattle.eu_base.specs.declared.value.Kind.TheVariants as kinds
use Rattle.eu_base.specs.Operations.{operand_kinds, result_kind}
use Rattle.eu_base.specs.Requests.{request_result, request_size}
use Rattle.eu_base.specs.SpaceOperations.{space_operand_kinds, space_result_kind}
use Rattle.eu_base.specs.declared.operation.Way.{Way}
use Rattle.elan_types.specs.declared.core_phrase.PlacePhrase.{PlacePhrase}
use Rattle.elan_types.specs.declared.core_phrase.ValuePhrase.{ValuePhrase}
use Rattle.elan_types.specs.declared.core_phrase.Action.{Action}
use Rattle.elan_types.specs.declared.core_phrase.Action.TheVariants as action
use Rattle.eu_base.specs.declared.shape.Shape.TheVariants.{Cell}
use Rattle.code_form.specs.declared.operand.OperandKind.TheVariants as operand
use Rattle.code_form.specs.Valid.{cell_value, with_answer}
use Rattle.code_form.specs.declared.instr.Instr.TheVariants.{Mark, Index, Field, Content, Do, OnSpaces, Copy, Bind, Jump, False, Ask, ErrorStop}
use Rattle.place_gen.specs.Counted.{counted}
use Rattle.place_gen.specs.Stretch.{Stretch, one, keeps, join, if_code, all_code, select_code, whens_code, while_code, until_code, exit_join, stays}
use Rattle.place_gen.specs.Stretch.{turns_code, value_parts, action_parts, value_code, action_code, actual_code}
use Rattle.place_gen.specs.Stretch.{value_arm_code, arm_code_of, place_code, store_code, modify_code, limit_code}
use Rattle.place_gen.specs.Steps.{step_of, turn_of, loop_code, count_code, transfer_code, spaces_code}
use Rattle.place_gen.specs.Makes.{Makes, MakesExit, MakesArm, MakesTurn, ComesBack}
use Rattle.place_gen.proofs.Select.{select_size}
use Rattle.place_gen.proofs.Makes.{same_makes, join_makes, if_makes, until_makes, turn_exit, turns_makes, arm_makes, more_makes, all_makes}
use Rattle.place_gen.proofs.Makes.{first_arm_at, next_arm_at, more_arms_make, arms_make}
use Rattle.place_gen.proofs.emit.+emit.Goals as goal

pub add_actions-loop-action-init : goal.add_actions-loop-action-init
add_actions-loop-action-init t c new m = m

pub add_actions-loop-action-preserved : goal.add_actions-loop-action-preserved
add_actions-loop-action-preserved t c =
    let l = c.loop-action in
    more_makes action_code c.args.actions.now l.action-index l.invariant c.action-item.result c.loop-action-test.true c.action-item.is c.add_action.ensures

pub add_actions-returns : goal.add_actions-returns
add_actions-returns t c = all_makes action_code c.args.actions.now c.loop-action.action-index c.loop-action.invariant c.loop-action-test.false

pub add_actuals-loop-actual-init : goal.add_actuals-loop-actual-init
add_actuals-loop-actual-init t c new m = m

pub add_actuals-loop-actual-preserved : goal.add_actuals-loop-actual-preserved
add_actuals-loop-actual-preserved t c =
    let l = c.loop-actual in
    more_makes actual_code c.args.actuals.now l.actual-index l.invariant c.actual-item.result c.loop-actual-test.true c.actual-item.is c.add_actual.ensures

pub add_actuals-returns : goal.add_actuals-returns
add_actuals-returns t c = all_makes actual_code c.args.actuals.now c.loop-actual.actual-index c.loop-actual.invariant c.loop-actual-test.false

pub add_values-loop-value-init : goal.add_values-loop-value-init
add_values-loop-value-init t c new m = m

pub add_values-loop-value-preserved : goal.add_values-loop-value-preserved
add_values-loop-value-preserved t c =
    let l = c.loop-value in
    more_makes value_code c.args.values.now l.value-index l.invariant c.value-item.result c.loop-value-test.true c.value-item.is c.add_value.ensures

pub add_values-returns : goal.add_values-returns
add_values-returns t c = all_makes value_code c.args.values.now c.loop-value.value-index c.loop-value.invariant c.loop-value-test.false

pub add_value-returns-in-Apply : goal.add_value-returns-in-Apply
add_value-returns-in-Apply t c =
    let op = c.in-Apply.operation in
    let e : join (all_code (map value_code c.as_slice.result.now)) (one (Do op) (λ ks. cell_value (result_kind op) ∷ drop (length (operand_kinds op)) ks))
    ≡ value_code c.args.phrase.now = search (rules, the_lemmas, c.in-Apply.is, c.as_slice.ensures) in
    subst (λ f. Makes f c.args.out.now c.put_operation.new.out) e (join_makes c.add_values.ensures c.put_operation.ensures)

pub add_value-returns-in-Ask : goal.add_value-returns-in-Ask
add_value-returns-in-Ask t c =
    let name = c.in-Ask.name in
    let g = λ (o : Option Kind). one (Ask name) (λ ks. with_answer o (drop (request_size name) ks)) in
    let e : join (all_code (map actual_code c.as_slice-in-Ask.result.now)) (g (request_result name)) ≡ value_code c.args.phrase.now =
    search (rules, the_lemmas, c.in-Ask.is, c.as_slice-in-Ask.ensures) in
    subst (λ f. Makes f c.args.out.now c.put_request.new.out) e
    (join_makes c.add_actuals-in-Ask.ensures (subst (λ o. Makes (g o) c.add_actuals-in-Ask.new.out c.put_request.new.out) c.result_kind.ensures c.put_request.ensures))

pub add_value-returns-in-If : goal.add_value-returns-in-If
add_value-returns-in-If t c =
    let f = value_code c.in-If.c in
    let g = value_code c.in-If.a in
    let h = value_code c.in-If.b in
    let d1 = c.add_value.new.out in
    let d3 = c.add_value-in-If.new.out in
    let x1 = subst (λ v. Makes (value_code v) c.kept-below.new.self d1) c.get.ensures c.add_value.ensures in
    let k2 = subst (λ v. c.count_value.result ≡ counted (value_code v).size) c.get-in-If.ensures c.count_value.ensures in
    let x2 =
    subst (λ ks. MakesTurn (False (length d1.lines + 1 + g.size + 1)) ks d1 c.put_test.new.out) c.as_slice-in-If.ensures
    (c.put_test.ensures g.size k2) in
    let x3 = subst (λ v. Makes (value_code v) c.put_test.new.out d3) c.get-in-If-2.ensures c.add_value-in-If.ensures in
    let k4 = subst (λ v. c.count_value-in-If.result ≡ counted (value_code v).size) c.get-in-If-3.ensures c.count_value-in-If.ensures in
    let x4 =
    subst (λ ks. MakesTurn (Jump (length d3.lines + 1 + h.size)) ks d3 c.put_else.new.out) c.as_slice-in-If-2.ensures
    (c.put_else.ensures h.size k4) in
    let x5 = subst (λ v. Makes (value_code v) c.put_else.new.out c.add_value-in-If-2.new.out) c.get-in-If-4.ensures c.add_value-in-If-2.ensures in
    let e : if_code f g h ≡ value_code c.args.phrase.now = search (rules, the_lemmas, c.in-If.is) in
    subst (λ f. Makes f c.args.out.now c.add_value-in-If-2.new.out) e
    (if_makes c.kept-below.ensures.draft c.kept-below.ensures.kinds x1 x2 x3 x4 x5)

pub add_value-returns-in-Select : goal.add_value-returns-in-Select
add_value-returns-in-Select t c =
    let e : join (value_code c.get-in-Select.result.now) (value_parts c.args.phrase.now) ≡ value_code c.args.phrase.now =
    search (rules, the_lemmas, c.in-Select.is, c.get-in-Select.ensures) in
    subst (λ f. Makes f c.args.out.now c.add_value_parts.new.out) e (join_makes c.add_value-in-Select.ensures c.add_value_parts.ensures)

pub add_value-returns-in-Unit : goal.add_value-returns-in-Unit
add_value-returns-in-Unit t c =
    let e : join (one Mark keeps) (value_code c.get-in-Unit.result.now) ≡ value_code c.args.phrase.now =
    search (rules, the_lemmas, c.in-Unit.is, c.get-in-Unit.ensures) in
    subst (λ f. Makes f c.args.out.now c.add_value-in-Unit.new.out) e (join_makes c.add.ensures c.add_value-in-Unit.ensures)

pub add_value-returns-in-After : goal.add_value-returns-in-After
add_value-returns-in-After t c =
    let e : join (all_code (map action_code c.as_slice-in-After.result.now)) (value_code c.get-in-After.result.now) ≡ value_code c.args.phrase.now =
    search (rules, the_lemmas, c.in-After.is, c.as_slice-in-After.ensures, c.get-in-After.ensures) in
    subst (λ f. Makes f c.args.out.now c.add_value-in-After.new.out) e (join_makes c.add_actions.ensures c.add_value-in-After.ensures)

pub add_until-returns-in-Some : goal.add_until-returns-in-Some
add_until-returns-in-Some t c =
    let d1 = c.add_value.new.out in
    let x2 = subst (λ ks. MakesTurn (False (length d1.lines + 1 + 0 + 1)) ks d1 c.put_test.new.out) c.as_slice.ensures (c.put_test.ensures 0 refl) in
    rw c.in-Some.is (until_makes c.kept-below.ensures.draft c.kept-below.ensures.kinds c.add_value.ensures x2 c.add.ensures)

pub add_turns-returns-in-Loop : goal.add_turns-returns-in-Loop
add_turns-returns-in-Loop t c =
    let turn = turn_of c.args.action.now in
    let e : turns_code turn ≡ loop_code c.args.action.now = search (rules, the_lemmas, c.in-Loop.is) in
    let k = subst (λ f. c.count_loop.result ≡ counted f.size) (sym e) c.count_loop.ensures in
    subst (λ f. Makes f c.args.out.now c.add-in-Loop.new.self) e
    (turns_makes c.ahead-end.ensures.draft (λ h. c.ahead-end.ensures.place h (turns_code turn).size k) c.len-top.ensures c.add.ensures c.add_turn.ensures
    c.add-in-Loop.ensures)

pub add_turn-returns-in-Loop : goal.add_turn-returns-in-Loop
add_turn-returns-in-Loop t c =
    let s = step_of c.args.action.now in
    let w = while_code (option_map value_code c.in-Loop.condition) in
    let u = until_code (option_map value_code c.in-Loop.until) in
    let us = all_code (map action_code c.in-Loop.units) in
    let e : exit_join w (exit_join (stays us) (exit_join u s)) ≡ turn_of c.args.action.now = search (rules, the_lemmas, c.in-Loop.is) in
    let x3 = subst (λ l. Makes (all_code (map action_code l)) c.add_while.new.out c.add_actions.new.out) c.as_slice.ensures c.add_actions.ensures in
    let x4 = subst (λ ks. ComesBack ks c.add_actions.new.out c.restore.new.self) c.as_slice-in-Loop.ensures c.restore.ensures in
    subst (λ f. MakesExit f c.args.end c.args.out.now c.add_step.new.out) e
    (turn_exit c.kept-below.ensures.draft c.kept-below.ensures.kinds c.add_while.ensures x3 x4 c.add_until.ensures c.add_step.ensures)

pub add_arm-returns : goal.add_arm-returns
add_arm-returns t c =
    let zs = c.args.arm.now.labels in
    let part = all_code (map action_code c.args.arm.now.units) in
    let arm : Labelled Stretch = record { labels = zs; part = part } in
    let e : arm ≡ arm_code_of c.args.arm.now = search (rules, the_lemmas) in
    let k1 : c.saturating_add.result ≡ counted (length zs + 1) = omega (arith, c.saturating_add.ensures, c.len.ensures) in
    let x2 = subst (λ l. Makes (whens_code l c.ahead-past.result) c.ahead-past.new.self c.put_whens.new.out) c.as_slice.ensures c.put_whens.ensures in
    let s = subst (λ l. c.count_actions.result ≡ counted (all_code (map action_code l)).size) c.as_slice-2.ensures c.count_actions.ensures in
    let x5 = subst (λ l. Makes (all_code (map action_code l)) c.restore.new.self c.add_actions.new.out) c.as_slice-3.ensures c.add_actions.ensures in
    let k3 : c.saturating_add-2.result ≡ counted (part.size + 1) = omega (arith, s, c.saturating_add-2.ensures) in
    let x4 = subst (λ ks. ComesBack ks c.put_jump.new.out c.restore.new.self) c.without_first.ensures c.restore.ensures in
    subst (λ a. MakesArm a c.args.end c.args.top.now c.args.out.now c.restore-2.new.self) e
    (arm_makes arm c.ahead-past.ensures.draft (λ h. c.ahead-past.ensures.place h (length zs + 1) k1) x2 (c.put_jump.ensures (part.size + 1) k3) x4 x5
    c.add.ensures c.restore-2.ensures)

pub add_value_arm-returns : goal.add_value_arm-returns
add_value_arm-returns t c =
    let zs = c.args.arm.now.labels in
    let part = value_code c.args.arm.now.value in
    let arm : Labelled Stretch = record { labels = zs; part = part } in
    let e : arm ≡ value_arm_code c.args.arm.now = search (rules, the_lemmas) in
    let k1 : c.saturating_add.result ≡ counted (length zs + 1) = omega (arith, c.saturating_add.ensures, c.len.ensures) in
    let x2 = subst (λ l. Makes (whens_code l c.ahead-past.result) c.ahead-past.new.self c.put_whens.new.out) c.as_slice.ensures c.put_whens.ensures in
    let s = c.count_value.ensures in
    let x5 = c.add_value.ensures in
    let k3 : c.saturating_add-2.result ≡ counted (part.size + 1) = omega (arith, s, c.saturating_add-2.ensures) in
    let x4 = subst (λ ks. ComesBack ks c.put_jump.new.out c.restore.new.self) c.without_first.ensures c.restore.ensures in
    subst (λ a. MakesArm a c.args.end c.args.top.now c.args.out.now c.restore-2.new.self) e
    (arm_makes arm c.ahead-past.ensures.draft (λ h. c.ahead-past.ensures.place h (length zs + 1) k1) x2 (c.put_jump.ensures (part.size + 1) k3) x4 x5
    c.add.ensures c.restore-2.ensures)

pub add_parts-loop-arm-init : goal.add_parts-loop-arm-init
add_parts-loop-arm-init t c =
    let other = all_code (map action_code c.in-Select.other) in
    let whole = select_code (map arm_code_of c.as_slice-arms.result.now) other in
    let s = select_size (map arm_code_of c.as_slice-arms.result.now) other in
    let o = subst (λ l. c.count_actions.result ≡ counted (all_code (map action_code l)).size) c.as_slice.ensures c.count_actions.ensures in
    let k : c.count_arms.result ≡ counted whole.size = omega (arith, c.count_arms.ensures, o, s) in
    record {
      rest = λ new m. same_makes c.ahead-end.ensures.draft (same_makes c.kept-kept.ensures.draft m);
      at =
          first_arm_at arm_code_of c.as_slice-arms.result.now other c.ahead-end.ensures.draft (λ h. c.ahead-end.ensures.place h whole.size k)
          c.kept-kept.ensures.draft (λ h. c.as_slice-top.ensures ∙ c.kept-kept.ensures.kinds h);
    }

pub add_parts-loop-arm-preserved : goal.add_parts-loop-arm-preserved
add_parts-loop-arm-preserved t c =
    let l = c.loop-arm in
    let other = all_code (map action_code c.in-Select.other) in
    let arms = c.as_slice-arms.result.now in
    let arm = c.arm-item.result in
    record {
      rest = more_arms_make arm_code_of arms other l.arm-index arm c.loop-arm-test.true c.arm-item.is l.invariant.at c.add_arm.ensures l.invariant.rest;
      at = next_arm_at arm_code_of arms other l.arm-index arm c.loop-arm-test.true c.arm-item.is l.invariant.at c.add_arm.ensures;
    }

pub add_parts-returns : goal.add_parts-returns
add_parts-returns t c =
    let other = all_code (map action_code c.in-Select.other) in
    let arms = c.as_slice-arms.result.now in
    let done = c.add_actions.new.out in
    let last = subst (λ l. Makes (all_code (map action_code l)) c.add.new.self done) c.as_slice-2.ensures c.add_actions.ensures in
    let whole = arms_make arm_code_of arms other c.loop-arm.arm-index c.loop-arm-test.false c.loop-arm.invariant.rest c.add.ensures last in
    let e : select_code (map arm_code_of arms) other ≡ action_parts c.args.action.now = search (rules, the_lemmas, c.in-Select.is, c.as_slice-arms.ensures) in
    subst (λ f. Makes f c.args.out.now done) e whole

pub add_value_parts-loop-arm-init : goal.add_value_parts-loop-arm-init
add_value_parts-loop-arm-init t c =
    let other = value_code c.in-Select.other in
    let whole = select_code (map value_arm_code c.as_slice-arms.result.now) other in
    let s = select_size (map value_arm_code c.as_slice-arms.result.now) other in
    let o = subst (λ v. c.count_value.result ≡ counted (value_code v).size) c.get.ensures c.count_value.ensures in
    let k : c.count_value_arms.result ≡ counted whole.size = omega (arith, c.count_value_arms.ensures, o, s) in
    record {
      rest = λ new m. same_makes c.ahead-end.ensures.draft (same_makes c.kept-kept.ensures.draft m);
      at =
          first_arm_at value_arm_code c.as_slice-arms.result.now other c.ahead-end.ensures.draft (λ h. c.ahead-end.ensures.place h whole.size k)
          c.kept-kept.ensures.draft (λ h. c.as_slice-top.ensures ∙ c.kept-kept.ensures.kinds h);
    }

pub add_value_parts-loop-arm-preserved : goal.add_value_parts-loop-arm-preserved
add_value_parts-loop-arm-preserved t c =
    let l = c.loop-arm in
    let other = value_code c.in-Select.other in
    let arms = c.as_slice-arms.result.now in
    let arm = c.arm-item.result in
    record {
      rest = more_arms_make value_arm_code arms other l.arm-index arm c.loop-arm-test.true c.arm-item.is l.invariant.at c.add_value_arm.ensures l.invariant.rest;
      at = next_arm_at value_arm_code arms other l.arm-index arm c.loop-arm-test.true c.arm-item.is l.invariant.at c.add_value_arm.ensures;
    }

pub add_value_parts-returns : goal.add_value_parts-returns
add_value_parts-returns t c =
    let other = value_code c.in-Select.other in
    let arms = c.as_slice-arms.result.now in
    let done = c.add_value.new.out in
    let last = subst (λ v. Makes (value_code v) c.add.new.self done) c.get-2.ensures c.add_value.ensures in
    let whole = arms_make value_arm_code arms other c.loop-arm.arm-index c.loop-arm-test.false c.loop-arm.invariant.rest c.add.ensures last in
    let e : select_code (map value_arm_code arms) other ≡ value_parts c.args.phrase.now = search (rules, the_lemmas, c.in-Select.is, c.as_slice-arms.ensures) in
    subst (λ f. Makes f c.args.out.now done) e whole

either : {A B C : Type 0} → A ⊎ B → (A → C) → (B → C) → C
either (inl a) f g = f a
either (inr b) f g = g b

pub add_turn-add_actions-requires : goal.add_turn-add_actions-requires
add_turn-add_actions-requires t c =
    either c.in-Loop.is (λ e. search (rules, the_lemmas, e, c.as_slice.ensures))
    (λ x. let e = x.4 in search (rules, the_lemmas, tests, common_steps, e, c.as_slice.ensures))

pub add_action-returns-in-Unit : goal.add_action-returns-in-Unit
add_action-returns-in-Unit t c =
    let e : join (one Mark keeps) (all_code (map action_code c.as_slice.result.now)) ≡ action_code c.args.action.now =
    search (rules, the_lemmas, c.in-Unit.is, c.as_slice.ensures) in
    subst (λ f. Makes f c.args.out.now c.add_actions.new.out) e (join_makes c.add.ensures c.add_actions.ensures)

pub add_action-returns-in-Modify : goal.add_action-returns-in-Modify
add_action-returns-in-Modify t c =
    let change = c.in-Modify.change in
    let p = place_code c.in-Modify.place in
    let x = subst (λ k. Makes (p (Cell k)) c.args.out.now c.add_place-in-Modify.new.out) c.kind.ensures c.add_place-in-Modify.ensures in
    let e : modify_code p change (value_code c.in-Modify.value) ≡ action_code c.args.action.now = search (rules, the_lemmas, c.in-Modify.is) in
    subst (λ f. Makes f c.args.out.now c.add-in-Modify.new.self) e (join_makes x (join_makes c.add_value-in-Modify.ensures c.add-in-Modify.ensures))

pub add_action-returns-in-If : goal.add_action-returns-in-If
add_action-returns-in-If t c =
    let us = all_code (map action_code c.in-If.first) in
    let vs = all_code (map action_code c.in-If.second) in
    let d1 = c.add_value-in-If.new.out in
    let d3 = c.add_actions-in-If.new.out in
    let d5 = c.add_actions-in-If-2.new.out in
    let k2 = subst (λ l. c.count_actions.result ≡ counted (all_code (map action_code l)).size) c.as_slice-in-If-2.ensures c.count_actions.ensures in
    let x2 =
    subst (λ ks. MakesTurn (False (length d1.lines + 1 + us.size + 1)) ks d1 c.put_test.new.out) c.as_slice-in-If.ensures
    (c.put_test.ensures us.size k2) in
    let x3 = subst (λ l. Makes (all_code (map action_code l)) c.put_test.new.out d3) c.as_slice-in-If-3.ensures c.add_actions-in-If.ensures in
    let k4 = subst (λ l. c.count_actions-in-If.result ≡ counted (all_code (map action_code l)).size) c.as_slice-in-If-5.ensures c.count_actions-in-If.ensures in
    let x4 =
    subst (λ ks. MakesTurn (Jump (length d3.lines + 1 + vs.size)) ks d3 c.put_else.new.out) c.as_slice-in-If-4.ensures
    (c.put_else.ensures vs.size k4) in
    let x5 = subst (λ l. Makes (all_code (map action_code l)) c.put_else.new.out d5) c.as_slice-in-If-6.ensures c.add_actions-in-If-2.ensures in
    let e : if_code (value_code c.in-If.c) us vs ≡ action_code c.args.action.now = search (rules, the_lemmas, c.in-If.is) in
    subst (λ f. Makes f c.args.out.now d5) e (if_makes c.kept-below.ensures.draft c.kept-below.ensures.kinds c.add_value-in-If.ensures x2 x3 x4 x5)

pub add_action-returns-in-Select : goal.add_action-returns-in-Select
add_action-returns-in-Select t c =
    let e : join (value_code c.in-Select.v) (action_parts c.args.action.now) ≡ action_code c.args.action.now = search (rules, the_lemmas, c.in-Select.is) in
    subst (λ f. Makes f c.args.out.now c.add_parts.new.out) e (join_makes c.add_value-in-Select.ensures c.add_parts.ensures)

pub add_action-returns-in-Ask : goal.add_action-returns-in-Ask
add_action-returns-in-Ask t c =
    let name = c.in-Ask.name in
    let e : join (all_code (map actual_code c.as_slice-in-Ask.result.now)) (one (Ask name) (drop (request_size name))) ≡ action_code c.args.action.now =
    search (rules, the_lemmas, c.in-Ask.is, c.as_slice-in-Ask.ensures) in
    subst (λ f. Makes f c.args.out.now c.put_request.new.out) e (join_makes c.add_actuals.ensures c.put_request.ensures)

pub add_action-returns-in-ErrorStop : goal.add_action-returns-in-ErrorStop
add_action-returns-in-ErrorStop t c =
    let e : join (value_code c.in-ErrorStop.text) (one ErrorStop (drop 1)) ≡ action_code c.args.action.now = search (rules, the_lemmas, c.in-ErrorStop.is) in
    subst (λ f. Makes f c.args.out.now c.add-in-ErrorStop.new.self) e (join_makes c.add_value-in-ErrorStop.ensures c.add-in-ErrorStop.ensures)

pub add_count-returns-in-None : goal.add_count-returns-in-None
add_count-returns-in-None t c =
    let p = place_code c.in-Count.counter in
    let e : join (store_code p (Cell kinds.Int) (value_code c.in-Count.from)) (loop_code c.args.action.now) ≡ count_code c.args.action.now =
    search (rules, the_lemmas, c.in-Count.is, c.in-None.is) in
    subst (λ f. Makes f c.args.out.now c.add_turns.new.out) e
    (join_makes (join_makes c.add_place.ensures (join_makes c.add_value.ensures c.put_store.ensures)) c.add_turns.ensures)

-- a counted loop with a limit
some_counted : {a : Action} {p : PlacePhrase} {from l : ValuePhrase} {way : Way} {limit : Option ValuePhrase} (w : Option ValuePhrase)
    (us : List Action) (u : Option ValuePhrase) → a ≡ action.Count p from way limit w us u → limit ≡ Some l
    → join (store_code (place_code p) (Cell kinds.Int) (value_code from))
    (join (place_code p (Cell kinds.Int)) (join (value_code l) (limit_code way (loop_code a)))) ≡ count_code a
some_counted w us u is limited = search (rules, the_lemmas, is, limited)

pub add_count-returns-in-Some : goal.add_count-returns-in-Some
add_count-returns-in-Some t c =
    let p = place_code c.in-Count.counter in
    let rest = join (p (Cell kinds.Int)) (join (value_code c.in-Some.limit) (limit_code c.in-Count.way (loop_code c.args.action.now))) in
    let e : join (store_code p (Cell kinds.Int) (value_code c.in-Count.from)) rest ≡ count_code c.args.action.now =
    some_counted _ _ _ c.in-Count.is c.in-Some.is in
    subst (λ f. Makes f c.args.out.now c.add_limited.new.out) e
    (join_makes (join_makes c.add_place.ensures (join_makes c.add_value.ensures c.put_store.ensures))
    (join_makes c.add_place-in-Some.ensures (join_makes c.add_value-in-Some.ensures c.add_limited.ensures)))

pub add_action-returns-in-Store : goal.add_action-returns-in-Store
add_action-returns-in-Store t c =
    let p = place_code c.in-Store.place in
    let e : store_code p c.in-Store.shape (value_code c.in-Store.value) ≡ action_code c.args.action.now = search (rules, the_lemmas, c.in-Store.is) in
    subst (λ f. Makes f c.args.out.now c.put_store.new.out) e (join_makes c.add_place.ensures (join_makes c.add_value.ensures c.put_store.ensures))

pub add_place-returns-in-Item : goal.add_place-returns-in-Item
add_place-returns-in-Item t c =
    let s = c.args.shape.now in
    let items = c.in-Item.items in
    let row = subst (λ q. Makes (place_code q s) c.args.out.now c.add_place.new.out) c.get.ensures c.add_place.ensures in
    let index = subst (λ v. Makes (value_code v) c.add_place.new.out c.add_value.new.out) c.get-in-Item.ensures c.add_value.ensures in
    let last = one (Index items.count items.cells) (λ ks. operand.Place s ∷ drop 2 ks) in
    let e : join (place_code c.in-Item.row s) (join (value_code c.in-Item.index) last) ≡ place_code c.args.place.now s =
    search (rules, the_lemmas, c.in-Item.is) in
    subst (λ f. Makes f c.args.out.now c.put_place-in-Item.new.out) e (join_makes row (join_makes index c.put_place-in-Item.ensures))

pub add_place-returns-in-Field : goal.add_place-returns-in-Field
add_place-returns-in-Field t c =
    let s = c.args.shape.now in
    let whole = subst (λ q. Makes (place_code q s) c.args.out.now c.add_place-in-Field.new.out) c.get-in-Field.ensures c.add_place-in-Field.ensures in
    let last = one (Field c.in-Field.before) (λ ks. operand.Place s ∷ drop 1 ks) in
    let e : join (place_code c.in-Field.structure s) last ≡ place_code c.args.place.now s = search (rules, the_lemmas, c.in-Field.is) in
    subst (λ f. Makes f c.args.out.now c.put_place-in-Field.new.out) e (join_makes whole c.put_place-in-Field.ensures)

pub add_value-returns-in-Consult : goal.add_value-returns-in-Consult
add_value-returns-in-Consult t c =
    let op = c.in-Consult.operation in
    let g = λ (o : Option Kind). one (OnSpaces op) (λ ks. with_answer o (drop (length (space_operand_kinds op)) ks)) in
    let e : join (all_code (map value_code c.as_slice-in-Consult.result.now)) (g (space_result_kind op)) ≡ value_code c.args.phrase.now =
    search (rules, the_lemmas, c.in-Consult.is, c.as_slice-in-Consult.ensures) in
    subst (λ f. Makes f c.args.out.now c.put_on_spaces.new.out) e
    (join_makes c.add_values-in-Consult.ensures
    (subst (λ o. Makes (g o) c.add_values-in-Consult.new.out c.put_on_spaces.new.out) c.result_kind-in-Consult.ensures c.put_on_spaces.ensures))

pub add_place-returns-in-Content : goal.add_place-returns-in-Content
add_place-returns-in-Content t c =
    let s = c.args.shape.now in
    let bound =
    subst (λ q. Makes (place_code q (Cell kinds.Space)) c.args.out.now c.add_place-in-Content.new.out) c.get-in-Content.ensures c.add_place-in-Content.ensures in
    let last = one Content (λ ks. operand.Place s ∷ drop 1 ks) in
    let e : join (place_code c.in-Content.bound (Cell kinds.Space)) last ≡ place_code c.args.place.now s = search (rules, the_lemmas, c.in-Content.is) in
    subst (λ f. Makes f c.args.out.now c.put_place-in-Content.new.out) e (join_makes bound c.put_place-in-Content.ensures)

pub add_on_spaces-returns-in-Perform : goal.add_on_spaces-returns-in-Perform
add_on_spaces-returns-in-Perform t c =
    let op = c.in-Perform.operation in
    let e : join (all_code (map value_code c.as_slice.result.now)) (one (OnSpaces op) (drop (length (space_operand_kinds op)))) ≡ spaces_code c.args.action.now =
    search (rules, the_lemmas, c.in-Perform.is, c.as_slice.ensures) in
    subst (λ f. Makes f c.args.out.now c.put_on_spaces.new.out) e (join_makes c.add_values.ensures c.put_on_spaces.ensures)

pub add_on_spaces-returns-in-Copy : goal.add_on_spaces-returns-in-Copy
add_on_spaces-returns-in-Copy t c =
    let p = place_code c.in-Copy.place (Cell kinds.Space) in
    let e : join p (join (value_code c.in-Copy.space) (one Copy (drop 2))) ≡ spaces_code c.args.action.now = search (rules, the_lemmas, c.in-Copy.is) in
    subst (λ f. Makes f c.args.out.now c.add.new.self) e (join_makes c.add_place.ensures (join_makes c.add_value.ensures c.add.ensures))

pub add_on_spaces-returns-in-Bind : goal.add_on_spaces-returns-in-Bind
add_on_spaces-returns-in-Bind t c =
    let p = place_code c.in-Bind.place (Cell kinds.Space) in
    let e : join p (join (value_code c.in-Bind.space) (one (Bind c.in-Bind.shape) (drop 2))) ≡ spaces_code c.args.action.now =
    search (rules, the_lemmas, c.in-Bind.is) in
    subst (λ f. Makes f c.args.out.now c.put_bind.new.out) e
    (join_makes c.add_place-in-Bind.ensures (join_makes c.add_value-in-Bind.ensures c.put_bind.ensures))

pub add_action-returns-in-Count : goal.add_action-returns-in-Count
add_action-returns-in-Count t c =
    let e : count_code c.args.action.now ≡ action_code c.args.action.now = search (rules, the_lemmas, c.in-Count.is) in
    subst (λ f. Makes f c.args.out.now c.add_count.new.out) e c.add_count.ensures

pub add_action-returns-in-Call : goal.add_action-returns-in-Call
add_action-returns-in-Call t c =
    let e : transfer_code c.args.action.now ≡ action_code c.args.action.now =
    either c.in-Call.is (λ x. let i = x.2 in search (rules, the_lemmas, i))
    (λ y. either y (λ x. let i = x.1 in search (rules, the_lemmas, i))
    (λ z. either z (λ x. let i = x.1 in search (rules, the_lemmas, i)) (λ x. let i = x.3 in search (rules, the_lemmas, i)))) in
    subst (λ f. Makes f c.args.out.now c.add_transfer.new.out) e c.add_transfer.ensures

pub add_action-returns-in-Perform : goal.add_action-returns-in-Perform
add_action-returns-in-Perform t c =
    let e : spaces_code c.args.action.now ≡ action_code c.args.action.now =
    either c.in-Perform.is (λ x. let i = x.2 in search (rules, the_lemmas, i))
    (λ y. either y (λ x. let i = x.2 in search (rules, the_lemmas, i)) (λ x. let i = x.3 in search (rules, the_lemmas, i))) in
    subst (λ f. Makes f c.args.out.now c.add_on_spaces.new.out) e c.add_on_spaces.ensures
