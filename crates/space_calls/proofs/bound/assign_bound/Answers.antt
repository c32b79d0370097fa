use Rattle.std.proofs.Common.{Option, Some, true, false, refl, sym, ap, ◌∙◌, subst}
use Rattle.eu_base.specs.declared.stop.Stop.TheVariants.{NoSpace, WrongShape}
use Rattle.eu_base.specs.Values.{SpaceNo}
use Rattle.eu_base.specs.DataSpaces.{the_head}
use Rattle.eu_base.specs.SpaceOperations.{bind_plan}
use Rattle.space_calls.specs.Below.code_form.specs.Machine.{binds}
use Rattle.space_calls.specs.Assigned.{Assigned, Shaped}
use Rattle.space_calls.proofs.Binding.{away_so, large_so, plan_stops, nil_plan, dead_plan, other_plan}
use Rattle.space_calls.proofs.bound.assign_bound.Goals as goal

pub returns-then-not-are_there-clause-goes : goal.returns-then-not-are_there-clause-goes
returns-then-not-are_there-clause-goes g c =
    let holds = g.M.Memory.holds c.args.m.now in
    let heads = g.M.Memory.heads c.args.m.now in
    let a = c.args.at in
    let shape = c.args.shape.now in
    away_so holds holds heads heads a shape c.args.space _ refl (sym c.are_there.ensures ∙ c.if-not-are_there.true) refl (λ cells h. h)

pub returns-then-not-branch-clause-goes : goal.returns-then-not-branch-clause-goes
returns-then-not-branch-clause-goes g c =
    let holds = g.M.Memory.holds c.args.m.now in
    let heads = g.M.Memory.heads c.args.m.now in
    let a = c.args.at in
    let shape = c.args.shape.now in
    let here = sym c.are_there.ensures ∙ c.if-not-are_there.false in
    large_so holds holds heads heads a shape c.args.space here _ refl (sym c.in_ok-has_room.ensures ∙ c.if-not-branch.true) refl (λ cells h. h)

pub returns-in_default-clause-goes : goal.returns-in_default-clause-goes
returns-in_default-clause-goes g c =
    let holds = g.M.Memory.holds c.args.m.now in
    let heads = g.M.Memory.heads c.args.m.now in
    let a = c.args.at in
    let shape = c.args.shape.now in
    let here = sym c.are_there.ensures ∙ c.if-not-are_there.false in
    let room = sym c.in_ok-has_room.ensures ∙ c.if-not-branch.false in
    plan_stops holds holds heads heads a shape c.args.space here room NoSpace _ refl (nil_plan shape c.args.space heads c.in_default.is) refl (λ cells h. h)

pub returns-then-not-live-clause-goes : goal.returns-then-not-live-clause-goes
returns-then-not-live-clause-goes g c =
    let holds = g.M.Memory.holds c.args.m.now in
    let heads = g.M.Memory.heads c.args.m.now in
    let a = c.args.at in
    let shape = c.args.shape.now in
    let here = sym c.are_there.ensures ∙ c.if-not-are_there.false in
    let room = sym c.in_ok-has_room.ensures ∙ c.if-not-branch.false in
    let s = c.in-Some.s in
    plan_stops holds holds heads heads a shape c.args.space here room NoSpace _ refl
    (ap (λ (o : Option SpaceNo). bind_plan shape o heads) c.in-Some.is ∙ dead_plan shape s heads (sym c.live.ensures ∙ c.if-not-live.true)) refl (λ cells h. h)

pub returns-in_ok-bind_new-in-None-clause-goes : goal.returns-in_ok-bind_new-in-None-clause-goes
returns-in_ok-bind_new-in-None-clause-goes g c =
    let holds = g.M.Memory.holds in
    let heads = g.M.Memory.heads in
    subst (λ (o : Option SpaceNo). Assigned (holds c.args.m.now) (holds c.bind_new.new.m) (heads c.args.m.now) (heads c.bind_new.new.m)
    (λ k ops mem. binds k c.args.shape.now o c.args.at ops mem)) (sym c.in-Some.is) c.in_ok-bind_new-in-None.ensures.goes

pub returns-in_ok-bind_same-in-Some-true-clause-goes : goal.returns-in_ok-bind_same-in-Some-true-clause-goes
returns-in_ok-bind_same-in-Some-true-clause-goes g c =
    let holds = g.M.Memory.holds in
    let heads = g.M.Memory.heads in
    subst (λ (o : Option SpaceNo). Assigned (holds c.args.m.now) (holds c.bind_same.new.m) (heads c.args.m.now) (heads c.bind_same.new.m)
    (λ k ops mem. binds k c.args.shape.now o c.args.at ops mem)) (sym c.in-Some.is) c.in_ok-bind_same-in-Some-true.ensures.goes

pub returns-in-Some-false-clause-goes : goal.returns-in-Some-false-clause-goes
returns-in-Some-false-clause-goes g c =
    let holds = g.M.Memory.holds c.args.m.now in
    let heads = g.M.Memory.heads c.args.m.now in
    let a = c.args.at in
    let shape = c.args.shape.now in
    let here = sym c.are_there.ensures ∙ c.if-not-are_there.false in
    let room = sym c.in_ok-has_room.ensures ∙ c.if-not-branch.false in
    let s = c.in-Some.s in
    let other = subst (λ b. Shaped shape (the_head s heads).shape (Some b)) c.in-Some-false.field-0-test
    (subst (Shaped shape (the_head s heads).shape) c.in-Some-false.is c.has_shape.ensures) in
    plan_stops holds holds heads heads a shape c.args.space here room WrongShape _ refl
    (ap (λ (o : Option SpaceNo). bind_plan shape o heads) c.in-Some.is
    ∙ other_plan shape s heads (sym c.live.ensures ∙ c.if-not-live.false) other) refl (λ cells h. h)
