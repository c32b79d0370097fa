use Rattle.std.proofs.Common.{[], refl, sym, ◌∙◌, subst}
use Rattle.zero_state.specs.Stepping.{position_of, control_of}
use Rattle.zero_ops.specs.Given.{given_of}
use Rattle.zero_steps.specs.Giving.{GivesSo}
use Rattle.zero_steps.proofs.Operating.{looks_at_two, values_on, put_back, stops_so}
use Rattle.zero_steps.proofs.operate.operate_on_none.Goals as goal

pub returns-in-Some : goal.returns-in-Some
returns-in-Some c =
    let s = c.args.s.now in
    let g = given_of c.on_numbers.result in
    stops_so c.args.operation [] (position_of s) s.stack.ops g s c.give.new.s c.in-Some.stop (values_on _ 0 s.stack.ops _ c.requires.arity refl)
    (c.on_numbers.ensures ∙ sym (looks_at_two c.args.operation [] c.requires.numbers)) (subst (GivesSo g s c.give.new.s) c.in-Some.is c.in_ok-give.ensures) refl refl
    (control_of c.give.new.s)
    (put_back (control_of s) (control_of c.give.new.s) [] s.stack c.give.new.s.stack (subst (GivesSo g s c.give.new.s) c.in-Some.is c.in_ok-give.ensures).0
    c.requires.ready.free refl refl)
