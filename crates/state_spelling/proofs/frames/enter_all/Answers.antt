use Rattle.std.proofs.Common.{◌≡◌, get_or}
use Rattle.std.proofs.lemmas.Result.{err_from_is_err_and}
use Rattle.state_spelling.specs.declared.kept.KeptFrame.{KeptFrame}
use Rattle.state_spelling.specs.Coming.{walk_of}
use Rattle.state_spelling.proofs.Loop.{walks_on, walks_not, walked}
use Rattle.state_spelling.proofs.frames.enter_all.Goals as goal

abbrev none : KeptFrame
none = record { back = 0; base = 0; used = 0 }

pub returns-in_err-enter_next-clause-comes : goal.returns-in_err-enter_next-clause-comes
returns-in_err-enter_next-clause-comes c =
    let p = err_from_is_err_and c.from_residual.result c.from_residual.ensures.1 in
    rw (p.1, p.2) (walks_not c.args.code.now (walk_of c.args.walking.now) (walk_of c.loop-frame.walking) c.args.frames.now c.loop-frame.frame-index none c.in_err-enter_next.field-0.0 c.loop-frame.invariant.0 c.loop-frame-test.true c.in_err-enter_next.ensures.comes)

pub loop-frame-preserved : goal.loop-frame-preserved
loop-frame-preserved c = (
  walks_on c.args.code.now (walk_of c.args.walking.now) (walk_of c.loop-frame.walking) (walk_of c.enter_next.new.walking) c.args.frames.now c.loop-frame.frame-index none c.loop-frame.invariant.0 c.loop-frame-test.true c.in_ok-enter_next.ensures.comes,
  c.in_ok-enter_next.ensures.between,
)

pub returns-clause-comes : goal.returns-clause-comes
returns-clause-comes c = walked c.args.code.now (walk_of c.args.walking.now) (walk_of c.loop-frame.walking) c.args.frames.now c.loop-frame.frame-index c.loop-frame.invariant.0 c.loop-frame-test.false
