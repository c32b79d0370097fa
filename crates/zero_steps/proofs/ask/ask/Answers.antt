use Rattle.std.proofs.Common.{ℕ, take, ap, ◌∙◌, arith}
use Rattle.std.specs.Prelude.{reverse}
use Rattle.eu_base.specs.Requests.{request_size, sends}
use Rattle.code_form.specs.declared.halt.Halt.TheVariants as halts
use Rattle.code_form.specs.Machine.{Over, asks_for, rest_at}
use Rattle.zero_state.specs.Stepping.{position_of, scene_of}
use Rattle.zero_steps.proofs.Asking.{due, asked}
use Rattle.zero_steps.proofs.ask.ask.Goals as goal

pub returns-then-marks-eq0 : goal.returns-then-marks-eq0
returns-then-marks-eq0 c = λ p mem.
    let now = position_of c.args.s.now in
    ap (λ w. Over (rest_at halts.Marked (record { position = now; waits = w }) (scene_of mem c.args.marks.now))) c.requires.ready.free
    ∙ due (request_size c.args.name) now.ops (λ os ops. asks_for (sends c.args.name) c.args.name os now mem) now mem c.args.marks.now
    c.requires.finds c.if-marks-eq0.true

pub returns : goal.returns
returns c = λ p mem.
    let now = position_of c.args.s.now in
    asked p c.args.name now mem c.args.marks.now c.in_ok-request.request c.top.result.now c.requires.finds c.requires.plain
    (omega (arith, c.if-marks-eq0.false)) (c.top.ensures ∙ ap (λ (k : ℕ). reverse (take k now.ops)) c.size.ensures) c.in_ok-request.ensures
