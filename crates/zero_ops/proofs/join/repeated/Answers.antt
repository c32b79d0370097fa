use Rattle.std.proofs.Common.{◌≡◌, ◌++◌, ◌∙◌, ap, sym, arith}
use Rattle.std.proofs.lemmas.Bool.Decides.{nat_tests}
use Rattle.zero_ops.proofs.Copies.{length-copies, copies_more}
use Rattle.zero_ops.proofs.join.repeated.Goals as goal

pub returns-in_err-check_length : goal.returns-in_err-check_length
returns-in_err-check_length c =
    let long = length-copies c.count-times.result c.args.t.now in grind (arith, nat_tests, long, c.in_err-check_length.ensures)

pub loop-done-preserved : goal.loop-done-preserved
loop-done-preserved c =
    c.in_ok-append.ensures.ok ∙ ap (λ s. s ++ c.args.t.now) c.loop-done.invariant ∙ sym (copies_more c.loop-done.done c.args.t.now)

pub returns : goal.returns
returns c =
    let end : c.loop-done.done ≡ c.count-times.result = omega arith in
    let long = length-copies c.count-times.result c.args.t.now in grind (arith, nat_tests, long, end, c.loop-done.invariant, c.in_ok-check_length.ensures)
