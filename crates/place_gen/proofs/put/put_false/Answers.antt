use Rattle.std.proofs.Common.{◌≡◌, ◌+◌, length, drop, ◌∙◌, arith}
use Rattle.code_form.specs.declared.instr.Instr.TheVariants.{False}
use Rattle.place_gen.specs.Counted.{counted}
use Rattle.place_gen.proofs.Makes.{target_makes}
use Rattle.place_gen.proofs.put.put_false.Goals as goal

pub returns : goal.returns
returns c n e =
    let at = length c.args.out.now.lines in
    let k : c.saturating_add.result ≡ counted (n + 2) = omega (arith, e, c.saturating_add.ensures) in
    let sum : at + (n + 2) ≡ at + 1 + n + 1 = omega arith in
    target_makes False (drop 1) (at + 1 + n + 1) c.ahead-to.ensures.draft (λ h. c.ahead-to.ensures.place h (n + 2) k ∙ sum) c.add.ensures
