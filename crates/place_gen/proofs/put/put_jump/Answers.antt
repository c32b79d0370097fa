use Rattle.std.proofs.Common.{◌≡◌, ◌+◌, length, ◌∙◌, arith}
use Rattle.code_form.specs.declared.instr.Instr.TheVariants.{Jump}
use Rattle.place_gen.specs.Counted.{counted}
use Rattle.place_gen.specs.Stretch.{keeps}
use Rattle.place_gen.proofs.Makes.{target_makes}
use Rattle.place_gen.proofs.put.put_jump.Goals as goal

pub returns : goal.returns
returns c n e =
    let at = length c.args.out.now.lines in
    let k : c.saturating_add.result ≡ counted (n + 1) = omega (arith, e, c.saturating_add.ensures) in
    let sum : at + (n + 1) ≡ at + 1 + n = omega arith in
    target_makes Jump keeps (at + 1 + n) c.ahead-to.ensures.draft (λ h. c.ahead-to.ensures.place h (n + 1) k ∙ sum) c.add.ensures
