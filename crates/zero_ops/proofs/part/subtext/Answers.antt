use Rattle.std.proofs.Common.{subst, rules}
use Rattle.eu_base.specs.Operations.{fitting}
use Rattle.zero_ops.specs.Given.{Gives}
use Rattle.zero_ops.proofs.Parts.{subtext_is}
use Rattle.zero_ops.proofs.part.subtext.Goals as goal

pub returns : goal.returns
returns c =
    let e =
    subtext_is c.args.a c.args.b c.count.result c.count-2.result c.args.t.now c.part.result.now (search rules) (search rules) c.part.ensures in
    subst (λ bytes. Gives c.fitting.result (fitting bytes)) e c.fitting.ensures
