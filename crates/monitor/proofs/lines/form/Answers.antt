-- What is read is the line's form.
use Rattle.std.proofs.Common.{arith}
use Rattle.std.proofs.lemmas.Grind.{common_steps}
use Rattle.monitor.proofs.OneForm.{answered}
use Rattle.monitor.specs.Words.{words}
use Rattle.monitor.proofs.lines.form.Goals as goal

pub returns-in-Ident-clause-spelled : goal.returns-in-Ident-clause-spelled
returns-in-Ident-clause-spelled c = answered c.form_named.result (words c.args.tokens.now) (grind (arith, common_steps))
