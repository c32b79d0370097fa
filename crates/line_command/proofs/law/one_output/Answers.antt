use Rattle.std.proofs.Common.{false}
use Rattle.line_command.specs.Below.units.specs.Packets.{nothing}
use Rattle.line_command.specs.Below.elan_check.specs.Packets.{none}
use Rattle.line_command.proofs.Unique.{one_output}
use Rattle.line_command.proofs.Total.{an_output}
use Rattle.line_command.proofs.Enough.{enough}
use Rattle.line_command.proofs.law.one_output.Goals as goal

pub returns-clause-some : goal.returns-clause-some
returns-clause-some c = an_output (λ text. c.one_meaning.ensures.some nothing none false text)

pub returns-clause-one : goal.returns-clause-one
returns-clause-one c = one_output (record {
  one_meaning = λ text a b m n. c.one_meaning.ensures.one nothing false text a b m n;
  not_both = λ text a r m f. c.one_meaning.ensures.not_both nothing false text a r m f;
  one_refusal = λ text q r f g. c.one_meaning.ensures.one_refusal nothing false text q r f g;
})

pub returns-clause-enough : goal.returns-clause-enough
returns-clause-enough c = enough c.what_a_text_means_is_well_typed.ensures
