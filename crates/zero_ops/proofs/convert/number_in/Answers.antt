use Rattle.std.proofs.Common.{◌≡◌, ◌∙◌, ap, arith}
use Rattle.std.proofs.lemmas.Int.{ints}
use Rattle.eu_base.specs.Operations.{ranged}
use Rattle.eu_base.specs.Texts.{number_spelled}
use Rattle.zero_ops.proofs.Spelled.{parsed_is, no_text_is}
use Rattle.zero_ops.proofs.convert.number_in.Goals as goal

pub returns-in-Ok : goal.returns-in-Ok
returns-in-Ok c =
    let text = c.in-Ok.ensures.cases.0 ∙ c.trimmed.ensures in
    let value : c.unwrap_or.result ≡ ranged (number_spelled c.in-Ok.digits.now) =
    c.unwrap_or.ensures ∙ parsed_is c.in-Ok.digits.now c.parse.result c.parse.ensures.value.0 in
    search (arith, ints, value ∙ ap (λ t. ranged (number_spelled t)) text)

pub returns-in-Err : goal.returns-in-Err
returns-in-Err c = no_text_is c.trimmed.result.now c.in-Err.ensures.cases.0 ∙ ap (λ t. ranged (number_spelled t)) c.trimmed.ensures
