use Rattle.elan_laws.proofs.WholeFound.{text_found}
use Rattle.elan_laws.proofs.names.each_rule_gets_what_it_asks_for.Goals as goal

pub returns : goal.returns
returns c = λ env t. text_found env t
