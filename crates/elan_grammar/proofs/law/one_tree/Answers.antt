use Rattle.elan_grammar.proofs.GrammarLaws.{one_tree}
use Rattle.elan_grammar.proofs.law.one_tree.Goals as goal

pub returns : goal.returns
returns c = λ p tokens t u h i. one_tree p tokens t u h i
