use Rattle.std.proofs.Common.{arith}
use Rattle.elan_grammar.specs.Grammar as grammar
use Rattle.elan_parser.proofs.operators.operator_parts.Goals as goal

pub returns-in_err-at : goal.returns-in_err-at
unfolding grammar.operator_parts grammar.end_operator
returns-in_err-at c = grind arith

pub returns-in_err-name : goal.returns-in_err-name
unfolding grammar.operator_parts grammar.end_operator
returns-in_err-name c = grind arith

pub returns : goal.returns
unfolding grammar.operator_parts grammar.end_operator
returns c = grind arith
