use Rattle.std.proofs.Common.{arith}
use Rattle.elan_grammar.specs.Expressions as expressions
use Rattle.phrase_parser.proofs.expressions.Grammar.dyadic.Goals as goal

pub returns-in_err-left : goal.returns-in_err-left
unfolding expressions.dyadic
returns-in_err-left g c = grind arith

pub returns : goal.returns
unfolding expressions.dyadic
returns g c = grind arith
