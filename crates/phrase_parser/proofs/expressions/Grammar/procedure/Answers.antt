use Rattle.std.proofs.Common.{arith}
use Rattle.elan_grammar.specs.Expressions as expressions
use Rattle.phrase_parser.proofs.expressions.Grammar.procedure.Goals as goal

pub returns-in_err-at : goal.returns-in_err-at
unfolding expressions.procedure
returns-in_err-at g c = grind arith

pub returns : goal.returns
unfolding expressions.procedure
returns g c = grind arith
