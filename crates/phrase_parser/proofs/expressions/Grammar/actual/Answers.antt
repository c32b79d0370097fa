use Rattle.std.proofs.Common.{arith}
use Rattle.elan_tree.specs.declared.phrase.Expr.TheFolds.{the_lemmas}
use Rattle.elan_grammar.specs.Expressions as expressions
use Rattle.elan_grammar.proofs.Starts.{of_expressions}
use Rattle.phrase_parser.proofs.expressions.Grammar.actual.Goals as goal

pub returns-then-sees_key : goal.returns-then-sees_key
unfolding expressions.actual expressions.procedure
returns-then-sees_key g c = grind (arith, the_lemmas, of_expressions)

pub returns : goal.returns
unfolding expressions.actual expressions.procedure
returns g c = grind (arith, of_expressions)
