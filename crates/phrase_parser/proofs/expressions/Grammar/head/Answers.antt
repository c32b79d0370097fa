use Rattle.std.proofs.Common.{arith}
use Rattle.elan_grammar.specs.Expressions as expressions
use Rattle.elan_grammar.proofs.Starts.{of_expressions}
use Rattle.phrase_parser.proofs.expressions.Grammar.head.Goals as goal

pub returns-then-sees_sign : goal.returns-then-sees_sign
unfolding expressions.head
returns-then-sees_sign g c = grind (arith, of_expressions)

pub returns-then-sees_key : goal.returns-then-sees_key
unfolding expressions.head
returns-then-sees_key g c = grind (arith, of_expressions)

pub returns-then-sees_key-2 : goal.returns-then-sees_key-2
unfolding expressions.head
returns-then-sees_key-2 g c = grind (arith, of_expressions)

pub returns-then-sees_key-3 : goal.returns-then-sees_key-3
unfolding expressions.head
returns-then-sees_key-3 g c = grind (arith, of_expressions)

pub returns-else-sees_key-3 : goal.returns-else-sees_key-3
unfolding expressions.head
returns-else-sees_key-3 g c = grind (arith, of_expressions)
