use Rattle.std.proofs.Common.{arith}
use Rattle.elan_tree.specs.declared.phrase.Expr.TheFolds.{the_lemmas}
use Rattle.elan_grammar.specs.Expressions as expressions
use Rattle.phrase_parser.proofs.expressions.Grammar.named.Goals as goal

pub returns-in_err-name : goal.returns-in_err-name
unfolding expressions.named expressions.call
returns-in_err-name g c = grind arith

pub returns-then-sees_sign : goal.returns-then-sees_sign
unfolding expressions.named expressions.call
returns-then-sees_sign g c = grind arith

pub returns : goal.returns
unfolding expressions.named expressions.call
returns g c = grind (arith, the_lemmas)
