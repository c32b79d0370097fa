use Rattle.elan_tree.specs.declared.phrase.Expr.TheFolds.{the_lemmas}
use Rattle.std.proofs.Common.{arith}
use Rattle.elan_grammar.specs.Expressions as expressions
use Rattle.phrase_parser.proofs.expressions.Grammar.call.Goals as goal

pub returns-in_err-name : goal.returns-in_err-name
unfolding expressions.call
returns-in_err-name g c = grind arith

pub returns-in_err-name-2 : goal.returns-in_err-name-2
unfolding expressions.call
returns-in_err-name-2 g c = grind arith

pub returns : goal.returns
unfolding expressions.call
returns g c = grind (arith, the_lemmas)
