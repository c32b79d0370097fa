use Rattle.std.proofs.Common.{arith}
use Rattle.elan_tree.specs.declared.phrase.Expr.TheFolds.{the_lemmas}
use Rattle.elan_grammar.specs.Expressions as expressions
use Rattle.phrase_parser.proofs.inner.Inner.choice.Goals as goal

pub returns-in_err-at : goal.returns-in_err-at
unfolding expressions.choice expressions.choice_end
returns-in_err-at g c = grind arith

pub returns-in_err-branches : goal.returns-in_err-branches
unfolding expressions.choice expressions.choice_end
returns-in_err-branches g c = grind arith

pub returns : goal.returns
unfolding expressions.choice expressions.choice_end
returns g c = grind (arith, the_lemmas)
