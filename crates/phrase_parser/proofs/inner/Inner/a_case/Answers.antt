use Rattle.std.proofs.Common.{arith}
use Rattle.elan_tree.specs.declared.phrase.Expr.TheFolds.{the_lemmas}
use Rattle.elan_grammar.specs.Expressions as expressions
use Rattle.phrase_parser.proofs.inner.Inner.a_case.Goals as goal

pub returns-in_err-labels : goal.returns-in_err-labels
unfolding expressions.a_case
returns-in_err-labels g c = grind arith

pub returns : goal.returns
unfolding expressions.a_case
returns g c = grind (arith, the_lemmas)
