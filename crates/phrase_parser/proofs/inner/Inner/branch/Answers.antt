use Rattle.std.proofs.Common.{arith}
use Rattle.elan_tree.specs.declared.phrase.Expr.TheFolds.{the_lemmas}
use Rattle.elan_grammar.specs.Expressions as expressions
use Rattle.phrase_parser.proofs.inner.Inner.branch.Goals as goal

pub returns-in_err-condition : goal.returns-in_err-condition
unfolding expressions.branch
returns-in_err-condition g c = grind arith

pub returns : goal.returns
unfolding expressions.branch
returns g c = grind (arith, the_lemmas)
