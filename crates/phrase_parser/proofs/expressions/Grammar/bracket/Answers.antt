use Rattle.elan_tree.specs.declared.phrase.Expr.TheFolds.{the_lemmas}
use Rattle.std.proofs.Common.{arith}
use Rattle.elan_grammar.specs.Expressions as expressions
use Rattle.phrase_parser.proofs.expressions.Grammar.bracket.Goals as goal

pub returns-in_err-at : goal.returns-in_err-at
unfolding expressions.bracket
returns-in_err-at g c = grind arith

pub returns : goal.returns
unfolding expressions.bracket
returns g c = grind (arith, the_lemmas)
