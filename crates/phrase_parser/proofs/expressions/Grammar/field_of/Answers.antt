use Rattle.elan_tree.specs.declared.phrase.Expr.TheFolds.{the_lemmas}
use Rattle.std.proofs.Common.{arith}
use Rattle.elan_grammar.specs.Expressions as expressions
use Rattle.phrase_parser.proofs.expressions.Grammar.field_of.Goals as goal

pub returns-in_err-of : goal.returns-in_err-of
unfolding expressions.field_of
returns-in_err-of g c = grind arith

pub returns : goal.returns
unfolding expressions.field_of
returns g c = grind (arith, the_lemmas)
