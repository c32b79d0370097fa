use Rattle.std.proofs.Common.{arith}
use Rattle.elan_tree.specs.declared.phrase.Expr.TheFolds.{the_lemmas}
use Rattle.elan_grammar.specs.Units as units
use Rattle.phrase_parser.proofs.phrases.Phrases.a_let.Goals as goal

pub returns-in_err-at : goal.returns-in_err-at
unfolding units.a_let
returns-in_err-at g c = grind arith

pub returns : goal.returns
unfolding units.a_let
returns g c = grind (arith, the_lemmas)
