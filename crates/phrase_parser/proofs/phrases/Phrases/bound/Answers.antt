use Rattle.elan_tree.specs.declared.phrase.Expr.TheFolds.{the_lemmas}
use Rattle.std.proofs.Common.{arith}
use Rattle.elan_grammar.specs.Units as units
use Rattle.phrase_parser.proofs.phrases.Phrases.bound.Goals as goal

pub returns-in_err-at : goal.returns-in_err-at
unfolding units.bound units.items
returns-in_err-at g c = grind arith

pub returns : goal.returns
unfolding units.bound units.items
returns g c = grind (arith, the_lemmas)
