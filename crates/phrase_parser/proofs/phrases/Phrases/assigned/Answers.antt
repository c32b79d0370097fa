use Rattle.elan_tree.specs.declared.phrase.Expr.TheFolds.{the_lemmas}
use Rattle.std.proofs.Common.{arith}
use Rattle.elan_grammar.specs.Units as units
use Rattle.phrase_parser.proofs.phrases.Phrases.assigned.Goals as goal

pub returns-in_err-left : goal.returns-in_err-left
unfolding units.assigned
returns-in_err-left g c = grind arith

pub returns : goal.returns
unfolding units.assigned
returns g c = grind (arith, the_lemmas)
