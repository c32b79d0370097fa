use Rattle.elan_tree.specs.declared.phrase.Expr.TheFolds.{the_lemmas}
use Rattle.std.proofs.Common.{arith}
use Rattle.elan_grammar.specs.Units as units
use Rattle.phrase_parser.proofs.phrases.Phrases.leave.Goals as goal

pub returns-in_err-at : goal.returns-in_err-at
unfolding units.leave
returns-in_err-at g c = grind arith

pub returns-in_err-name : goal.returns-in_err-name
unfolding units.leave
returns-in_err-name g c = grind arith

pub returns : goal.returns
unfolding units.leave
returns g c = grind (arith, the_lemmas)
