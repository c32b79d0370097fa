use Rattle.std.proofs.Common.{arith}
use Rattle.elan_tree.specs.declared.phrase.Expr.TheFolds.{the_lemmas}
use Rattle.elan_grammar.specs.Units as units
use Rattle.phrase_parser.proofs.phrases.Phrases.statement.Goals as goal

pub returns-in_err-a : goal.returns-in_err-a
unfolding units.statement units.assigned
returns-in_err-a g c = grind arith

pub returns-then-sees_sign : goal.returns-then-sees_sign
unfolding units.statement units.assigned
returns-then-sees_sign g c = grind arith

pub returns : goal.returns
unfolding units.statement units.assigned
returns g c = grind (arith, the_lemmas)
