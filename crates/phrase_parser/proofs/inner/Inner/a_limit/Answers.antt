use Rattle.std.proofs.Common.{arith}
use Rattle.elan_tree.specs.declared.phrase.Expr.TheFolds.{the_lemmas}
use Rattle.elan_grammar.specs.Units as units
use Rattle.elan_grammar.proofs.Starts.{of_units}
use Rattle.phrase_parser.proofs.inner.Inner.a_limit.Goals as goal

pub returns-in_ok-a : goal.returns-in_ok-a
unfolding units.a_limit units.upto units.downto
returns-in_ok-a g c = grind (arith, the_lemmas, of_units)

pub returns-in_err-a : goal.returns-in_err-a
unfolding units.a_limit units.upto units.downto
returns-in_err-a g c = grind (arith, the_lemmas, of_units)

pub returns-in_ok-a-2 : goal.returns-in_ok-a-2
unfolding units.a_limit units.upto units.downto
returns-in_ok-a-2 g c = grind (arith, the_lemmas, of_units)

pub returns-in_err-a-2 : goal.returns-in_err-a-2
unfolding units.a_limit units.upto units.downto
returns-in_err-a-2 g c = grind (arith, the_lemmas, of_units)

pub returns-else-passes_key-2 : goal.returns-else-passes_key-2
unfolding units.a_limit units.upto units.downto
returns-else-passes_key-2 g c = grind (arith, the_lemmas, of_units)
