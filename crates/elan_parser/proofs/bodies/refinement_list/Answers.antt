use Rattle.std.proofs.Common.{arith}
use Rattle.elan_grammar.specs.Grammar as grammar
use Rattle.elan_grammar.proofs.Turns.{turns}
use Rattle.elan_grammar.proofs.Deepest.{deepens}
use Rattle.elan_parser.proofs.bodies.refinement_list.Goals as goal

pub loop-turn-preserved : goal.loop-turn-preserved
unfolding grammar.refinement_list
loop-turn-preserved c = grind (arith, turns, deepens)

pub returns : goal.returns
unfolding grammar.refinement_list
returns c = grind (arith, turns)

pub loop-turn-init : goal.loop-turn-init
unfolding grammar.refinement_list
loop-turn-init c = grind (arith, deepens)

pub returns-then-not-leads : goal.returns-then-not-leads
unfolding grammar.refinement_list
returns-then-not-leads c = grind (arith, turns)
