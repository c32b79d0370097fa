use Rattle.std.proofs.Common.{arith}
use Rattle.elan_grammar.specs.Grammar as grammar
use Rattle.elan_grammar.proofs.Turns.{turns}
use Rattle.elan_grammar.proofs.Deepest.{deepens}
use Rattle.elan_parser.proofs.texts.level_units.Goals as goal

pub returns-then-not-passes_sign : goal.returns-then-not-passes_sign
unfolding grammar.level_units
returns-then-not-passes_sign c = grind (arith, turns)

pub loop-turn-preserved : goal.loop-turn-preserved
unfolding grammar.level_units
loop-turn-preserved c = grind (arith, turns, deepens)

pub returns : goal.returns
unfolding grammar.level_units
returns c = grind (arith, turns)
