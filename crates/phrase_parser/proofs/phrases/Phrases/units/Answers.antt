use Rattle.std.proofs.Common.{arith}
use Rattle.elan_grammar.specs.Units as units
use Rattle.elan_grammar.proofs.Turns.{turns}
use Rattle.elan_grammar.proofs.Deepest.{deepens}
use Rattle.phrase_parser.proofs.phrases.Phrases.units.Goals as goal

pub loop-turn-init : goal.loop-turn-init
unfolding units.units
loop-turn-init g c = grind (arith, deepens)

pub returns-then-not-passes_sign : goal.returns-then-not-passes_sign
unfolding units.units
returns-then-not-passes_sign g c = grind (arith, turns)

pub loop-turn-preserved : goal.loop-turn-preserved
unfolding units.units
loop-turn-preserved g c = grind (arith, turns, deepens)

pub returns : goal.returns
unfolding units.units
returns g c = grind (arith, turns)
