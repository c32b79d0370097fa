use Rattle.std.proofs.Common.{arith}
use Rattle.elan_grammar.proofs.Turns.{turns}
use Rattle.elan_grammar.proofs.Deepest.{deepens}
use Rattle.phrase_parser.proofs.phrases.Phrases.items.Goals as goal

pub loop-turn-init : goal.loop-turn-init
loop-turn-init g c = grind (arith, deepens)

pub returns-then-not-passes_sign : goal.returns-then-not-passes_sign
returns-then-not-passes_sign g c = grind (arith, turns)

pub loop-turn-preserved : goal.loop-turn-preserved
loop-turn-preserved g c = grind (arith, turns, deepens)

pub returns : goal.returns
returns g c = grind (arith, turns)
