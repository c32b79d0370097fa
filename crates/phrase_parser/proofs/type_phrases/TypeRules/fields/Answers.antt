use Rattle.std.proofs.Common.{arith}
use Rattle.elan_grammar.specs.Types as types
use Rattle.elan_grammar.proofs.Turns.{turns}
use Rattle.elan_grammar.proofs.Deepest.{deepens}
use Rattle.phrase_parser.proofs.type_phrases.TypeRules.fields.Goals as goal

pub loop-turn-init : goal.loop-turn-init
unfolding types.fields
loop-turn-init g c = grind (arith, deepens)

pub returns-then-not-passes_sign : goal.returns-then-not-passes_sign
unfolding types.fields
returns-then-not-passes_sign g c = grind (arith, turns)

pub loop-turn-preserved : goal.loop-turn-preserved
unfolding types.fields
loop-turn-preserved g c = grind (arith, turns, deepens)

pub returns : goal.returns
unfolding types.fields
returns g c = grind (arith, turns)
