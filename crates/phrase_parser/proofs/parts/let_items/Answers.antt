use Rattle.std.proofs.Common.{arith}
use Rattle.elan_grammar.specs.Types as types
use Rattle.elan_grammar.proofs.Turns.{turns}
use Rattle.elan_grammar.proofs.Deepest.{deepens}
use Rattle.phrase_parser.proofs.parts.let_items.Goals as goal

pub loop-turn-init : goal.loop-turn-init
unfolding types.let_items
loop-turn-init c = grind (arith, deepens)

pub returns-then-not-passes_sign : goal.returns-then-not-passes_sign
unfolding types.let_items
returns-then-not-passes_sign c = grind (arith, turns)

pub loop-turn-preserved : goal.loop-turn-preserved
unfolding types.let_items
loop-turn-preserved c = grind (arith, turns, deepens)

pub returns : goal.returns
unfolding types.let_items
returns c = grind (arith, turns)
