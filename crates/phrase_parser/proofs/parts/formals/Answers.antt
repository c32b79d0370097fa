use Rattle.std.proofs.Common.{arith}
use Rattle.elan_grammar.specs.Types as types
use Rattle.elan_grammar.proofs.Turns.{turns}
use Rattle.elan_grammar.proofs.Deepest.{deepens}
use Rattle.phrase_parser.proofs.parts.formals.Goals as goal

pub loop-turn-init : goal.loop-turn-init
unfolding types.formals
loop-turn-init c = grind (arith, deepens)

pub returns-then-not-passes_sign : goal.returns-then-not-passes_sign
unfolding types.formals
returns-then-not-passes_sign c = grind (arith, turns)

pub loop-turn-preserved : goal.loop-turn-preserved
unfolding types.formals
loop-turn-preserved c = grind (arith, turns, deepens)

pub returns : goal.returns
unfolding types.formals
returns c = grind (arith, turns)
