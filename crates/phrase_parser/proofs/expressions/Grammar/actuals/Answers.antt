use Rattle.std.proofs.Common.{arith}
use Rattle.elan_grammar.specs.Expressions as expressions
use Rattle.elan_grammar.proofs.Turns.{turns}
use Rattle.elan_grammar.proofs.Deepest.{deepens}
use Rattle.phrase_parser.proofs.expressions.Grammar.actuals.Goals as goal

pub loop-turn-init : goal.loop-turn-init
unfolding expressions.actuals
loop-turn-init g c = grind (arith, deepens)

pub returns-then-not-passes_sign : goal.returns-then-not-passes_sign
unfolding expressions.actuals
returns-then-not-passes_sign g c = grind (arith, turns)

pub loop-turn-preserved : goal.loop-turn-preserved
unfolding expressions.actuals
loop-turn-preserved g c = grind (arith, turns, deepens)

pub returns : goal.returns
unfolding expressions.actuals
returns g c = grind (arith, turns)
