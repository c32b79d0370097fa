use Rattle.std.proofs.Common.{arith}
use Rattle.elan_grammar.specs.Expressions as expressions
use Rattle.elan_grammar.proofs.Turns.{turns}
use Rattle.elan_grammar.proofs.Deepest.{deepens}
use Rattle.phrase_parser.proofs.inner.Inner.branches.Goals as goal

pub loop-turn-init : goal.loop-turn-init
unfolding expressions.branches
loop-turn-init g c = grind (arith, deepens)

pub returns-then-not-passes_key : goal.returns-then-not-passes_key
unfolding expressions.branches
returns-then-not-passes_key g c = grind (arith, turns)

pub loop-turn-preserved : goal.loop-turn-preserved
unfolding expressions.branches
loop-turn-preserved g c = grind (arith, turns, deepens)

pub returns : goal.returns
unfolding expressions.branches
returns g c = grind (arith, turns)
