use Rattle.std.proofs.Common.{arith}
use Rattle.elan_grammar.specs.Expressions as expressions
use Rattle.elan_grammar.proofs.Turns.{turns}
use Rattle.elan_grammar.proofs.Deepest.{deepens}
use Rattle.elan_grammar.proofs.Starts.{case_starts}
use Rattle.phrase_parser.proofs.inner.Inner.cases.Goals as goal

pub loop-turn-init : goal.loop-turn-init
unfolding expressions.cases
loop-turn-init g c = grind (arith, deepens)

pub returns-then-not-sees_key : goal.returns-then-not-sees_key
unfolding expressions.cases
returns-then-not-sees_key g c = grind (arith, turns, case_starts)

pub loop-turn-preserved : goal.loop-turn-preserved
unfolding expressions.cases
loop-turn-preserved g c = grind (arith, turns, case_starts, deepens)

pub returns : goal.returns
unfolding expressions.cases
returns g c = grind (arith, turns)
