use Rattle.std.proofs.Common.{arith}
use Rattle.elan_grammar.specs.Expressions as expressions
use Rattle.elan_grammar.proofs.Turns.{turns}
use Rattle.elan_grammar.proofs.Starts.{longer_starts}
use Rattle.phrase_parser.proofs.expressions.Grammar.prim.Goals as goal

pub returns-in_err-of-2 : goal.returns-in_err-of-2
unfolding expressions.prim
returns-in_err-of-2 g c = grind (arith, turns, longer_starts)

pub loop-turn-preserved : goal.loop-turn-preserved
unfolding expressions.prim
loop-turn-preserved g c = grind (arith, turns, longer_starts)

pub returns : goal.returns
unfolding expressions.prim
returns g c = grind (arith, turns)
