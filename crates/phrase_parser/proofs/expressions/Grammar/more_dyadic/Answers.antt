use Rattle.std.proofs.Common.{arith}
use Rattle.elan_grammar.proofs.Turns.{turns}
use Rattle.elan_grammar.proofs.Starts.{dyadic_starts}
use Rattle.phrase_parser.proofs.expressions.Grammar.more_dyadic.Goals as goal

pub returns-then-not-sees_joint : goal.returns-then-not-sees_joint
returns-then-not-sees_joint g c = grind (arith, turns, dyadic_starts)

pub returns-in_err-left : goal.returns-in_err-left
returns-in_err-left g c = grind (arith, turns, dyadic_starts)

pub loop-turn-preserved : goal.loop-turn-preserved
loop-turn-preserved g c = grind (arith, turns, dyadic_starts)

pub returns : goal.returns
returns g c = grind (arith, turns)
