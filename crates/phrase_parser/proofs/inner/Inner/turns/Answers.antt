use Rattle.std.proofs.Common.{arith}
use Rattle.elan_grammar.specs.Units as units
use Rattle.phrase_parser.proofs.LoopDepth.{loop_depth}
use Rattle.phrase_parser.proofs.inner.Inner.turns.Goals as goal

pub returns-in_err-before : goal.returns-in_err-before
unfolding units.turns
returns-in_err-before g c = grind arith

pub returns : goal.returns
unfolding units.turns
returns g c = grind (arith, loop_depth)
