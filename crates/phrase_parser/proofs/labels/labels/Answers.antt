use Rattle.std.proofs.Common.{arith}
use Rattle.elan_grammar.specs.Types as types
use Rattle.elan_grammar.proofs.Turns.{turns}
use Rattle.phrase_parser.proofs.labels.labels.Goals as goal

pub loop-turn-init : goal.loop-turn-init
unfolding types.labels
loop-turn-init c = grind arith

pub returns-then-not-passes_sign : goal.returns-then-not-passes_sign
unfolding types.labels
returns-then-not-passes_sign c = grind (arith, turns)

pub returns-in_err-row-2 : goal.returns-in_err-row-2
unfolding types.labels
returns-in_err-row-2 c = grind (arith, turns)

pub loop-turn-preserved : goal.loop-turn-preserved
unfolding types.labels
loop-turn-preserved c = grind (arith, turns)

pub returns : goal.returns
unfolding types.labels
returns c = grind (arith, turns)
