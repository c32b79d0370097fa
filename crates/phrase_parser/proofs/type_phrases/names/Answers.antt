use Rattle.std.proofs.Common.{arith}
use Rattle.elan_grammar.specs.Types as types
use Rattle.elan_grammar.proofs.Turns.{turns}
use Rattle.phrase_parser.proofs.type_phrases.names.Goals as goal

pub returns-then-not-goes_on : goal.returns-then-not-goes_on
unfolding types.names
returns-then-not-goes_on c = grind (arith, turns)

pub returns-in_err-names-2 : goal.returns-in_err-names-2
unfolding types.names
returns-in_err-names-2 c = grind (arith, turns)

pub loop-turn-preserved : goal.loop-turn-preserved
unfolding types.names
loop-turn-preserved c = grind (arith, turns)

pub returns : goal.returns
unfolding types.names
returns c = grind (arith, turns)
