use Rattle.std.proofs.Common.{arith}
use Rattle.elan_grammar.specs.Grammar as grammar
use Rattle.elan_grammar.proofs.Turns.{turns}
use Rattle.elan_parser.proofs.texts.export_list.Goals as goal

pub returns-then-not-passes_sign : goal.returns-then-not-passes_sign
unfolding grammar.export_list
returns-then-not-passes_sign c = grind (arith, turns)

pub returns-in_err-row-2 : goal.returns-in_err-row-2
unfolding grammar.export_list
returns-in_err-row-2 c = grind (arith, turns)

pub loop-turn-preserved : goal.loop-turn-preserved
unfolding grammar.export_list
loop-turn-preserved c = grind (arith, turns)

pub returns : goal.returns
unfolding grammar.export_list
returns c = grind (arith, turns)
