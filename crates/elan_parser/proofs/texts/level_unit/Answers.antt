use Rattle.std.proofs.Common.{arith}
use Rattle.elan_grammar.specs.Grammar as grammar
use Rattle.elan_grammar.proofs.Starts.{of_texts}
use Rattle.elan_parser.proofs.texts.level_unit.Goals as goal

pub returns-then-begins_typed : goal.returns-then-begins_typed
unfolding grammar.level_unit
returns-then-begins_typed c = grind (arith, of_texts)

pub returns-then-sees_key : goal.returns-then-sees_key
unfolding grammar.level_unit
returns-then-sees_key c = grind (arith, of_texts)

pub returns-then-sees_key-2 : goal.returns-then-sees_key-2
unfolding grammar.level_unit
returns-then-sees_key-2 c = grind (arith, of_texts)

pub returns-then-sees_key-3 : goal.returns-then-sees_key-3
unfolding grammar.level_unit
returns-then-sees_key-3 c = grind (arith, of_texts)

pub returns-else-sees_key-3 : goal.returns-else-sees_key-3
unfolding grammar.level_unit
returns-else-sees_key-3 c = grind (arith, of_texts)
