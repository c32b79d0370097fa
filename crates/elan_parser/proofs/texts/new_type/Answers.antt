use Rattle.std.proofs.Common.{arith}
use Rattle.elan_grammar.specs.Grammar as grammar
use Rattle.elan_parser.proofs.texts.new_type.Goals as goal

pub returns-in_err-at : goal.returns-in_err-at
unfolding grammar.new_type
returns-in_err-at c = grind arith

pub returns : goal.returns
unfolding grammar.new_type
returns c = grind arith
