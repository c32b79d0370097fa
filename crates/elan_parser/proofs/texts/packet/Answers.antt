use Rattle.std.proofs.Common.{arith}
use Rattle.elan_grammar.specs.Grammar as grammar
use Rattle.elan_parser.proofs.texts.packet.Goals as goal

pub returns-in_err-at : goal.returns-in_err-at
unfolding grammar.packet
returns-in_err-at c = grind arith
