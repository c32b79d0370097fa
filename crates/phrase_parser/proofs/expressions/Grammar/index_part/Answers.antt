use Rattle.std.proofs.Common.{arith}
use Rattle.elan_grammar.specs.Expressions as expressions
use Rattle.phrase_parser.proofs.expressions.Grammar.index_part.Goals as goal

pub returns-clause-parses : goal.returns-clause-parses
unfolding expressions.index_part
returns-clause-parses g c = grind arith
