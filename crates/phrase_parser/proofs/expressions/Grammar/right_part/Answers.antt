use Rattle.std.proofs.Common.{arith}
use Rattle.elan_grammar.specs.Expressions as expressions
use Rattle.phrase_parser.proofs.expressions.Grammar.right_part.Goals as goal

pub returns-in_err-below-clause-parses : goal.returns-in_err-below-clause-parses
unfolding expressions.right_part
returns-in_err-below-clause-parses g c = grind arith

pub returns-in_err-joint-clause-parses : goal.returns-in_err-joint-clause-parses
unfolding expressions.right_part
returns-in_err-joint-clause-parses g c = grind arith

pub returns-in_err-joint-2-clause-parses : goal.returns-in_err-joint-2-clause-parses
unfolding expressions.right_part
returns-in_err-joint-2-clause-parses g c = grind arith
