use Rattle.std.proofs.Common.{arith}
use Rattle.elan_grammar.specs.Expressions as expressions
use Rattle.phrase_parser.proofs.inner.Inner.select_parts.Goals as goal

pub returns-in_err-cases : goal.returns-in_err-cases
unfolding expressions.select_parts
returns-in_err-cases g c = grind arith

pub returns : goal.returns
unfolding expressions.select_parts
returns g c = grind arith
