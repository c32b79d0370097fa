use Rattle.std.proofs.Common.{arith}
use Rattle.elan_grammar.specs.Expressions as expressions
use Rattle.phrase_parser.proofs.inner.Inner.otherwise_part.Goals as goal

pub returns-then-not-passes_key : goal.returns-then-not-passes_key
unfolding expressions.otherwise_part
returns-then-not-passes_key g c = grind arith

pub returns : goal.returns
unfolding expressions.otherwise_part
returns g c = grind arith
