use Rattle.std.proofs.Common.{arith}
use Rattle.elan_grammar.specs.Units as units
use Rattle.phrase_parser.proofs.inner.Inner.counter.Goals as goal

pub returns-in_err-name : goal.returns-in_err-name
unfolding units.counter
returns-in_err-name g c = grind arith
