use Rattle.std.proofs.Common.{arith}
use Rattle.elan_grammar.specs.Units as units
use Rattle.phrase_parser.proofs.inner.Inner.counted.Goals as goal

pub returns-in_err-at : goal.returns-in_err-at
unfolding units.counted
returns-in_err-at g c = grind arith

pub returns-in_err-counter : goal.returns-in_err-counter
unfolding units.counted
returns-in_err-counter g c = grind arith

pub returns : goal.returns
unfolding units.counted
returns g c = grind arith
