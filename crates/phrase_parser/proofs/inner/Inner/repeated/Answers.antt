use Rattle.std.proofs.Common.{arith}
use Rattle.elan_grammar.specs.Units as units
use Rattle.phrase_parser.proofs.inner.Inner.repeated.Goals as goal

pub returns-in_err-below : goal.returns-in_err-below
unfolding units.repeated
returns-in_err-below g c = grind arith

pub returns : goal.returns
unfolding units.repeated
returns g c = grind arith
