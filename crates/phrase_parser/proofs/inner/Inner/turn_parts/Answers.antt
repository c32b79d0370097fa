use Rattle.std.proofs.Common.{arith}
use Rattle.elan_grammar.specs.Units as units
use Rattle.phrase_parser.proofs.inner.Inner.turn_parts.Goals as goal

pub returns-in_err-start : goal.returns-in_err-start
unfolding units.turn_parts
returns-in_err-start g c = grind arith

pub returns : goal.returns
unfolding units.turn_parts
returns g c = grind arith
