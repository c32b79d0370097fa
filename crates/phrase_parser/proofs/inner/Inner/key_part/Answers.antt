use Rattle.std.proofs.Common.{arith}
use Rattle.elan_grammar.specs.Units as units
use Rattle.phrase_parser.proofs.inner.Inner.key_part.Goals as goal

pub returns-then-not-passes_key : goal.returns-then-not-passes_key
unfolding units.key_part
returns-then-not-passes_key g c = grind arith

pub returns : goal.returns
unfolding units.key_part
returns g c = grind arith
