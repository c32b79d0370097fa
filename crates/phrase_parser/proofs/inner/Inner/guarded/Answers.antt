use Rattle.std.proofs.Common.{arith}
use Rattle.elan_grammar.specs.Units as units
use Rattle.phrase_parser.proofs.inner.Inner.guarded.Goals as goal

pub returns-in_err-at : goal.returns-in_err-at
unfolding units.guarded
returns-in_err-at g c = grind arith

pub returns-in_err-a : goal.returns-in_err-a
unfolding units.guarded
returns-in_err-a g c = grind arith

pub returns : goal.returns
unfolding units.guarded
returns g c = grind arith
