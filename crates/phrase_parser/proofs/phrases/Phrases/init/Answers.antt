use Rattle.std.proofs.Common.{arith}
use Rattle.elan_grammar.specs.Units as units
use Rattle.phrase_parser.proofs.phrases.Phrases.init.Goals as goal

pub returns : goal.returns
unfolding units.init
returns g c = grind arith
