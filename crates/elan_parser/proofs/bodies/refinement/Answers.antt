use Rattle.std.proofs.Common.{arith}
use Rattle.elan_grammar.specs.Grammar as grammar
use Rattle.elan_parser.proofs.bodies.refinement.Goals as goal

pub returns-in_err-name : goal.returns-in_err-name
unfolding grammar.refinement
returns-in_err-name c = grind arith

pub returns : goal.returns
unfolding grammar.refinement
returns c = grind arith
