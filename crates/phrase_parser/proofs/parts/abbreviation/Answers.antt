use Rattle.std.proofs.Common.{arith}
use Rattle.elan_grammar.specs.Types as types
use Rattle.phrase_parser.proofs.parts.abbreviation.Goals as goal

pub returns-in_err-name : goal.returns-in_err-name
unfolding types.abbreviation
returns-in_err-name c = grind arith

pub returns : goal.returns
unfolding types.abbreviation
returns c = grind arith
