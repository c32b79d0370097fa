use Rattle.std.proofs.Common.{arith}
use Rattle.elan_tree.specs.declared.written_type.TypePhrase.TheFolds.{the_lemmas}
use Rattle.elan_grammar.specs.Types as types
use Rattle.phrase_parser.proofs.type_phrases.TypeRules.structure.Goals as goal

pub returns-in_err-at : goal.returns-in_err-at
unfolding types.structure
returns-in_err-at g c = grind arith

pub returns : goal.returns
unfolding types.structure
returns g c = grind (arith, the_lemmas)
