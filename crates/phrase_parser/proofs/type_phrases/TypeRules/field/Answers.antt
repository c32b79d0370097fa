use Rattle.std.proofs.Common.{arith}
use Rattle.elan_tree.specs.declared.written_type.TypePhrase.TheFolds.{the_lemmas}
use Rattle.elan_grammar.specs.Types as types
use Rattle.phrase_parser.proofs.type_phrases.TypeRules.field.Goals as goal

pub returns-in_err-of : goal.returns-in_err-of
unfolding types.field
returns-in_err-of g c = grind arith

pub returns : goal.returns
unfolding types.field
returns g c = grind (arith, the_lemmas)
