use Rattle.elan_grammar.proofs.PlaceLaws.{some_place, one_place}
use Rattle.elan_grammar.proofs.law.one_place.Goals as goal

pub returns-clause-some : goal.returns-clause-some
returns-clause-some c = λ p tokens. some_place p tokens

pub returns-clause-one : goal.returns-clause-one
returns-clause-one c = λ p tokens n m is also. one_place p tokens n m is also
