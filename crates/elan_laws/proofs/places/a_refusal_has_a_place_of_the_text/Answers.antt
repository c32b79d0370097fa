use Rattle.elan_laws.proofs.Refusal.{phrase_at_place, refused_at_place}
use Rattle.elan_laws.proofs.places.a_refusal_has_a_place_of_the_text.Goals as goal

pub returns-clause-phrase : goal.returns-clause-phrase
returns-clause-phrase c = λ env t f h. phrase_at_place env t f h

pub returns-clause-refused : goal.returns-clause-refused
returns-clause-refused c = λ env t f h. refused_at_place env t f h
