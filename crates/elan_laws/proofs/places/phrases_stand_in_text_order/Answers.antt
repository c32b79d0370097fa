use Rattle.elan_laws.proofs.WholeOrder.{text_same, text_leaves_follow}
use Rattle.elan_laws.proofs.TypePlaces.{faults_follow}
use Rattle.elan_laws.proofs.places.phrases_stand_in_text_order.Goals as goal

pub returns-clause-all : goal.returns-clause-all
returns-clause-all c = λ env t. text_same env t

pub returns-clause-judged : goal.returns-clause-judged
returns-clause-judged c = λ env t. text_leaves_follow env t

pub returns-clause-types : goal.returns-clause-types
returns-clause-types c = λ env t. faults_follow env t
