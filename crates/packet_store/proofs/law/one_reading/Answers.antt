use Rattle.packet_store.proofs.OneReading.{Laws, one_reading}
use Rattle.packet_store.proofs.law.one_reading.Goals as goal

pub returns-clause-one : goal.returns-clause-one
returns-clause-one c = λ env compiled packet text a b f g.
    let laws : Laws = record {
      not_both = c.one_meaning.ensures.not_both;
      one_refusal = c.one_meaning.ensures.one_refusal;
      one_unit = c.one_unit.ensures;
    } in
    one_reading laws env packet text a b f g

pub returns-clause-agree : goal.returns-clause-agree
returns-clause-agree c = λ read other f g env compiled packet text.
    let laws : Laws = record {
      not_both = c.one_meaning.ensures.not_both;
      one_refusal = c.one_meaning.ensures.one_refusal;
      one_unit = c.one_unit.ensures;
    } in
    one_reading laws env packet text (read env packet text) (other env packet text) (f env packet text compiled) (g env packet text compiled)
