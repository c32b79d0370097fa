use Rattle.packet_store.proofs.Unique.{Laws}
use Rattle.packet_store.proofs.OneUnit.{one_unit}
use Rattle.packet_store.proofs.law.one_unit.Goals as goal

pub returns : goal.returns
returns c = λ env packet text u v f g.
    let laws : Laws = record {
      one_tree = c.one_tree.ensures;
      one_core = c.one_core.ensures;
      one_refusal = c.one_refusal.ensures;
      meant_is_not_refused = c.meant_is_not_refused.ensures;
    } in
    one_unit laws env packet text u v f g
