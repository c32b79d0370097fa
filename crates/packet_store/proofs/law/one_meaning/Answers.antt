use Rattle.packet_store.proofs.Unique.{Laws, one_meaning, not_both, one_refusal}
use Rattle.packet_store.proofs.Total.{has_outcome}
use Rattle.packet_store.proofs.law.one_meaning.Goals as goal

pub returns-clause-some : goal.returns-clause-some
returns-clause-some c = λ env h packet text. has_outcome env (λ t. (c.each_text_has_one_answer.ensures env h t).answer) packet text

pub returns-clause-one : goal.returns-clause-one
returns-clause-one c = λ env packet text a b m n.
    let laws : Laws = record {
      one_tree = c.one_tree.ensures;
      one_core = c.one_core.ensures;
      one_refusal = c.one_refusal.ensures;
      meant_is_not_refused = c.meant_is_not_refused.ensures;
    } in
    one_meaning laws env packet text m n

pub returns-clause-not_both : goal.returns-clause-not_both
returns-clause-not_both c = λ env packet text a r m f.
    let laws : Laws = record {
      one_tree = c.one_tree.ensures;
      one_core = c.one_core.ensures;
      one_refusal = c.one_refusal.ensures;
      meant_is_not_refused = c.meant_is_not_refused.ensures;
    } in
    not_both laws env packet text m f

pub returns-clause-one_refusal : goal.returns-clause-one_refusal
returns-clause-one_refusal c = λ env packet text q r f g.
    let laws : Laws = record {
      one_tree = c.one_tree.ensures;
      one_core = c.one_core.ensures;
      one_refusal = c.one_refusal.ensures;
      meant_is_not_refused = c.meant_is_not_refused.ensures;
    } in
    one_refusal laws env packet text f g
