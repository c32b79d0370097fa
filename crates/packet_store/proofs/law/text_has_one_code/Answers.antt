use Rattle.std.proofs.Common.{sym, subst}
use Rattle.elan_types.specs.declared.core_phrase.Core.{Core}
use Rattle.code_gen.specs.Codes.{IsCodeOf}
use Rattle.packet_store.proofs.law.text_has_one_code.Goals as goal

pub returns : goal.returns
returns c = λ env packet text u v p q f g i j.
    c.one_code.ensures u.core p q i (subst (λ (core : Core). IsCodeOf core q) (sym (c.one_unit.ensures env packet text u v f g).0) j)
