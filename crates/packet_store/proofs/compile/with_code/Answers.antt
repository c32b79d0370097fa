use Rattle.std.proofs.Common.{sym, subst}
use Rattle.elan_types.specs.declared.core_phrase.Core.{Core}
use Rattle.packet_store.specs.Units.{IsUnit}
use Rattle.packet_store.proofs.compile.with_code.Goals as goal

pub of-requires-clause-unit : goal.of-requires-clause-unit
of-requires-clause-unit c =
    subst (λ (core : Core). IsUnit (record c.args.compiled { core = core })) (sym c.in_ok-code.ensures.core) c.requires.unit
