use Rattle.std.proofs.Common.{sym, subst}
use Rattle.elan_scope.specs.declared.env.Env.{Env}
use Rattle.elan_check.specs.Packets.{AreCompiled}
use Rattle.packet_store.specs.Units.{IsUnitOf, of_text}
use Rattle.packet_store.proofs.Refusing.{handed_on}
use Rattle.packet_store.proofs.compile.compile_behind.Goals as goal

pub returns-in_err-tree-clause-refused : goal.returns-in_err-tree-clause-refused
returns-in_err-tree-clause-refused c =
    handed_on c.args.packets c.args.packet c.args.text.now c.in_err-tree.field-0.0 c.from_residual.result c.from_residual.ensures
    (c.in_err-tree.ensures.refused c.args.packets)

pub with_code-requires-clause-unit : goal.with_code-requires-clause-unit
with_code-requires-clause-unit c =
    let t = c.in_ok-tree.ensures.tree in
    let u = c.in_ok-compiled.ensures.unit c.args.packet t.0 t.1 t.2 in
    of_text c.args.packet c.args.text.now
    (subst AreCompiled (sym u.packets_are) c.requires.compiled)
    (subst (λ (env : Env). IsUnitOf env c.args.packet c.args.text.now c.in_ok-compiled.field-0) (sym u.packets_are) u)
