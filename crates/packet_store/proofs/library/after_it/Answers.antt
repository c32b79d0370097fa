use Rattle.std.proofs.Common.{◌≡◌, sym, ap, ◌∙◌, subst}
use Rattle.elan_scope.specs.declared.env.Env.{Env}
use Rattle.units.specs.Packets.{after}
use Rattle.elan_check.specs.Packets.{AreCompiled}
use Rattle.packet_store.proofs.Behind.{compiled_behind, ok_so}
use Rattle.packet_store.proofs.library.after_it.Goals as goal

pub returns-clause-compiled : goal.returns-clause-compiled
returns-clause-compiled c =
    let u = c.compiled-compiled.result.now in
    let i = c.in-Some.interface in
    let same : c.in_ok-after-in-Some.after ≡ after u.packets i u.core c.args.number =
    c.in_ok-after-in-Some.ensures ∙ ap (λ (e : Env). after e i u.core c.args.number) c.get-packets.ensures in
    let made = subst AreCompiled (sym same) (compiled_behind u i c.args.number c.compiled-compiled.ensures.unit c.in-Some.is) in
    ok_so AreCompiled c.new.result c.in_ok-after-in-Some.after made c.new.ensures
