use Rattle.std.proofs.Common.{IfOk, subst, ◌≡◌}
use Rattle.elan_names.specs.declared.interface.Interface.{Interface}
use Rattle.elan_check.proofs.Scopes.{interface_is}
use Rattle.elan_check.proofs.packets.interface_of.Goals as goal

pub returns : goal.returns
returns c =
    subst (λ (w : Interface). IfOk c.shown_in.result (λ i. i ≡ w))
    (interface_is c.args.env.now c.args.tree.now c.level_in.result.now c.exports_in.result.now c.in_ok-shown.shown c.level_in.ensures
    c.exports_in.ensures c.in_ok-shown.ensures)
    c.shown_in.ensures
