use Rattle.elan_check.proofs.Scopes.{shown_is}
use Rattle.elan_check.proofs.packets.shown_in.Goals as goal

pub returns : goal.returns
returns c =
    let parts = c.in_ok-exports.ensures _ _ c.export_names.ensures c.own_types.ensures in
    shown_is c.args.around.first c.args.around.names.now c.args.exports.now c.args.level.now _ _ _ _ parts.0 c.in_ok-names.ensures.0 c.in_ok-names.ensures.1
    parts.1
