use Rattle.elan_check.proofs.JudgedScopes.{scope_is}
use Rattle.elan_check.proofs.text_scope.text_scope.Goals as goal

pub returns : goal.returns
returns c =
    scope_is c.args.env.now c.args.tree.now c.level_in-level.result.now c.args.shown.now _ _ _ _ _ _ c.level_in-level.ensures c.requires
    c.in_ok-inserted.ensures c.len.ensures c.in_ok-home_of.ensures c.in_ok-types.ensures c.in_ok-headings.ensures c.in_ok-level_names.ensures
