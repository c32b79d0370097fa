use Rattle.std.proofs.Common.{sym, subst}
use Rattle.elan_types.specs.declared.core_phrase.Action.{Action}
use Rattle.elan_scope.specs.Ruled.{Ruled}
use Rattle.elan_scope.specs.Answer.{Is}
use Rattle.elan_rules.proofs.Stores.{stored_fails, stored_is}
use Rattle.elan_rules.proofs.store.stored.Goals as goal

pub returns-in-Err : goal.returns-in-Err
returns-in-Err c = stored_fails c.args.at c.args.left c.args.right c.in-Err.trouble c.in-Err.ensures

pub returns-in-Ok-variable : goal.returns-in-Ok-variable
returns-in-Ok-variable c =
    subst (λ (r : Ruled Action). Is c.given_to.result r)
    (sym (stored_is c.args.at c.args.left c.args.right (c.in-Ok.is_space, c.in-Ok.shape) c.in-Ok-variable.place c.in-Ok.ensures c.in-Ok-variable.ensures))
    c.given_to.ensures
