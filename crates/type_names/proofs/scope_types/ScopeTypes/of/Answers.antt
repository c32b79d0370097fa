use Rattle.std.proofs.Common.{ap, ◌∙◌}
use Rattle.elan_names.specs.walks.Firsts.{type_names}
use Rattle.type_names.specs.walks.Further.{definition_names}
use Rattle.type_names.proofs.Order.{names_named}
use Rattle.type_names.proofs.scope_types.ScopeTypes.of.Goals as goal

pub invariant_of-result : goal.invariant_of-result
invariant_of-result c =
    record {
      are_named =
          ap type_names c.in_ok-names.ensures.names ∙ names_named c.args.around.first c.args.around.names.now c.as_slice.result.now
          ∙ ap definition_names c.as_slice.ensures;
    }
