use Rattle.std.proofs.Common.{List, ap, ◌∙◌}
use Rattle.elan_names.specs.declared.type_name.TypeName.{TypeName}
use Rattle.type_names.specs.walks.Further.{all_unread, calls_at}
use Rattle.type_names.proofs.Order.{unread_names, calls_are}
use Rattle.type_names.proofs.resolve.resolve.Goals as goal

pub returns-clause-calls : goal.returns-clause-calls
returns-clause-calls c =
    let ds = c.args.definitions.now in
    c.in_ok-calls-2.ensures ∙ c.in_ok-calls.ensures ∙ ap (λ (ts : List TypeName). calls_at ts ds) c.in_ok-unread.ensures
    ∙ calls_are (all_unread ds) ds (unread_names ds)
