use Rattle.std.proofs.Common.{◌++◌, List, ap, sym, ◌∙◌}
use Rattle.std.proofs.lemmas.List.{drop_all}
use Rattle.elan_walk.specs.declared.definition.Definition.{Definition}
use Rattle.type_names.specs.Types.{look}
use Rattle.type_names.specs.walks.Further.{settled_from}
use Rattle.type_names.proofs.Order.{settled_end}
use Rattle.type_names.proofs.resolve.are_settled.Goals as goal

pub returns : goal.returns
returns c =
    let sees = look (c.args.names.now ++ c.args.around.names.now) in
    let number = c.loop-number.number in
    c.is_empty.ensures ∙ sym (settled_end c.args.around.first sees number c.loop-number.rest.now)
    ∙ sym (ap (λ (es : List Definition). settled_from c.args.around.first sees number c.loop-number.rest.now es)
    (drop_all number c.args.definitions.now c.loop-number-test.false))
    ∙ c.loop-number.invariant
