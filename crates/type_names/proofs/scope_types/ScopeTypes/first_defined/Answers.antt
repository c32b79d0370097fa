use Rattle.std.proofs.Common.{Option, sym, ap, ◌∙◌}
use Rattle.std.specs.Prelude.{option_map}
use Rattle.elan_walk.specs.declared.definition.Definition.{Definition}
use Rattle.type_names.specs.walks.Further.{defined_at}
use Rattle.type_names.proofs.Order.{defined_is}
use Rattle.type_names.proofs.scope_types.ScopeTypes.first_defined.Goals as goal

pub returns-in-None : goal.returns-in-None
returns-in-None c =
    let types = c.args.self.now in
    ap (defined_at types.definitions) (sym c.in-None.is ∙ c.place_of.ensures)
    ∙ defined_is types.names types.definitions types.are_named c.args.name.now

pub returns-in-None-get : goal.returns-in-None-get
returns-in-None-get c =
    let types = c.args.self.now in
    ap (λ (o : Option Definition). option_map (λ d. (c.in-Some.number, d)) o) c.in-None-get.ensures.value
    ∙ ap (defined_at types.definitions) (sym c.in-Some.is ∙ c.place_of.ensures)
    ∙ defined_is types.names types.definitions types.are_named c.args.name.now

pub returns-in-Some-get : goal.returns-in-Some-get
returns-in-Some-get c =
    let types = c.args.self.now in
    ap (λ (o : Option Definition). option_map (λ d. (c.in-Some.number, d)) o) c.in-Some-get.ensures.value
    ∙ ap (defined_at types.definitions) (sym c.in-Some.is ∙ c.place_of.ensures)
    ∙ defined_is types.names types.definitions types.are_named c.args.name.now
