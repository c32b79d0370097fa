use Rattle.std.proofs.Common.{List, ◌++◌, ap, sym, ◌∙◌}
use Rattle.elan_walk.specs.declared.definition.Definition.{Definition}
use Rattle.type_names.specs.Types.{names_of}
use Rattle.type_names.proofs.fault.level_fault.Goals as goal

pub returns : goal.returns
returns c = λ e.
    let seen = e ∙ ap (λ (es : List Definition). names_of c.args.around.first c.args.around.names.now es ++ c.args.around.names.now)
    (sym c.in_ok-level_definitions.ensures) in
    c.fault_in.ensures c.in_ok-level_definitions.field-0 c.in_ok-level_definitions.ensures c.as_slice.ensures (c.in_ok-types.ensures, seen)
