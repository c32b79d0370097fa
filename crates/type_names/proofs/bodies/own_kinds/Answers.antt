use Rattle.std.proofs.Common.{List, ◌≡◌, ◌++◌, ap, subst, ◌∙◌}
use Rattle.std.specs.Prelude.{IfOk}
use Rattle.elan_names.specs.declared.entry.Entry.{Entry}
use Rattle.elan_names.specs.declared.type_name.TypeName.{TypeName}
use Rattle.elan_scope.specs.Scope.{variables_of}
use Rattle.type_names.specs.Bodies.{own_names}
use Rattle.type_names.proofs.bodies.own_kinds.Goals as goal

pub returns : goal.returns
returns c =
    let around = c.args.around.now in
    let types = c.in_ok-types.ensures in
    let names = c.as_slice.ensures ∙ (c.in_ok-names.ensures ∙ ap (λ (ts : List TypeName). own_names (ts ++ around) c.args.body.now) types) in
    subst (λ (es : List Entry). IfOk c.held_kinds.result (λ kinds. kinds ≡ variables_of es)) names c.held_kinds.ensures
