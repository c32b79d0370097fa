use Rattle.std.proofs.Common.{◌++◌, List, sym, ◌∙◌}
use Rattle.std.proofs.lemmas.List.{append-nil, at_drop_all}
use Rattle.elan_tree.specs.declared.written_type.Name.{Name}
use Rattle.elan_names.specs.declared.entry.Denotes.TheVariants as denotes
use Rattle.elan_scope.specs.Scope.{all_held}
use Rattle.type_names.specs.Bodies.{named_as}
use Rattle.type_names.proofs.bodies.for_each.Goals as goal

pub returns : goal.returns
returns c =
    sym (append-nil c.loop-name.out)
    ∙ sym (at_drop_all (λ (ns : List Name). c.loop-name.out ++ all_held (named_as ns (denotes.Parameter c.args.parameter.now)))
    c.args.names.now c.loop-name._name-index c.loop-name-test.false)
    ∙ c.loop-name.invariant
