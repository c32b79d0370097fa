use Rattle.std.proofs.Common.{◌+◌, List, subst, drop}
use Rattle.elan_tree.specs.declared.written_type.Formal.{Formal}
use Rattle.elan_walk.proofs.Went.{rest_of}
use Rattle.type_names.specs.Bodies.{parameter_names}
use Rattle.type_names.proofs.Named.{Rest, given_next}
use Rattle.type_names.proofs.bodies.parameter_names.Goals as goal

pub loop-formal-preserved : goal.loop-formal-preserved
loop-formal-preserved c =
    let begun = c.args.out in
    let s = c.loop-formal.out in
    let f = c.formal-item.result in
    let i = c.loop-formal.formal-index in
    let fs = c.args.formals.now in
    let all = parameter_names begun.around.now fs in
    given_next all begun s c.formal_names-out.result f (drop (i + 1) fs)
    (subst (λ (gs : List Formal). Rest (parameter_names begun.around.now gs) all begun s) (rest_of fs i f c.loop-formal-test.true c.formal-item.is)
    c.loop-formal.invariant)
    c.formal_names-out.ensures
