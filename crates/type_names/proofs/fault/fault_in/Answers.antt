use Rattle.std.proofs.Common.{List, None, ◌≡◌, sym, subst, ◌∙◌}
use Rattle.std.specs.Prelude.{flat_map}
use Rattle.elan_tree.specs.declared.tree.LevelUnit.{LevelUnit}
use Rattle.type_names.specs.Faults.{unit_faults, first_fault}
use Rattle.type_names.proofs.Searched.{level_none}
use Rattle.type_names.proofs.fault.fault_in.Goals as goal

pub returns-in-None : goal.returns-in-None
returns-in-None c = λ ds d r k.
    let here = c.args.here in
    level_none here c.args.level.now ds c.refinements_fault.result d r k
    (subst (λ (us : List LevelUnit). None ≡ first_fault (flat_map (unit_faults here.around.first here.around.names.now ds here.refined.now) us))
    c.as_slice.ensures (sym c.in-None.is ∙ c.in_ok-fault.ensures ds k))
    c.refinements_fault.ensures
