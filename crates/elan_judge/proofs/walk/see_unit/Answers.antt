use Rattle.std.proofs.Common.{◌≡◌, List, sym, subst}
use Rattle.std.specs.Prelude.{OnOk}
use Rattle.elan_tree.specs.declared.written_type.Formal.{Formal}
use Rattle.elan_tree.specs.declared.tree.LevelUnit.{LevelUnit}
use Rattle.elan_judge.specs.Level.{unit_bodies, inside_units}
use Rattle.elan_judge.specs.walks.Seen.{all_seen}
use Rattle.elan_judge.proofs.walk.see_unit.Goals as goal

pub returns-in-Proc-clause-found : goal.returns-in-Proc-clause-found
returns-in-Proc-clause-found g c =
    let s = c.args.scope.now in
    subst (λ (v : LevelUnit).
    OnOk c.see_routine.result (c.see_routine.new.looks ≡ all_seen g.B.EachBody.after c.args.looks.now c.args.number (unit_bodies s c.args.number v)))
    (sym c.in-Proc.is)
    (subst (λ (fs : List Formal).
    OnOk c.see_routine.result
    (c.see_routine.new.looks ≡ all_seen g.B.EachBody.after c.args.looks.now c.args.number (inside_units s c.args.number c.in-Proc.result fs c.in-Proc.body)))
    c.as_slice.ensures c.see_routine.ensures.found)

pub returns-in-Op-clause-found : goal.returns-in-Op-clause-found
returns-in-Op-clause-found g c =
    let s = c.args.scope.now in
    subst (λ (v : LevelUnit).
    OnOk c.see_routine-in-Op.result
    (c.see_routine-in-Op.new.looks ≡ all_seen g.B.EachBody.after c.args.looks.now c.args.number (unit_bodies s c.args.number v)))
    (sym c.in-Op.is)
    (subst (λ (fs : List Formal).
    OnOk c.see_routine-in-Op.result
    (c.see_routine-in-Op.new.looks ≡ all_seen g.B.EachBody.after c.args.looks.now c.args.number (inside_units s c.args.number c.in-Op.result fs c.in-Op.body)))
    c.as_slice-in-Op.ensures c.see_routine-in-Op.ensures.found)
