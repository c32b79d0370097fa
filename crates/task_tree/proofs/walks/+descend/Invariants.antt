use Rattle.std.proofs.Common.{◌≡◌, ◌-◌, ◌++◌, drop}
use Rattle.std.specs.List.{flat_map}
use Rattle.task_numbers.specs.declared.number.TaskNo.{TaskNo}
use Rattle.task_tree.specs.Families as spec
use Rattle.task_tree.proofs.walks.+descend.Given as goal

abbrev pub decreases-descend : goal.decreases-descend
decreases-descend l = l.levels

-- what is added so far, and what the sons that are left add
abbrev pub invariant-loop-son : goal.invariant-loop-son
invariant-loop-son l =
    let below = λ (u : TaskNo). spec.descent (l.levels - 1) u l.tree in
    l.out.items ++ flat_map below (drop l.son-index l.son-items) ≡ l.fn.out.items ++ flat_map below l.son-items
