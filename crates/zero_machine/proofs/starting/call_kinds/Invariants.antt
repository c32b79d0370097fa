use Rattle.std.proofs.Common.{◌≡◌, ◌∷◌, take}
use Rattle.eu_base.specs.declared.value.Kind.TheVariants.{Int}
use Rattle.cell_kinds.specs.Kinds.{all_kinds}
use Rattle.zero_machine.proofs.starting.call_kinds.Given as goal

-- two numbers, and the kinds of the shapes so far
abbrev pub invariant-loop-shape : goal.invariant-loop-shape
invariant-loop-shape l = l.made ≡ Int ∷ Int ∷ all_kinds (take l.shape-index l.shape-items)
