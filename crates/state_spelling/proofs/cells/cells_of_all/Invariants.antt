use Rattle.std.proofs.Common.{◌≡◌, length, take}
use Rattle.std.specs.Prelude.{flat_map}
use Rattle.code_form.specs.Program.{cell_uses}
use Rattle.state_spelling.proofs.cells.cells_of_all.Given as goal

-- the cells of the parameters so far
abbrev pub invariant-loop-parameter : goal.invariant-loop-parameter
invariant-loop-parameter l = l.cells ≡ length (flat_map cell_uses (take l.parameter-index l.parameters))
