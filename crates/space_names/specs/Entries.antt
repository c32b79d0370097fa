-- How a directory is kept.
use Rattle.std.specs.Prelude.{ℕ, List, map}
use Rattle.std.specs.declared.vec.Vec.{Vec}
use Rattle.task_numbers.specs.declared.number.SpaceNo.{SpaceNo}

-- the names by their bytes
abbrev pub directory_of : {Z : Type 0} → List (Vec ℕ Z × SpaceNo) → List (List ℕ × SpaceNo)
directory_of es = map (λ e. (e.0.items, e.1)) es
