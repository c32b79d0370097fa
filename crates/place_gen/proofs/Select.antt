-- How long the code of a SELECT is.
use Rattle.std.proofs.Common.{◌≡◌, ◌+◌, List, [], ◌∷◌, arith}
use Rattle.elan_types.specs.Eval.{Labelled}
use Rattle.place_gen.specs.Stretch.{Stretch, select_code, arms_length}

pub select_size : (arms : List (Labelled Stretch)) (other : Stretch) → (select_code arms other).size ≡ arms_length arms + (1 + other.size)
select_size [] other = omega arith
select_size (arm ∷ arms) other = omega (arith, select_size arms other)
