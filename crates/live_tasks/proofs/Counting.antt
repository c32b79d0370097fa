-- What tasks have, one with another.
use Rattle.std.proofs.Common.{◌≡◌, ℕ, ◌+◌, ◌≤◌, true, false, not, List, length, take, map, sum, Option, Some, refl, ap, arith}
use Rattle.std.specs.Prelude.{slice_get}
use Rattle.std.proofs.lemmas.List.{take_all}
use Rattle.std.proofs.lemmas.List.Sums.{sum-map, sum_by_more}
use Rattle.std.proofs.lemmas.Option.{slice_get_within, get_or_from_slice_get}
use Rattle.live_tasks.specs.Below.system_meaning.specs.Tasks.{Doing, Idle, Entering, Running, is_running}
use Rattle.live_tasks.specs.Below.task_texts.specs.Doings.{is_idle, is_entering}

-- the sum of what the first items have, with one item more
pub sum_more : {A : Type 0} (f : A → ℕ) (xs : List A) (i : ℕ) (x : A) → slice_get xs i ≡ Some x
    → sum (map f (take (i + 1) xs)) ≡ sum (map f (take i xs)) + f x
sum_more f xs i x at =
    omega (
      arith,
      sum-map f (take (i + 1) xs),
      sum-map f (take i xs),
      sum_by_more f xs i x (slice_get_within xs i x at),
      ap f (get_or_from_slice_get xs i x x at),
    )

-- and of all
pub sum_all : {A : Type 0} (f : A → ℕ) (xs : List A) (n : ℕ) → length xs ≤ n → sum (map f (take n xs)) ≡ sum (map f xs)
sum_all f xs n low = ap (λ ys. sum (map f ys)) (take_all n xs low)

-- a task that is not idle, and enters no text, runs a command
pub not_idle : (doing : Doing) → false ≡ is_idle doing → not (is_entering doing) ≡ is_running doing
not_idle (Idle store) e = cc
not_idle (Entering name lines store) e = refl
not_idle (Running c) e = refl

pub idle : (doing : Doing) → true ≡ is_idle doing → false ≡ is_running doing
idle (Idle store) e = refl
idle (Entering name lines store) e = refl
idle (Running c) e = cc
