-- Numbers of messages are such as variables hold.
use Rattle.std.proofs.Common.{◌≡◌, ℕ, ◌<◌, Bool, true, cond, ap, arith}
use Rattle.std.specs.Prelude.{ℤ, pos}
use Rattle.std.specs.Int.{w16}
use Rattle.std.specs.Int.RustNames.{FitsSigned}
use Rattle.std.proofs.lemmas.Int.{ints}
use Rattle.eu_base.specs.Values.{numbers_of_tasks, task_in}
use Rattle.eu_base.specs.Operations.{in_range, ranged}
use Rattle.eu_base.proofs.Results.{task_back}

pub ranged_same : (z : ℤ) → FitsSigned w16 z → ranged z ≡ z
ranged_same z fits = let e : in_range z ≡ true = grind (arith, ints) in ap (λ (b : Bool). cond b z (pos 0)) e

pub task_same : (n : ℕ) → n < numbers_of_tasks → task_in n ≡ n
task_same n low = task_back n low
