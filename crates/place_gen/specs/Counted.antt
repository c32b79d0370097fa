-- A number as far as it is counted: what is more than the largest number of the machine counts as that.
use Rattle.std.specs.Prelude.{ℕ, ◌-◌, ◌^◌, min}

abbrev pub counted : ℕ → ℕ
counted n = min n (2 ^ 64 - 1)
