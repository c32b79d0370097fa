-- What a count of faults says of a call.
use Rattle.std.specs.Prelude.{ℕ, ◌≤◌, Result, OnErr}
use Rattle.eu_base.specs.Faults.{Rose}

-- the count never falls, and the call fails only where it rose
pub record HasCause {T E : Type 0} (before now : ℕ) (result : Result T E) : Type 0 where
  pub later : before ≤ now
  pub failed : OnErr result (Rose before now)
