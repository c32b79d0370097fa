-- The objects in memory.
use Rattle.std.specs.Prelude.{ℕ, Bool, List, Contains}
use Rattle.eu_base.specs.Faults.{next_count}

-- a source: the bytes left, how many it gives at most, the numbers of the calls that fail, how many calls were made and failed
pub record SourceState : Type 0 where
  pub left : List ℕ
  pub piece : ℕ
  pub fails : List ℕ
  pub calls : ℕ
  pub faults : ℕ

-- a sink: the bytes taken, how many it takes at most, the numbers of the calls that fail, how many calls were made and failed
pub record SinkState : Type 0 where
  pub taken : List ℕ
  pub piece : ℕ
  pub fails : List ℕ
  pub calls : ℕ
  pub faults : ℕ
  pub wanted : Bool

-- the number of the next call stands in the list of those that fail
abbrev pub IsListed : List ℕ → ℕ → Type 0
IsListed fails calls = Contains fails (next_count calls)
