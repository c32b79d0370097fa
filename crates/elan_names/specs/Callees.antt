-- What is called.
use Rattle.std.specs.Prelude.{ℕ}
use Rattle.elan_names.specs.declared.predefined.Predefined.{Predefined as Name}

pub data Callee : Type 0 where
  Predefined : Name → Callee
  -- the PROC or OP with this number
  Body : ℕ → Callee
