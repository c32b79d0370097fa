-- What phrases mean, where nothing that stands behind them can change it.
use Rattle.std.specs.Prelude.{Bool, true, false, List, Result, Ok, Err}
use Rattle.elan_meant.specs.declared.meant.Meant.{Meant}
use Rattle.elan_scope.specs.declared.trouble.Trouble.{Trouble}
use Rattle.elan_scope.specs.declared.trouble.Trouble.TheVariants.{NoMemory, Breaks, Hangs}

-- One of them breaks a rule, or memory ran out.
abbrev pub is_over : Result (List Meant) Trouble → Bool
is_over (Ok ms) = false
is_over (Err NoMemory) = true
is_over (Err (Breaks at why)) = true
is_over (Err Hangs) = false
