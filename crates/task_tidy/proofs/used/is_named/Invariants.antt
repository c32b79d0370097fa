use Rattle.std.proofs.Common.{◌≡◌, false, take}
use Rattle.std.specs.Prelude.{◌==◌}
use Rattle.std.specs.List.{list_any}
use Rattle.task_tidy.proofs.used.is_named.Given as goal

-- no name so far leads to it
abbrev pub invariant-loop-k : goal.invariant-loop-k
invariant-loop-k l = list_any (λ entry. entry.1.0 == l.space.0) (take l.k l.memory.names) ≡ false
