use Rattle.std.proofs.Common.{◌≡◌, map, take}
use Rattle.named_texts.proofs.look.names.Given as goal

-- the names so far
abbrev pub invariant-loop-k : goal.invariant-loop-k
invariant-loop-k l = l.names ≡ map (λ entry. entry.0) (take l.k l.memory.names)
