use Rattle.std.proofs.Common.{◌≡◌, drop}
use Rattle.space_memory.specs.Live.{space_at}
use Rattle.named_texts.proofs.look.space_under.Given as goal

-- the spaces so far have other numbers
abbrev pub invariant-loop-k : goal.invariant-loop-k
invariant-loop-k l = space_at l.s.0 l.memory.spaces ≡ space_at l.s.0 (drop l.k l.memory.spaces)
