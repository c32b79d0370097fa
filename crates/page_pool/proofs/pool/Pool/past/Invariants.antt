use Rattle.std.proofs.Common.{◌≡◌, ◌≤◌, ℕ}
use Rattle.page_pool.specs.Pool.{count_of}
use Rattle.page_pool.proofs.pool.Pool.past.Given as goal

abbrev pub invariant-loop-past : goal.invariant-loop-past
invariant-loop-past l = (p : ℕ) → l.past ≤ p → count_of l.self p ≡ 0

abbrev pub decreases-loop-past : goal.decreases-loop-past
decreases-loop-past l = l.past
