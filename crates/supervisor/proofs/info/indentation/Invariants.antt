use Rattle.std.proofs.Common.{◌≡◌, ◌*◌, replicate}
use Rattle.supervisor.proofs.info.indentation.Given as goal

-- two blanks for each level so far
abbrev pub invariant-loop : goal.invariant-loop
invariant-loop l = l.line ≡ replicate (l.counter * 2) 32
