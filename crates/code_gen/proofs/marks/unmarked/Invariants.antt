use Rattle.std.proofs.Common.{◌≡◌, false, replicate}
use Rattle.code_gen.proofs.marks.unmarked.Given as goal

abbrev pub invariant-loop : goal.invariant-loop
invariant-loop l = l.marks ≡ replicate l.counter false
