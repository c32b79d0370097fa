use Rattle.std.proofs.Common.{◌≡◌, ◌++◌, drop}
use Rattle.code_gen.proofs.without.same_formals.Given as goal

abbrev pub invariant-loop-formal : goal.invariant-loop-formal
invariant-loop-formal l = l.list ++ drop l.formal-index l.formals ≡ l.formals
