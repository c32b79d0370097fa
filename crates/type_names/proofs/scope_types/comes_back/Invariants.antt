use Rattle.std.proofs.Common.{◌≡◌, drop}
use Rattle.type_names.specs.Faults.{comes_back}
use Rattle.type_names.proofs.scope_types.comes_back.Given as goal

abbrev pub invariant-loop-number : goal.invariant-loop-number
invariant-loop-number l = comes_back l.calls (drop l.number-index l.numbers) l.back ≡ comes_back l.calls l.numbers l.back
