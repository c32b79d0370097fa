use Rattle.std.proofs.Common.{◌≡◌, map, take}
use Rattle.eu_base.specs.Values.{kind_of}
use Rattle.space_calls.proofs.there.kinds_of.Given as goal

abbrev pub invariant-loop-value : goal.invariant-loop-value
invariant-loop-value l = l.kinds ≡ map kind_of (take l.value-index l.values)
