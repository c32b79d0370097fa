use Rattle.std.proofs.Common.{◌≡◌, ◌++◌, take}
use Rattle.place_gen.proofs.draft.copy_behind.Given as goal

abbrev pub invariant-loop-kind : goal.invariant-loop-kind
invariant-loop-kind l = l.kinds ≡ l.fn.kinds ++ take l.kind-index l.more
