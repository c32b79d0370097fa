use Rattle.std.proofs.Common.{◌≡◌}
use Rattle.elan_meant.specs.Parts.{pairs, odd}
use Rattle.elan_meant.proofs.arity.pairs_of.Given as goal

abbrev pub invariant-loop-part : goal.invariant-loop-part
invariant-loop-part g l = (l.pairs ≡ pairs l.yielded) × (l.first ≡ odd l.yielded)
