use Rattle.std.proofs.Common.{◌≡◌, length}
use Rattle.std.specs.Prelude.{find}
use Rattle.eu_base.specs.Texts.{stands_at}
use Rattle.zero_ops.proofs.Places.{places}
use Rattle.zero_ops.proofs.search.first_place.Given as goal

-- where it stands, it stands behind the places that were passed
abbrev pub invariant-loop-before : goal.invariant-loop-before
invariant-loop-before l = find (stands_at l.t l.u) (places l.before (length l.t)) ≡ find (stands_at l.t l.u) (places 0 (length l.t))
