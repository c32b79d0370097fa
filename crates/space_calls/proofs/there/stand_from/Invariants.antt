use Rattle.std.proofs.Common.{◌≡◌, ◌+◌, drop}
use Rattle.eu_base.specs.Shapes.{cell_kinds}
use Rattle.eu_base.specs.SpacePlaces.{begin_with}
use Rattle.space_calls.proofs.there.stand_from.Given as goal

-- it depends on the kinds that are left
abbrev pub invariant-loop-kind : goal.invariant-loop-kind
invariant-loop-kind l =
    (l.place ≡ l.from + l.kind-index)
    × (begin_with l.kinds (drop l.from (cell_kinds l.shape)) ≡ begin_with (drop l.kind-index l.kinds) (drop l.place (cell_kinds l.shape)))
