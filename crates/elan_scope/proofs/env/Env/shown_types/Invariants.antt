use Rattle.std.proofs.Common.{◌≡◌, ◌++◌, drop}
use Rattle.std.specs.Prelude.{flat_map}
use Rattle.elan_scope.specs.Shown.{shows, shown_types}
use Rattle.elan_scope.proofs.env.Env.shown_types.Given as goal

abbrev pub invariant-loop-packet : goal.invariant-loop-packet
invariant-loop-packet l =
    l.shown ++ flat_map (λ p. shows p.interface) (drop l.packet-index l.self.inserted) ≡ shown_types l.self
