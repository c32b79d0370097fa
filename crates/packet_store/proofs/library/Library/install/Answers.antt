use Rattle.std.proofs.Common.{◌<◌, ◌+◌, List, [], ◌∷◌, ◌++◌, length, refl, sym, ap, subst, ◌∙◌, arith}
use Rattle.std.proofs.lemmas.Grind.{common_steps}
use Rattle.elan_scope.specs.declared.env.Env.{Env}
use Rattle.units.specs.Packets.{after}
use Rattle.units.specs.Library.{Live}
use Rattle.units.specs.declared.library.TheConstants.{PACKETS}
use Rattle.units.specs.Library as spec
use Rattle.packet_store.proofs.Growing.{some_of, installed_is}
use Rattle.packet_store.proofs.library.Library.install.Goals as goal

pub invariant_of-self-2 : goal.invariant_of-self-2
invariant_of-self-2 c =
    let i = some_of c.args.unit.shown c.requires in
    let old : spec.Library = record { live = c.self.inside.live.items; last = c.self.inside.last } in
    let room : length old.live < PACKETS = grind (arith, common_steps, c.if-len-eq-PACKETS.false, c.len.ensures, c.self.invariant.few) in
    subst (λ (ls : List Live). spec.IsLibrary (record { live = ls; last = old.last + 1 })) (sym c.in_ok-add.ensures.added)
    (installed_is old _ c.self.invariant room
    (subst (λ (l : Live). spec.IsLive (old.last + 1) l) (sym (c.in_ok-live.ensures i.0 i.1)) (omega arith, i.0, i.1, refl)))

pub returns-clause-installed : goal.returns-clause-installed
returns-clause-installed c =
    let u = c.args.unit in
    let i = some_of u.shown c.requires in
    let old : spec.Library = record { live = c.self.inside.live.items; last = c.self.inside.last } in
    let with_it : spec.Library → Env → spec.Library =
    λ z e. record { live = z.live ++ record { number = z.last + 1; unit = u; after = e } ∷ []; last = z.last + 1 } in (
      i.0,
      i.1,
      ap (λ (ls : List Live). record { live = ls; last = old.last + 1 }) c.in_ok-add.ensures.added
          ∙ ap (λ (l : Live). record { live = old.live ++ l ∷ []; last = old.last + 1 }) (c.in_ok-live.ensures i.0 i.1)
          ∙ ap (λ (z : spec.Library). with_it z (after u.packets i.0 u.core (z.last + 1))) c.self.view_is,
    )
