-- A text has one unit.
use Rattle.std.proofs.Common.{◌≡◌, ℕ, Bool, List, sym, ap, ◌∙◌}
use Rattle.elan_scope.specs.declared.env.Env.{Env}
use Rattle.units.specs.declared.unit.Compiled.{Compiled}
use Rattle.packet_store.specs.Units.{IsUnitOf, shown_by}
use Rattle.packet_store.proofs.Unique.{Laws, one_meaning, the_tree}

pub one_unit : Laws → (env : Env) (packet : Bool) (text : List ℕ) (u v : Compiled) → IsUnitOf env packet text u → IsUnitOf env packet text v
    → (u.core ≡ v.core) × (u.shown ≡ v.shown)
one_unit laws env packet text u v f g =
    let a = f.is_shown in
    let b = g.is_shown in (
      one_meaning laws env packet text f.means g.means,
      a.4 ∙ ap (shown_by env) (the_tree laws env packet text a.2 a.3 b.2 b.3) ∙ sym b.4,
    )
