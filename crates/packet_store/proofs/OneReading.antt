-- A text has one reading behind packets.
use Rattle.std.proofs.Common.{◌≡◌, ℕ, Bool, List, Option, sym, ap, ◌∙◌}
use Rattle.elan_scope.specs.declared.env.Env.{Env}
use Rattle.packet_store.specs.Below.elan_names.specs.declared.interface.Interface.{Interface}
use Rattle.elan_types.specs.declared.core_phrase.Core.{Core}
use Rattle.units.specs.declared.error.Refusal.{Refusal}
use Rattle.units.specs.declared.unit.Source.{Source}
use Rattle.units.specs.declared.unit.Source.TheVariants.{Text}
use Rattle.units.specs.declared.unit.Compiled.{Compiled}
use Rattle.packet_store.specs.Meaning.{Means, IsRefused}
use Rattle.packet_store.specs.Units.{IsUnitOf}
use Rattle.units.specs.Reading.{Reading, Compiles, Refuses}
use Rattle.packet_store.specs.Readings.{ReadsSo}

-- what holds of a text behind packets
pub record Laws : Type 0 where
  pub not_both : (env : Env) (packet : Bool) (text : List ℕ) (c : Core) (r : Refusal) → Means env packet text c → IsRefused env packet text r → ⊥
  pub one_refusal : (env : Env) (packet : Bool) (text : List ℕ) (q r : Refusal) → IsRefused env packet text q → IsRefused env packet text r → q ≡ r
  pub one_unit : (env : Env) (packet : Bool) (text : List ℕ) (u v : Compiled) → IsUnitOf env packet text u → IsUnitOf env packet text v
      → (u.core ≡ v.core) × (u.shown ≡ v.shown)

-- a unit of a text is what it means and shows
abbrev unit_of : List ℕ → Env → Core → Option Interface → Compiled
unit_of text env core shown = record { source = Text text; packets = env; core = core; shown = shown }

unit_is : (text : List ℕ) (env : Env) (u : Compiled) → u.source ≡ Text text → u.packets ≡ env → u ≡ unit_of text env u.core u.shown
unit_is text env u s p =
    ap (λ (source : Source). record { source = source; packets = u.packets; core = u.core; shown = u.shown }) s
    ∙ ap (λ (packets : Env). unit_of text packets u.core u.shown) p

same_unit : (env : Env) (packet : Bool) (text : List ℕ) (u v : Compiled) → IsUnitOf env packet text u → IsUnitOf env packet text v
    → u.core ≡ v.core → u.shown ≡ v.shown → u ≡ v
same_unit env packet text u v f g c s =
    unit_is text env u f.source_is f.packets_are
    ∙ ap (λ (core : Core). unit_of text env core u.shown) c
    ∙ ap (λ (shown : Option Interface). unit_of text env v.core shown) s
    ∙ sym (unit_is text env v g.source_is g.packets_are)

module _ (laws : Laws) (env : Env) (packet : Bool) (text : List ℕ) where
  pub one_reading : (a b : Reading) → ReadsSo env packet text a → ReadsSo env packet text b → a ≡ b
  one_reading (Compiles u) (Compiles v) f g =
      let e = laws.one_unit env packet text u v f g in
      ap (λ (w : Compiled). Compiles w) (same_unit env packet text u v f g e.0 e.1)
  one_reading (Compiles u) (Refuses r) f g = absurd (laws.not_both env packet text u.core r f.means g)
  one_reading (Refuses r) (Compiles v) f g = absurd (laws.not_both env packet text v.core r g.means f)
  one_reading (Refuses q) (Refuses r) f g = ap (λ (s : Refusal). Refuses s) (laws.one_refusal env packet text q r f g)
