-- What a unit stands behind was compiled in order, and so was what stands behind it where it is a packet.
use Rattle.std.proofs.Common.{◌≡◌, ℕ, Option, Some, None, Result, Ok, Err, sym, subst}
use Rattle.std.specs.Prelude.{option_map, IfOk}
use Rattle.packet_store.specs.Below.elan_names.specs.declared.interface.Interface.{Interface}
use Rattle.elan_types.specs.declared.core_phrase.Core.{Core}
use Rattle.elan_scope.specs.declared.env.Env.{Env}
use Rattle.units.specs.Packets.{after}
use Rattle.elan_check.specs.Packets.{AreCompiled, IsPacket, behind}
use Rattle.units.specs.declared.unit.Compiled.{Compiled}
use Rattle.units.specs.Starts.{start_at, start_unit_of}
use Rattle.packet_store.specs.Units.{IsUnit, of_text, of_start, Shows}

pub are_compiled : (u : Compiled) → IsUnit u → AreCompiled u.packets
are_compiled u (of_text packet text compiled is) = compiled
are_compiled u (of_start packet number n compiled is) = compiled

-- a start procedure shows nothing
starts_show_nothing : (env : Env) (packet number : ℕ) (core : Option Core) (u : Compiled) (i : Interface)
    → option_map (start_unit_of env packet number) core ≡ Some u → u.shown ≡ Some i → ⊥
starts_show_nothing env packet number None u i e s = cc
starts_show_nothing env packet number (Some core) u i e s = cc

pub is_packet : (u : Compiled) (i : Interface) → IsUnit u → u.shown ≡ Some i → IsPacket u.packets i u.core
is_packet u i (of_text packet text compiled is) s = subst (Shows u.packets u.core) s is.shows
is_packet u i (of_start packet number n compiled is) s =
    absurd (starts_show_nothing u.packets packet number (start_at u.packets n) u i is s)

pub compiled_behind : (u : Compiled) (i : Interface) (n : ℕ) → IsUnit u → u.shown ≡ Some i → AreCompiled (after u.packets i u.core n)
compiled_behind u i n is s = behind u.packets i u.core n (are_compiled u is) (is_packet u i is s)

-- what holds of a value holds of what was made as it
pub ok_so : {A E : Type 0} (P : A → Type 0) (r : Result A E) (x : A) → P x → IfOk r (λ made. made ≡ x) → IfOk r P
ok_so P (Ok made) x p e = subst P (sym e) p
ok_so P (Err q) x p e = tt
