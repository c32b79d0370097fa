-- A packet that is installed, and the kinds of the packets' variables.
use Rattle.std.proofs.Common.{◌≡◌, ℕ, ◌+◌, List, [], ◌∷◌, ◌++◌, Some, sym, ap, ◌∙◌, subst}
use Rattle.std.specs.Prelude.{slice_get}
use Rattle.std.proofs.lemmas.Option.{same_Some}
use Rattle.eu_base.specs.declared.value.Kind.{Kind}
use Rattle.cell_kinds.specs.declared.packet.Packet.{Packet}
use Rattle.cell_kinds.specs.Kinds.{packet_kinds}
use Rattle.live_packets.specs.Below.elan_names.specs.declared.interface.Interface.{Interface}
use Rattle.elan_types.specs.Eval.{World}
use Rattle.live_packets.specs.Below.units.specs.declared.unit.Compiled.{Compiled}
use Rattle.live_packets.specs.Below.units.specs.Library.{Library, IsInstalled}
use Rattle.live_packets.specs.Below.units.specs.Sound.{IsSoundUnit}
use Rattle.live_packets.specs.Below.system_meaning.specs.Stores.{tidied}
use Rattle.live_packets.specs.Below.system_meaning.specs.Tasks.{Command, Idle, Own, store_in, with_doing}
use Rattle.live_packets.specs.Below.system_meaning.specs.Systems.{with_own}
use Rattle.live_packets.specs.Below.system_meaning.specs.Monitor.{installed, with_packet}
use Rattle.live_tasks.specs.Tasks.{Live, Stand, StandOver, AgreeBut}
use Rattle.live_tasks.proofs.Zips.{found_other}
use Rattle.live_packets.specs.Below.system_meaning.specs.Whole.{AreAllGiven, AreNumbered}
use Rattle.live_packets.specs.Packets.{kinds_in}
use Rattle.live_packets.proofs.Owns.{given_at}
use Rattle.live_packets.proofs.PacketKinds.{kinds_before, kinds_new}

-- the unit of a command that is over has the packets of its task
pub over_kinds : (kinds_of : List ℕ → List Kind) (live : Live) (owns : List Own) (k : ℕ) (c : Command) (w : World) → StandOver kinds_of live owns k c w
    → (o : Own) → slice_get owns k ≡ Some o → packet_kinds c.unit.core.packets ≡ kinds_of o.packets
over_kinds kinds_of live owns k c w h o has =
    let task = found_other live.tasks owns k o h.but.as_many has in (h.over task.0 o task.1 has).kinds_are

pub installed_kinds : (unit : Compiled) (i : Interface) (lib : Library) (live : Live) (owns : List Own) (k : ℕ) (c : Command) (w : World)
    → StandOver (kinds_in lib) live owns k c w → (o : Own) → slice_get owns k ≡ Some o → c.unit ≡ unit → IsSoundUnit unit → AreNumbered lib
    → kinds_in (installed unit i lib) (o.packets ++ (lib.last + 1) ∷ []) ≡ kinds_in lib o.packets ++ c.unit.core.inserted
installed_kinds unit i lib live owns k c w h o has is whole numbered =
    kinds_new unit i lib numbered o.packets
    ∙ ap (λ (ps : List Packet). packet_kinds ps ++ unit.core.inserted) (sym whole.packets)
    ∙ ap (λ (u : Compiled). packet_kinds u.core.packets ++ u.core.inserted) (sym is)
    ∙ ap (λ (ks : List Kind). ks ++ c.unit.core.inserted) (over_kinds (kinds_in lib) live owns k c w h o has)

pub installed_agrees : (unit : Compiled) (i : Interface) (lib : Library) (owns : List Own) (k : ℕ) → AreAllGiven lib.last owns
    → AgreeBut (kinds_in lib) (kinds_in (installed unit i lib)) owns k
installed_agrees unit i lib owns k given j o other has = kinds_before unit i lib o.packets (given_at lib.last owns j o has given)

pub installs_so : (unit : Compiled) (lib grown : Library) (i : Interface) (owns : List Own) (k : ℕ) (own : Own) (c : Command) (w : World) → IsSoundUnit unit
    → unit.shown ≡ Some i → c.unit ≡ unit → AreNumbered lib → AreAllGiven lib.last owns → (live : Live) → StandOver (kinds_in lib) live owns k c w
    → slice_get owns k ≡ Some own → IsInstalled lib unit grown → (number : ℕ) → number ≡ lib.last + 1 → (new : Live)
    → ((later : List ℕ → List Kind) → AgreeBut (kinds_in lib) later owns k → later (own.packets ++ number ∷ []) ≡ kinds_in lib own.packets ++ c.unit.core.inserted
    → Stand later new (with_own k (λ o. with_packet number (with_doing (Idle (tidied (store_in w))) o)) owns))
    → (grown ≡ installed unit i lib) × Stand (kinds_in grown) new (with_own k (λ o. with_packet (lib.last + 1) (with_doing (Idle (tidied (store_in w))) o)) owns)
installs_so unit lib grown i owns k own c w whole shows is numbered given live over has (j, showed, made) number next new stands =
    let same : grown ≡ installed unit i lib =
    made ∙ ap (λ (x : Interface). installed unit x lib) (same_Some j i (sym showed ∙ shows)) in (
      same,
      subst (λ (l : Library). Stand (kinds_in l) new (with_own k (λ o. with_packet (lib.last + 1) (with_doing (Idle (tidied (store_in w))) o)) owns)) (sym same)
          (subst (λ (n : ℕ). Stand (kinds_in (installed unit i lib)) new (with_own k (λ o. with_packet n (with_doing (Idle (tidied (store_in w))) o)) owns)) next
          (stands (kinds_in (installed unit i lib)) (installed_agrees unit i lib owns k given)
          (ap (λ (n : ℕ). kinds_in (installed unit i lib) (own.packets ++ n ∷ [])) next
          ∙ installed_kinds unit i lib live owns k c w over own has is whole numbered))),
    )
