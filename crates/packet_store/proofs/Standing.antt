-- Packets stand in later texts, and behind further packets, as they were compiled.
use Rattle.std.proofs.Common.{◌≡◌, ℕ, ◌-◌, length, Bool, List, [], ◌∷◌, ◌++◌, sym, ap, ◌∙◌, append_assoc, append-nil}
use Rattle.std.specs.Prelude.{slice_get}
use Rattle.packet_store.specs.Below.cell_kinds.specs.declared.packet.Packet.{Packet}
use Rattle.packet_store.specs.Below.place_gen.proofs.Cells.{get_left}
use Rattle.packet_store.specs.Below.elan_names.specs.declared.interface.Interface.{Interface}
use Rattle.elan_types.specs.declared.core_phrase.Core.{Core}
use Rattle.elan_types.specs.declared.core_phrase.Body.{Body}
use Rattle.elan_scope.specs.declared.env.Env.{Env}
use Rattle.units.specs.Packets.{after}
use Rattle.packet_store.specs.Meaning.{Means, means}
use Rattle.packet_store.specs.Units.{HasPacket, none, more, Keeps, BodiesKeepTheirNumbers}

pub standing : (env : Env) (i : Interface) (c : Core) (n : ℕ) {packet : Bool} {text : List ℕ} {later : Core} → Means (after env i c n) packet text later
    → HasPacket env c n later
standing env i c n (means t h r m) = (m.packets, m.own, m.bodies)

kept : (env later : Env) (packets : List Packet) (bodies : List Body) → later.packets ≡ env.packets ++ packets → later.bodies ≡ env.bodies ++ bodies
    → Keeps env later
kept env later packets bodies p b = record {
  further_packets = packets;
  packets = p;
  further_bodies = bodies;
  bodies = b;
  numbers = λ k x e. ap (λ bs. slice_get bs k) b ∙ get_left env.bodies bodies k x e;
}

pub keeping : BodiesKeepTheirNumbers
keeping env later none = kept env env [] [] (sym (append-nil env.packets)) (sym (append-nil env.bodies))
keeping env later (more {later = before} i c n grows is) =
    let k = keeping env before grows in
    let installed : List Packet = record { number = n; variables = c.inserted; bodies = length c.bodies - length before.bodies } ∷ [] in
    kept env later (k.further_packets ++ installed) (k.further_bodies ++ is.means.own)
    (ap (λ ps. ps ++ installed) k.packets ∙ append_assoc env.packets k.further_packets installed)
    (is.means.bodies ∙ ap (λ bs. bs ++ is.means.own) k.bodies ∙ append_assoc env.bodies k.further_bodies is.means.own)
