-- Each event leaves a valid system valid.
use Rattle.std.proofs.Common.{ℕ, Bool, List, [], ◌∷◌}
use Rattle.turn_laws.specs.Below.elan_scope.specs.declared.env.Env.{Env}
use Rattle.turn_laws.specs.Below.session_text.specs.declared.events.Event.{Event}
use Rattle.system_meaning.specs.Systems.{System, Moment}
use Rattle.system_meaning.specs.Monitor.{Reading}
use Rattle.packet_store.specs.Readings.{IsReading}
use Rattle.system_meaning.specs.Turns.{turn}
use Rattle.system_meaning.specs.Events.{after, run}
use Rattle.turn_laws.specs.Steady.{AreSteady}
use Rattle.turn_laws.proofs.Beside.{turn_keeps}
use Rattle.turn_laws.proofs.WaitingEvents.{event_keeps}
use Rattle.turn_laws.specs.Valid.{IsValid, IsEvent, AreEvents}
use Rattle.turn_laws.proofs.Kept.{turn_stands, event_stands}
use Rattle.turn_laws.proofs.PlainKept.{turn_plain, event_plain}
use Rattle.turn_laws.proofs.PacketsKept.{Packs, turn_packs, event_packs}

module _ (steady : AreSteady) (read : Env → Bool → List ℕ → Reading) (good : IsReading read) where
  packs_in : (s : System) → IsValid read s → Packs read s
  packs_in s h = record { numbered = h.sound.numbered; packets = h.packets }

  pub turn_valid : (m : Moment) → IsValid read m.system → IsValid read (turn read m).system
  turn_valid m h =
      let keeps = turn_keeps steady read m h.sound h.orderly in
      record {
        sound = keeps.0;
        orderly = keeps.1;
        standing = turn_stands steady read m h.sound h.orderly h.standing;
        plain = turn_plain steady read m h.sound h.orderly h.standing h.plain;
        packets = (turn_packs read steady good m h.sound h.orderly h.standing (packs_in m.system h)).packets;
      }

  pub event_valid : (s : System) (e : Event) → IsEvent e → IsValid read s → IsValid read (after read s e)
  event_valid s e fits h =
      let keeps = event_keeps steady read s e (record { sound = h.sound; order = h.orderly }) in
      record {
        sound = keeps.sound;
        orderly = keeps.order;
        standing = event_stands steady read s e h.sound h.orderly h.standing;
        plain = event_plain steady read s e fits h.sound h.orderly h.standing h.plain;
        packets = (event_packs read steady good s e h.sound h.orderly h.standing (packs_in s h)).packets;
      }

  pub run_valid : (s : System) (es : List Event) → AreEvents es → IsValid read s → IsValid read (run read s es)
  run_valid s [] fits h = h
  run_valid s (e ∷ es) fits h = run_valid (after read s e) es fits.1 (event_valid s e fits.0 h)
