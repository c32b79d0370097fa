-- A text that is run: what it is read as, and that its unit starts.
use Rattle.std.proofs.Common.{◌≡◌, ℕ, Bool, List, Option, Some, None, refl, sym, ap, ◌∙◌, subst}
use Rattle.std.specs.Prelude.{slice_get}
use Rattle.task_numbers.specs.declared.number.TaskNo.{TaskNo}
use Rattle.eu_base.specs.declared.value.Kind.{Kind}
use Rattle.live_system.specs.Below.cell_kinds.specs.declared.packet.Packet.{Packet}
use Rattle.live_system.specs.Below.cell_kinds.specs.Kinds.{packet_kinds}
use Rattle.live_system.specs.Below.elan_scope.specs.declared.env.Env.{Env}
use Rattle.live_system.specs.Below.elan_check.specs.Packets.{AreCompiled}
use Rattle.live_system.specs.Below.packet_store.specs.declared.error.CompileError.{CompileError}
use Rattle.live_system.specs.Below.packet_store.specs.declared.error.CompileError.TheVariants.{NoMemory, Refused}
use Rattle.live_system.specs.Below.units.specs.declared.unit.Compiled.{Compiled}
use Rattle.live_system.specs.Below.units.specs.Library.{Library, env_of}
use Rattle.live_system.specs.Below.packet_store.specs.Meaning.{IsCause}
use Rattle.live_system.specs.Below.packet_store.specs.Units.{IsUnitOf}
use Rattle.live_system.specs.Below.task_desk.specs.Desks.{Desk, Makes}
use Rattle.live_system.specs.Below.system_meaning.specs.Stores.{Store}
use Rattle.live_system.specs.Below.system_meaning.specs.Tasks.{Doing, Idle, Running, Own, starting, with_doing}
use Rattle.live_system.specs.Below.system_meaning.specs.Systems.{Moment, doing, kept, kept_by, packets, packets_of, with_own, does, back, on_system}
use Rattle.live_system.specs.Below.system_meaning.specs.Monitor.{Reading, Compiles, Refuses}
use Rattle.live_system.specs.Below.packet_store.specs.Readings.{ReadsSo, IsReading}
use Rattle.live_system.specs.Below.live_tasks.specs.Tasks.{Live, Stand}
use Rattle.live_system.specs.Machines.{Machine, StandsAt}
use Rattle.live_packets.specs.Packets.{kinds_in}
use Rattle.live_system.specs.Texts.{RunsText}
use Rattle.live_packets.specs.Packets.{IsSaidOf}
use Rattle.live_packets.proofs.PacketKinds.{core_packets}
use Rattle.live_system.proofs.Moments.{machine, IsPlace, mine, doing_of, changed_as, stepped, back_keeps}

-- the kinds of the packets' variables, as a text sees them
pub unit_kinds : (env : Env) (packet : Bool) (text : List ℕ) (unit : Compiled) → IsUnitOf env packet text unit
    → packet_kinds unit.core.packets ≡ packet_kinds env.packets
unit_kinds env packet text unit h = ap (λ (ps : List Packet). packet_kinds ps) (core_packets env packet text unit.core h.means)

-- a text behind packets has one reading
abbrev pub OneReading : Type 0
OneReading = (env : Env) → AreCompiled env → (packet : Bool) → (text : List ℕ) → (a : Reading) → (b : Reading)
    → ReadsSo env packet text a → ReadsSo env packet text b → a ≡ b

module _ (one : OneReading) (read : Env → Bool → List ℕ → Reading) (reads : IsReading read) (desk : Desk) (library : Library) (live : Live) (was : Machine)
    (is : machine desk library live ≡ was) (m : Moment) (h : StandsAt (machine desk library live) m) (t : TaskNo) (k : ℕ)
    (at : IsPlace desk live t (Some k)) (o : Own) (has : slice_get h.owns k ≡ Some o) (packet : Bool) (text : List ℕ) (of : List ℕ)
    (of_is : of ≡ o.packets) (compiled : AreCompiled (env_of library of)) where
  -- what the text is read as
  read_as : (a : Reading) → ReadsSo (env_of library of) packet text a → a ≡ read (env_of m.system.shared.library (packets t m.system)) packet text
  read_as a so =
      one (env_of library of) compiled packet text a (read (env_of library of) packet text) so (reads (env_of library of) packet text compiled)
      ∙ ap (λ (ns : List ℕ). read (env_of library ns) packet text) of_is
      ∙ ap (λ (p : Option Own). read (env_of library (packets_of p)) packet text) (sym (mine desk library live was is m h t k at o has))
      ∙ ap (λ (n : Moment). read (env_of n.system.shared.library (packets t m.system)) packet text) h.is

  -- it is refused
  pub refuses : (cause : CompileError) (said : List ℕ) → IsCause (env_of library of) packet text cause → IsSaidOf cause text said → (new : Machine) → StandsAt new m
      → RunsText (read (env_of m.system.shared.library (packets t m.system)) packet text) new t text m (Some said)
  refuses NoMemory said refused never new stands = absurd never
  refuses (Refused refusal) said refused is' new stands =
      subst (λ (r : Reading). RunsText r new t text m (Some said)) (read_as (Refuses refusal) refused)
      (ap (λ (bytes : List ℕ). Some bytes) is', stands)

  -- its unit starts
  pub starts : (unit : Compiled) → IsUnitOf (env_of library of) packet text unit → (store : Store) → doing t m.system ≡ Some (Idle store) → (later : Live)
      → ((kinds_of : List ℕ → List Kind) (owns : List Own) (own : Own) (store : Store) → Stand kinds_of live owns → slice_get owns k ≡ Some own
      → own.doing ≡ Idle store → packet_kinds unit.core.packets ≡ kinds_of own.packets
      → Stand kinds_of later (with_own k (with_doing (Running (starting unit store))) owns))
      → (ready : Desk) → Makes (on_system (back t)) desk ready
      → RunsText (read (env_of m.system.shared.library (packets t m.system)) packet text) (machine ready library later) t text m None
  starts unit so store does_so later start ready makes =
      subst (λ (r : Reading). RunsText r (machine ready library later) t text m None) (read_as (Compiles unit) so) (
        refl,
        subst (λ (s : Store). StandsAt (machine ready library later) (on_system (λ n. back t (does t (Running (starting unit s)) n)) m)) (sym keeps)
            (stepped desk library later (machine desk library later) refl (on_system (back t)) (back_keeps t) ready makes
            (on_system (does t (Running (starting unit store))) m)
            (changed_as desk library live was is m h (with_doing (Running (starting unit store))) (λ o'. refl) t k at later
            (start (kinds_in library) h.owns o store h.stand has idle
            (unit_kinds (env_of library of) packet text unit so ∙ ap (λ (ns : List ℕ). kinds_in library ns) of_is)))),
      )
    where
      idle : o.doing ≡ Idle store
      idle = doing_of t m.system o (Idle store) (mine desk library live was is m h t k at o has) does_so

      keeps : kept t m.system ≡ store
      keeps = ap (λ (d : Option Doing). kept_by d) does_so
