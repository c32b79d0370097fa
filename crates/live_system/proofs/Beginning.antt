-- A son begins.
use Rattle.std.proofs.Common.{◌≡◌, ℕ, ◌+◌, List, [], ◌∷◌, ◌++◌, length, Option, Some, refl, sym, ap, ◌∙◌, subst}
use Rattle.std.specs.Prelude.{slice_get}
use Rattle.std.specs.Option.{option_map}
use Rattle.std.proofs.lemmas.List.{length-append}
use Rattle.std.proofs.lemmas.Option.{same_Some}
use Rattle.eu_base.specs.declared.value.Kind.{Kind}
use Rattle.live_system.specs.Below.cell_kinds.specs.declared.packet.Packet.{Packet}
use Rattle.live_system.specs.Below.cell_kinds.specs.Kinds.{packet_kinds}
use Rattle.task_numbers.specs.declared.number.TaskNo.{TaskNo}
use Rattle.task_tree.specs.Tree as trees
use Rattle.task_tree.specs.declared.task.Task.{Task}
use Rattle.live_system.specs.Below.units.specs.declared.unit.Compiled.{Compiled}
use Rattle.live_system.specs.Below.units.specs.Library.{Library, started_at}
use Rattle.live_system.specs.Below.task_desk.specs.Desks.{Desk, Makes, moment}
use Rattle.live_system.specs.Below.task_desk.specs.Desks as desks
use Rattle.live_system.specs.Below.system_meaning.specs.Stores.{Store, heir}
use Rattle.live_system.specs.Below.system_meaning.specs.Tasks.{Doing, Idle, Running, Own, now, starting, with_doing}
use Rattle.live_system.specs.Below.system_meaning.specs.Systems.{System, Moment, kept, kept_by, packets, packets_of, with_own, back, on_system}
use Rattle.live_system.specs.Below.system_meaning.specs.Ends.{next, begun}
use Rattle.live_system.specs.Below.system_meaning.specs.Serving.{son_begins}
use Rattle.live_system.specs.Below.live_tasks.specs.Tasks.{Live, Stand}
use Rattle.live_system.specs.Machines.{Machine, StandsAt}
use Rattle.live_packets.specs.Packets.{kinds_in}
use Rattle.live_packets.proofs.Owns.{length_push, given_push, given_at, with_last, found_last}
use Rattle.live_packets.proofs.PacketKinds.{start_packets}
use Rattle.live_system.proofs.Moments.{machine, IsPlace, mine, stepped, back_keeps}

-- the system with one task more
abbrev with_task : List ℕ → TaskNo → Own → System → System
with_task name father son s = record {
  shared = record s.shared { tree = trees.begun name father s.shared.tree };
  owns = s.owns ++ son ∷ [];
}

-- what the son of a task has for itself
abbrev pub son_of : (Store → Doing) → Own → Own
son_of d o = record { packets = o.packets; doing = d (heir (now o.doing)) }

grown : (xs : List Task) (x : Task) → length (xs ++ x ∷ []) ≡ length xs + 1
grown xs x = length-append xs (x ∷ [])

module _ (desk : Desk) (library : Library) (live : Live) (was : Machine) (is : machine desk library live ≡ was) (m : Moment)
    (h : StandsAt (machine desk library live) m) (t : TaskNo) (k : ℕ) (at : IsPlace desk live t (Some k)) (o : Own) (has : slice_get h.owns k ≡ Some o)
    (name : List ℕ) (grew : Desk) (begins : grew ≡ desks.begun name t desk) where
  -- it has this number
  pub number : (son : TaskNo) → son ≡ trees.next desk.tree → son ≡ next m.system
  number son e = e ∙ ap (λ (n : Moment). trees.next n.system.shared.tree) h.is

  pub begins_with : (d : Store → Doing) (later : Live) → Stand (kinds_in library) later (h.owns ++ son_of d o ∷ [])
      → StandsAt (machine grew library later) (on_system (begun name t (d (heir (kept t m.system)))) m)
  begins_with d later stand = record {
    owns = h.owns ++ son_of d o ∷ [];
    is =
        ap (λ (e : Desk). moment e library (h.owns ++ son_of d o ∷ [])) begins
        ∙ ap (λ (n : Moment). on_system (with_task name t (son_of d o)) n) h.is
        ∙ ap
        (λ (p : Option Own). on_system (with_task name t (record { packets = packets_of p; doing = d (heir (kept_by (option_map (λ (x : Own). x.doing) p))) })) m)
        (sym (mine desk library live was is m h t k at o has));
    machine = record {
      as_many =
          length_push h.owns (son_of d o) ∙ ap (λ n. n + 1) h.machine.as_many
          ∙ sym (ap (λ (e : Desk). length e.tree.tasks) begins ∙ grown desk.tree.tasks (trees.task (trees.next desk.tree) name t));
      given = given_push library.last h.owns (son_of d o) h.machine.given (given_at library.last h.owns k o has h.machine.given);
      numbered = h.machine.numbered;
    };
    stand = stand;
  }

  -- and runs a start procedure
  pub runs_with : (unit : Compiled) (between later : Live) → Stand (kinds_in library) between (h.owns ++ son_of (λ s. Idle s) o ∷ []) → (last : ℕ)
      → Some last ≡ Some (length h.owns) → (of : List ℕ) → of ≡ o.packets → (start : ℕ) → started_at library of start ≡ Some unit
      → ((kinds_of : List ℕ → List Kind) (owns : List Own) (own : Own) (store : Store) → Stand kinds_of between owns → slice_get owns last ≡ Some own
      → own.doing ≡ Idle store → packet_kinds unit.core.packets ≡ kinds_of own.packets
      → Stand kinds_of later (with_own last (with_doing (Running (starting unit store))) owns))
      → (son : TaskNo) → son ≡ trees.next desk.tree → (ready : Desk) → Makes (on_system (back son)) grew ready
      → StandsAt (machine ready library later) (on_system (son_begins name t unit) m)
  runs_with unit between later stand last last_is of of_is start started starts son is_next ready makes =
      subst (λ (s : TaskNo). StandsAt (machine ready library later) (on_system (λ n. back s (begun name t (Running (starting unit (heir (kept t m.system)))) n)) m))
      (number son is_next)
      (stepped grew library later (machine grew library later) refl (on_system (back son)) (back_keeps son) ready makes
      (on_system (begun name t (Running (starting unit (heir (kept t m.system))))) m)
      (begins_with (λ s. Running (starting unit s)) later
      (subst (λ (os : List Own). Stand (kinds_in library) later os)
      (ap (λ (n : ℕ). with_own n (with_doing (Running (starting unit (heir (now o.doing))))) (h.owns ++ idle ∷ [])) place
      ∙ with_last h.owns idle (with_doing (Running (starting unit (heir (now o.doing))))))
      (starts (kinds_in library) (h.owns ++ idle ∷ []) idle (heir (now o.doing)) stand
      (subst (λ (n : ℕ). slice_get (h.owns ++ idle ∷ []) n ≡ Some idle) (sym place) (found_last h.owns idle)) refl
      (ap (λ (ps : List Packet). packet_kinds ps) (start_packets library of start unit started) ∙ ap (λ (ns : List ℕ). kinds_in library ns) of_is)))))
    where
      idle : Own
      idle = son_of (λ s. Idle s) o

      place : last ≡ length h.owns
      place = same_Some last (length h.owns) last_is

-- the start procedure, as it is looked up
pub unit_at : (desk : Desk) (library : Library) (live : Live) (was : Machine) (is : machine desk library live ≡ was) (m : Moment)
    (h : StandsAt (machine desk library live) m) (t : TaskNo) (k : ℕ) (at : IsPlace desk live t (Some k)) (o : Own) (has : slice_get h.owns k ≡ Some o)
    (of : List ℕ) → of ≡ o.packets → (start : ℕ) (unit : Option Compiled) → unit ≡ started_at library of start
    → unit ≡ started_at m.system.shared.library (packets t m.system) start
unit_at desk library live was is m h t k at o has of of_is start unit e =
    e ∙ ap (λ (ns : List ℕ). started_at library ns start) of_is
    ∙ ap (λ (p : Option Own). started_at library (packets_of p) start) (sym (mine desk library live was is m h t k at o has))
    ∙ ap (λ (n : Moment). started_at n.system.shared.library (packets t m.system) start) h.is
