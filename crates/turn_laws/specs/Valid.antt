-- What a valid system is: all that a record of a system, and its revival, rest on.
use Rattle.std.specs.Prelude.{◌≡◌, ◌≤◌, ◌<◌, ℕ, Bool, true, false, List, [], ◌∷◌, length, Some, None}
use Rattle.std.specs.List.{AllByRecursion, list_any}
use Rattle.turn_laws.specs.Below.task_numbers.specs.declared.limits.TheConstants.{LONGEST_LINE}
use Rattle.turn_laws.specs.Below.task_numbers.specs.Numbers.{is_nil}
use Rattle.turn_laws.specs.Below.task_tree.specs.declared.task.Task.{Task}
use Rattle.turn_laws.specs.Below.task_tree.specs.Tree.{Tree, lives}
use Rattle.turn_laws.specs.Below.terminals.specs.Channels.{Channel}
use Rattle.turn_laws.specs.Below.terminals.specs.Couplings.{task_at}
use Rattle.turn_laws.specs.Below.terminals.specs.declared.channel.TheConstants.{QUEUED_LINES}
use Rattle.turn_laws.specs.Below.elan_scope.specs.declared.env.Env.{Env}
use Rattle.turn_laws.specs.Below.session_text.specs.declared.events.Event.{Event}
use Rattle.turn_laws.specs.Below.session_text.specs.declared.events.Event.TheVariants.{Line}
use Rattle.turn_laws.specs.Below.units.specs.Sources.{most_lines}
use Rattle.turn_laws.specs.Below.units.specs.Packets.{nothing}
use Rattle.turn_laws.specs.Below.units.specs.Library.{Live as Packet}
use Rattle.turn_laws.specs.Below.units.specs.declared.library.TheConstants.{PACKETS}
use Rattle.turn_laws.specs.Below.units.specs.declared.unit.Compiled.{Compiled}
use Rattle.turn_laws.specs.Below.units.specs.Library.{Library, IsLive, live_as, env_of, start_unit_behind}
use Rattle.system_meaning.specs.Stores.{is_name, entering_refusal, last_number}
use Rattle.system_meaning.specs.Tasks.{Doing, Entering, Running, Own}
use Rattle.system_meaning.specs.Systems.{System}
use Rattle.system_meaning.specs.Ends.{has_packet}
use Rattle.system_meaning.specs.Monitor.{Reading, Compiles}
use Rattle.system_meaning.specs.Whole.{IsSystem}
use Rattle.turn_laws.specs.Waits.{AreOrderly}
use Rattle.turn_laws.specs.Standing.{AllStand}

-- ---- the tree

-- UR stands first and has no father, and each other task has one
abbrev pub AreRooted : List Task → Type 0
AreRooted [] = ⊥
AreRooted (u ∷ us) = (u.number.0 ≡ 1) × (is_nil u.father ≡ true) × AllByRecursion (λ (v : Task). is_nil v.father ≡ false) us

-- tasks have names of 1 to 60 bytes, and no number beyond the last was given
pub record IsNamed (s : Tree) : Type 0 where
  pub rooted : AreRooted s.tasks
  pub names : AllByRecursion (λ (u : Task). is_name u.name ≡ true) s.tasks
  pub numbers : s.last ≤ last_number

-- ---- the channels

abbrev pub AreShort : List (List ℕ) → Type 0
AreShort lines = AllByRecursion (λ line. length line ≤ LONGEST_LINE) lines

-- at most 16 lines wait, of at most 250 bytes
abbrev pub IsQueue : Channel → Type 0
IsQueue c = (length c.queue ≤ QUEUED_LINES) × AreShort c.queue

-- a coupled task lives
abbrev pub AreLiving : Tree → List Channel → Type 0
AreLiving s cs = (k : ℕ) → is_nil (task_at k cs) ≡ false → lives (task_at k cs) s ≡ true

pub record AreTerminals (s : System) : Type 0 where
  pub four : length s.shared.channels ≡ 4
  pub queues : AllByRecursion IsQueue s.shared.channels
  pub living : AreLiving s.shared.tree s.shared.channels

-- ---- texts that are entered

-- it can become a data space under its name
abbrev pub HasRoom : Doing → Type 0
HasRoom (Entering name lines store) = (length lines ≤ most_lines) × AreShort lines × (entering_refusal name store ≡ None)
HasRoom _ = Unit {0}

abbrev pub HaveRoom : List Own → Type 0
HaveRoom owns = AllByRecursion (λ (o : Own). HasRoom o.doing) owns

-- what can be seen without evaluation and without texts
pub record ArePlain (s : System) : Type 0 where
  pub named : IsNamed s.shared.tree
  pub terminals : AreTerminals s
  pub entering : HaveRoom s.owns

-- ---- packets and commands

-- the numbers of a task's packets rise
abbrev pub DoRise : List ℕ → Type 0
DoRise [] = Unit {0}
DoRise (n ∷ ns) = AllByRecursion (λ m. n < m) ns × DoRise ns

module _ (read : Env → Bool → List ℕ → Reading) where
  -- it is what a text means behind these packets, or a start procedure of theirs
  pub data IsRead (env : Env) (unit : Compiled) : Type 0 where
    of_text : (packet : Bool) (text : List ℕ) → read env packet text ≡ Compiles unit → IsRead env unit
    of_start : (n : ℕ) → start_unit_behind env n ≡ Some unit → IsRead env unit

  -- these packets live, and each was compiled behind those before it
  abbrev pub AreBehind : Library → Env → List ℕ → Type 0
  AreBehind lib env [] = Unit {0}
  AreBehind lib env (n ∷ ns) =
      (l : Packet) × (live_as n lib ≡ Some l) × (l.unit.packets ≡ env) × IsRead env l.unit × IsLive lib.last l × AreBehind lib l.after ns

  -- and a command was compiled behind the packets of its task
  abbrev pub DoesRead : Library → Own → Doing → Type 0
  DoesRead lib o (Running c) = IsRead (env_of lib o.packets) c.unit
  DoesRead lib o _ = Unit {0}

  abbrev pub OwnIsRead : Library → Own → Type 0
  OwnIsRead lib o = AreBehind lib nothing o.packets × DoesRead lib o o.doing × DoRise o.packets

-- the numbers of live packets rise, from 1
abbrev pub AreRising : List Packet → Type 0
AreRising [] = Unit {0}
AreRising (l ∷ ls) = (0 < l.number) × AllByRecursion (λ (m : Packet). l.number < m.number) ls × AreRising ls

-- each live packet is had by a task
pub record ArePackets (read : Env → Bool → List ℕ → Reading) (s : System) : Type 0 where
  pub few : length s.shared.library.live ≤ PACKETS
  pub rising : AreRising s.shared.library.live
  pub had : AllByRecursion (λ (l : Packet). list_any (has_packet l.number) s.owns ≡ true) s.shared.library.live
  pub behind : AllByRecursion (OwnIsRead read s.shared.library) s.owns

-- ---- the whole

-- Tree, ready list and couplings are as their types keep them (`sound`). Who waits for a message asks so, and has room (`orderly`); and who asks so
-- waits, and who is to go on is ready (`standing`).
pub record IsValid (read : Env → Bool → List ℕ → Reading) (s : System) : Type 0 where
  pub sound : IsSystem s
  pub orderly : AreOrderly s
  pub standing : AllStand s
  pub plain : ArePlain s
  pub packets : ArePackets read s

-- an event of a session: its line is short
abbrev pub IsEvent : Event → Type 0
IsEvent (Line c line) = length line ≤ LONGEST_LINE
IsEvent _ = Unit {0}

abbrev pub AreEvents : List Event → Type 0
AreEvents es = AllByRecursion IsEvent es
