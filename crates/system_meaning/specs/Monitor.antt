-- How a task takes a line, and how a command comes to its end.
use Rattle.std.specs.Prelude.{ℕ, zero, suc, ◌+◌, Bool, true, false, nat_le, bytes_eq, List, [], ◌∷◌, ◌++◌, map, fold, length, codes, Result, Ok, Err, Option, Some, None, if◌then◌else◌}
use Rattle.system_meaning.specs.Below.task_numbers.specs.declared.number.TaskNo.{TaskNo}
use Rattle.eu_base.specs.declared.stop.Stop.{Stop}
use Rattle.eu_base.specs.declared.stop.Stop.TheVariants.{ManyPackets, NoName}
use Rattle.eu_base.specs.Stops.{stop_text}
use Rattle.elan_tree.specs.declared.token.Token.{Token}
use Rattle.elan_tree.specs.declared.token.Word.{Word}
use Rattle.elan_lexer.specs.declared.error.LexError.{LexError}
use Rattle.elan_lexer.specs.Tokens.{tokens_of, limited}
use Rattle.system_meaning.specs.Below.elan_names.specs.declared.interface.Interface.{Interface}
use Rattle.system_meaning.specs.Below.elan_scope.specs.declared.env.Env.{Env}
use Rattle.units.specs.Packets.{after}
use Rattle.elan_types.specs.Eval.{World}
use Rattle.monitor.specs.Words.{words}
use Rattle.monitor.specs.Forms.{form_of}
use Rattle.monitor.specs.declared.commands.Form.{Form}
use Rattle.monitor.specs.declared.commands.Form.TheVariants.{Blank, Enter, Run, Insert, Names, Program}
use Rattle.terminals.specs.Channels as channels
use Rattle.terminals.specs.declared.channel.TheConstants.{QUEUED_LINES}
use Rattle.units.specs.declared.unit.Compiled.{Compiled}
use Rattle.units.specs.declared.library.TheConstants.{PACKETS}
use Rattle.units.specs.Library.{Library, env_of}
use Rattle.units.specs.Refusals.{refusal_text}
pub use Rattle.units.specs.Reading.{Reading, Compiles, Refuses}
use Rattle.eu_base.specs.DataSpaces.{Space}
use Rattle.units.specs.Sources.{most_lines, source_space, source_text}
use Rattle.system_meaning.specs.Stores.{Store, last_number, space_under, with_named, entering_refusal, tidied}
use Rattle.system_meaning.specs.Tasks.{Command, Doing, Idle, Entering, Running, Own, starting, store_in, settled, own_variables}
use Rattle.system_meaning.specs.Systems.{System, Moment, doing, runs, kept, packets, does, changed, sharing, on_system, on_channels, back, tell, prompt}

abbrev pub prompted : TaskNo → Moment → Moment
prompted t m = tell t prompt m

-- an answer, and the task is idle still
abbrev pub answered : TaskNo → List ℕ → Moment → Moment
answered t bytes m = prompted t (tell t bytes m)

-- ---- the forms of the monitor

-- the words of a line; a line that has no tokens, or too many, has none
abbrev pub words_in : Result (List Token) LexError → Option (List Word)
words_in (Ok ts) = Some (words ts)
words_in (Err e) = None

abbrev pub words_of : List ℕ → Option (List Word)
words_of line = words_in (limited (tokens_of line))

-- a task runs a unit from its start on
abbrev pub started : TaskNo → Compiled → System → System
started t unit s = back t (does t (Running (starting unit (kept t s))) s)

-- a unit runs; what is said of a text that is refused is told
abbrev pub run_read : TaskNo → List ℕ → Reading → Moment → Moment
run_read t text (Compiles unit) m = on_system (started t unit) m
run_read t text (Refuses refusal) m = answered t (refusal_text refusal text) m

abbrev pub enter_unless : Option Stop → TaskNo → List ℕ → Moment → Moment
enter_unless (Some stop) t name m = answered t (stop_text stop) m
enter_unless None t name m = on_system (λ s. does t (Entering name [] (kept t s)) s) m

-- the names of the directory, each as a line
abbrev pub names_told : TaskNo → List (List ℕ) → Moment → Moment
names_told t names m = fold (λ m name. tell t name m) m names

abbrev pub directory_of : Store → List (List ℕ)
directory_of store = map (λ entry. entry.0) store.spaces.names

-- a line that is entered: `.` ends the text, which becomes a space under its name
abbrev pub is_last : List ℕ → Bool
is_last line = bytes_eq line (codes ".")

abbrev pub entered_line : Bool → TaskNo → List ℕ → List (List ℕ) → Store → List ℕ → Moment → Moment
entered_line true t name lines store line m = prompted t (on_system (does t (Idle (with_named name (source_space lines) store))) m)
entered_line false t name lines store line m =
    if nat_le most_lines (length lines) then tell t (codes "Zeile verworfen") m
    else on_system (does t (Entering name (lines ++ line ∷ []) store)) m

-- ---- an insertion that comes to its end

abbrev pub stop_told : Stop → List ℕ
stop_told stop = codes "FEHLER : " ++ stop_text stop

-- the variables of a packet that was inserted are gone
abbrev pub settle : TaskNo → ℕ → System → System
settle t n s = does t (Idle (settled n (kept t s))) s

-- the data spaces that nothing denotes are forgotten
abbrev pub tidy : TaskNo → System → System
tidy t s = does t (Idle (tidied (kept t s))) s

abbrev pub is_full : Library → Bool
is_full lib = if nat_le PACKETS (length lib.live) then true else nat_le last_number lib.last

-- the packet gets the next number, and is one of the task's
abbrev pub installed : Compiled → Interface → Library → Library
installed unit i lib = record {
  live =
      lib.live ++ record { number = lib.last + 1; unit = unit; after = after unit.packets i unit.core (lib.last + 1) } ∷ [];
  last = lib.last + 1;
}

abbrev pub with_packet : ℕ → Own → Own
with_packet n o = record o { packets = o.packets ++ n ∷ [] }

abbrev pub inserted : TaskNo → Compiled → Interface → System → System
inserted t unit i s =
    changed t (with_packet (s.shared.library.last + 1)) (sharing (λ h. record h { library = installed unit i h.library }) s)

module _ (read : Env → Bool → List ℕ → Reading) where
  -- a text is compiled behind the packets of the task
  abbrev pub run_text : TaskNo → Bool → List ℕ → Moment → Moment
  run_text t packet text m = run_read t text (read (env_of m.system.shared.library (packets t m.system)) packet text) m

  abbrev pub run_source_text : Option (List ℕ) → TaskNo → Bool → Moment → Moment
  run_source_text None t packet m = answered t (codes "kein Quelltext") m
  run_source_text (Some text) t packet m = run_text t packet text m

  abbrev pub run_space : Option Space → TaskNo → Bool → Moment → Moment
  run_space None t packet m = answered t (stop_text NoName) m
  run_space (Some space) t packet m = run_source_text (source_text space) t packet m

  abbrev pub run_named : TaskNo → Bool → List ℕ → Moment → Moment
  run_named t packet name m = run_space (space_under name (kept t m.system)) t packet m

  -- a line of an idle task by its form
  abbrev pub formed : Form → TaskNo → List ℕ → Moment → Moment
  formed Blank t line m = prompted t m
  formed (Enter name) t line m = enter_unless (entering_refusal name (kept t m.system)) t name m
  formed (Run name) t line m = run_named t false name m
  formed (Insert name) t line m = run_named t true name m
  formed Names t line m = prompted t (names_told t (directory_of (kept t m.system)) m)
  formed Program t line m = run_text t false line m

  abbrev pub worded : Option (List Word) → TaskNo → List ℕ → Moment → Moment
  worded None t line m = formed Program t line m
  worded (Some ws) t line m = formed (form_of ws) t line m

  -- a task that is idle or entering takes a line
  abbrev pub taken_by : Option Doing → TaskNo → List ℕ → Moment → Moment
  taken_by None t line m = m
  taken_by (Some (Idle store)) t line m = worded (words_of line) t line m
  taken_by (Some (Entering name lines store)) t line m = entered_line (is_last line) t name lines store line m
  taken_by (Some (Running c)) t line m = m

  abbrev pub taken : TaskNo → List ℕ → Moment → Moment
  taken t line m = taken_by (doing t m.system) t line m

  -- ---- queued lines

  -- lines that wait at the task's channel are taken in order until it runs, or none is left
  abbrev pub oldest_taken : List (List ℕ) → ℕ → TaskNo → (Moment → Moment) → Moment → Moment
  oldest_taken [] c t more m = m
  oldest_taken (line ∷ rest) c t more m = more (taken t line (on_system (on_channels (channels.unqueued c)) m))

  abbrev pub drained_at : Option ℕ → TaskNo → (Moment → Moment) → Moment → Moment
  drained_at None t more m = m
  drained_at (Some c) t more m = oldest_taken (channels.channel c m.system.shared.channels).queue c t more m

  abbrev pub drained_in : ℕ → TaskNo → Moment → Moment
  drained_in zero t m = m
  drained_in (suc n) t m =
      if runs t m.system then m
      else drained_at (channels.channel_of t m.system.shared.channels) t (drained_in n t) m

  -- there are at most 16
  abbrev pub drained : TaskNo → Moment → Moment
  drained t m = drained_in QUEUED_LINES t m

  -- ---- the end of a command

  -- the task is idle; where it stopped, that is told
  abbrev pub rested : TaskNo → Moment → Moment
  rested t m = drained t (prompted t m)

  abbrev pub rested_with : Option Stop → TaskNo → Moment → Moment
  rested_with None t m = rested t m
  rested_with (Some stop) t m = rested t (tell t (stop_told stop) m)

  -- what nothing denotes any more goes before
  abbrev pub tidied_then : Option Stop → TaskNo → Moment → Moment
  tidied_then stop t m = rested_with stop t (on_system (tidy t) m)

  abbrev pub insertion_over : Option Stop → Bool → TaskNo → Command → Interface → Moment → Moment
  insertion_over (Some stop) full t c i m = tidied_then (Some stop) t (on_system (settle t (own_variables c)) m)
  insertion_over None true t c i m = tidied_then (Some ManyPackets) t (on_system (settle t (own_variables c)) m)
  insertion_over None false t c i m = tidied_then None t (on_system (inserted t c.unit i) m)

  -- a command has ended, or stopped
  abbrev pub over_as : Option Interface → Option Stop → TaskNo → Command → Moment → Moment
  over_as None stop t c m = tidied_then stop t m
  over_as (Some i) stop t c m = insertion_over stop (is_full m.system.shared.library) t c i m

  abbrev pub over : TaskNo → Command → Option Stop → World → Moment → Moment
  over t c stop w m = over_as c.unit.shown stop t c (on_system (does t (Idle (store_in w))) m)
