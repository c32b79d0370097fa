-- A task takes lines, and its command comes to an end: what the steps keep this keeps.
use Rattle.std.proofs.Common.{◌≡◌, ℕ, zero, suc, ◌+◌, Bool, true, false, List, [], ◌∷◌, ◌++◌, length, Option, Some, None, refl, ap, ◌∙◌, if◌then◌else◌}
use Rattle.std.specs.Prelude.{option_map, nat_le, codes}
use Rattle.turn_laws.specs.Below.task_numbers.specs.declared.number.TaskNo.{TaskNo}
use Rattle.eu_base.specs.declared.stop.Stop.{Stop}
use Rattle.eu_base.specs.declared.stop.Stop.TheVariants.{ManyPackets, NoName}
use Rattle.eu_base.specs.Stops.{stop_text}
use Rattle.turn_laws.specs.Below.elan_names.specs.declared.interface.Interface.{Interface}
use Rattle.turn_laws.specs.Below.elan_scope.specs.declared.env.Env.{Env}
use Rattle.elan_tree.specs.declared.token.Word.{Word}
use Rattle.turn_laws.specs.Below.monitor.specs.Forms.{form_of}
use Rattle.turn_laws.specs.Below.monitor.specs.declared.commands.Form.{Form}
use Rattle.turn_laws.specs.Below.monitor.specs.declared.commands.Form.TheVariants as forms
use Rattle.turn_laws.specs.Below.terminals.specs.Channels as channels
use Rattle.turn_laws.specs.Below.terminals.specs.declared.channel.TheConstants.{QUEUED_LINES}
use Rattle.turn_laws.specs.Below.units.specs.declared.unit.Compiled.{Compiled}
use Rattle.turn_laws.specs.Below.units.specs.Library.{env_of}
use Rattle.eu_base.specs.DataSpaces.{Space}
use Rattle.turn_laws.specs.Below.units.specs.Sources.{source_space, source_text, most_lines}
use Rattle.system_meaning.specs.Stores.{Store, space_under, with_named, entering_refusal, tidied}
use Rattle.system_meaning.specs.Tasks.{Command, Doing, Idle, Entering, Running, Own, settled, own_variables, is_running}
use Rattle.system_meaning.specs.Systems.{System, Moment, own, doing, runs, kept, packets, does, sharing, on_channels, on_system, say_at, tell, prompt}
use Rattle.system_meaning.specs.Monitor as monitor
use Rattle.system_meaning.specs.Monitor.{Reading, Compiles, Refuses, prompted, answered, started, run_read, enter_unless, names_told, directory_of, entered_line, settle, tidy, inserted, installed, with_packet, is_full, words_of}
use Rattle.turn_laws.proofs.Steps.{own_changed}
use Rattle.turn_laws.proofs.Single.{changed_doing}

-- The steps of a task keep what is so of the system. P is so of a command that has ended; and the lines that it takes fit.
pub record Steps (read : Env → Bool → List ℕ → Reading) (u : TaskNo) (R : System → Type 0) (P : Command → System → Type 0) (Fit : List ℕ → Type 0) : Type 0 where
  pub starts : (packet : Bool) (text : List ℕ) (unit : Compiled) (store : Store) (s : System) → doing u s ≡ Some (Idle store)
      → read (env_of s.shared.library (packets u s)) packet text ≡ Compiles unit → R s → R (started u unit s)
  pub enters : (name : List ℕ) (store : Store) (s : System) → doing u s ≡ Some (Idle store) → entering_refusal name (kept u s) ≡ None → R s
      → R (does u (Entering name [] (kept u s)) s)
  pub adds : (name : List ℕ) (lines : List (List ℕ)) (line : List ℕ) (store : Store) (s : System) → doing u s ≡ Some (Entering name lines store) → Fit line
      → nat_le most_lines (length lines) ≡ false → R s → R (does u (Entering name (lines ++ line ∷ []) store) s)
  pub rests : (d : Doing) (store : Store) (s : System) → doing u s ≡ Some d → is_running d ≡ false → R s → R (does u (Idle store) s)
  pub takes : (c : ℕ) (s : System) → R s → R (on_channels (channels.unqueued c) s)
  pub fits : (c : ℕ) (line : List ℕ) (lines : List (List ℕ)) (s : System) → R s → (channels.channel c s.shared.channels).queue ≡ line ∷ lines → Fit line
  pub inserts : (c : Command) (i : Interface) (store : Store) (s : System) → P c s → c.unit.shown ≡ Some i → doing u s ≡ Some (Idle store)
      → is_full s.shared.library ≡ false → R s → R (inserted u c.unit i s)

pub doing_inserted : (u : TaskNo) (unit : Compiled) (i : Interface) (s : System) → doing u (inserted u unit i s) ≡ doing u s
doing_inserted u unit i s =
    ap (option_map (λ (o : Own). o.doing)) (own_changed u (with_packet (s.shared.library.last + 1)) (sharing (λ h. record h { library = installed unit i h.library }) s))
    ∙ by (s.shared.library.last + 1) (own u s)
  where
    by : (n : ℕ) (p : Option Own) → option_map (λ (o : Own). o.doing) (option_map (with_packet n) p) ≡ option_map (λ (o : Own). o.doing) p
    by n None = refl
    by n (Some o) = refl

pub said_at : (Q : System → Type 0) (c : Option ℕ) (bytes : List ℕ) (m : Moment) → Q m.system → Q (say_at c bytes m).system
said_at Q None bytes m h = h
said_at Q (Some c) bytes m h = h

pub tells : (Q : System → Type 0) (u : TaskNo) (bytes : List ℕ) (m : Moment) → Q m.system → Q (tell u bytes m).system
tells Q u bytes m h = said_at Q (channels.channel_of u m.system.shared.channels) bytes m h

module _ (read : Env → Bool → List ℕ → Reading) (u : TaskNo) (R : System → Type 0) (P : Command → System → Type 0) (Fit : List ℕ → Type 0) (k : Steps read u R P Fit) where
  prompts : (m : Moment) → R m.system → R (prompted u m).system
  prompts m h = tells R u prompt m h

  answers : (bytes : List ℕ) (m : Moment) → R m.system → R (answered u bytes m).system
  answers bytes m h = prompts (tell u bytes m) (tells R u bytes m h)

  tells_names : (names : List (List ℕ)) (m : Moment) → R m.system → R (names_told u names m).system
  tells_names [] m h = h
  tells_names (name ∷ names) m h = tells_names names (tell u name m) (tells R u name m h)

  -- ---- a line of an idle task

  module _ (store : Store) (m : Moment) (idle : doing u m.system ≡ Some (Idle store)) (h : R m.system) where
    runs_text : (packet : Bool) (text : List ℕ) → R (monitor.run_text read u packet text m).system
    runs_text packet text = by (read (env_of m.system.shared.library (packets u m.system)) packet text) refl
      where
        by : (r : Reading) → read (env_of m.system.shared.library (packets u m.system)) packet text ≡ r → R (run_read u text r m).system
        by (Compiles unit) e = k.starts packet text unit store m.system idle e h
        by (Refuses refusal) e = answers _ m h

    runs_source : (packet : Bool) (source : Option (List ℕ)) → R (monitor.run_source_text read source u packet m).system
    runs_source packet None = answers (codes "kein Quelltext") m h
    runs_source packet (Some text) = runs_text packet text

    runs_space : (packet : Bool) (space : Option Space) → R (monitor.run_space read space u packet m).system
    runs_space packet None = answers (stop_text NoName) m h
    runs_space packet (Some space) = runs_source packet (source_text space)

    enters_so : (name : List ℕ) (stop : Option Stop) → entering_refusal name (kept u m.system) ≡ stop → R (enter_unless stop u name m).system
    enters_so name (Some stop) e = answers (stop_text stop) m h
    enters_so name None e = k.enters name store m.system idle e h

    takes_form : (line : List ℕ) (form : Form) → R (monitor.formed read form u line m).system
    takes_form line forms.Blank = prompts m h
    takes_form line (forms.Enter name) = enters_so name (entering_refusal name (kept u m.system)) refl
    takes_form line (forms.Run name) = runs_space false (space_under name (kept u m.system))
    takes_form line (forms.Insert name) = runs_space true (space_under name (kept u m.system))
    takes_form line forms.Names =
        prompts (names_told u (directory_of (kept u m.system)) m) (tells_names (directory_of (kept u m.system)) m h)
    takes_form line forms.Program = runs_text false line

    takes_words : (line : List ℕ) (ws : Option (List Word)) → R (monitor.worded read ws u line m).system
    takes_words line None = takes_form line forms.Program
    takes_words line (Some ws) = takes_form line (form_of ws)

  -- of one that enters a text
  enters_line : (last : Bool) (name : List ℕ) (lines : List (List ℕ)) (store : Store) (line : List ℕ) (m : Moment) → Fit line
      → doing u m.system ≡ Some (Entering name lines store) → R m.system → R (entered_line last u name lines store line m).system
  enters_line true name lines store line m fits is h =
      prompts (on_system (does u (Idle (with_named name (source_space lines) store))) m)
      (k.rests (Entering name lines store) (with_named name (source_space lines) store) m.system is refl h)
  enters_line false name lines store line m fits is h = by (nat_le most_lines (length lines)) refl
    where
      by : (b : Bool) → nat_le most_lines (length lines) ≡ b
          → R (if b then tell u (codes "Zeile verworfen") m else on_system (does u (Entering name (lines ++ line ∷ []) store)) m).system
      by true e = tells R u (codes "Zeile verworfen") m h
      by false e = k.adds name lines line store m.system is fits e h

  pub takes_line : (line : List ℕ) (m : Moment) → Fit line → R m.system → R (monitor.taken read u line m).system
  takes_line line m fits h = by (doing u m.system) refl
    where
      by : (d : Option Doing) → doing u m.system ≡ d → R (monitor.taken_by read d u line m).system
      by None is = h
      by (Some (Idle store)) is = takes_words store m is h line (words_of line)
      by (Some (Entering name lines store)) is = enters_line (monitor.is_last line) name lines store line m fits is h
      by (Some (Running c)) is = h

  -- ---- queued lines

  takes_oldest : (queue : List (List ℕ)) (c : ℕ) (more : Moment → Moment) → ((m : Moment) → R m.system → R (more m).system) → (m : Moment)
      → (channels.channel c m.system.shared.channels).queue ≡ queue → R m.system → R (monitor.oldest_taken read queue c u more m).system
  takes_oldest [] c more on m at h = h
  takes_oldest (line ∷ queue) c more on m at h =
      on (monitor.taken read u line (on_system (on_channels (channels.unqueued c)) m))
      (takes_line line (on_system (on_channels (channels.unqueued c)) m) (k.fits c line queue m.system h at) (k.takes c m.system h))

  drains : (n : ℕ) (m : Moment) → R m.system → R (monitor.drained_in read n u m).system
  drains zero m h = h
  drains (suc n) m h = by (runs u m.system) (at (channels.channel_of u m.system.shared.channels) (λ x y. drains n x y))
    where
      at : (c : Option ℕ) → ((m : Moment) → R m.system → R (monitor.drained_in read n u m).system)
          → R (monitor.drained_at read c u (monitor.drained_in read n u) m).system
      at None on = h
      at (Some c) on = takes_oldest (channels.channel c m.system.shared.channels).queue c (monitor.drained_in read n u) on m refl h

      by : (b : Bool) → R (monitor.drained_at read (channels.channel_of u m.system.shared.channels) u (monitor.drained_in read n u) m).system
          → R (if b then m else monitor.drained_at read (channels.channel_of u m.system.shared.channels) u (monitor.drained_in read n u) m).system
      by true later = h
      by false later = later

  -- ---- a command is over

  rests_with : (stop : Option Stop) (m : Moment) → R m.system → R (monitor.rested_with read stop u m).system
  rests_with None m h = drains QUEUED_LINES (prompted u m) (prompts m h)
  rests_with (Some stop) m h =
      drains QUEUED_LINES (prompted u (tell u (monitor.stop_told stop) m))
      (prompts (tell u (monitor.stop_told stop) m) (tells R u (monitor.stop_told stop) m h))

  tidies_then : (stop : Option Stop) (store : Store) (m : Moment) → doing u m.system ≡ Some (Idle store) → R m.system → R (monitor.tidied_then read stop u m).system
  tidies_then stop store m is h =
      rests_with stop (on_system (tidy u) m) (k.rests (Idle store) (tidied (kept u m.system)) m.system is refl h)

  settles_then : (stop : Option Stop) (n : ℕ) (store : Store) (m : Moment) → doing u m.system ≡ Some (Idle store) → R m.system
      → R (monitor.tidied_then read stop u (on_system (settle u n) m)).system
  settles_then stop n store m is h =
      tidies_then stop (settled n (kept u m.system)) (on_system (settle u n) m) (changed_doing u (Idle (settled n (kept u m.system))) (Idle store) m.system is)
      (k.rests (Idle store) (settled n (kept u m.system)) m.system is refl h)

  pub ends_as : (shown : Option Interface) (stop : Option Stop) (c : Command) (store : Store) (m : Moment) → c.unit.shown ≡ shown → P c m.system
      → doing u m.system ≡ Some (Idle store) → R m.system → R (monitor.over_as read shown stop u c m).system
  ends_as None stop c store m shows p is h = tidies_then stop store m is h
  ends_as (Some i) (Some stop) c store m shows p is h = settles_then (Some stop) (own_variables c) store m is h
  ends_as (Some i) None c store m shows p is h = by (is_full m.system.shared.library) refl
    where
      by : (b : Bool) → is_full m.system.shared.library ≡ b → R (monitor.insertion_over read None b u c i m).system
      by true e = settles_then (Some ManyPackets) (own_variables c) store m is h
      by false e =
          tidies_then None store (on_system (inserted u c.unit i) m) (doing_inserted u c.unit i m.system ∙ is) (k.inserts c i store m.system p shows is e h)
