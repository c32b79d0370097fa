-- Two turns of a task, side by side: what the steps of a turn keep the turn keeps.
use Rattle.std.proofs.Common.{◌≡◌, ℕ, zero, suc, ◌+◌, Bool, true, false, List, [], ◌∷◌, ◌++◌, Option, Some, None, if◌then◌else◌, refl, sym, ap, ◌∙◌, subst, arith}
use Rattle.std.specs.Prelude.{option_map, option_and_then, length, nat_le, codes}
use Rattle.std.specs.List.{AllByRecursion}
use Rattle.std.proofs.lemmas.Bool.{false≢true}
use Rattle.std.proofs.lemmas.Option.{none-some}
use Rattle.turn_laws.specs.Below.task_numbers.specs.declared.number.TaskNo.{TaskNo}
use Rattle.eu_base.specs.declared.stop.Stop.{Stop}
use Rattle.eu_base.specs.declared.stop.Stop.TheVariants.{ManyPackets, NoName}
use Rattle.eu_base.specs.Stops.{stop_text}
use Rattle.eu_base.specs.declared.request.Request.{Request}
use Rattle.turn_laws.specs.Below.elan_names.specs.declared.interface.Interface.{Interface}
use Rattle.turn_laws.specs.Below.elan_scope.specs.declared.env.Env.{Env}
use Rattle.elan_types.specs.Eval.{World}
use Rattle.elan_types.specs.Command.{Ending, Ended, Stopped, OutOfMarks, Asks}
use Rattle.elan_tree.specs.declared.token.Word.{Word}
use Rattle.turn_laws.specs.Below.monitor.specs.Forms.{form_of}
use Rattle.turn_laws.specs.Below.monitor.specs.declared.commands.Form.{Form}
use Rattle.turn_laws.specs.Below.monitor.specs.declared.commands.Form.TheVariants as forms
use Rattle.turn_laws.specs.Below.terminals.specs.Channels as channels
use Rattle.turn_laws.specs.Below.terminals.specs.declared.channel.TheConstants.{QUEUED_LINES}
use Rattle.turn_laws.specs.Below.units.specs.Packets.{nothing}
use Rattle.turn_laws.specs.Below.units.specs.declared.unit.Compiled.{Compiled}
use Rattle.turn_laws.specs.Below.units.specs.Library.{Library, env_of}
use Rattle.eu_base.specs.DataSpaces.{Space}
use Rattle.turn_laws.specs.Below.units.specs.Sources.{source_space, source_text, most_lines}
use Rattle.system_meaning.specs.Stores.{Store, space_under, with_named, entering_refusal, tidied}
use Rattle.system_meaning.specs.Tasks.{Command, Doing, Idle, Entering, Running, Own, starting, store_in, settled, own_variables, ending, spent, with_doing, is_running, command_of}
use Rattle.system_meaning.specs.Systems.{System, Moment, own, doing, runs, command, kept, kept_by, packets, packets_of, does, given, on_channels, on_system, back, say, say_at, tell, prompt}
use Rattle.system_meaning.specs.Serving.{Served, Replies, Rests, serve}
use Rattle.system_meaning.specs.Monitor as monitor
use Rattle.system_meaning.specs.Monitor.{Reading, Compiles, Refuses, prompted, answered, started, run_read, enter_unless, names_told, directory_of, entered_line, settle, tidy, inserted, is_full, installed, words_of}
use Rattle.system_meaning.specs.Turns.{served, went, went_on, slice}
use Rattle.turn_laws.specs.Own.{Whole, whole, own_of}
use Rattle.turn_laws.specs.Told.{Told, Inserted, told_over, told_served, told_by, told_on, told, asked_served, asked_by, asked_on, asked}
use Rattle.turn_laws.proofs.Steps.{own_in, library_changed}

-- Where both requests are answered alike, the task goes on with the answer; and where both rest the turn is over.
abbrev pub BothServed : TaskNo → (S E : Moment → Moment → Type 0) → Served → Served → Type 0
BothServed u S E (Replies r m) (Replies s n) = r ≡ s → S (on_system (given u r) m) (on_system (given u s) n)
BothServed u S E (Rests m) (Rests n) = E m n
BothServed u S E _ _ = Unit {0}

-- The steps of the turns of a task keep what is so of two moments: S between evaluations, R where the task does what it may besides, and E behind
-- the turn. P holds of each request that it makes.
pub record Keeps (u : TaskNo) (R S E : Moment → Moment → Type 0) (P : Request → Type 0) (May : Doing → Type 0) : Type 0 where
  pub own : (m n : Moment) → R m n → own_of u m.system ≡ own_of u n.system
  pub channel : (m n : Moment) → R m n → channels.channel_of u m.system.shared.channels ≡ channels.channel_of u n.system.shared.channels
  pub queue : (c : ℕ) (m n : Moment) → R m n → channels.channel_of u m.system.shared.channels ≡ Some c
      → (channels.channel c m.system.shared.channels).queue ≡ (channels.channel c n.system.shared.channels).queue
  pub backs : (m n : Moment) → R m n → R (on_system (back u) m) (on_system (back u) n)
  pub changes : (d : Doing) → May d → (m n : Moment) → R m n → R (on_system (does u d) m) (on_system (does u d) n)
  pub says : (c : ℕ) (bytes : List ℕ) (m n : Moment) → channels.channel_of u m.system.shared.channels ≡ Some c → R m n → R (say c bytes m) (say c bytes n)
  pub takes : (c : ℕ) (m n : Moment) → channels.channel_of u m.system.shared.channels ≡ Some c → R m n
      → R (on_system (on_channels (channels.unqueued c)) m) (on_system (on_channels (channels.unqueued c)) n)
  pub inserts : (unit : Compiled) (i : Interface) (m n : Moment) → m.system.shared.library.last ≡ n.system.shared.library.last → R m n
      → R (on_system (inserted u unit i) m) (on_system (inserted u unit i) n)
  -- what it may do besides
  pub idle : (store : Store) → May (Idle store)
  pub enters : (name : List ℕ) (lines : List (List ℕ)) (store : Store) → May (Entering name lines store)
  pub starts : (unit : Compiled) (store : Store) → May (Running (starting unit store))
  -- an evaluation
  pub here : (m n : Moment) → S m n → own_of u m.system ≡ own_of u n.system
  pub marks : (c : Command) (left : ℕ) (w : World) (m n : Moment) → S m n → command u m.system ≡ Some c → ending c left ≡ OutOfMarks w
      → May (Running (spent left w c))
  pub leaves : (d : Doing) → May d → (m n : Moment) → S m n → R (on_system (does u d) m) (on_system (does u d) n)
  pub serves : (c : Command) (left : ℕ) (q : Request) (w : World) (m n : Moment) → P q → command u m.system ≡ Some c → ending c left ≡ Asks q w → S m n
      → BothServed u S E (serve u q (on_system (does u (Running (spent left w c))) m)) (serve u q (on_system (does u (Running (spent left w c))) n))
  pub stops : (m n : Moment) → S m n → E m n
  pub ends : (m n : Moment) → R m n → E m n

-- what the packets of a task mean
abbrev env_in : Option Whole → Env
env_in None = nothing
env_in (Some w) = w.env

abbrev env_at : TaskNo → System → Env
env_at u s = env_of s.shared.library (packets u s)

abbrev pub running_in : Option Doing → Bool
running_in None = false
running_in (Some d) = is_running d

pub runs_is : (u : TaskNo) (s : System) → runs u s ≡ running_in (doing u s)
runs_is u s = by (doing u s) refl
  where
    by : (p : Option Doing) → doing u s ≡ p → runs u s ≡ running_in p
    by None e = rw e
    by (Some d) e = rw e

-- what is told where a command is over
abbrev pub over_told : Option Interface → Option Stop → Library → List Told
over_told None stop library = []
over_told (Some i) None library = told_over (Some i) library
over_told (Some i) (Some stop) library = []

as_told : (shown : Option Interface) (library : Library) → over_told shown None library ≡ told_over shown library
as_told None library = refl
as_told (Some i) library = refl

stopped_told : (shown : Option Interface) (stop : Stop) (library : Library) → over_told shown (Some stop) library ≡ []
stopped_told None stop library = refl
stopped_told (Some i) stop library = refl

-- one that runs a command lives
pub runs_lives : (u : TaskNo) (s : System) (c : Command) → command u s ≡ Some c → own_of u s ≡ None → ⊥
runs_lives u s c e none = by _ s.shared.library (own u s) e none
  where
    by : (name : List ℕ) (lib : Library) (p : Option Own) → option_and_then command_of (option_map (λ (o : Own). o.doing) p) ≡ Some c
        → option_map (whole name lib) p ≡ None → ⊥
    by name lib None e none = none-some c e
    by name lib (Some o) e none = none-some (whole name lib o) (sym none)

module _ (u : TaskNo) (R S E : Moment → Moment → Type 0) (P : Request → Type 0) (May : Doing → Type 0) (keeps : Keeps u R S E P May) where
  -- ---- what is looked up is the same

  same_own : (m n : Moment) → R m n → own u m.system ≡ own u n.system
  same_own m n h = own_in u n.system m.system (keeps.own m n h)

  same_doing : (m n : Moment) → R m n → doing u m.system ≡ doing u n.system
  same_doing m n h = ap (option_map (λ (o : Own). o.doing)) (same_own m n h)

  same_kept : (m n : Moment) → R m n → kept u m.system ≡ kept u n.system
  same_kept m n h = ap kept_by (same_doing m n h)

  same_command : (m n : Moment) → S m n → command u m.system ≡ command u n.system
  same_command m n h =
      ap (option_and_then command_of) (ap (option_map (λ (o : Own). o.doing)) (own_in u n.system m.system (keeps.here m n h)))

  same_env : (m n : Moment) → R m n → env_at u m.system ≡ env_at u n.system
  same_env m n h = is m.system ∙ (ap env_in (keeps.own m n h) ∙ sym (is n.system))
    where
      by : (name : List ℕ) (lib : Library) (p : Option Own) → env_of lib (packets_of p) ≡ env_in (option_map (whole name lib) p)
      by name lib None = refl
      by name lib (Some o) = refl

      is : (s : System) → env_at u s ≡ env_in (own_of u s)
      is s = by _ s.shared.library (own u s)

  -- ---- steps

  -- a step that does the same with both
  abbrev pub Steps : (Moment → Moment) → Type 0
  Steps f = (m n : Moment) → R m n → R (f m) (f n)

  tells : (bytes : List ℕ) → Steps (tell u bytes)
  tells bytes m n h =
      subst (λ (c : Option ℕ). R (tell u bytes m) (say_at c bytes n)) (keeps.channel m n h) (by (channels.channel_of u m.system.shared.channels) refl)
    where
      by : (c : Option ℕ) → channels.channel_of u m.system.shared.channels ≡ c → R (say_at c bytes m) (say_at c bytes n)
      by None e = h
      by (Some c) e = keeps.says c bytes m n e h

  prompts : Steps (prompted u)
  prompts m n h = tells prompt m n h

  answers : (bytes : List ℕ) → Steps (answered u bytes)
  answers bytes m n h = prompts (tell u bytes m) (tell u bytes n) (tells bytes m n h)

  does_so : (d : Doing) → May d → Steps (on_system (does u d))
  does_so d may m n h = keeps.changes d may m n h

  comes_back : Steps (on_system (back u))
  comes_back m n h = keeps.backs m n h

  starts : (unit : Compiled) → Steps (on_system (started u unit))
  starts unit m n h =
      comes_back (on_system (does u (Running (starting unit (kept u m.system)))) m) (on_system (does u (Running (starting unit (kept u n.system)))) n)
      (subst
      (λ (k : Store). R (on_system (does u (Running (starting unit (kept u m.system)))) m) (on_system (does u (Running (starting unit k))) n))
      (same_kept m n h) (does_so (Running (starting unit (kept u m.system))) (keeps.starts unit (kept u m.system)) m n h))

  -- ---- a line

  runs_read : (text : List ℕ) (r : Reading) → Steps (run_read u text r)
  runs_read text (Compiles unit) m n h = starts unit m n h
  runs_read text (Refuses refusal) m n h = answers _ m n h

  enters : (name : List ℕ) (stop : Option Stop) → Steps (enter_unless stop u name)
  enters name (Some stop) m n h = answers (stop_text stop) m n h
  enters name None m n h =
      subst (λ (k : Store). R (on_system (does u (Entering name [] (kept u m.system))) m) (on_system (does u (Entering name [] k)) n))
      (same_kept m n h) (does_so (Entering name [] (kept u m.system)) (keeps.enters name [] (kept u m.system)) m n h)

  tells_names : (names : List (List ℕ)) → Steps (names_told u names)
  tells_names [] m n h = h
  tells_names (name ∷ names) m n h = tells_names names (tell u name m) (tell u name n) (tells name m n h)

  enters_line : (last : Bool) (name : List ℕ) (lines : List (List ℕ)) (store : Store) (line : List ℕ) → Steps (entered_line last u name lines store line)
  enters_line true name lines store line m n h =
      prompts (on_system (does u (Idle (with_named name (source_space lines) store))) m) (on_system (does u (Idle (with_named name (source_space lines) store))) n)
      (does_so (Idle (with_named name (source_space lines) store)) (keeps.idle (with_named name (source_space lines) store)) m n h)
  enters_line false name lines store line m n h = by (nat_le most_lines (length lines))
    where
      by : (b : Bool) → R (if b then tell u (codes "Zeile verworfen") m else on_system (does u (Entering name (lines ++ line ∷ []) store)) m)
          (if b then tell u (codes "Zeile verworfen") n else on_system (does u (Entering name (lines ++ line ∷ []) store)) n)
      by true = tells (codes "Zeile verworfen") m n h
      by false = does_so (Entering name (lines ++ line ∷ []) store) (keeps.enters name (lines ++ line ∷ []) store) m n h

  module _ (read : Env → Bool → List ℕ → Reading) where
    runs_text : (packet : Bool) (text : List ℕ) → Steps (monitor.run_text read u packet text)
    runs_text packet text m n h =
        subst (λ (env : Env). R (run_read u text (read (env_at u m.system) packet text) m) (run_read u text (read env packet text) n))
        (same_env m n h) (runs_read text (read (env_at u m.system) packet text) m n h)

    runs_source : (packet : Bool) (source : Option (List ℕ)) → Steps (monitor.run_source_text read source u packet)
    runs_source packet None m n h = answers (codes "kein Quelltext") m n h
    runs_source packet (Some text) m n h = runs_text packet text m n h

    runs_space : (packet : Bool) (space : Option Space) → Steps (monitor.run_space read space u packet)
    runs_space packet None m n h = answers (stop_text NoName) m n h
    runs_space packet (Some space) m n h = runs_source packet (source_text space) m n h

    runs_named : (packet : Bool) (name : List ℕ) → Steps (monitor.run_named read u packet name)
    runs_named packet name m n h =
        subst (λ (k : Store). R (monitor.run_named read u packet name m) (monitor.run_space read (space_under name k) u packet n))
        (same_kept m n h) (runs_space packet (space_under name (kept u m.system)) m n h)

    takes_form : (line : List ℕ) (form : Form) → Steps (monitor.formed read form u line)
    takes_form line forms.Blank m n h = prompts m n h
    takes_form line (forms.Enter name) m n h =
        subst (λ (k : Store). R (enter_unless (entering_refusal name (kept u m.system)) u name m) (enter_unless (entering_refusal name k) u name n))
        (same_kept m n h) (enters name (entering_refusal name (kept u m.system)) m n h)
    takes_form line (forms.Run name) m n h = runs_named false name m n h
    takes_form line (forms.Insert name) m n h = runs_named true name m n h
    takes_form line forms.Names m n h =
        prompts (names_told u (directory_of (kept u m.system)) m) (names_told u (directory_of (kept u n.system)) n)
        (subst (λ (k : Store). R (names_told u (directory_of (kept u m.system)) m) (names_told u (directory_of k) n))
        (same_kept m n h) (tells_names (directory_of (kept u m.system)) m n h))
    takes_form line forms.Program m n h = runs_text false line m n h

    takes_words : (line : List ℕ) (ws : Option (List Word)) → Steps (monitor.worded read ws u line)
    takes_words line None m n h = takes_form line forms.Program m n h
    takes_words line (Some ws) m n h = takes_form line (form_of ws) m n h

    pub takes_line : (line : List ℕ) → Steps (monitor.taken read u line)
    takes_line line m n h =
        subst (λ (d : Option Doing). R (monitor.taken read u line m) (monitor.taken_by read d u line n)) (same_doing m n h) (by (doing u m.system))
      where
        by : (d : Option Doing) → R (monitor.taken_by read d u line m) (monitor.taken_by read d u line n)
        by None = h
        by (Some (Idle store)) = takes_words line (words_of line) m n h
        by (Some (Entering name lines store)) = enters_line (monitor.is_last line) name lines store line m n h
        by (Some (Running c)) = h

    -- ---- queued lines

    takes_oldest : (queue : List (List ℕ)) (c : ℕ) (more : Moment → Moment) → Steps more → (m n : Moment)
        → channels.channel_of u m.system.shared.channels ≡ Some c → R m n
        → R (monitor.oldest_taken read queue c u more m) (monitor.oldest_taken read queue c u more n)
    takes_oldest [] c more on m n at h = h
    takes_oldest (line ∷ queue) c more on m n at h =
        on (monitor.taken read u line (on_system (on_channels (channels.unqueued c)) m)) (monitor.taken read u line (on_system (on_channels (channels.unqueued c)) n))
        (takes_line line (on_system (on_channels (channels.unqueued c)) m) (on_system (on_channels (channels.unqueued c)) n) (keeps.takes c m n at h))

    drains_at : (more : Moment → Moment) → Steps more → (m n : Moment) → R m n
        → R (monitor.drained_at read (channels.channel_of u m.system.shared.channels) u more m)
        (monitor.drained_at read (channels.channel_of u n.system.shared.channels) u more n)
    drains_at more on m n h =
        subst
        (λ (c : Option ℕ). R (monitor.drained_at read (channels.channel_of u m.system.shared.channels) u more m) (monitor.drained_at read c u more n))
        (keeps.channel m n h) (by (channels.channel_of u m.system.shared.channels) refl)
      where
        by : (c : Option ℕ) → channels.channel_of u m.system.shared.channels ≡ c → R (monitor.drained_at read c u more m) (monitor.drained_at read c u more n)
        by None at = h
        by (Some c) at =
            subst
            (λ (queue : List (List ℕ)). R (monitor.drained_at read (Some c) u more m) (monitor.oldest_taken read queue c u more n))
            (keeps.queue c m n h at) (takes_oldest (channels.channel c m.system.shared.channels).queue c more on m n at h)

    same_runs : (m n : Moment) → R m n → runs u m.system ≡ runs u n.system
    same_runs m n h = runs_is u m.system ∙ (ap running_in (same_doing m n h) ∙ sym (runs_is u n.system))

    drains : (k : ℕ) → Steps (monitor.drained_in read k u)
    drains zero m n h = h
    drains (suc k) m n h =
        subst
        (λ (b : Bool). R (monitor.drained_in read (suc k) u m)
        (if b then n else monitor.drained_at read (channels.channel_of u n.system.shared.channels) u (monitor.drained_in read k u) n))
        (same_runs m n h) (by (runs u m.system) (drains_at (monitor.drained_in read k u) (drains k) m n h))
      where
        by : (b : Bool)
            → R (monitor.drained_at read (channels.channel_of u m.system.shared.channels) u (monitor.drained_in read k u) m)
            (monitor.drained_at read (channels.channel_of u n.system.shared.channels) u (monitor.drained_in read k u) n)
            → R (if b then m else monitor.drained_at read (channels.channel_of u m.system.shared.channels) u (monitor.drained_in read k u) m)
            (if b then n else monitor.drained_at read (channels.channel_of u n.system.shared.channels) u (monitor.drained_in read k u) n)
        by true later = h
        by false later = later

    -- ---- a command is over

    rests : Steps (monitor.rested read u)
    rests m n h = drains QUEUED_LINES (prompted u m) (prompted u n) (prompts m n h)

    rests_with : (stop : Option Stop) → Steps (monitor.rested_with read stop u)
    rests_with None m n h = rests m n h
    rests_with (Some stop) m n h =
        rests (tell u (monitor.stop_told stop) m) (tell u (monitor.stop_told stop) n) (tells (monitor.stop_told stop) m n h)

    settles : (k : ℕ) → Steps (on_system (settle u k))
    settles k m n h =
        subst (λ (store : Store). R (on_system (settle u k) m) (on_system (does u (Idle (settled k store))) n))
        (same_kept m n h) (does_so (Idle (settled k (kept u m.system))) (keeps.idle (settled k (kept u m.system))) m n h)

    -- what nothing denotes is forgotten alike
    tidies : Steps (on_system (tidy u))
    tidies m n h =
        subst (λ (store : Store). R (on_system (tidy u) m) (on_system (does u (Idle (tidied store))) n))
        (same_kept m n h) (does_so (Idle (tidied (kept u m.system))) (keeps.idle (tidied (kept u m.system))) m n h)

    tidies_then : (stop : Option Stop) → Steps (monitor.tidied_then read stop u)
    tidies_then stop m n h = rests_with stop (on_system (tidy u) m) (on_system (tidy u) n) (tidies m n h)

    -- the insertion ends alike where there is room in both
    ends_insertion : (stop : Option Stop) (full : Bool) (c : Command) (i : Interface) (m n : Moment)
        → (stop ≡ None → full ≡ false → m.system.shared.library.last ≡ n.system.shared.library.last) → R m n
        → R (monitor.insertion_over read stop full u c i m) (monitor.insertion_over read stop full u c i n)
    ends_insertion (Some stop) full c i m n last h =
        tidies_then (Some stop) (on_system (settle u (own_variables c)) m) (on_system (settle u (own_variables c)) n) (settles (own_variables c) m n h)
    ends_insertion None true c i m n last h =
        tidies_then (Some ManyPackets) (on_system (settle u (own_variables c)) m) (on_system (settle u (own_variables c)) n) (settles (own_variables c) m n h)
    ends_insertion None false c i m n last h =
        tidies_then None (on_system (inserted u c.unit i) m) (on_system (inserted u c.unit i) n) (keeps.inserts c.unit i m n (last refl refl) h)

    pub ends_as : (shown : Option Interface) (stop : Option Stop) (c : Command) (m n : Moment)
        → over_told shown stop m.system.shared.library ≡ over_told shown stop n.system.shared.library → R m n
        → R (monitor.over_as read shown stop u c m) (monitor.over_as read shown stop u c n)
    ends_as None stop c m n same h = tidies_then stop m n h
    ends_as (Some i) (Some stop) c m n same h = ends_insertion (Some stop) false c i m n (λ none. absurd (none-some stop (sym none))) h
    ends_as (Some i) None c m n same h = by (is_full m.system.shared.library) (is_full n.system.shared.library) same
      where
        by : (b d : Bool)
            → ◌≡◌ {A = List Told} (Inserted (if b then None else Some (m.system.shared.library.last + 1)) ∷ []) (Inserted (if d then None else Some (n.system.shared.library.last + 1)) ∷ [])
            → R (monitor.insertion_over read None b u c i m) (monitor.insertion_over read None d u c i n)
        by true true e = ends_insertion None true c i m n (λ _ no. absurd (false≢true (sym no))) h
        by true false e = absurd (cc)
        by false true e = absurd (cc)
        by false false e = ends_insertion None false c i m n (λ _ _. let more : m.system.shared.library.last + 1 ≡ n.system.shared.library.last + 1 = cc in omega (arith, more)) h

    ends : (c : Command) (stop : Option Stop) (w : World) (m n : Moment)
        → over_told c.unit.shown stop m.system.shared.library ≡ over_told c.unit.shown stop n.system.shared.library → S m n
        → R (monitor.over read u c stop w m) (monitor.over read u c stop w n)
    ends c stop w m n same h =
        ends_as c.unit.shown stop c (on_system (does u (Idle (store_in w))) m) (on_system (does u (Idle (store_in w))) n)
        (ap (over_told c.unit.shown stop) (library_changed u (with_doing (Idle (store_in w))) m.system)
        ∙ (same ∙ sym (ap (over_told c.unit.shown stop) (library_changed u (with_doing (Idle (store_in w))) n.system))))
        (keeps.leaves (Idle (store_in w)) (keeps.idle (store_in w)) m n h)

    -- ---- a slice

    abbrev Slices : ℕ → Type 0
    Slices k = (left : ℕ) (m n : Moment) → S m n → told k u left m ≡ told k u left n → AllByRecursion P (asked k u left m)
        → E (slice read k u left m) (slice read k u left n)

    -- a request, and what follows the answer
    goes_on : (k left : ℕ) → Slices k → (a b : Served) → BothServed u S E a b → told_served a (told k u left) u ≡ told_served b (told k u left) u
        → AllByRecursion P (asked_served a (asked k u left) u) → E (served a (slice read k u left) u) (served b (slice read k u left) u)
    goes_on k left on (Replies r m) (Replies s n) h same all =
        let e : r ≡ s = cc in
        let later : told k u left (on_system (given u r) m) ≡ told k u left (on_system (given u s) n) = cc in
        on left (on_system (given u r) m) (on_system (given u s) n) (h e) later all
    goes_on k left on (Replies r m) (Rests n) h same all = absurd (cc)
    goes_on k left on (Rests m) (Replies s n) h same all = absurd (cc)
    goes_on k left on (Rests m) (Rests n) h same all = h

    goes_by : (k left : ℕ) → Slices k → (e : Ending) (c : Command) → ending c left ≡ e → (m n : Moment) → command u m.system ≡ Some c → S m n
        → told_by e left (told k u) u c m ≡ told_by e left (told k u) u c n → AllByRecursion P (asked_by e left (asked k u) u c m)
        → E (went read e left (slice read k u) u c m) (went read e left (slice read k u) u c n)
    goes_by k left on (Ended w) c is m n at h same all =
        keeps.ends (monitor.over read u c None w m) (monitor.over read u c None w n)
        (ends c None w m n
        (as_told c.unit.shown m.system.shared.library ∙ (same ∙ sym (as_told c.unit.shown n.system.shared.library))) h)
    goes_by k left on (Stopped stop w) c is m n at h same all =
        keeps.ends (monitor.over read u c (Some stop) w m) (monitor.over read u c (Some stop) w n)
        (ends c (Some stop) w m n
        (stopped_told c.unit.shown stop m.system.shared.library ∙ sym (stopped_told c.unit.shown stop n.system.shared.library)) h)
    goes_by k left on (OutOfMarks w) c is m n at h same all =
        keeps.ends (on_system (back u) (on_system (does u (Running (spent left w c))) m)) (on_system (back u) (on_system (does u (Running (spent left w c))) n))
        (comes_back (on_system (does u (Running (spent left w c))) m) (on_system (does u (Running (spent left w c))) n)
        (keeps.leaves (Running (spent left w c)) (keeps.marks c left w m n h at is) m n h))
    goes_by k left on (Asks q w) c is m n at h same all =
        goes_on k w.marks on
        (serve u q (on_system (does u (Running (spent left w c))) m)) (serve u q (on_system (does u (Running (spent left w c))) n))
        (keeps.serves c left q w m n all.0 at is h) same all.1

    pub slices : (k : ℕ) → Slices k
    slices zero left m n h same all = keeps.stops m n h
    slices (suc k) left m n h same all =
        subst (λ (o : Option Command). E (slice read (suc k) u left m) (went_on read o left (slice read k u) u n)) (same_command m n h)
        (by (command u m.system) refl (slices k) (same ∙ sym (ap (λ (o : Option Command). told_on o left (told k u) u n) (same_command m n h))) all)
      where
        by : (o : Option Command) → command u m.system ≡ o → Slices k → told_on o left (told k u) u m ≡ told_on o left (told k u) u n
            → AllByRecursion P (asked_on o left (asked k u) u m)
            → E (went_on read o left (slice read k u) u m) (went_on read o left (slice read k u) u n)
        by None is on same all = keeps.stops m n h
        by (Some c) is on same all = goes_by k left on (ending c left) c refl m n is h same all
