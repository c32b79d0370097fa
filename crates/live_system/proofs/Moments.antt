-- A step of the desk, a look at it, and what happens to one task, for every moment that a machine stands for.
use Rattle.std.proofs.Common.{◌≡◌, ℕ, ◌<◌, Bool, true, false, cond, List, length, Option, Some, None, refl, sym, ap, ◌∙◌, subst}
use Rattle.std.specs.Prelude.{slice_get}
use Rattle.std.specs.Option.{option_map, option_and_then}
use Rattle.std.proofs.lemmas.Option.{none-some, same_Some}
use Rattle.eu_base.specs.declared.value.Kind.{Kind}
use Rattle.task_numbers.specs.declared.number.TaskNo.{TaskNo}
use Rattle.live_system.specs.Below.units.specs.Library.{Library}
use Rattle.task_tree.specs.Tree.{Tree}
use Rattle.task_tree.specs.Trees.{IsTree}
use Rattle.live_system.specs.Below.task_desk.specs.Desks.{Desk, IsDesk, Makes, moment, system}
use Rattle.live_system.specs.Below.slicer.specs.Rotation as rotation
use Rattle.live_system.specs.Below.terminals.specs.Channels as channels
use Rattle.live_system.specs.Below.system_meaning.specs.Tasks.{Doing, Own, is_running, with_doing}
use Rattle.live_system.specs.Below.system_meaning.specs.Systems.{System, Moment, place, own, doing, changed, changed_at, with_own, on_system, on_ready, on_channels, does, runs, back, can_be_ready, couple, can_couple, tell, say_at}
use Rattle.live_system.specs.Below.live_tasks.specs.Tasks.{Live, Stand}
use Rattle.live_system.specs.Below.live_tasks.proofs.Standing.{as_long}
use Rattle.live_system.specs.Machines.{Machine, IsMachine, StandsAt}
use Rattle.live_system.specs.Below.system_meaning.specs.Whole.{AreGiven, IsSystem}
use Rattle.live_packets.specs.Packets.{kinds_in}
use Rattle.live_packets.proofs.Owns.{length_with, given_with, there_is}

abbrev pub machine : Desk → Library → Live → Machine
machine desk library live = record { desk = desk; library = library; live = live }

-- the place of a task, as it is looked up
abbrev pub IsPlace : Desk → Live → TaskNo → Option ℕ → Type 0
IsPlace desk live t k = length live.tasks ≡ length desk.tree.tasks → (library : Library) (owns : List Own) → k ≡ place t (system desk library owns)

pub as_many : (desk : Desk) (library : Library) (live : Live) (owns : List Own) → IsMachine (machine desk library live) owns → Stand (kinds_in library) live owns
    → length live.tasks ≡ length desk.tree.tasks
as_many desk library live owns fit h = as_long (kinds_in library) live.pages live.tasks owns h ∙ fit.as_many

-- what it does, of what it has for itself
pub doing_of : (t : TaskNo) (s : System) (o : Own) (d : Doing) → own t s ≡ Some o → doing t s ≡ Some d → o.doing ≡ d
doing_of t s o d mine is = same_Some o.doing d (sym (ap (λ (p : Option Own). option_map (λ (x : Own). x.doing) p) mine) ∙ is)

pub owns_at : (desk : Desk) (library : Library) (owns : List Own) (t : TaskNo) (k : ℕ) (o : Own) → Some k ≡ place t (system desk library owns)
    → slice_get owns k ≡ Some o → own t (system desk library owns) ≡ Some o
owns_at desk library owns t k o at has = ap (λ (p : Option ℕ). option_and_then (slice_get owns) p) (sym at) ∙ has

-- what the task at a place has for itself
pub own_there : (kinds_of : List ℕ → List Kind) (live : Live) (owns : List Own) → Stand kinds_of live owns → (k : ℕ) → k < length live.tasks
    → (o : Own) × (slice_get owns k ≡ Some o)
own_there kinds_of live owns stand k low = there_is owns k (subst (λ (n : ℕ). k < n) (as_long kinds_of live.pages live.tasks owns stand) low)

-- one task of a system changes
pub changes : (desk : Desk) (library : Library) (owns : List Own) (t : TaskNo) (k : ℕ) (f : Own → Own) → Some k ≡ place t (system desk library owns)
    → moment desk library (with_own k f owns) ≡ on_system (changed t f) (moment desk library owns)
changes desk library owns t k f at = ap (λ (p : Option ℕ). on_system (changed_at p f) (moment desk library owns)) at

module _ (desk : Desk) (library : Library) (live : Live) (was : Machine) (is : machine desk library live ≡ was) where
  abbrev pub Here : Moment → Type 0
  Here m = StandsAt (machine desk library live) m

  pub here : (m : Moment) → StandsAt was m → Here m
  here m s = subst (λ (w : Machine). StandsAt w m) (sym is) s

  -- where all tasks stand for the same, so does the machine
  pub same_owns : (later : Live) → ((owns : List Own) → Stand (kinds_in library) live owns → Stand (kinds_in library) later owns) → (m : Moment)
      → StandsAt was m → StandsAt (machine desk library later) m
  same_owns later each m s = let h = here m s in record {
    owns = h.owns;
    is = h.is;
    machine = record { as_many = h.machine.as_many; given = h.machine.given; numbered = h.machine.numbered };
    stand = each h.owns h.stand;
  }

  -- ---- the desk

  pub looked : {A : Type 0} (f : Moment → A) (r : A) → ((owns : List Own) → r ≡ f (moment desk library owns)) → (m : Moment) → StandsAt was m → r ≡ f m
  looked f r look m s = let h = here m s in look h.owns ∙ ap f h.is

  -- what is asked of all tasks
  pub all_looked : {A : Type 0} (f : List Own → A) (r : A) → ((owns : List Own) → Stand (kinds_in library) live owns → r ≡ f owns) → (m : Moment) → StandsAt was m
      → r ≡ f m.system.owns
  all_looked f r look m s = let h = here m s in look h.owns h.stand ∙ ap (λ (n : Moment). f n.system.owns) h.is

  -- what holds of every tree
  pub tree_law : IsTree desk.tree → (m : Moment) → StandsAt was m → IsTree m.system.shared.tree
  tree_law law m s = let h = here m s in subst (λ (n : Moment). IsTree n.system.shared.tree) h.is law

  -- and of every system
  pub whole_law : IsDesk desk → (m : Moment) → StandsAt was m → IsSystem m.system
  whole_law law m s =
      let h = here m s in
      subst (λ (n : Moment). IsSystem n.system) h.is (record {
        tree = law.tree;
        as_many = h.machine.as_many;
        ready = law.ready;
        live = law.live;
        channels = law.channels;
        given = h.machine.given;
        numbered = h.machine.numbered;
      })

  pub stepped : (f : Moment → Moment) → ((m : Moment) → (f m).system.shared.tree ≡ m.system.shared.tree) → (later : Desk) → Makes f desk later → (m : Moment)
      → StandsAt was m → StandsAt (machine later library live) (f m)
  stepped f keeps later makes m s =
      let h = here m s in
      let same : later.tree ≡ desk.tree = ap (λ (n : Moment). n.system.shared.tree) (makes library h.owns) ∙ keeps (moment desk library h.owns) in
      record {
        owns = h.owns;
        is = makes library h.owns ∙ ap f h.is;
        machine = record {
          as_many = h.machine.as_many ∙ ap (λ (t : Tree). length t.tasks) (sym same);
          given = h.machine.given;
          numbered = h.machine.numbered;
        };
        stand = h.stand;
      }

  -- ---- a task

  module _ (m : Moment) (h : Here m) where
    pub placed : (t : TaskNo) (k : Option ℕ) → IsPlace desk live t k → k ≡ place t (system desk library h.owns)
    placed t k at = at (as_many desk library live h.owns h.machine h.stand) library h.owns

    pub placed_in : (t : TaskNo) (k : Option ℕ) → IsPlace desk live t k → k ≡ place t m.system
    placed_in t k at = placed t k at ∙ ap (λ (n : Moment). place t n.system) h.is

    pub found : (k : ℕ) → k < length live.tasks → (o : Own) × (slice_get h.owns k ≡ Some o)
    found k low =
        there_is h.owns k (subst (λ (n : ℕ). k < n) (as_long (kinds_in library) live.pages live.tasks h.owns h.stand) low)

    -- what it has for itself
    pub mine : (t : TaskNo) (k : ℕ) → IsPlace desk live t (Some k) → (o : Own) → slice_get h.owns k ≡ Some o → own t m.system ≡ Some o
    mine t k at o has = sym (ap (λ (n : Moment). own t n.system) h.is) ∙ owns_at desk library h.owns t k o (placed t (Some k) at) has

    pub asked_at : {A : Type 0} (g : Option Own → A) (t : TaskNo) (k : ℕ) → IsPlace desk live t (Some k) → k < length live.tasks → (r : A)
        → ((o : Own) → slice_get h.owns k ≡ Some o → r ≡ g (Some o)) → r ≡ g (own t m.system)
    asked_at g t k at low r look = let o = found k low in look o.0 o.1 ∙ ap g (sym (mine t k at o.0 o.1))

    pub asked_none : {A : Type 0} (g : Option Own → A) (t : TaskNo) → IsPlace desk live t None → (r : A) → r ≡ g None → r ≡ g (own t m.system)
    asked_none g t at r look = look ∙ ap (λ (p : Option ℕ). g (option_and_then (slice_get m.system.owns) p)) (placed_in t None at)

    -- it changes
    pub changed_as : (f : Own → Own) → ((o : Own) → (f o).packets ≡ o.packets) → (t : TaskNo) (k : ℕ) → IsPlace desk live t (Some k) → (later : Live)
        → Stand (kinds_in library) later (with_own k f h.owns) → StandsAt (machine desk library later) (on_system (changed t f) m)
    changed_as f same t k at later stand = record {
      owns = with_own k f h.owns;
      is = changes desk library h.owns t k f (placed t (Some k) at) ∙ ap (λ (n : Moment). on_system (changed t f) n) h.is;
      machine = record {
        as_many = length_with k f h.owns ∙ h.machine.as_many;
        given = given_with library.last f (λ o g. subst (λ (ns : List ℕ). AreGiven library.last ns) (sym (same o)) g) h.owns k h.machine.given;
        numbered = h.machine.numbered;
      };
      stand = stand;
    }

    -- where it does not live, nothing changes
    pub unchanged : (f : Own → Own) (t : TaskNo) → IsPlace desk live t None → Here (on_system (changed t f) m)
    unchanged f t at = subst (λ (p : Option ℕ). Here (on_system (changed_at p f) m)) (placed_in t None at) h

  -- what is asked of what a task does
  pub task_looked : {A : Type 0} (g : Option Doing → A) (t : TaskNo) (k : ℕ) → IsPlace desk live t (Some k) → k < length live.tasks → (r : A)
      → ((kinds_of : List ℕ → List Kind) (owns : List Own) (o : Own) → Stand kinds_of live owns → slice_get owns k ≡ Some o → r ≡ g (Some o.doing))
      → (m : Moment) → StandsAt was m → r ≡ g (doing t m.system)
  task_looked g t k at low r look m s =
      let h = here m s in
      asked_at m h (λ (p : Option Own). g (option_map (λ (x : Own). x.doing) p)) t k at low r (λ o has. look (kinds_in library) h.owns o h.stand has)

  pub none_looked : {A : Type 0} (g : Option Doing → A) (t : TaskNo) → IsPlace desk live t None → (r : A) → r ≡ g None → (m : Moment) → StandsAt was m
      → r ≡ g (doing t m.system)
  none_looked g t at r look m s = asked_none m (here m s) (λ (p : Option Own). g (option_map (λ (x : Own). x.doing) p)) t at r look

  -- a task that does something lives, and stands for what it has for itself
  pub found_doing : (t : TaskNo) (k : ℕ) → IsPlace desk live t (Some k) → k < length live.tasks → (m : Moment) (d : Doing) → doing t m.system ≡ Some d
      → StandsAt was m → {X : Type 0}
      → ((owns : List Own) (o : Own) → Stand (kinds_in library) live owns → slice_get owns k ≡ Some o → o.doing ≡ d → X) → X
  found_doing t k at low m d does_so s use_it =
      let h = here m s in
      let o = found m h k low in
      use_it h.owns o.0 h.stand o.1 (doing_of t m.system o.0 d (mine m h t k at o.0 o.1) does_so)

  -- what is asked of the system, where the tasks stand for it
  pub system_looked : {A : Type 0} (f : System → A) (r : A)
      → ((owns : List Own) → length live.tasks ≡ length desk.tree.tasks → Stand (kinds_in library) live owns → r ≡ f (system desk library owns))
      → (m : Moment) → StandsAt was m → r ≡ f m.system
  system_looked f r look m s =
      let h = here m s in
      look h.owns (as_many desk library live h.owns h.machine h.stand) h.stand ∙ ap (λ (n : Moment). f n.system) h.is

  -- a task gets something else for itself
  pub task_changed : (f : Own → Own) → ((o : Own) → (f o).packets ≡ o.packets) → (t : TaskNo) (k : ℕ) → IsPlace desk live t (Some k) → (later : Live)
      → ((owns : List Own) → Stand (kinds_in library) live owns → Stand (kinds_in library) later (with_own k f owns)) → (m : Moment) → StandsAt was m
      → StandsAt (machine desk library later) (on_system (changed t f) m)
  task_changed f same t k at later change m s = let h = here m s in changed_as m h f same t k at later (change h.owns h.stand)

  pub none_changed : (f : Own → Own) (t : TaskNo) → IsPlace desk live t None → (m : Moment) → StandsAt was m → StandsAt was (on_system (changed t f) m)
  none_changed f t at m s = subst (λ (w : Machine). StandsAt w (on_system (changed t f) m)) is (unchanged m (here m s) f t at)

  -- it does something else
  pub idle_does : (t : TaskNo) (k : ℕ) → IsPlace desk live t (Some k) → k < length live.tasks → (m : Moment) (d later_d : Doing) → doing t m.system ≡ Some d
      → StandsAt was m → (later : Live)
      → ((owns : List Own) (o : Own) → Stand (kinds_in library) live owns → slice_get owns k ≡ Some o → o.doing ≡ d
      → Stand (kinds_in library) later (with_own k (with_doing later_d) owns))
      → StandsAt (machine desk library later) (on_system (does t later_d) m)
  idle_does t k at low m d later_d does_so s later change =
      let h = here m s in
      let o = found m h k low in
      changed_as m h (with_doing later_d) (λ x. refl) t k at later
      (change h.owns o.0 h.stand o.1 (doing_of t m.system o.0 d (mine m h t k at o.0 o.1) does_so))

  -- one that does something lives
  pub none_does : (t : TaskNo) → IsPlace desk live t None → (m : Moment) (d : Doing) → doing t m.system ≡ Some d → StandsAt was m → ⊥
  none_does t at m d does_so s = none-some d (none_looked (λ p. p) t at None refl m s ∙ does_so)

-- ---- what leaves the tree as it is

pub back_keeps : (t : TaskNo) (m : Moment) → (on_system (back t) m).system.shared.tree ≡ m.system.shared.tree
back_keeps t m = by (can_be_ready t m.system)
  where
    by : (b : Bool) → (cond b (on_ready (rotation.at_back t) m.system) m.system).shared.tree ≡ m.system.shared.tree
    by true = refl
    by false = refl

pub couple_keeps : (c : ℕ) (t : TaskNo) (m : Moment) → (on_system (couple c t) m).system.shared.tree ≡ m.system.shared.tree
couple_keeps c t m = by (can_couple c t m.system)
  where
    by : (b : Bool) → (cond b (on_channels (channels.coupled c t) m.system) m.system).shared.tree ≡ m.system.shared.tree
    by true = refl
    by false = refl

pub tell_keeps : (t : TaskNo) (bytes : List ℕ) (m : Moment) → (tell t bytes m).system.shared.tree ≡ m.system.shared.tree
tell_keeps t bytes m = by (channels.channel_of t m.system.shared.channels)
  where
    by : (c : Option ℕ) → (say_at c bytes m).system.shared.tree ≡ m.system.shared.tree
    by None = refl
    by (Some c) = refl

-- ---- whether a task runs a command

abbrev pub running_in : Option Doing → Bool
running_in None = false
running_in (Some d) = is_running d

pub runs_is : (t : TaskNo) (s : System) → running_in (doing t s) ≡ runs t s
runs_is t s = by (doing t s) refl
  where
    by : (p : Option Doing) → doing t s ≡ p → running_in p ≡ runs t s
    by None e = rw e
    by (Some d) e = rw e
