-- What it means that cells hold a store, and that the machine comes to rest as an ending says.
use Rattle.std.specs.Prelude.{◌≡◌, ℕ, ◌<◌, ◌≤◌, true, List, [], ◌∷◌, map, length, Some, slice_get}
use Rattle.eu_base.specs.declared.value.Kind.{Kind}
use Rattle.eu_base.specs.Values.{SpaceNo, IsOf}
use Rattle.eu_base.specs.declared.value.Value.{Value}
use Rattle.eu_base.specs.Room.{cells_fit}
use Rattle.eu_base.specs.DataSpaces.{Head, Heads, Spaces, heads_of}
use Rattle.eu_base.specs.SoundSpaces.{AreSpaces, AllCanCome}
use Rattle.eu_base.specs.declared.address.TheConstants.{CELLS}
use Rattle.eu_base.specs.SpacePlaces.{kinds_of, values_of, shaped_kinds}
use Rattle.std.specs.List.{AllByRecursion}
use Rattle.eu_base.specs.declared.address.Area.{Area}
use Rattle.eu_base.specs.declared.address.Area.TheVariants.{Run, Packets, Space}
use Rattle.eu_base.specs.declared.address.Addr.{Addr}
use Rattle.eu_base.specs.Cells.{Cell, Free, Word, Cells, held_of, area_cell, place_number}
use Rattle.code_form.specs.declared.halt.Halt.{Halt}
use Rattle.code_form.specs.declared.halt.Halt.TheVariants as halts
use Rattle.code_form.specs.Program.{Program, kinds_in_packets, start_kinds}
use Rattle.code_form.specs.Machine.{Control, Mem, Scene, Rest, exec}
use Rattle.elan_types.specs.Eval.{Place, Slot, Holds, Refers, Taken, World}
use Rattle.elan_types.specs.Command.{Ending, Ended, Stopped, OutOfMarks, Asks}

-- the cell where a value stands
abbrev pub addr_of : Place → Addr
addr_of x = area_cell x.area x.variable

-- what a cell holds stands for what a slot has
abbrev pub StandsFor : Cell → Slot → Type 0
StandsFor n (Holds v) = n ≡ held_of v
StandsFor n (Refers x) = n ≡ Word (place_number (addr_of x))
StandsFor n Taken = Unit {0}

-- the cells of an area hold its slots, where these have room. Variables that have no room at the start of a command have no cells
abbrev pub Image : Area → List Slot → Cells → Type 0
Image area slots cells =
    cells_fit (length slots) ≡ true → (x : ℕ) (s : Slot) → slice_get slots x ≡ Some s → StandsFor (cells (area_cell area x)) s

-- the cells of an area hold slots that have a value of its kind for each variable, and nothing is known of the cells behind
pub record HasVariables (area : Area) (variables : List Kind) (slots : List Slot) (cells : Cells) : Type 0 where
  pub as_many : length slots ≡ length variables
  pub each : (x : ℕ) (k : Kind) → slice_get variables x ≡ Some k → (v : Value) × (slice_get slots x ≡ Some (Holds v)) × IsOf k v
  pub image : Image area slots cells
  pub beyond : (x : ℕ) → length variables ≤ x → cells (area_cell area x) ≡ Free

-- the numbers of what lives rise, from above this one to at most the last that was given
abbrev pub Rises : ℕ → List (ℕ × Head) → ℕ → Type 0
Rises low [] last = low ≤ last
Rises low (e ∷ live) last = (low < e.0) × Rises e.0 live last

-- no number is given twice, and the cells of each space have numbers of cells
pub record AreGiven (heads : Heads) : Type 0 where
  pub rise : Rises 0 heads.live heads.last
  pub fit : AllByRecursion (λ e. length (shaped_kinds e.1.shape) ≤ CELLS) heads.live

-- the memory has these data spaces: type numbers have 16 bits and numbers of spaces 32, each has a value of its kind for each cell of its shape, and
-- nothing is known of the cells of others
pub record HasSpaces (spaces : Spaces) (m : Mem) : Type 0 where
  pub heads : m.heads ≡ heads_of spaces
  pub sound : AreSpaces spaces
  pub given : AreGiven (heads_of spaces)
  pub each : (s : SpaceNo) → HasVariables (Space s) (kinds_of s (heads_of spaces)) (map Holds (values_of s spaces)) m.cells

-- so it is with the cells that a command has at its start, with the variables of packets, and with the data spaces
pub record HasSlots (p : Program) (store others : List Slot) (all : Spaces) (m : Mem) : Type 0 where
  pub command : HasVariables Run (start_kinds p) store m.cells
  pub packets : HasVariables Packets (kinds_in_packets p) others m.cells
  pub spaces : HasSpaces all m

-- and what comes with answers can come
abbrev pub HasAll : Program → World → Mem → Type 0
HasAll p w m = HasSlots p w.store w.packets w.spaces m × AllCanCome w.replies

-- a run rests so, with the same marks and answers left, and with all variables in the cells and all data spaces, those of packets each with a
-- value of its kind
pub record RestsAs (p : Program) (h : Halt) (w : World) (r : Rest) : Type 0 where
  pub how : r.how ≡ h
  pub marks : r.scene.marks ≡ w.marks
  pub replies : r.scene.replies ≡ w.replies
  pub command : Image Run w.store r.scene.mem.cells
  pub packets : HasVariables Packets (kinds_in_packets p) w.packets r.scene.mem.cells
  pub spaces : HasSpaces w.spaces r.scene.mem

abbrev pub Shows : Program → Ending → Rest → Type 0
Shows p (Ended w) r = RestsAs p halts.Ended w r
Shows p (Stopped s w) r = RestsAs p (halts.Stopped s) w r
Shows p (OutOfMarks w) r = RestsAs p halts.Marked w r
Shows p (Asks q w) r = RestsAs p (halts.Asks q) w r

-- the machine comes to rest, and its rest shows this ending
pub record Comes (p : Program) (c : Control) (s : Scene) (e : Ending) : Type 0 where
  pub steps : ℕ
  pub rest : Rest
  pub comes : exec p steps c s ≡ Some rest
  pub shows : Shows p e rest

abbrev pub scene_of : World → Mem → Scene
scene_of w m = record { mem = m; marks = w.marks; replies = w.replies }
