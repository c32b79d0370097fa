-- What is read out of a cell, put into one, and changed there.
use Rattle.std.specs.Prelude.{◌≡◌, ◌⊎◌, ℕ, ◌+◌, ◌≤◌, Bool, true, false, List, [], ◌∷◌, take, Result, Ok, Err}
use Rattle.eu_base.specs.declared.address.Addr.{Addr}
use Rattle.eu_base.specs.declared.set.Set.{Set}
use Rattle.eu_base.specs.declared.set.Set.TheVariants.{Done, HeapFull}
use Rattle.eu_base.specs.declared.value.Kind.{Kind}
use Rattle.eu_base.specs.declared.value.Value.{Value}
use Rattle.eu_base.specs.declared.operation.Change.{Change}
use Rattle.eu_base.specs.Room.{values_blocks, most_blocks, texts_fit}
use Rattle.eu_base.specs.Cells.{Cell, Cells, held_of, written, cell_blocks, area_blocks}
use Rattle.eu_base.specs.Operations.{change_kind, changed}
use Rattle.code_form.specs.Machine.{Move, Unknown, on_cell, next, takes, takes_all, written_all}
use Rattle.zero_state.specs.Emptied.{emptied}
use Rattle.zero_ops.specs.declared.error.Fault.{Fault}
use Rattle.zero_ops.specs.Given.{stop_of}

-- the value of a kind that a cell holds, where that is known
abbrev pub IsRead : Kind → Cell → Value → Type 0
IsRead kind cell v = (go : Value → Move) → (on_cell kind cell go ≡ go v) ⊎ (on_cell kind cell go ≡ Unknown)

-- a value that was read: memory may be known to hold it there, and some cell holds it
pub record Reads (holds : Cells → Type 0) (at : Addr) (kind : Kind) (v : Value) : Type 0 where
  pub known : (cells : Cells) → holds cells → IsRead kind (cells at) v
  pub seen : Cell
  pub is : (go : Value → Move) → on_cell kind seen go ≡ go v

-- so were values from a place on
abbrev pub AllRead : (Cells → Type 0) → Addr → List Kind → List Value → Type 0
AllRead holds at [] [] = Unit {0}
AllRead holds at (k ∷ ks) (v ∷ vs) = Reads holds at k v × AllRead holds (next at) ks vs
AllRead holds at _ _ = ⊥

-- this was put into a cell, since all texts of its area have room then; or they would have none, and nothing changed
abbrev pub PutsCell : (Cells → Type 0) → Cells → Addr → Cell → Set → Type 0
PutsCell holds cells at x Done = (texts_fit (cell_blocks x) (area_blocks at.area (written cells at x)) ≡ true) × holds (written cells at x)
PutsCell holds cells at x HeapFull = (texts_fit (cell_blocks x) (area_blocks at.area (written cells at x)) ≡ false) × holds cells

-- the same where the cell takes it
abbrev pub PutsTaken : (before after : Cells → Type 0) → Addr → Cell → Set → Type 0
PutsTaken before after at x set = (cells : Cells) → before cells → takes x (cells at) ≡ true → PutsCell after cells at x set

-- values were put from a place on, since all texts of its area have room then; or they would have none, and nothing changed
abbrev pub PutsEach : (Cells → Type 0) → Cells → Addr → List Value → Set → Type 0
PutsEach holds cells at vs Done = (texts_fit (values_blocks vs) (area_blocks at.area (written_all cells at vs)) ≡ true) × holds (written_all cells at vs)
PutsEach holds cells at vs HeapFull = (texts_fit (values_blocks vs) (area_blocks at.area (written_all cells at vs)) ≡ false) × holds cells

abbrev pub PutsAll : (before after : Cells → Type 0) → Addr → List Value → Set → Type 0
PutsAll before after at vs set = (cells : Cells) → before cells → takes_all vs at cells ≡ true → PutsEach after cells at vs set

-- the blocks of the cells from a place on where values are to stand
abbrev pub blocks_from : Cells → Addr → List Value → ℕ
blocks_from cells at [] = 0
blocks_from cells at (v ∷ vs) = cell_blocks (cells at) + blocks_from cells (next at) vs

-- a value, or one with "" in the place of a text
abbrev pub shown : Bool → Value → Value
shown true v = v
shown false v = emptied v

-- all texts of the area have room however many of the values were put from a place on
abbrev pub FitsSoFar : Cells → Addr → List Value → Type 0
FitsSoFar cells at vs = (n : ℕ) → area_blocks at.area (written_all cells at (take n vs)) ≤ most_blocks

-- what came of a change: the new value was put into the cell, or has no room there; or there is none, and nothing changed
abbrev pub ChangesTo : (before after : Cells → Type 0) → Addr → Change → (old operand : Value) → Result Set Fault → Type 0
ChangesTo before after at by old operand (Ok set) =
    (new : Value) × ((changed by old operand ≡ Ok new) × PutsTaken before after at (held_of new) set)
ChangesTo before after at by old operand (Err fault) = (changed by old operand ≡ Err (stop_of fault)) × ((cells : Cells) → before cells → after cells)

-- a value was read, and changed so
pub record Changes (before after : Cells → Type 0) (at : Addr) (by : Change) (operand : Value) (result : Result Set Fault) : Type 0 where
  pub old : Value
  pub reads : Reads before at (change_kind by) old
  pub to : ChangesTo before after at by old operand result
