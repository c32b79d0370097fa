-- Cells of packets that are freed.
use Rattle.std.specs.Prelude.{◌≡◌, ℕ, ◌+◌, Bool, true, false, ◌&&◌, cond, nat_le, nat_lt, List, Some, slice_get}
use Rattle.eu_base.specs.declared.value.Kind.{Kind}
use Rattle.eu_base.specs.declared.value.Kind.TheVariants as kinds
use Rattle.eu_base.specs.declared.value.Value.{Value}
use Rattle.eu_base.specs.declared.address.Addr.{Addr}
use Rattle.eu_base.specs.declared.address.Area.TheVariants.{Packets}
use Rattle.eu_base.specs.Values.{IsOf}
use Rattle.eu_base.specs.Cells.{Cell, Free, Cells, held_of, packet_cell, same_area}

-- a cell of this kind holds a text
abbrev pub is_text : Kind → Bool
is_text kinds.Int = false
is_text kinds.Truth = false
is_text kinds.Text = true
is_text kinds.Task = false
is_text kinds.Space = false

-- a cell holds a value of a kind
pub record HoldsOf (kind : Kind) (cell : Cell) : Type 0 where
  pub value : Value
  pub of_kind : IsOf kind value
  pub held : cell ≡ held_of value

-- cells of packets from one on hold values of these kinds, one after another
abbrev pub HoldEach : ℕ → List Kind → Cells → Type 0
HoldEach at kinds cells = (x : ℕ) (k : Kind) → slice_get kinds x ≡ Some k → HoldsOf k (cells (packet_cell (at + x)))

-- nothing is known of the cells of packets from one up to another
abbrev pub is_between : ℕ → ℕ → Addr → Bool
is_between from until a = same_area a.area Packets && (nat_le from a.cell && nat_lt a.cell until)

abbrev pub freed : ℕ → ℕ → Cells → Cells
freed from until cells = λ a. cond (is_between from until a) Free (cells a)
