-- What comes of a message for variables, over a memory.
use Rattle.std.specs.Prelude.{◌≡◌, ◌⊎◌, ℕ, ◌+◌, Bool, true, false, List, [], ◌∷◌, Option, Some, None, slice_get}
use Rattle.eu_base.specs.declared.address.Addr.{Addr}
use Rattle.eu_base.specs.declared.stop.Stop.TheVariants.{NoSpace}
use Rattle.eu_base.specs.declared.value.Kind.{Kind}
use Rattle.eu_base.specs.declared.value.Kind.TheVariants as kinds
use Rattle.eu_base.specs.declared.value.Value.{Value}
use Rattle.eu_base.specs.Values.{SpaceNo, kind_of, space_in}
use Rattle.eu_base.specs.Cells.{Cells, Word, IsCell}
use Rattle.eu_base.specs.DataSpaces.{Heads}
use Rattle.eu_base.specs.SpacePlaces.{lies_in}
use Rattle.code_form.specs.declared.operand.Operand.{Operand}
use Rattle.code_form.specs.declared.operand.Operand.TheVariants.{Place as At}
use Rattle.code_form.specs.Machine.{Mem, Position, Move, Refuses, Unknown, at, goes, receives_in, receives}
use Rattle.zero_state.specs.Stepping.{mem_of}

-- the data space that a variable of a kind holds, where that is known; others hold none
abbrev pub HeldSo : (Cells → Type 0) → Addr → Kind → Option SpaceNo → Type 0
HeldSo holds a kinds.Space held = (cells : Cells) (n : ℕ) → holds cells → cells a ≡ Word n → held ≡ space_in n
HeldSo holds a kind held = held ≡ None

-- the place of a cell
abbrev pub IsPlaceOf : Option Operand → Type 0
IsPlaceOf (Some (At a)) = IsCell a
IsPlaceOf _ = ⊥

-- what the machine does then
abbrev pub Then : Type 0
Then = Mem → Move

-- a variable got a value, over a memory that held this and had these data spaces, and holds that and has those; where memory is not known to hold what
-- is asked for, nothing is said
pub record ReceivedIn (before after : Cells → Type 0) (had has : Heads) (a : Addr) (v : Value) : Type 0 where
  pub known : (c : Position) (ops : List Operand) (go : Then) (cells : Cells) → before cells → (receives_in c ops a v (mem_of had cells) go ≡ Unknown)
      ⊎ ((now : Cells) × (after now × (receives_in c ops a v (mem_of had cells) go ≡ go (mem_of has now))))

-- or it is not there, and nothing changed
pub record MissedIn (before after : Cells → Type 0) (had has : Heads) (a : Addr) (v : Value) : Type 0 where
  pub gone : lies_in (kind_of v ∷ []) a.area a.cell had ≡ false
  pub heads : has ≡ had
  pub kept : (cells : Cells) → before cells → after cells

abbrev pub ReceivesIn : (before after : Cells → Type 0) (had has : Heads) → Addr → Value → Bool → Type 0
ReceivesIn before after had has a v true = ReceivedIn before after had has a v
ReceivesIn before after had has a v false = MissedIn before after had has a v

-- variables got what comes before this of what a message brings
abbrev pub ReceivedTo : (before after : Cells → Type 0) (had has : Heads) → List Operand → List (ℕ × Value) → List (ℕ × Value) → Type 0
ReceivedTo before after had has os es rest =
    (c : Position) (ops : List Operand) (cells : Cells) → before cells → (receives c ops os es (mem_of had cells) ≡ Unknown)
    ⊎ ((now : Cells) × (after now × (receives c ops os es (mem_of had cells) ≡ receives c ops os rest (mem_of has now))))

-- one of them is not there, where a memory has some data spaces
pub record IsMissed (os : List Operand) (es : List (ℕ × Value)) : Type 0 where
  pub number : ℕ
  pub entry : ℕ × Value
  pub is : slice_get es number ≡ Some entry
  pub place : Addr
  pub there : slice_get os entry.0 ≡ Some (At place)
  pub heads : Heads
  pub gone : lies_in (kind_of entry.1 ∷ []) place.area place.cell heads ≡ false

-- those before it got their values, and the command stops behind the request
pub record MissedAll (before after : Cells → Type 0) (had has : Heads) (os : List Operand) (es : List (ℕ × Value)) : Type 0 where
  pub missed : IsMissed os es
  pub known : (c : Position) (ops : List Operand) (cells : Cells) → before cells → (receives c ops os es (mem_of had cells) ≡ Unknown)
      ⊎ ((now : Cells) × (after now × (receives c ops os es (mem_of had cells) ≡ Refuses NoSpace (at c (c.pc + 1) ops) (mem_of has now))))

abbrev pub ReceivesAll : (before after : Cells → Type 0) (had has : Heads) → List Operand → List (ℕ × Value) → Bool → Type 0
ReceivesAll before after had has os es true = ReceivedTo before after had has os es []
ReceivesAll before after had has os es false = MissedAll before after had has os es
