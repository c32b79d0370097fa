-- Gates and heads, and which slot of a disk is taken.
use Rattle.std.specs.Prelude.{◌≡◌, ◌⊎◌, ◌≤◌, ◌<◌, ◌+◌, ◌-◌, ◌==◌, ℕ, Bool, true, false, if◌then◌else◌, List, ◌∷◌, ◌++◌, replicate, slice_index}
use Rattle.std.specs.Int.{w32, to_le_bytes}
use Rattle.edge.specs.Disk.{Blocks}
use Rattle.edge.specs.declared.disk.TheConstants.{BLOCKS}

-- The gates of the slots 0 and 1 stand in the blocks 0 and 1. A gate is open exactly where its first byte is 1.
abbrev pub is_open : Blocks → ℕ → Bool
is_open content slot = slice_index (content slot) 0 == 1

-- a gate as it is written: a byte that says whether it is open, and zeros
abbrev pub gate_of : Bool → List ℕ
gate_of open_one = (if open_one then 1 else 0) ∷ replicate 511 0

-- the bytes of a head: EUMELSYS, the version 1, the sequence, the block of the root with its least byte first, zeros
abbrev pub head_of : ℕ → ℕ → List ℕ
head_of sequence root = 69 ∷ 85 ∷ 77 ∷ 69 ∷ 76 ∷ 83 ∷ 89 ∷ 83 ∷ 1 ∷ sequence ∷ (to_le_bytes w32 root ++ replicate 498 0)

-- The block spells this head. A root is a block from 4 to the last one.
pub record IsHead (block : List ℕ) (sequence root : ℕ) : Type 0 where
  pub bytes : block ≡ head_of sequence root
  pub sequence_low : 1 ≤ sequence
  pub sequence_high : sequence ≤ 3
  pub root_low : 4 ≤ root
  pub root_high : root < BLOCKS

-- 2 comes after 1, 3 after 2, and 1 after 3
abbrev pub next_of : ℕ → ℕ
next_of sequence = if sequence == 3 then 1 else sequence + 1

-- a head whose sequence comes right before this one
pub record IsOlder (block : List ℕ) (sequence : ℕ) : Type 0 where
  pub old_sequence : ℕ
  pub old_root : ℕ
  pub head : IsHead block old_sequence old_root
  pub older : sequence ≡ next_of old_sequence

-- The slot is taken, with this head: its gate is open, and that of the other slot is closed or its head is older. The
-- heads of the slots 0 and 1 stand in the blocks 2 and 3.
pub record IsTaken (content : Blocks) (slot sequence root : ℕ) : Type 0 where
  pub number : slot < 2
  pub open_gate : is_open content slot ≡ true
  pub head : IsHead (content (2 + slot)) sequence root
  pub other : is_open content (1 - slot) ≡ true → IsOlder (content (3 - slot)) sequence

-- an open gate with no head behind it
pub record HasNoHead (content : Blocks) : Type 0 where
  pub slot : ℕ
  pub number : slot < 2
  pub open_gate : is_open content slot ≡ true
  pub none : (sequence root : ℕ) → ¬ (IsHead (content (2 + slot)) sequence root)

-- both gates are open, and the heads have one sequence
pub record HasEqualSequences (content : Blocks) : Type 0 where
  pub sequence : ℕ
  pub first_root : ℕ
  pub second_root : ℕ
  pub first_gate : is_open content 0 ≡ true
  pub second_gate : is_open content 1 ≡ true
  pub first_head : IsHead (content 2) sequence first_root
  pub second_head : IsHead (content 3) sequence second_root

-- no slot can be taken: both gates are closed, an open slot has no head, or both are open with one sequence
abbrev pub IsForeign : Blocks → Type 0
IsForeign content = ((is_open content 0 ≡ false) × (is_open content 1 ≡ false)) ⊎ (HasNoHead content ⊎ HasEqualSequences content)
