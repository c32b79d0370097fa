-- Frames of bodies.
use Rattle.std.specs.Prelude.{◌≡◌, ℕ, ◌+◌, ◌-◌, ◌<◌, ◌≤◌, Bool, true, false, List, [], ◌∷◌, ◌++◌, reverse, take, drop, Option, Some, None, slice_get}
use Rattle.eu_base.specs.declared.set.Set.{Set}
use Rattle.eu_base.specs.declared.set.Set.TheVariants.{Done, HeapFull}
use Rattle.eu_base.specs.declared.value.Kind.{Kind}
use Rattle.eu_base.specs.declared.value.Kind.TheVariants as kinds
use Rattle.eu_base.specs.Room.{most_blocks}
use Rattle.eu_base.specs.DataSpaces.{Heads}
use Rattle.eu_base.specs.Cells.{Cell, Free, Cells, run_cell, freed, cell_blocks, blocks_in, HasText}
use Rattle.code_form.specs.declared.operand.Operand.{Operand}
use Rattle.code_form.specs.Program.{CellUse}
use Rattle.code_form.specs.Machine.{Position, Control, free, After, Scene, Stage, frame_contents, written_from, are_of, enters, after_stage}
use Rattle.zero_state.specs.declared.next.Next.{Next}
use Rattle.zero_state.specs.Stepping.{scene_of, Steps}

-- nothing is known of so many cells from one on
abbrev pub AreFree : ℕ → ℕ → Cells → Type 0
AreFree from count cells = (k : ℕ) → from ≤ k → k < from + count → cells (run_cell k) ≡ Free

-- this stands in cells, one after another
abbrev pub Stand : ℕ → List Cell → Cells → Type 0
Stand at ns cells = (k : ℕ) (x : Cell) → slice_get ns k ≡ Some x → cells (run_cell (at + k)) ≡ x

-- this was put into cells, one after another; or all texts would have no room then, and what was known is known
abbrev pub PutsFrom : (Cells → Type 0) → ℕ → List Cell → Cells → Set → Type 0
PutsFrom holds at ns cells Done = holds (written_from at ns cells)
PutsFrom holds at ns cells HeapFull = (most_blocks < blocks_in (written_from at ns cells)) × holds cells

-- a cell is known to hold a text, or one that has blocks is not known to stand there
abbrev pub HoldsText : Bool → Cell → Type 0
HoldsText true x = HasText x
HoldsText false x = cell_blocks x ≡ 0

-- a cell of this kind holds a text
abbrev pub is_text_kind : Kind → Bool
is_text_kind kinds.Int = false
is_text_kind kinds.Truth = false
is_text_kind kinds.Text = true
is_text_kind kinds.Task = false
is_text_kind kinds.Space = false

-- what follows a spent mark, where nothing is waited for
abbrev pub paid_stage : After → Position → Scene → Stage
paid_stage a c s = after_stage a (free c) s

-- what was freed up to a cell is freed up to another, where the cells from the first on, up to the end of the frame, are known to hold what
-- they are used for
abbrev pub FreesTo : (before after : Cells → Type 0) → List CellUse → (at end until : ℕ) → Type 0
FreesTo before after us at end until = (from : ℕ) (cells : Cells) (rest : List CellUse) → from ≤ at → before (freed from at cells)
    → are_of (us ++ rest) at (until - at) cells ≡ true → after (freed from end cells)

-- a body is entered so with so many of the pending operands, or has no room
abbrev pub EntersSo : (before after : Cells → Type 0) → Heads → (first base : ℕ) → Bool → (body count : ℕ) → List Kind → Position → Control → Next → Type 0
EntersSo before after heads first base refines body count variables c c' next = (marks : ℕ) → Steps before after heads heads
    (λ d mem. paid_stage (enters d first base refines body (drop count d.ops) (frame_contents (reverse (take count d.ops)) variables) mem) d
    (scene_of mem marks))
    c c' marks next

-- what comes back with a result
abbrev pub result_ops : Option Operand → List Operand
result_ops None = []
result_ops (Some o) = o ∷ []
