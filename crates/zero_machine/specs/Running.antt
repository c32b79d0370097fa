-- What a run of the machine says.
use Rattle.std.specs.Prelude.{◌≡◌, ℕ, ◌<◌, ◌≤◌, IsSome}
use Rattle.eu_base.specs.Cells.{Cells}
use Rattle.eu_base.specs.DataSpaces.{Heads}
use Rattle.code_form.specs.declared.halt.Halt.{Halt}
use Rattle.code_form.specs.declared.waits.Waits.{Waits}
use Rattle.code_form.specs.Machine.{Control, Rest, rest_at}
use Rattle.code_form.specs.Runs.{asked}
use Rattle.zero_state.specs.Stepping.{mem_of, scene_of}

-- a step makes no marks, and a request costs one
pub record Spends (before after : ℕ) (waits : Waits) : Type 0 where
  pub fewer : after ≤ before
  pub paid : IsSome (asked waits) → after < before

-- a run comes so to rest, over a memory that holds what is known there, and has the data spaces
abbrev pub RestsSo : (Cells → Type 0) → Heads → Halt → Control → ℕ → Rest → Type 0
RestsSo holds heads how c marks r = holds r.scene.mem.cells × (r ≡ rest_at how c (scene_of (mem_of heads r.scene.mem.cells) marks))
