-- What a step of the making of code did, where memory was not wanted. Want of memory is kept in the draft, and nothing is known then.
use Rattle.std.specs.Prelude.{◌≡◌, ℕ, false, List}
use Rattle.code_form.specs.declared.operand.OperandKind.{OperandKind}
use Rattle.code_form.specs.declared.instr.Instr.{Instr}
use Rattle.elan_types.specs.Eval.{Labelled}
use Rattle.place_gen.specs.declared.draft.Draft.{Draft}
use Rattle.place_gen.specs.Stretch.{Stretch, Exit}
use Rattle.place_gen.specs.Adds.{Adds, AddsExit, AddsArm, Restores, Turns}

-- a stretch was added
pub record Makes (f : Stretch) (old new : Draft) : Type 0 where
  pub met : new.wanted ≡ false → (old.wanted ≡ false) × Adds f old new

-- a part of a loop's turn was added
pub record MakesExit (f : Exit) (end : ℕ) (old new : Draft) : Type 0 where
  pub met : new.wanted ≡ false → (old.wanted ≡ false) × AddsExit f end old new

-- nothing was added, and this is pending
pub record ComesBack (ks : List OperandKind) (old new : Draft) : Type 0 where
  pub met : new.wanted ≡ false → (old.wanted ≡ false) × Restores ks old new

-- a jump was added, and the next branch begins where this is pending
pub record MakesTurn (jump : Instr) (ks : List OperandKind) (old new : Draft) : Type 0 where
  pub met : new.wanted ≡ false → (old.wanted ≡ false) × Turns jump ks old new

-- a part of a SELECT was added where this is pending, with a jump to the end behind it, and it is pending again
pub record MakesArm (arm : Labelled Stretch) (end : ℕ) (ks : List OperandKind) (old new : Draft) : Type 0 where
  pub met : new.wanted ≡ false → (old.wanted ≡ false) × (old.pending ≡ ks → AddsArm arm end old new × (new.pending ≡ ks))
