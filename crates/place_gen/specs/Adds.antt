-- What a step of the making of code adds to what was made.
use Rattle.std.specs.Prelude.{◌≡◌, ℕ, ◌+◌, List, [], ◌∷◌, ◌++◌, drop, length, Option, Some, None}
use Rattle.code_form.specs.declared.operand.OperandKind.{OperandKind}
use Rattle.code_form.specs.declared.instr.Instr.{Instr}
use Rattle.code_form.specs.declared.instr.Instr.TheVariants.{Jump}
use Rattle.code_form.specs.Program.{line_of}
use Rattle.code_form.specs.declared.code.Spot.{Spot}
use Rattle.elan_types.specs.Eval.{Labelled}
use Rattle.place_gen.specs.declared.draft.Draft.{Draft}
use Rattle.place_gen.specs.Stretch.{Stretch, Exit, whens}

-- what is pending after an instruction that takes so many operands and may push one
abbrev pub left : ℕ → Option OperandKind → List OperandKind → List OperandKind
left taken None ks = drop taken ks
left taken (Some k) ks = k ∷ drop taken ks

-- a stretch was added
abbrev pub Adds : Stretch → Draft → Draft → Type 0
Adds f old new =
    (new.lines ≡ old.lines ++ f.lines old.pending old.spot (length old.lines))
    × (length new.lines ≡ length old.lines + f.size)
    × (new.pending ≡ f.leaves old.pending)
    × (new.spot ≡ old.spot)

-- a part of a loop's turn was added
abbrev pub AddsExit : Exit → ℕ → Draft → Draft → Type 0
AddsExit f end old new =
    (new.lines ≡ old.lines ++ f.lines end old.pending old.spot (length old.lines))
    × (length new.lines ≡ length old.lines + f.size)
    × (new.pending ≡ old.pending)
    × (new.spot ≡ old.spot)

-- nothing was added, and this is pending
abbrev pub Restores : List OperandKind → Draft → Draft → Type 0
Restores ks old new = (new.lines ≡ old.lines) × (new.pending ≡ ks) × (new.spot ≡ old.spot)

-- nothing was added, and the code of the level or of a body begins
abbrev pub Begins : Spot → Draft → Draft → Type 0
Begins spot old new = (new.lines ≡ old.lines) × (new.pending ≡ []) × (new.spot ≡ spot)

-- a part of a SELECT was added, with a jump to the end behind it
abbrev pub AddsArm : Labelled Stretch → ℕ → Draft → Draft → Type 0
AddsArm arm end old new =
    (new.lines ≡ old.lines
    ++ (whens arm.labels (length old.lines + length arm.labels + 1) old.pending old.spot
    ++ (line_of (Jump (length old.lines + length arm.labels + 1 + arm.part.size + 1)) old.pending old.spot
    ∷ (arm.part.lines (drop 1 old.pending) old.spot (length old.lines + length arm.labels + 1)
    ++ (line_of (Jump end) (arm.part.leaves (drop 1 old.pending)) old.spot ∷ [])))))
    × (length new.lines ≡ length old.lines + (length arm.labels + (1 + (arm.part.size + 1))))
    × (new.spot ≡ old.spot)

-- a jump was added, and the next branch begins where this is pending
abbrev pub Turns : Instr → List OperandKind → Draft → Draft → Type 0
Turns jump ks old new =
    (new.lines ≡ old.lines ++ line_of jump old.pending old.spot ∷ []) × (length new.lines ≡ length old.lines + 1) × (new.pending ≡ ks) × (new.spot ≡ old.spot)
