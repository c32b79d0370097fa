-- Operands that have no room.
use Rattle.std.proofs.Common.{◌≡◌, false, cond, List, ◌∷◌, ap, ◌∙◌}
use Rattle.std.specs.Prelude.{Ok}
use Rattle.eu_base.specs.declared.value.Value.{Value}
use Rattle.eu_base.specs.declared.stop.Stop.TheVariants as stops
use Rattle.eu_base.specs.Room.{bytes_fit}
use Rattle.eu_base.specs.Operations.{Given}
use Rattle.code_form.specs.declared.operand.Operand.{Operand}
use Rattle.code_form.specs.declared.operand.Operand.TheVariants.{Value as Of}
use Rattle.code_form.specs.Machine.{Mem, Frame, Position, Halts, bytes_on, bytes_of, goes, pushes, or_halt}

-- a value that is given has no room
pub given_full : (ops : List Operand) (fs : List Frame) (g : Given) (v : Value) → g ≡ Ok v → bytes_fit (bytes_on (Of v ∷ ops) (bytes_of fs)) ≡ false
    → (c : Position) (mem : Mem) → c.frames ≡ fs → or_halt g (λ v. pushes c (Of v) ops mem) ≡ Halts stops.OperandRoom
given_full ops fs g v is full c mem same =
    ap (λ g. or_halt g (λ v. pushes c (Of v) ops mem)) is
    ∙ ap (λ fs. cond (bytes_fit (bytes_on (Of v ∷ ops) (bytes_of fs))) (goes c (Of v ∷ ops) mem) (Halts stops.OperandRoom)) same
    ∙ ap (λ b. cond b (goes c (Of v ∷ ops) mem) (Halts stops.OperandRoom)) full
