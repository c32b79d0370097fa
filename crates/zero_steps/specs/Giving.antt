-- How what an operation gives is pushed.
use Rattle.std.specs.Prelude.{◌≡◌, ◌+◌, Bool, true, false, List, [], ◌∷◌, Option, Some, None, Ok}
use Rattle.eu_base.specs.Room.{bytes_fit}
use Rattle.eu_base.specs.declared.value.Value.{Value}
use Rattle.eu_base.specs.declared.stop.Stop.{Stop}
use Rattle.eu_base.specs.Operations.{Given}
use Rattle.code_form.specs.declared.halt.Halt.TheVariants as halts
use Rattle.code_form.specs.declared.operand.Operand.{Operand}
use Rattle.code_form.specs.declared.operand.Operand.TheVariants.{Value as Of}
use Rattle.code_form.specs.Machine.{Mem, Position, Control, Halts, pushes, or_halt, bytes_on, bytes_of}
use Rattle.zero_state.specs.declared.state.State.{State}
use Rattle.zero_state.specs.declared.next.Next.{Next}
use Rattle.zero_state.specs.Stepping.{position_of, control_of, halt_of}

-- there is room for one operand more
abbrev pub fits_with : State → Operand → Bool
fits_with s o = bytes_fit (bytes_on (o ∷ s.stack.ops) (bytes_of s.stack.frames))

-- the operand is pushed, and the machine goes on; or nothing is done
abbrev pub pushed : State → Operand → Bool → Control
pushed s o true = record { position = record (position_of s) { pc = s.pc + 1; ops = o ∷ s.stack.ops }; waits = s.waits }
pushed s o false = control_of s

-- what is given is pushed, and the machine goes on; or this stops it, wherever as much is pending, and nothing is done
abbrev pub GivesSo : Given → State → State → Option Next → Type 0
GivesSo g s s' None = (v : Value) × ((g ≡ Ok v) × ((fits_with s (Of v) ≡ true) × (control_of s' ≡ pushed s (Of v) true)))
GivesSo g s s' (Some next) = (control_of s' ≡ control_of s) × ((stop : Stop) × ((halt_of next ≡ Some (halts.Stopped stop)) ×
    ((c : Position) (mem : Mem) → c.frames ≡ s.stack.frames → or_halt g (λ v. pushes c (Of v) s.stack.ops mem) ≡ Halts stop)))

-- values on top of what is pending, the last one newest
abbrev pub put_on : List Value → List Operand → List Operand
put_on [] ops = ops
put_on (v ∷ vs) ops = put_on vs (Of v ∷ ops)

-- what a procedure gives, if it gives something, on top of what is pending
abbrev pub answer_on : Option Value → List Operand → List Operand
answer_on None ops = ops
answer_on (Some v) ops = Of v ∷ ops
