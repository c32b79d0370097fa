-- An operation that stops leaves its operands pending.
use Rattle.std.proofs.Common.{◌≡◌, ℕ, ◌+◌, ◌≤◌, List, [], ◌∷◌, ◌++◌, true, false, cond, drop, Some, refl, sym, ap, ◌∙◌, length, arith}
use Rattle.std.specs.Prelude.{Ok}
use Rattle.eu_base.specs.declared.value.Value.{Value}
use Rattle.eu_base.specs.declared.operation.Operation.{Operation}
use Rattle.eu_base.specs.declared.operation.Operation.TheVariants.{OnTexts}
use Rattle.eu_base.specs.Operations.{Given, operand, operand_kinds, result_kind, result_of}
use Rattle.eu_base.specs.declared.value.Value.TheVariants.{Int, Truth, Text, Task, Space}
use Rattle.eu_base.specs.declared.stop.Stop.TheVariants as stops
use Rattle.eu_base.specs.Room.{value_bytes, bytes_fit}
use Rattle.eu_base.specs.Values.{IsOf}
use Rattle.eu_base.proofs.Results.{result_gives}
use Rattle.code_form.specs.declared.operand.Operand.{Operand}
use Rattle.code_form.specs.declared.operand.Operand.TheVariants.{Value as Of}
use Rattle.code_form.specs.declared.halt.Halt.TheVariants as halts
use Rattle.code_form.specs.declared.instr.Instr.TheVariants.{Do}
use Rattle.code_form.specs.declared.waits.Waits.{Waits}
use Rattle.code_form.specs.declared.waits.Waits.TheVariants.{Nothing}
use Rattle.code_form.specs.Machine.{Mem, Position, Control, free, Move, Halts, On, Over, rest_at, bytes_on, bytes_of, goes, on_values, or_halt, pushes, stage}
use Rattle.zero_state.specs.declared.state.State.{State}
use Rattle.zero_state.specs.declared.next.Next.{Next}
use Rattle.zero_state.specs.declared.next.Next.TheVariants.{On as On'}
use Rattle.zero_state.proofs.Room.{less_fits}
use Rattle.zero_state.specs.Stacked.{Stacked}
use Rattle.zero_state.specs.Stepping.{stage_of, scene_of, StepsSo}
use Rattle.zero_ops.specs.Given.{has_texts}
use Rattle.zero_steps.specs.Giving.{GivesSo}
use Rattle.zero_steps.proofs.Accessing.{standing, with_ops}
use Rattle.zero_steps.proofs.Putting.{at_least}

-- an operation on numbers and truth values looks at no more than two operands
pub looks_at_two : (op : Operation) (vs : List Value) → has_texts op ≡ false → result_of op vs ≡ result_of op (operand vs 0 ∷ operand vs 1 ∷ [])
looks_at_two (OnTexts op) vs h = let f : ⊥ = cc in absurd f
looks_at_two _ vs h = refl

-- so many values are on top
pub values_on : (n m : ℕ) (ops ops' : List Operand) → n ≡ m → ops ≡ ops' → (go : List Value → List Operand → Move)
    → on_values n [] ops go ≡ on_values m [] ops' go
values_on n m ops ops' e f go = ap (λ n. on_values n [] ops go) e ∙ ap (λ ops. on_values m [] ops go) f

-- what was taken is put back
abbrev at_stack : Control → Stacked → Control
at_stack c t = record { position = standing c.position.pc c.position.used t; waits = c.waits }

abbrev stack_at : Control → Stacked
stack_at c = record { ops = c.position.ops; frames = c.position.frames }

pub put_back_by : (c c' : Control) (on : List Operand → List Operand) (s t : Stacked) → c' ≡ c → c.waits ≡ Nothing
    → s ≡ with_ops (stack_at c) (on c.position.ops) → t ≡ with_ops (stack_at c') (on c'.position.ops)
    → record { position = standing c'.position.pc c'.position.used t; waits = c'.waits } ≡ free (standing c.position.pc c.position.used s)
put_back_by c c' on s t same none s_is t_is =
    ap (λ c. at_stack c t) same
    ∙ ap (at_stack c) (t_is ∙ ap (λ (c : Control). with_ops (stack_at c) (on c.position.ops)) same ∙ sym s_is)
    ∙ ap (λ w. record { position = standing c.position.pc c.position.used s; waits = w }) none

pub put_back : (c c' : Control) (ops : List Operand) (s t : Stacked) → c' ≡ c → c.waits ≡ Nothing → s ≡ with_ops (stack_at c) (ops ++ c.position.ops)
    → t ≡ with_ops (stack_at c') (ops ++ c'.position.ops)
    → record { position = standing c'.position.pc c'.position.used t; waits = c'.waits } ≡ free (standing c.position.pc c.position.used s)
put_back c c' ops = put_back_by c c' (λ rest. ops ++ rest)

pub stops_so : (op : Operation) (vs : List Value) (c : Position) (rest : List Operand) (g : Given) (s s' : State) (next : Next)
    → ((go : List Value → List Operand → Move) → on_values (length (operand_kinds op)) [] c.ops go ≡ go vs rest) → g ≡ result_of op vs
    → GivesSo g s s' (Some next) → s.stack.ops ≡ rest → c.frames ≡ s.stack.frames → (d : Control) → d ≡ free c → (mem : Mem)
    → StepsSo (Do op) c mem d mem next
stops_so op vs c rest g s s' next taken g_is gives rest_is frames d is mem p marks =
    let stop = gives.1.0 in
    ap (λ h. stage_of h d (scene_of mem marks)) gives.1.1.0
    ∙ ap (λ d. Over (rest_at (halts.Stopped stop) d (scene_of mem marks))) is
    ∙ ap (λ m. stage m c (scene_of mem marks)) (sym (taken (λ vs ops. or_halt (result_of op vs) (λ v. pushes c (Of v) ops mem))
    ∙ ap (λ g. or_halt g (λ v. pushes c (Of v) rest mem)) (sym g_is)
    ∙ ap (λ r. or_halt g (λ v. pushes c (Of v) r mem)) (sym rest_is) ∙ gives.1.1.1 c mem frames))

-- a number, a truth value or a task takes no more room than what it is made of
number_bytes : (op : Operation) (v : Value) → has_texts op ≡ false → IsOf (result_kind op) v → value_bytes v ≡ 8
number_bytes (OnTexts op) v h of = let f : ⊥ = cc in absurd f
number_bytes _ (Int z) h of = refl
number_bytes _ (Truth b) h of = refl
number_bytes _ (Text t) h of = absurd of
number_bytes _ (Task n) h of = refl
number_bytes _ (Space s) h of = refl

more_on : (more ops : List Operand) (held : ℕ) → bytes_on ops held ≤ bytes_on (more ++ ops) held
more_on [] ops held = omega arith
more_on (o ∷ more) ops held = omega (arith, more_on more ops held)

module _ (op : Operation) (vs : List Value) (v : Value) (is : Ok v ≡ result_of op vs) (s t : Stacked) where
  pub fits_for : (a : Value) (more : List Operand) → has_texts op ≡ false → s ≡ with_ops t (more ++ Of a ∷ t.ops)
      → bytes_fit (bytes_on s.ops (bytes_of s.frames)) ≡ true → bytes_fit (bytes_on (Of v ∷ t.ops) (bytes_of t.frames)) ≡ true
  fits_for a more numbers back fits =
      let small : value_bytes v ≡ 8 = number_bytes op v numbers (result_gives op vs v (sym is)) in
      less_fits _ _ (omega (arith, small, at_least a, more_on more (Of a ∷ t.ops) (bytes_of t.frames)))
      (ap (λ (s : Stacked). bytes_fit (bytes_on s.ops (bytes_of s.frames))) (sym back) ∙ fits)

  -- it goes on with what is given in the place of its operands
  pub gives_so : (pc used : ℕ) (u : Stacked) (w : Waits)
      → ((go : List Value → List Operand → Move) → on_values (length (operand_kinds op)) [] s.ops go ≡ go vs t.ops)
      → bytes_fit (bytes_on (Of v ∷ t.ops) (bytes_of t.frames)) ≡ true → s.frames ≡ t.frames → u ≡ with_ops t (Of v ∷ t.ops) → w ≡ Nothing
      → (mem : Mem) → StepsSo (Do op) (standing pc used s) mem (record { position = standing (pc + 1) used u; waits = w }) mem On'
  gives_so pc used u w taken fits same put none mem p marks =
      ap (λ u. On (record { position = standing (pc + 1) used u; waits = w }) (scene_of mem marks)) put
      ∙ ap (λ w. On (record { position = standing (pc + 1) used (with_ops t (Of v ∷ t.ops)); waits = w }) (scene_of mem marks)) none
      ∙ ap (λ fs. On (free (standing (pc + 1) used (record { ops = Of v ∷ t.ops; frames = fs }))) (scene_of mem marks)) (sym same)
      ∙ ap (λ m. stage m (standing pc used s) (scene_of mem marks))
      (sym (taken (λ vs ops. or_halt (result_of op vs) (λ v. pushes (standing pc used s) (Of v) ops mem))
      ∙ ap (λ g. or_halt g (λ v. pushes (standing pc used s) (Of v) t.ops mem)) (sym is)
      ∙ ap (λ fs. cond (bytes_fit (bytes_on (Of v ∷ t.ops) (bytes_of fs))) (goes (standing pc used s) (Of v ∷ t.ops) mem) (Halts stops.OperandRoom)) same
      ∙ ap (λ b. cond b (goes (standing pc used s) (Of v ∷ t.ops) mem) (Halts stops.OperandRoom)) fits))

-- what is left where an operand was taken, and where one stands in the place of another
pub popped : (t u : Stacked) (o q : Operand) (ops : List Operand) → with_ops t (o ∷ ops) ≡ with_ops u (q ∷ u.ops) → u ≡ with_ops t ops
popped t u o q ops e = ap (λ (s : Stacked). with_ops s (drop 1 s.ops)) (sym e)

pub placed : (t s u : Stacked) (q o : Operand) → s ≡ with_ops t (o ∷ t.ops) → u ≡ with_ops s (q ∷ drop 1 s.ops) → u ≡ with_ops t (q ∷ t.ops)
placed t s u q o is put = put ∙ ap (λ (s : Stacked). with_ops s (q ∷ drop 1 s.ops)) is

pub place_fits : (t s : Stacked) (q o : Operand) → s ≡ with_ops t (o ∷ t.ops) → bytes_fit (bytes_on (q ∷ t.ops) (bytes_of t.frames)) ≡ true
    → bytes_fit (bytes_on (q ∷ drop 1 s.ops) (bytes_of s.frames)) ≡ true
place_fits t s q o is fits = ap (λ (s : Stacked). bytes_fit (bytes_on (q ∷ drop 1 s.ops) (bytes_of s.frames))) is ∙ fits
