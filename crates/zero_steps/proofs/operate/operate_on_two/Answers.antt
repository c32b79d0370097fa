use Rattle.std.proofs.Common.{◌≡◌, [], ◌∷◌, List, refl, sym, ap, ◌∙◌, take}
use Rattle.std.specs.Prelude.{Ok, reverse}
use Rattle.eu_base.specs.Operations.{result_of}
use Rattle.code_form.specs.declared.operand.Operand.{Operand}
use Rattle.code_form.specs.declared.operand.Operand.TheVariants as operand
use Rattle.zero_ops.specs.Given.{given_of}
use Rattle.zero_state.specs.Stacked.{Stacked}
use Rattle.zero_steps.proofs.Operating.{values_on, fits_for, gives_so, popped, placed, place_fits}
use Rattle.zero_steps.proofs.Accessing.{with_ops}
use Rattle.zero_steps.proofs.operate.operate_on_two.Goals as goal

pub replace_top-requires-clause-room : goal.replace_top-requires-clause-room
replace_top-requires-clause-room c =
    let s = c.args.s.now in
    let b = c.requires.finds.0 in
    let a = c.requires.finds.1.2.0 in
    let v = c.in-Ok.value in
    let op = c.args.operation in
    let t : Stacked = record { ops = c.requires.finds.1.2.1.0; frames = s.stack.frames } in
    let there : s.stack ≡ with_ops t (operand.Value b ∷ operand.Value a ∷ t.ops) =
    ap (λ (ops : List Operand). with_ops t ops)
    (c.requires.finds.1.1 ∙ ap (λ (ops : List Operand). operand.Value b ∷ ops) c.requires.finds.1.2.1.1) in
    let seen : c.top.result.now ≡ operand.Value a ∷ operand.Value b ∷ [] =
    c.top.ensures ∙ ap (λ (u : Stacked). reverse (take 2 u.ops)) there in
    let given : given_of c.on_numbers.result ≡ result_of op (a ∷ b ∷ []) = rw seen at c.on_numbers.ensures in
    let is : Ok v ≡ result_of op (a ∷ b ∷ []) = ap given_of (sym c.in-Ok.is) ∙ given in
    let fits = fits_for op (a ∷ b ∷ []) v is s.stack t a (operand.Value b ∷ []) c.requires.numbers there c.requires.ready.bytes in
    let left = popped t c.pop_value-b.new.self (operand.Value b) (operand.Value c.pop_value-b.result) (operand.Value a ∷ t.ops)
    (sym there ∙ c.pop_value-b.ensures) in
    place_fits t c.pop_value-b.new.self (operand.Value v) (operand.Value a) left fits

pub returns-in-Ok : goal.returns-in-Ok
returns-in-Ok c =
    let s = c.args.s.now in
    let b = c.requires.finds.0 in
    let a = c.requires.finds.1.2.0 in
    let v = c.in-Ok.value in
    let op = c.args.operation in
    let t : Stacked = record { ops = c.requires.finds.1.2.1.0; frames = s.stack.frames } in
    let there : s.stack ≡ with_ops t (operand.Value b ∷ operand.Value a ∷ t.ops) =
    ap (λ (ops : List Operand). with_ops t ops)
    (c.requires.finds.1.1 ∙ ap (λ (ops : List Operand). operand.Value b ∷ ops) c.requires.finds.1.2.1.1) in
    let seen : c.top.result.now ≡ operand.Value a ∷ operand.Value b ∷ [] =
    c.top.ensures ∙ ap (λ (u : Stacked). reverse (take 2 u.ops)) there in
    let given : given_of c.on_numbers.result ≡ result_of op (a ∷ b ∷ []) = rw seen at c.on_numbers.ensures in
    let is : Ok v ≡ result_of op (a ∷ b ∷ []) = ap given_of (sym c.in-Ok.is) ∙ given in
    let fits = fits_for op (a ∷ b ∷ []) v is s.stack t a (operand.Value b ∷ []) c.requires.numbers there c.requires.ready.bytes in
    let left = popped t c.pop_value-b.new.self (operand.Value b) (operand.Value c.pop_value-b.result) (operand.Value a ∷ t.ops)
    (sym there ∙ c.pop_value-b.ensures) in
    gives_so op (a ∷ b ∷ []) v is s.stack t s.pc s.used c.replace_top.new.self s.waits
    (values_on _ 2 s.stack.ops (operand.Value b ∷ operand.Value a ∷ t.ops) c.requires.arity (ap (λ (u : Stacked). u.ops) there)) fits refl
    (placed t c.pop_value-b.new.self c.replace_top.new.self (operand.Value v) (operand.Value a) left c.replace_top.ensures) c.requires.ready.free
