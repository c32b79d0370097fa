use Rattle.std.proofs.Common.{◌≡◌, [], ◌∷◌, List, refl, sym, ap, ◌∙◌, take}
use Rattle.std.specs.Prelude.{Ok, pos, reverse}
use Rattle.eu_base.specs.declared.value.Value.TheVariants as item
use Rattle.eu_base.specs.Operations.{result_of}
use Rattle.code_form.specs.declared.operand.Operand.{Operand}
use Rattle.code_form.specs.declared.operand.Operand.TheVariants as operand
use Rattle.zero_ops.specs.Given.{given_of}
use Rattle.zero_state.specs.Stacked.{Stacked}
use Rattle.zero_steps.proofs.Operating.{looks_at_two, values_on, fits_for, gives_so, placed, place_fits}
use Rattle.zero_steps.proofs.Accessing.{with_ops}
use Rattle.zero_steps.proofs.operate.operate_on_one.Goals as goal

pub replace_top-requires-clause-room : goal.replace_top-requires-clause-room
replace_top-requires-clause-room c =
    let s = c.args.s.now in
    let a = c.requires.finds.value in
    let v = c.in-Ok.value in
    let op = c.args.operation in
    let t : Stacked = record { ops = c.requires.finds.rest; frames = s.stack.frames } in
    let there : s.stack ≡ with_ops t (operand.Value a ∷ t.ops) = ap (λ (ops : List Operand). with_ops t ops) c.requires.finds.top in
    let seen : c.top.result.now ≡ operand.Value a ∷ [] = c.top.ensures ∙ ap (λ (u : Stacked). reverse (take 1 u.ops)) there in
    let given : given_of c.on_numbers.result ≡ result_of op (a ∷ item.Int (pos 0) ∷ []) = rw seen at c.on_numbers.ensures in
    let is : Ok v ≡ result_of op (a ∷ []) =
    ap given_of (sym c.in-Ok.is) ∙ given ∙ sym (looks_at_two op (a ∷ []) c.requires.numbers) in
    let fits = fits_for op (a ∷ []) v is s.stack t a [] c.requires.numbers there c.requires.ready.bytes in
    place_fits t s.stack (operand.Value v) (operand.Value a) there fits

pub returns-in-Ok : goal.returns-in-Ok
returns-in-Ok c =
    let s = c.args.s.now in
    let a = c.requires.finds.value in
    let v = c.in-Ok.value in
    let op = c.args.operation in
    let t : Stacked = record { ops = c.requires.finds.rest; frames = s.stack.frames } in
    let there : s.stack ≡ with_ops t (operand.Value a ∷ t.ops) = ap (λ (ops : List Operand). with_ops t ops) c.requires.finds.top in
    let seen : c.top.result.now ≡ operand.Value a ∷ [] = c.top.ensures ∙ ap (λ (u : Stacked). reverse (take 1 u.ops)) there in
    let given : given_of c.on_numbers.result ≡ result_of op (a ∷ item.Int (pos 0) ∷ []) = rw seen at c.on_numbers.ensures in
    let is : Ok v ≡ result_of op (a ∷ []) =
    ap given_of (sym c.in-Ok.is) ∙ given ∙ sym (looks_at_two op (a ∷ []) c.requires.numbers) in
    let fits = fits_for op (a ∷ []) v is s.stack t a [] c.requires.numbers there c.requires.ready.bytes in
    gives_so op (a ∷ []) v is s.stack t s.pc s.used c.replace_top.new.self s.waits
    (values_on _ 1 s.stack.ops (operand.Value a ∷ t.ops) c.requires.arity (ap (λ (u : Stacked). u.ops) there)) fits refl
    (placed t s.stack c.replace_top.new.self (operand.Value v) (operand.Value a) there c.replace_top.ensures) c.requires.ready.free
