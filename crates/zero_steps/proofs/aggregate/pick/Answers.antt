use Rattle.std.proofs.Common.{◌≡◌, [], ◌∷◌, ◌*◌, List, rules, sym, ap, ◌∙◌, take, Some}
use Rattle.std.specs.Prelude.{reverse}
use Rattle.std.specs.Int.{w16}
use Rattle.std.specs.Int.RustNames.{FitsSigned}
use Rattle.eu_base.specs.Values.{number_of}
use Rattle.code_form.specs.declared.operand.Operand.{Operand}
use Rattle.code_form.specs.declared.operand.Operand.TheVariants as operand
use Rattle.eu_base.specs.Operations.{in_row}
use Rattle.zero_state.specs.Stepping.{control_of}
use Rattle.zero_steps.proofs.Accessing.{same_number}
use Rattle.zero_steps.proofs.Aggregates.{picked, below_number, fewer_fit}
use Rattle.zero_steps.proofs.aggregate.pick.Goals as goal

pub returns : goal.returns
returns c =
    let s = c.args.s.now in
    let finds = c.requires.finds in
    let t = c.pop_value-number.new.self in
    let v = c.pop_value-number.result in
    let is = below_number s.stack t v finds.number finds.operand finds.rest c.pop_value-number.ensures finds.top in
    let seen : c.top.result.now ≡ operand.Value finds.number ∷ [] = c.top.ensures ∙ ap (λ (ops : List Operand). reverse (take 1 ops)) finds.top in
    let number : c.number.result ≡ number_of finds.number = rw seen at c.number.ensures in
    let fits : FitsSigned w16 c.number.result = search rules in
    let row : in_row c.args.count (number_of v) ≡ Some c.in-Some.before =
    ap (λ v. in_row c.args.count (number_of v)) is.0 ∙ ap (in_row c.args.count) (sym (same_number c.number.result _ fits number)) ∙ sym c.in-Some.ensures in
    picked finds.operand finds.rest s.pc s.used s.waits (control_of c.keep_part.new.s) finds.value c.requires.ready.free c.args.count c.args.cells
    c.in-Some.before (c.from.result * c.from-2.result) c.from-3.result v s.stack t c.pop_value-number.ensures is.1
    (fewer_fit s.stack t (operand.Value v) c.pop_value-number.ensures c.requires.ready.bytes) c.in_ok-keep_part.ensures row
    (ap (λ n. n * c.from-2.result) c.from.ensures ∙ ap (λ n. c.in-Some.before * n) c.from-2.ensures) c.from-3.ensures
