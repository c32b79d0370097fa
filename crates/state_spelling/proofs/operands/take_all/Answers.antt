use Rattle.std.proofs.Common.{◌≡◌, ◌∙◌, ◌+◌, ◌-◌, ◌<◌, ◌≤◌, ℕ, List, [], Option, Some, ap, sym, refl, subst, length, get_or, true, arith}
use Rattle.std.specs.Prelude.{drop, reverse}
use Rattle.std.proofs.lemmas.Result.{err_from_is_err_and}
use Rattle.eu_base.specs.Room.{bytes_fit}
use Rattle.code_form.specs.declared.operand.OperandKind.{OperandKind}
use Rattle.code_form.specs.declared.operand.Operand.{Operand}
use Rattle.code_form.specs.Machine.{Frame, bytes_on, bytes_of}
use Rattle.byte_spelling.specs.declared.reading.ReadError.{ReadError}
use Rattle.byte_spelling.specs.Gives.{Fails}
use Rattle.state_spelling.specs.Revived.{taken, next_operand}
use Rattle.state_spelling.proofs.Taken.{Parts}
use Rattle.state_spelling.proofs.Loop.{taken_at_end, takes_on, takes_not}
use Rattle.state_spelling.proofs.operands.take_all.Goals as goal

pub loop-at-init : goal.loop-at-init
loop-at-init c =
    let le : length c.args.kinds.now ≤ length c.args.kinds.now = omega arith in
    (le, taken_at_end c.args.kinds.now (bytes_of c.args.stack.now.frames) (reverse c.args.left.now) c.args.stack.now.ops c.requires.nothing, refl, rw c.requires.nothing c.requires.room)

-- the kind that is looked at, and what holds with what is pending below
kind_at : (own : List OperandKind) (n : ℕ) (k : OperandKind) (held was : ℕ) (r s : Parts) → k ≡ get_or own n k → held ≡ was → next_operand k held r ≡ Some s → next_operand (get_or own n k) was r ≡ Some s
kind_at own n k held was r s e h x = ap (λ (j : OperandKind). next_operand j was r) (sym e) ∙ ap (λ (b : ℕ). next_operand k b r) (sym h) ∙ x

fails_at : (own : List OperandKind) (n : ℕ) (k : OperandKind) (held was : ℕ) (r : Parts) (e : ReadError) → k ≡ get_or own n k → held ≡ was → Fails e (next_operand k held r) → Fails e (next_operand (get_or own n k) was r)
fails_at own n k held was r err e h x =
    subst (λ (o : Option Parts). Fails err o) (ap (λ (b : ℕ). next_operand k b r) h ∙ ap (λ (j : OperandKind). next_operand j was r) e) x

pub loop-at-preserved : goal.loop-at-preserved
loop-at-preserved c =
    let i = c.loop-at.invariant in
    let one : c.loop-at.at ≡ (c.loop-at.at - 1) + 1 = omega (arith, c.loop-at-test.true) in
    let lt : c.loop-at.at - 1 < length c.args.kinds.now = omega (arith, i.0, c.loop-at-test.true) in
    let le : c.loop-at.at - 1 ≤ length c.args.kinds.now = omega (arith, i.0) in
    let below = ap (λ (fs : List Frame). bytes_of fs) i.2 in (
      le,
      takes_on c.args.kinds.now (c.loop-at.at - 1) c.loop-at.at c.index-kinds-at.result (bytes_of c.args.stack.now.frames) (reverse c.args.left.now) (c.loop-at.stack.ops, reverse c.loop-at.left) (c.take_next.new.stack.ops, reverse c.take_next.new.left) one lt i.1
          (kind_at c.args.kinds.now (c.loop-at.at - 1) c.index-kinds-at.result (bytes_of c.loop-at.stack.frames) (bytes_of c.args.stack.now.frames) (c.loop-at.stack.ops, reverse c.loop-at.left) (c.take_next.new.stack.ops, reverse c.take_next.new.left) c.index-kinds-at.is below c.in_ok-take_next.ensures.takes),
      c.in_ok-take_next.ensures.frames ∙ i.2,
      c.in_ok-take_next.ensures.room,
    )

pub returns-in_err-take_next-clause-takes : goal.returns-in_err-take_next-clause-takes
returns-in_err-take_next-clause-takes c =
    let i = c.loop-at.invariant in
    let p = err_from_is_err_and c.from_residual.result c.from_residual.ensures.1 in
    let one : c.loop-at.at ≡ (c.loop-at.at - 1) + 1 = omega (arith, c.loop-at-test.true) in
    let lt : c.loop-at.at - 1 < length c.args.kinds.now = omega (arith, i.0, c.loop-at-test.true) in
    rw (p.1, p.2) (takes_not c.args.kinds.now (c.loop-at.at - 1) c.loop-at.at c.index-kinds-at.result (bytes_of c.args.stack.now.frames) (reverse c.args.left.now) (c.loop-at.stack.ops, reverse c.loop-at.left) c.in_err-take_next.field-0.0 one lt i.1
    (fails_at c.args.kinds.now (c.loop-at.at - 1) c.index-kinds-at.result (bytes_of c.loop-at.stack.frames) (bytes_of c.args.stack.now.frames) (c.loop-at.stack.ops, reverse c.loop-at.left) c.in_err-take_next.field-0.0 c.index-kinds-at.is (ap (λ (fs : List Frame). bytes_of fs) i.2) c.in_err-take_next.ensures.takes))
