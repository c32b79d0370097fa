use Rattle.std.proofs.Common.{◌-◌, ◌≤◌, List, length, take, refl, ap, arith}
use Rattle.code_form.specs.declared.operand.Operand.TheVariants as operand
use Rattle.code_form.specs.declared.operand.Operand.{Operand}
use Rattle.zero_state.proofs.Counts.{as_many, dropped, replaced, replaced_turned, replaced_is, moved}
use Rattle.zero_state.proofs.stack.Stack.replace_place.Goals as goal

pub invariant_of-self : goal.invariant_of-self
invariant_of-self c =
    moved c.self.inside.operands c.self.inside.frames c.args.self.now c.self.view_is c.set.new.self c.args.place c.requires.place c.requires.rest c.len-at.result
    c.self.inside.bytes c.requires.top c.len-at.ensures c.set.ensures c.self.invariant

pub returns : goal.returns
returns c =
    let operands = c.self.inside.operands in
    let frames = c.self.inside.frames in
    let s = c.args.self.now in
    let k = c.len-at.result - 1 in
    let o = operand.Place c.args.place in
    let long : 1 ≤ length s.ops = let e = ap (λ (l : List Operand). length l) c.requires.top in omega (arith, e) in
    let many = as_many operands frames s c.self.view_is in
    let set = replaced operands c.set.new.self c.len-at.result o (omega (arith, many, long)) c.len-at.ensures c.set.ensures in
    replaced_is (take k operands) c.set.new.self frames o _ (replaced_turned (take k operands) c.set.new.self o set)
    (dropped operands frames s c.self.view_is (take k operands) 1 c.len-at.result refl c.len-at.ensures long)
