use Rattle.std.proofs.Common.{◌-◌, ◌∷◌, take, drop, refl, ap, arith}
use Rattle.std.proofs.lemmas.Bool.{leb-true}
use Rattle.eu_base.specs.declared.value.TheConstants.{OPERAND_BYTES}
use Rattle.code_form.specs.Machine.{bytes_on, bytes_of}
use Rattle.zero_state.specs.Stacked.{Stacked, frames_of}
use Rattle.zero_state.proofs.Counts.{as_many, fewer, kept, dropped, replaced, replaced_turned, replaced_is}
use Rattle.zero_state.proofs.stack.Stack.replace_top.Goals as goal

pub bytes_without-left-requires : goal.bytes_without-left-requires
bytes_without-left-requires c =
    fewer c.self.inside.operands c.as_slice.result.now (c.len-at.result - 1) (bytes_of (frames_of c.self.inside.frames)) c.self.inside.bytes
    c.as_slice.ensures c.self.invariant

pub overflow_add-self : goal.overflow_add-self
overflow_add-self c =
    let operands = c.self.inside.operands in
    let frames = c.self.inside.frames in
    let s = c.args.self.now in
    let k = c.len-at.result - 1 in
    let left =
    kept operands c.as_slice.result.now k (bytes_of (frames_of frames)) c.self.inside.bytes c.as_slice.ensures c.self.invariant
    c.bytes_without-left.result (take k operands) c.bytes_without-left.ensures refl in
    let below =
    ap (λ (s : Stacked). bytes_on s.ops (bytes_of s.frames))
    (dropped operands frames s c.self.view_is (take k operands) 1 c.len-at.result refl c.len-at.ensures c.requires.top) in
    omega (arith, left, below, c.bytes.ensures, leb-true (bytes_on (c.args.operand ∷ drop 1 s.ops) (bytes_of s.frames)) OPERAND_BYTES c.requires.room)

pub invariant_of-self : goal.invariant_of-self
invariant_of-self c =
    let operands = c.self.inside.operands in
    let held = bytes_of (frames_of c.self.inside.frames) in
    let k = c.len-at.result - 1 in
    let many = as_many operands c.self.inside.frames c.args.self.now c.self.view_is in
    let o = c.args.operand in
    let left =
    kept operands c.as_slice.result.now k held c.self.inside.bytes c.as_slice.ensures c.self.invariant c.bytes_without-left.result (take k operands)
    c.bytes_without-left.ensures refl in
    let set = replaced operands c.set.new.self c.len-at.result o (omega (arith, many, c.requires.top)) c.len-at.ensures c.set.ensures in
    let turned = replaced_turned (take k operands) c.set.new.self o set in
    let below =
    ap (λ (s : Stacked). bytes_on s.ops (bytes_of s.frames))
    (dropped operands c.self.inside.frames c.args.self.now c.self.view_is (take k operands) 1 c.len-at.result refl c.len-at.ensures c.requires.top) in
    let small = leb-true (bytes_on (o ∷ drop 1 c.args.self.now.ops) (bytes_of c.args.self.now.frames)) OPERAND_BYTES c.requires.room in
    omega (arith, left, below, small, c.bytes.ensures, ap (λ l. bytes_on l held) turned)

pub returns : goal.returns
returns c =
    let operands = c.self.inside.operands in
    let frames = c.self.inside.frames in
    let s = c.args.self.now in
    let k = c.len-at.result - 1 in
    let many = as_many operands frames s c.self.view_is in
    let o = c.args.operand in
    let set = replaced operands c.set.new.self c.len-at.result o (omega (arith, many, c.requires.top)) c.len-at.ensures c.set.ensures in
    replaced_is (take k operands) c.set.new.self frames o _ (replaced_turned (take k operands) c.set.new.self o set)
    (dropped operands frames s c.self.view_is (take k operands) 1 c.len-at.result refl c.len-at.ensures c.requires.top)
