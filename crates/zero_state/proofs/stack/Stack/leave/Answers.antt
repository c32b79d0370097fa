use Rattle.std.proofs.Common.{arith}
use Rattle.code_form.specs.Machine.{bytes_of}
use Rattle.zero_state.specs.Stacked.{frames_of}
use Rattle.zero_state.proofs.Counts.{upon_held, held_is}
use Rattle.zero_state.proofs.stack.Stack.leave.Goals as goal

pub bytes_without-self-inside-requires : goal.bytes_without-self-inside-requires
bytes_without-self-inside-requires c =
    let e =
    upon_held c.self.inside.operands c.as_slice.result.now (bytes_of (frames_of c.self.inside.frames)) c.self.inside.bytes c.as_slice.ensures
    c.self.invariant in
    omega (arith, e)

pub invariant_of-self-2 : goal.invariant_of-self-2
invariant_of-self-2 c =
    let e =
    upon_held c.self.inside.operands c.as_slice.result.now (bytes_of (frames_of c.self.inside.frames)) c.self.inside.bytes c.as_slice.ensures
    c.self.invariant in
    let f = held_is c.pop.new.self c.self.inside.frames c.in_ok-link.field-0 c.in_ok-link.ensures in
    omega (arith, e, f, c.bytes_without-self-inside.ensures)
