use Rattle.std.proofs.Common.{sym, ap, ◌∙◌, arith}
use Rattle.code_form.specs.declared.instr.Instr.TheVariants as instrs
use Rattle.code_form.specs.Machine.{bytes_of, back_to}
use Rattle.zero_state.specs.Stacked.{linked}
use Rattle.zero_state.specs.Stepping.{position_of, control_of}
use Rattle.zero_machine.specs.Frames.{result_ops}
use Rattle.zero_machine.proofs.Results.{result_fits}
use Rattle.zero_machine.proofs.Leaving.{leaves_made}
use Rattle.zero_machine.proofs.calls.back.Goals as goal

pub return_from-requires-clause-room : goal.return_from-requires-clause-room
return_from-requires-clause-room g c =
    let taken = c.take_result-result in
    let held = ap bytes_of (sym taken.ensures.frames ∙ c.leave-link.ensures) in
    result_fits c.args.s.now.stack (result_ops taken.result) taken.new.stack.ops c.leave-link.new.stack.ops (bytes_of c.leave-link.new.stack.frames)
    taken.ensures.rest (omega (arith, held)) c.requires.ready.bytes

pub returns-clause-goes : goal.returns-clause-goes
returns-clause-goes g c =
    let p = c.args.code.now in
    let taken = c.take_result-result in
    let left = c.leave-link in
    let now = position_of c.args.s.now in
    let ops = result_ops taken.result in
    leaves_made (g.M.Memory.holds c.args.m.now) (g.M.Memory.holds c.return_from.new.m) (g.M.Memory.heads c.args.m.now) p (instrs.Back c.args.delivers.now) now (linked left.result left.new.stack.ops)
    left.new.stack.frames ops
    (λ mem. taken.ensures.taken (λ result. back_to p result now.used now.frames mem)
    ∙ ap (λ fs. back_to p ops now.used fs mem) (sym taken.ensures.frames ∙ left.ensures))
    c.return_from.result (control_of c.return_from.new.s) c.args.s.now.waits c.requires.ready.free c.return_from.ensures.goes c.return_from.ensures.freed
