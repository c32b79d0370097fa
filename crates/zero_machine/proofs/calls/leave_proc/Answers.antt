use Rattle.std.proofs.Common.{ap, ◌∙◌, arith}
use Rattle.code_form.specs.Machine.{bytes_of}
use Rattle.zero_state.specs.Stacked.{linked}
use Rattle.zero_state.proofs.Counts.{bytes_upon}
use Rattle.zero_machine.proofs.Calling.{proc_inside, does_refine, inside_more, leaves_more}
use Rattle.zero_machine.proofs.calls.leave_proc.Goals as goal

pub leave-link-requires : goal.leave-link-requires
leave-link-requires c = proc_inside c.loop-link.stack.frames c.loop-link.invariant.inside

pub returns-then-not-link-clause-fewer : goal.returns-then-not-link-clause-fewer
returns-then-not-link-clause-fewer c = omega (arith, c.loop-link.invariant.fewer, ap bytes_of c.leave-link.ensures)

pub loop-link-preserved : goal.loop-link-preserved
loop-link-preserved c =
    let invariant = c.loop-link.invariant in
    let below = c.leave-link.new.stack.frames in
    let f = linked c.leave-link.result c.leave-link.new.stack.ops in
    let refines = does_refine c.leave-link.result.refines c.if-not-link.false in
    record {
      leads = λ p ops used mem.
          invariant.leads p ops used mem ∙ leaves_more p c.loop-link.stack.frames f below ops used mem c.leave-link.ensures refines;
      fewer =
          omega (arith, invariant.fewer, ap bytes_of c.leave-link.ensures, bytes_upon c.leave-link.new.stack.ops (bytes_of below));
      inside = inside_more c.loop-link.stack.frames f below c.leave-link.ensures refines invariant.inside;
    }
