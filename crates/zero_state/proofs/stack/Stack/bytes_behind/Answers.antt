use Rattle.std.proofs.Common.{◌-◌, take, refl, ap, ◌∙◌}
use Rattle.code_form.specs.Machine.{bytes_on, bytes_of}
use Rattle.zero_state.specs.Stacked.{Stacked, frames_of}
use Rattle.zero_state.proofs.Counts.{fewer, kept, dropped}
use Rattle.zero_state.proofs.stack.Stack.bytes_behind.Goals as goal

pub bytes_without-requires : goal.bytes_without-requires
bytes_without-requires c =
    fewer c.self.inside.operands c.as_slice.result.now (c.len.result - c.args.count) (bytes_of (frames_of c.self.inside.frames)) c.self.inside.bytes
    c.as_slice.ensures c.self.invariant

pub returns : goal.returns
returns c =
    let operands = c.self.inside.operands in
    let frames = c.self.inside.frames in
    let k = c.len.result - c.args.count in
    kept operands c.as_slice.result.now k (bytes_of (frames_of frames)) c.self.inside.bytes c.as_slice.ensures c.self.invariant c.bytes_without.result
    (take k operands) c.bytes_without.ensures refl
    ∙ ap (λ (s : Stacked). bytes_on s.ops (bytes_of s.frames))
    (dropped operands frames c.args.self.now c.self.view_is (take k operands) c.args.count c.len.result refl c.len.ensures c.requires)
