use Rattle.std.proofs.Common.{◌-◌}
use Rattle.code_form.specs.Machine.{bytes_of}
use Rattle.zero_state.specs.Stacked.{frames_of}
use Rattle.zero_state.proofs.Counts.{fewer, kept, dropped}
use Rattle.zero_state.proofs.stack.Stack.drop_top.Goals as goal

pub bytes_without-self-inside-requires : goal.bytes_without-self-inside-requires
bytes_without-self-inside-requires c =
    fewer c.self.inside.operands c.as_slice.result.now (c.len.result - c.args.count) (bytes_of (frames_of c.self.inside.frames)) c.self.inside.bytes
    c.as_slice.ensures c.self.invariant

pub invariant_of-self : goal.invariant_of-self
invariant_of-self c =
    kept c.self.inside.operands c.as_slice.result.now (c.len.result - c.args.count) (bytes_of (frames_of c.self.inside.frames)) c.self.inside.bytes
    c.as_slice.ensures c.self.invariant c.bytes_without-self-inside.result c.truncate.new.self c.bytes_without-self-inside.ensures c.truncate.ensures

pub returns : goal.returns
returns c =
    dropped c.self.inside.operands c.self.inside.frames c.args.self.now c.self.view_is c.truncate.new.self c.args.count c.len.result c.truncate.ensures
    c.len.ensures c.requires
