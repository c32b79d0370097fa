use Rattle.zero_state.proofs.Counts.{on_top}
use Rattle.zero_state.proofs.stack.Stack.top.Goals as goal

pub returns : goal.returns
returns c =
    on_top c.self.inside.operands c.self.inside.frames c.args.self.now c.self.view_is c.as_slice.result.now c.args.count c.len.result c.as_slice.ensures
    c.len.ensures c.requires
