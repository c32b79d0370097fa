use Rattle.std.proofs.Common.{sym, ◌∙◌, arith}
use Rattle.zero_ops.proofs.Parts.{bytes_between, part_is}
use Rattle.zero_ops.proofs.part.part.Goals as goal

pub returns : goal.returns
returns c =
    part_is c.args.first c.args.last c.min-start.result c.min-end.result c.args.t.now c.min-end.ensures (omega arith)
    ∙ sym (bytes_between c.args.first c.args.last 1 c.args.t.now)
