use Rattle.std.proofs.Common.{◌≡◌, take}
use Rattle.terminals.proofs.channel.Channel.of.Given as goal

abbrev pub invariant-loop-line : goal.invariant-loop-line
invariant-loop-line l = l.made ≡ record { task = l.row.task; last = l.row.last; queue = take l.line-index l.row.queue }
