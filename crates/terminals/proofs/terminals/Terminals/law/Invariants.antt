use Rattle.std.proofs.Common.{All, take}
use Rattle.terminals.specs.Rows.{HasRoom}
use Rattle.terminals.proofs.terminals.Terminals.law.Given as goal

abbrev pub invariant-loop-channel : goal.invariant-loop-channel
invariant-loop-channel l = All HasRoom (take l.channel-index l.channels)
