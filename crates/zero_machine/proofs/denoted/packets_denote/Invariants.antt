use Rattle.std.proofs.Common.{◌≡◌, ◌≤◌, false, length, take}
use Rattle.eu_base.specs.Cells.{Cells}
use Rattle.cell_kinds.specs.Kinds.{packet_kinds}
use Rattle.zero_machine.specs.Freed.{HoldEach}
use Rattle.zero_machine.specs.Denoted.{denote}
use Rattle.zero_machine.proofs.denoted.packets_denote.Given as goal

-- no cell of the packets so far denotes it
abbrev pub invariant-loop-packet : goal.invariant-loop-packet
invariant-loop-packet g l = record {
  cell : l.cell ≡ length (packet_kinds (take l.packet-index l.packets));
  denote : (cells : Cells) → g.M.Memory.holds l.fn.m cells → HoldEach 0 (packet_kinds l.packets) cells
      → denote l.space.0 0 (packet_kinds (take l.packet-index l.packets)) cells ≡ false;
  kept : (cells : Cells) → g.M.Memory.holds l.fn.m cells → g.M.Memory.holds l.m cells;
  heads : g.M.Memory.heads l.m ≡ g.M.Memory.heads l.fn.m;
  later : g.M.Memory.faults l.fn.m ≤ g.M.Memory.faults l.m;
  follows : g.M.Memory.follows l.fn.m l.m;
}
