use Rattle.std.proofs.Common.{◌≤◌, length, take}
use Rattle.eu_base.specs.declared.address.Area.TheVariants.{Run}
use Rattle.text_heap.specs.Held.{HoldsCells}
use Rattle.source_texts.specs.Spaces.{cells_of}
use Rattle.source_texts.proofs.Cells.{filled}
use Rattle.source_texts.proofs.write.put_lines.Given as goal

-- the lines so far stand in their cells
abbrev pub invariant-loop-k : goal.invariant-loop-k
invariant-loop-k g l = record {
  held : g.S.Space.known l.fn.space → HoldsCells Run (g.S.Space.content l.space) (cells_of (filled (length l.lines) (take l.k l.lines)));
  later : g.S.Space.faults l.fn.space ≤ g.S.Space.faults l.space;
  follows : g.S.Space.follows l.fn.space l.space;
}
