use Rattle.std.proofs.Common.{◌≡◌, ◌≤◌}
use Rattle.eu_base.specs.Spaces.{IsKept}
use Rattle.units.specs.Sources.{joined}
use Rattle.source_texts.specs.Lines.{lines_at}
use Rattle.source_texts.proofs.read.read_lines.Given as goal

-- the lines so far were read
abbrev pub invariant-loop-k : goal.invariant-loop-k
invariant-loop-k g l = record {
  text : g.S.Space.known l.fn.space → l.text ≡ joined (lines_at (g.S.Space.content l.fn.space) l.k);
  same : IsKept (g.S.Space.content l.fn.space) (g.S.Space.content l.space);
  follows : g.S.Space.follows l.fn.space l.space;
  later : g.S.Space.faults l.fn.space ≤ g.S.Space.faults l.space;
}
