use Rattle.std.proofs.Common.{◌≡◌, ◌++◌, length, drop}
use Rattle.code_gen.specs.Program.{entries, body_lines}
use Rattle.code_gen.proofs.entries.emit_bodies.Given as goal

-- what was made for the bodies before, and what there is for those that are left, is all
abbrev pub invariant-loop-index : goal.invariant-loop-index
invariant-loop-index l = record {
  lines : l.out.lines ++ body_lines (drop l.index l.bodies) l.index (length l.out.lines) ≡ l.fn.out.lines ++ body_lines l.bodies 0 (length l.fn.out.lines);
  entries : l.entries ++ entries (drop l.index l.bodies) (length l.out.lines) ≡ entries l.bodies (length l.fn.out.lines);
}
