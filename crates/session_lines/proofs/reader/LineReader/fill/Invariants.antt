use Rattle.std.proofs.Common.{◌≡◌, ◌+◌, ◌-◌, ◌≤◌, false, length, if◌then◌else◌}
use Rattle.session_lines.specs.declared.reader.TheConstants.{LONGEST}
use Rattle.session_lines.specs.Reading as spec
use Rattle.session_lines.proofs.reader.LineReader.fill.Given as goal

abbrev pub invariant-pieces : goal.invariant-pieces
invariant-pieces g l =
    let left = g.S.Source.left in
    let faults = g.S.Source.faults in
    record {
      takes : spec.Takes (left l.fn.source) (left l.source) l.fn.self l.self;
      waits : spec.is_open l.fn.self ≡ false → (l.self ≡ l.fn.self) × (l.source ≡ l.fn.source);
      later : faults l.fn.source ≤ faults l.source;
    }

-- a call brings bytes, or the end
abbrev pub decreases-pieces : goal.decreases-pieces
decreases-pieces g l = (LONGEST + 1 - length l.self.ahead) + (if l.self.ended then 0 else 1)
