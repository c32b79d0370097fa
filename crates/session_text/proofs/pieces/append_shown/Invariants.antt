use Rattle.std.proofs.Common.{◌≡◌, ◌++◌, drop}
use Rattle.session_text.specs.Pieces as spec
use Rattle.session_text.proofs.pieces.append_shown.Given as goal

-- what is shown so far, and what is left
abbrev pub invariant-loop-byte : goal.invariant-loop-byte
invariant-loop-byte l = l.line ++ spec.shown (drop l.byte-index l.bytes) ≡ l.fn.line ++ spec.shown l.bytes
