use Rattle.std.proofs.Common.{◌≡◌, ◌≤◌, ◌+◌, drop, not}
use Rattle.elan_lexer.specs.Pieces.{comment_end}
use Rattle.elan_lexer.proofs.Turns.{longer_by}
use Rattle.elan_lexer.proofs.reading.comment_end.Given as goal

abbrev pub invariant-loop-i : goal.invariant-loop-i
invariant-loop-i l =
    (comment_end l.curly 1 (not l.curly) l.text ≡ longer_by l.i (comment_end l.curly l.depth l.second (drop l.i l.text))) × (l.depth ≤ l.i + 1)
