use Rattle.std.proofs.Common.{◌≡◌, ◌-◌, drop, length}
use Rattle.elan_lexer.specs.Pieces.{characters}
use Rattle.elan_lexer.proofs.Turns.{behind}
use Rattle.elan_lexer.proofs.reading.characters.Given as goal

abbrev pub invariant-bytes : goal.invariant-bytes
invariant-bytes l = characters 0 l.text ≡ behind l.found.items l.i (characters 0 (drop l.i l.text))

abbrev pub decreases-bytes : goal.decreases-bytes
decreases-bytes l = length l.text - l.i
