use Rattle.std.proofs.Common.{◌≡◌, ◌≤◌, ◌+◌, ◌-◌, drop, length}
use Rattle.elan_lexer.specs.Tokens.{tokens_of, tokens_at, pieces, most_tokens, limited}
use Rattle.elan_lexer.specs.Kept.{answer}
use Rattle.elan_lexer.proofs.lexer.tokens.Given as goal

abbrev pub invariant-pieces : goal.invariant-pieces
invariant-pieces l =
    (limited (tokens_of l.text) ≡ answer l.found (tokens_at (l.index + 1) (pieces (drop l.index l.text))))
    × (length l.found.tokens ≤ most_tokens) × (l.index ≤ length l.text)

abbrev pub decreases-pieces : goal.decreases-pieces
decreases-pieces l = length l.text - l.index
