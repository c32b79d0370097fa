use Rattle.std.proofs.Common.{◌≤◌, take, length}
use Rattle.elan_grammar.specs.Place.{CanGoOn}
use Rattle.elan_parser.proofs.place.tokens_before.Given as goal

-- the tokens so far can go on
abbrev pub invariant-loop-before : goal.invariant-loop-before
invariant-loop-before l = CanGoOn l.packet (take l.before l.tokens) × (l.before ≤ length l.tokens)
