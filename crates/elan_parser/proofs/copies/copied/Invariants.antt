use Rattle.std.proofs.Common.{◌≡◌, take}
use Rattle.elan_parser.proofs.copies.copied.Given as goal

abbrev pub invariant-loop-token : goal.invariant-loop-token
invariant-loop-token l = l.copies ≡ take l.token-index l.tokens
