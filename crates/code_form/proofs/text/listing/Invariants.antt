use Rattle.std.proofs.Common.{◌≡◌, ◌++◌, drop}
use Rattle.code_form.specs.Listing.{listing_from, listing_text}
use Rattle.code_form.proofs.text.listing.Given as goal

-- what stands there, and the rest of the lines, is the whole listing
abbrev pub invariant-loop-number : goal.invariant-loop-number
invariant-loop-number l = l.out ++ listing_from l.code.packets l.code.bodies l.texts l.number (drop l.number l.code.lines) ≡ listing_text l.code
