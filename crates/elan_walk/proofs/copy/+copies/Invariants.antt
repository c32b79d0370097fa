use Rattle.std.proofs.Common.{◌≡◌, take}
use Rattle.elan_walk.proofs.copy.+copies.Given as goal

abbrev pub invariant-copied_fields-loop-field : goal.invariant-copied_fields-loop-field
invariant-copied_fields-loop-field l = l.copies ≡ take l.field-index l.fields
