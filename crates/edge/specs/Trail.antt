-- What becomes of the writes to a disk in memory.
use Rattle.std.specs.Prelude.{List, [], ◌∷◌, ◌++◌}
use Rattle.edge.specs.declared.log.Written.{Written}
use Rattle.edge.specs.declared.trail.Event.{Event}
use Rattle.edge.specs.declared.trail.Event.TheVariants as event
use Rattle.edge.specs.Log.{written_at, lost_at, mark_last, synced_part}

abbrev pub after_event : List Written → Event → List Written
after_event writes (event.Wrote at bytes) = writes ++ written_at at bytes.now ∷ []
after_event writes (event.Lost at) = writes ++ lost_at writes at ∷ []
after_event writes event.Synced = mark_last writes
after_event writes event.Cut = synced_part writes
