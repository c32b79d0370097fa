-- What was found on a walk, and more behind it. No definition of meaning needs these.
use Rattle.std.specs.Prelude.{◌≡◌, false, List, ◌++◌}
use Rattle.elan_walk.specs.declared.definition.Definition.{Definition}
use Rattle.elan_walk.specs.declared.definition.Definitions.{Definitions}

abbrev pub with_definitions : Definitions → List Definition → Definitions
with_definitions s ds = record { alloc = s.alloc; list = s.list ++ ds; wanted = s.wanted }

-- These definitions were added. Want of memory is noted, and nothing is known then.
abbrev pub Adds : List Definition → Definitions → Definitions → Type 0
Adds ds old new = new.wanted ≡ false → (old.wanted ≡ false) × (new.list ≡ old.list ++ ds)

-- They were added, and nothing else has changed.
abbrev pub AddsAlone : List Definition → Definitions → Definitions → Type 0
AddsAlone ds old new = new.wanted ≡ false → (old.wanted ≡ false) × (new ≡ with_definitions old ds)
