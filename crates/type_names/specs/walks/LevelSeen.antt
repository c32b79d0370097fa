-- What was found on a walk, and more behind it.
use Rattle.std.specs.Prelude.{◌≡◌, ℕ, false, List, ◌++◌}
use Rattle.elan_names.specs.declared.entry.Entry.{Entry}
use Rattle.elan_names.specs.declared.type_name.TypeName.{TypeName}
use Rattle.type_names.specs.declared.declare.Names.{Names}
use Rattle.type_names.specs.declared.uses.Called.{Called}

abbrev pub with_entries : Names → List Entry → Names
with_entries s es = record { alloc = s.alloc; here = s.here; around = s.around; entries = s.entries ++ es; wanted = s.wanted }

abbrev pub with_numbers : Called → List ℕ → Called
with_numbers s ns = record { scope = s.scope; numbers = s.numbers ++ ns; wanted = s.wanted }

-- the names of types that can be seen
abbrev pub visible : Names → List TypeName
visible s = s.here.now ++ s.around.now

-- These entries were added. Want of memory is noted, and nothing is known then.
abbrev pub Adds : List Entry → Names → Names → Type 0
Adds es old new = new.wanted ≡ false → (old.wanted ≡ false) × (new.entries ≡ old.entries ++ es) × (new.here.now ≡ old.here.now) × (new.around.now ≡ old.around.now)
