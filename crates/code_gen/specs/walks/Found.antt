-- Names that were added on a walk. Steps of the code: no definition of meaning needs them.
use Rattle.std.specs.Prelude.{◌≡◌, false, ◌++◌}
use Rattle.code_gen.specs.Names.{Names}
use Rattle.code_gen.specs.declared.names.Found.{Found}

-- These names were added. Want of memory is noted, and nothing is known then.
abbrev pub Adds : Names → Found → Found → Type 0
Adds ns old new = new.wanted ≡ false → (old.wanted ≡ false) × (new.numbers ≡ old.numbers ++ ns)
