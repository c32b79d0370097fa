-- What is read and revived.
use Rattle.std.specs.Prelude.{◌≡◌, ◌≢◌, ℕ, true, List, Some, None, Result, Ok, Err}
use Rattle.byte_spelling.specs.declared.reading.ReadError.{ReadError}
use Rattle.byte_spelling.specs.declared.reading.ReadError.TheVariants as errors
use Rattle.code_form.specs.Program.{Program}
use Rattle.zero_state.specs.declared.state.State.{State}
use Rattle.zero_state.specs.Stepping.{control_of}
use Rattle.state_spelling.specs.declared.kept.Kept.{Kept}
use Rattle.state_spelling.specs.Kept.{kept}
use Rattle.state_spelling.specs.Revived.{revived}

-- the bytes spell something kept from which this is revived; or they spell none from which something is
abbrev pub IsRevived : Program → List ℕ → Result State ReadError → Type 0
IsRevived p bytes (Ok s) = (k : Kept) × (bytes ≡ kept.spell k) × (revived p k ≡ Some (control_of s)) × ((j : Kept) → kept.fine j ≡ true → bytes ≡ kept.spell j → j ≡ k)
IsRevived p bytes (Err errors.NoMemory) = Unit {0}
IsRevived p bytes (Err errors.NotSpelled) = (k : Kept) → kept.fine k ≡ true → bytes ≡ kept.spell k → revived p k ≡ None
