-- What becomes of what was read, or not.
use Rattle.std.specs.Prelude.{◌≡◌, Result, Ok, Err}
use Rattle.elan_grammar.specs.declared.error.ParseError.{ParseError}
use Rattle.elan_grammar.specs.declared.error.ParseError.TheVariants.{NoMemory}

abbrev pub second_of : {A B : Type 0} → Result (A × B) ParseError → Result B ParseError
second_of (Ok p) = Ok p.1
second_of (Err e) = Err e

-- Where something was read there is what is made of it, unless memory fails; else the same error.
abbrev pub IsMade : {A B : Type 0} → (A → B → Type 0) → Result A ParseError → Result B ParseError → Type 0
IsMade Made (Ok x) (Ok y) = Made x y
IsMade Made (Ok x) (Err e) = e ≡ NoMemory
IsMade Made (Err d) (Ok y) = ⊥
IsMade Made (Err d) (Err e) = e ≡ d
