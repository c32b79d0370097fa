-- What is passed, and what stands before it.
use Rattle.std.specs.Prelude.{◌≡◌, ◌≢◌, Bool, true, false, Result, Ok, Err}
use Rattle.elan_grammar.specs.declared.error.ParseError.{ParseError}
use Rattle.elan_grammar.specs.declared.error.ParseError.TheVariants.{NoMemory}
use Rattle.elan_grammar.specs.Rule.{Rule, Outcome, Tokens}

-- The tokens that a rule reads are passed where it starts, and else none.
abbrev pub Passes : {A : Type 0} → Rule A → Tokens → Bool → Tokens → Type 0
Passes {A} rule old true new = (rule.starts old ≡ true) × (a : A) × (rule.run old ≡ Ok (a, new))
Passes rule old false new = (rule.starts old ≡ false) × (new ≡ old)

-- what was read, where what stands behind it was read too
abbrev pub first_of : {A B : Type 0} → Result A ParseError → Result B ParseError → Result A ParseError
first_of (Ok x) (Ok y) = Ok x
first_of (Ok x) (Err e) = Err e
first_of (Err d) _ = Err d

-- both, where both were read
abbrev pub both_of : {A B : Type 0} → Result A ParseError → Result B ParseError → Result (A × B) ParseError
both_of (Ok x) (Ok y) = Ok (x, y)
both_of (Ok x) (Err e) = Err e
both_of (Err d) _ = Err d

-- What was read stays, where something more is read behind it.
abbrev pub StandsBefore : {A B : Type 0} → Outcome B → Result A ParseError → Result A ParseError → Tokens → Type 0
StandsBefore {A} {B} behind (Ok x) (Ok y) new = (y ≡ x) × (b : B) × (behind ≡ Ok (b, new))
StandsBefore behind (Ok x) (Err e) new = e ≢ NoMemory → behind ≡ Err e
StandsBefore behind (Err d) (Ok y) new = ⊥
StandsBefore behind (Err d) (Err e) new = e ≡ d

-- What was read so far is as it has to be, or there is none, for the reason that there is nothing at all.
abbrev pub GoesOn : {A S : Type 0} → Outcome A → (S → Type 0) → Result S ParseError → Type 0
GoesOn outcome Fits (Ok row) = Fits row
GoesOn outcome Fits (Err e) = e ≢ NoMemory → outcome ≡ Err e
