-- What may be left out is passed.
use Rattle.std.specs.Prelude.{◌≡◌, Ok}
use Rattle.elan_grammar.specs.Rule.{Rule, Tokens}

-- The rule reads, whatever it gives, from the first tokens up to the second.
abbrev pub Skips : {A : Type 0} → Rule A → Tokens → Tokens → Type 0
Skips {A} rule old new = (a : A) × (rule.run old ≡ Ok (a, new))
