-- A number of 16 bits is a phrase with a meaning.
use Rattle.std.proofs.Common.{◌≡◌, ℕ, ℤ, Bool, true, if◌then◌else◌, ap}
use Rattle.std.proofs.lemmas.Int.{ints}
use Rattle.std.specs.Int.{w16}
use Rattle.std.specs.Int.RustNames.{FitsSigned}
use Rattle.std.proofs.Common.{arith}
use Rattle.eu_base.specs.Operations.{in_range}
use Rattle.elan_types.specs.declared.elan_type.ElanType.TheVariants.{Int}
use Rattle.elan_types.specs.declared.core_phrase.ValuePhrase.TheVariants as value
use Rattle.elan_types.specs.declared.why.Why.TheVariants.{WrongType}
use Rattle.elan_meant.specs.Verdict.{gives, breaks}
use Rattle.value_rules.specs.Values as r
use Rattle.elan_meant.specs.declared.meant.Meant.TheVariants.{Value}

is_in_range : (z : ℤ) → FitsSigned w16 z → in_range z ≡ true
is_in_range z h = grind (arith, ints)

pub number_gives : (at : ℕ) (n : ℤ) → FitsSigned w16 n → r.number at n ≡ gives (Value at Int (value.Number n))
number_gives at n h = ap (λ (b : Bool). if b then gives (Value at Int (value.Number n)) else breaks (at, WrongType)) (is_in_range n h)
