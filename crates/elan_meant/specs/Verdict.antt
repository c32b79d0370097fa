-- What a rule says that needs to know nothing of bodies: such a phrase never hangs on a phrase elsewhere.
use Rattle.std.specs.Prelude.{Result, Bool, true, false, if◌then◌else◌}
use Rattle.elan_scope.specs.declared.trouble.Trouble.{Trouble}
use Rattle.elan_scope.specs.Ruled as ruled
use Rattle.elan_scope.specs.Ruled.{Fault, Ruled, hangs}
use Rattle.elan_scope.specs.Answer.{Is}

-- It gives a meaning, or the phrase breaks the rule.
pub data Verdict (A : Type 0) : Type 0 where
  gives : A → Verdict A
  breaks : Fault → Verdict A

infixl 10 ◌>>=◌
abbrev pub ◌>>=◌ : {A B : Type 0} → Verdict A → (A → Verdict B) → Verdict B
(gives x) >>= f = f x
(breaks e) >>= f = breaks e

-- the same, said among phrases that can hang
abbrev pub told : {A : Type 0} → Verdict A → Ruled A
told (gives x) = ruled.gives x
told (breaks e) = ruled.breaks e

-- It is what the rule says, unless memory ran out.
abbrev pub Tells : {A : Type 0} → Result A Trouble → Verdict A → Type 0
Tells r v = Is r (told v)

abbrev pub is_given : {A : Type 0} → Verdict A → Bool
is_given (gives x) = true
is_given (breaks e) = false

-- the same, unless it hangs on a type that has no meaning
abbrev pub unless : {A : Type 0} → Bool → Ruled A → Ruled A
unless hanging r = if hanging then hangs else r
