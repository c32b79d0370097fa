-- Steps of the code. No definition of meaning needs them.
use Rattle.std.specs.Prelude.{ℕ, Bool, true, false, ◌&&◌, List, [], ◌∷◌, ◌++◌, Option, Some, None, if◌then◌else◌}
use Rattle.elan_types.specs.declared.elan_type.ElanType.TheVariants.{Bool as Truths}
use Rattle.elan_types.specs.declared.core_phrase.ValuePhrase.{ValuePhrase}
use Rattle.elan_types.specs.declared.core_phrase.ValuePhrase.TheVariants as value
use Rattle.elan_types.specs.declared.core_phrase.Action.{Action}
use Rattle.elan_types.specs.declared.core_phrase.Action.TheVariants as action
use Rattle.elan_types.specs.declared.elan_type.Parameter.{Parameter}
use Rattle.elan_types.specs.declared.core_phrase.Actual.{Actual}
use Rattle.elan_types.specs.declared.core_phrase.Exit.{Exit}
use Rattle.elan_types.specs.declared.why.Why.TheVariants.{WrongType}
use Rattle.elan_scope.specs.declared.delivery.Delivery.{Delivery}
use Rattle.elan_meant.specs.declared.meant.Meant.{Meant}
use Rattle.elan_meant.specs.declared.meant.Meant.TheVariants.{Value, Left}
use Rattle.elan_meant.specs.Operands.{delivers}
use Rattle.elan_meant.specs.Parts.{value_of, type_in}
use Rattle.elan_meant.specs.Verdict.{Verdict, gives, breaks, ◌>>=◌}
use Rattle.value_rules.specs.Calls.{given_as, leave_with, agrees}

-- what was given, and behind it what the first of these parameters is given, if there is one
abbrev pub given_next : ℕ → List Parameter → Meant → Verdict (List Actual) → Verdict (List Actual)
given_next at [] m r = r
given_next at (p ∷ ps) m r = r >>= (λ as'. given_as at p.access p.of m >>= (λ a. gives (as' ++ a ∷ [])))

-- what is given, where it is one thing
abbrev pub one_of : List Actual → Option Actual
one_of (a ∷ []) = Some a
one_of _ = None

abbrev pub leave_of : Exit → Meant → Action
leave_of e m = leave_with e (type_in m) (value_of m)

abbrev pub leave_as : ℕ → Exit → Delivery → Meant → Verdict Meant
leave_as at e d m = if agrees d m then gives (Left (action.Unit (leave_of e m ∷ []) ∷ [])) else breaks (at, WrongType)

abbrev pub are_truths : Meant → Meant → Bool
are_truths l r = delivers Truths l && delivers Truths r

-- of two truth values, where the left one is the value if it is this, and of what that is
abbrev pub choice : Bool → ValuePhrase → ValuePhrase → ValuePhrase → ValuePhrase
choice true l r v = value.If l v r
choice false l r v = value.If l r v

abbrev pub decided : ℕ → Bool → ValuePhrase → ValuePhrase → Meant
decided at b l r = Value at Truths (choice b l r (value.Truth b))

abbrev pub of_truths : ℕ → Bool → Meant → Meant → Verdict Meant
of_truths at b l r = if are_truths l r then gives (decided at b (value_of l) (value_of r)) else breaks (at, WrongType)
