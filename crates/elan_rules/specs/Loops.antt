-- Loops.
use Rattle.std.specs.Prelude.{ℕ, pos, Bool, ◌&&◌, [], ◌∷◌, if◌then◌else◌}
use Rattle.std.specs.Option.{unwrap_or}
use Rattle.elan_types.specs.declared.elan_type.ElanType.TheVariants.{Int, Bool as Truths}
use Rattle.elan_types.specs.declared.core_phrase.PlacePhrase.{PlacePhrase}
use Rattle.elan_types.specs.declared.core_phrase.ValuePhrase.TheVariants as value
use Rattle.elan_types.specs.declared.core_phrase.Action.TheVariants as action
use Rattle.elan_types.specs.declared.why.Why.TheVariants.{WrongType}
use Rattle.eu_base.specs.declared.operation.Way.{Way}
use Rattle.elan_meant.specs.declared.meant.Meant.{Meant}
use Rattle.elan_meant.specs.Verdict.{Verdict, gives, breaks, ◌>>=◌}
use Rattle.elan_meant.specs.Operands.{delivers}
use Rattle.elan_meant.specs.Parts.{variable, actions, may_deliver, written, unit_of}

abbrev pub conditions : Meant → Meant → Bool
conditions c u = may_deliver Truths c && may_deliver Truths u

-- a loop without counter
abbrev pub loop : ℕ → Meant → Meant → Meant → Verdict Meant
loop at c us u =
    if conditions c u then gives (unit_of (action.Loop (written c) (actions us) (written u) ∷ [])) else breaks (at, WrongType)

-- ---- a loop with a counter, its first value and its limit

-- Without a first value it counts from 1.
abbrev pub count : Way → Meant → Meant → Meant → Meant → Meant → PlacePhrase → Meant
count w f l c us u x =
    unit_of (action.Count x (unwrap_or (written f) (value.Number (pos 1))) w (written l) (written c) (actions us) (written u) ∷ [])

-- A variable is needed as a counter.
abbrev pub counted : ℕ → Way → Meant → Meant → Meant → Meant → Meant → Meant → Verdict Meant
counted at w n f l c us u =
    if (delivers Int n && (may_deliver Int f && may_deliver Int l)) && conditions c u
    then variable at n >>= (λ x. gives (count w f l c us u x))
    else breaks (at, WrongType)
