-- What the parts of a phrase deliver, where they have meaning.
use Rattle.std.specs.Prelude.{ℕ, Bool, true, false, List, [], ◌∷◌, flat_map, Option, Some, None, slice_index_or}
use Rattle.std.specs.Option.{option_map}
use Rattle.elan_types.specs.declared.elan_type.ElanType.{ElanType}
use Rattle.elan_types.specs.Types.{shape_in}
use Rattle.elan_types.specs.declared.core_phrase.PlacePhrase.{PlacePhrase}
use Rattle.elan_types.specs.declared.core_phrase.ValuePhrase.{ValuePhrase}
use Rattle.elan_types.specs.declared.core_phrase.ValuePhrase.TheVariants as value
use Rattle.elan_types.specs.declared.core_phrase.Action.{Action}
use Rattle.elan_types.specs.declared.core_phrase.Action.TheVariants as action
use Rattle.elan_types.specs.declared.why.Why.TheVariants.{NoVariable}
use Rattle.elan_meant.specs.declared.meant.Meant.{Meant}
use Rattle.elan_meant.specs.declared.meant.Meant.TheVariants.{Absent, Variable, Value, Done, Left}
use Rattle.elan_meant.specs.Operands.{delivers}
use Rattle.elan_meant.specs.Verdict.{Verdict, gives, breaks}

-- ---- what parts deliver

-- The value of a variable is what stands in it.
abbrev pub value_of : Meant → ValuePhrase
value_of (Variable at t p) = value.Load p (shape_in t)
value_of (Value at t v) = v
value_of _ = value.Truth false

-- A variable is needed. A value is none, and neither is what delivers nothing: that is told at the phrase that needs it.
abbrev pub variable : ℕ → Meant → Verdict PlacePhrase
variable at (Variable p t x) = gives x
variable at (Value p t v) = breaks (p, NoVariable)
variable at _ = breaks (at, NoVariable)

abbrev pub type_in : Meant → Option ElanType
type_in (Variable at t p) = Some t
type_in (Value at t v) = Some t
type_in _ = None

abbrev pub actions : Meant → List Action
actions (Done as') = as'
actions (Left as') = as'
actions _ = []

-- a part that is not written, or delivers this type
abbrev pub may_deliver : ElanType → Meant → Bool
may_deliver t Absent = true
may_deliver t m = delivers t m

abbrev pub written : Meant → Option ValuePhrase
written m = option_map (λ t. value_of m) (type_in m)

-- a unit that delivers nothing
abbrev pub unit_of : List Action → Meant
unit_of as' = Done (action.Unit as' ∷ [])

-- what phrases do that deliver nothing, one after another
abbrev pub actions_of : List Meant → List Action
actions_of ms = flat_map actions ms

-- behind a LEAVE no value of the type that is asked for is reached
abbrev pub unreached : List Action → ElanType → ValuePhrase
unreached as' t = value.After as' (value.Never (shape_in t))

-- ---- parts by their number

-- One that is not written is absent.
abbrev pub nth : List Meant → ℕ → Meant
nth ms n = slice_index_or ms n Absent

-- each two parts, and the last of an odd number
abbrev pub pairs : {A : Type 0} → List A → List (A × A)
pairs [] = []
pairs (x ∷ []) = []
pairs (x ∷ y ∷ xs) = (x, y) ∷ pairs xs

abbrev pub odd : {A : Type 0} → List A → Option A
odd [] = None
odd (x ∷ []) = Some x
odd (x ∷ y ∷ xs) = odd xs
