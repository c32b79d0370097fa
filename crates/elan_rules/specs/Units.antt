-- Stores, lists of units, and bodies.
use Rattle.std.specs.Prelude.{ℕ, Bool, true, false, ◌||◌, List, [], ◌∷◌, flat_map, Option, Some, None, option_map, if◌then◌else◌}
use Rattle.std.specs.Option.{option_map_or}
use Rattle.eu_base.specs.declared.shape.Shape.{Shape}
use Rattle.elan_types.specs.declared.elan_type.ElanType.{ElanType}
use Rattle.elan_types.specs.declared.elan_type.ElanType.TheVariants.{Dataspace}
use Rattle.elan_types.specs.Types.{shape_in, same_type, has_own, is_open}
use Rattle.elan_types.specs.declared.core_phrase.PlacePhrase.{PlacePhrase, out-PlacePhrase}
use Rattle.elan_types.specs.declared.core_phrase.ValuePhrase.{ValuePhrase}
use Rattle.elan_types.specs.declared.core_phrase.Actual.{Actual}
use Rattle.elan_types.specs.declared.core_phrase.Arm.{Arm}
use Rattle.elan_types.specs.declared.core_phrase.ValueArm.{ValueArm}
use Rattle.elan_types.specs.declared.core_phrase.Action.TheOpen as phrase
use Rattle.elan_types.specs.declared.core_phrase.Action.TheOpen.{PlacePhrase-F}
use Rattle.elan_types.specs.declared.core_phrase.ValuePhrase.TheVariants as value
use Rattle.elan_types.specs.declared.core_phrase.Action.{Action}
use Rattle.elan_types.specs.declared.core_phrase.Action.TheVariants as action
use Rattle.elan_types.specs.declared.core_phrase.Scope.{Scope as Owner}
use Rattle.elan_types.specs.declared.core_phrase.Content.{Content}
use Rattle.elan_types.specs.declared.core_phrase.Content.TheVariants as content
use Rattle.elan_types.specs.declared.core_phrase.Body.{Body}
use Rattle.elan_types.specs.declared.why.Why.TheVariants.{WrongType}
use Rattle.elan_meant.specs.declared.meant.Meant.{Meant}
use Rattle.elan_meant.specs.declared.meant.Meant.TheVariants.{Absent, Variable, Value, Done, Left, Bodies}
use Rattle.elan_meant.specs.Verdict.{Verdict, gives, breaks, ◌>>=◌}
use Rattle.elan_meant.specs.Operands.{delivers}
use Rattle.elan_meant.specs.Parts.{value_of, variable, type_in, actions, actions_of, unit_of, unreached}

-- ---- stores

abbrev pub agreed_as : ℕ → Option ElanType → Meant → Verdict ElanType
agreed_as at None m = breaks (at, WrongType)
agreed_as at (Some t) m = if delivers t m then gives t else breaks (at, WrongType)

-- Both deliver one type.
abbrev pub agreed : ℕ → Meant → Meant → Verdict ElanType
agreed at l r = agreed_as at (type_in l) r

-- A variable for a data space gets a copy.
abbrev pub given_to : Bool → PlacePhrase → Shape → ValuePhrase → Action
given_to is_space x s v = if is_space then action.Copy x v else action.Store x s v

-- A variable is needed at the left.
abbrev pub stored : ℕ → Meant → Meant → Verdict Action
stored at l r = agreed at l r >>= (λ t. variable at l >>= (λ x. gives (given_to (same_type Dataspace t) x (shape_in t) (value_of r))))

-- For types in which one of a text's own occurs no assignment is predefined.
abbrev pub assigned : ℕ → Meant → Meant → Verdict Meant
assigned at l r = if option_map_or has_own (type_in l) false then breaks (at, WrongType) else stored at l r >>= (λ a. gives (unit_of (a ∷ [])))

-- ---- BOUND variables

abbrev pub content_here : PlacePhrase-F Action Actual PlacePhrase ValuePhrase Arm ValueArm → Option (PlacePhrase × Shape)
content_here (phrase.Content p s) = Some (p, s)
content_here _ = None

-- the BOUND variable for whose content a place stands, and the shape of the content
abbrev pub bound_in : Meant → Option (PlacePhrase × Shape)
bound_in (Variable at t x) = content_here (out-PlacePhrase x)
bound_in m = None

-- A BOUND variable that is given a data space is bound to it.
abbrev pub binding : Meant → Meant → Option Action
binding l r = if delivers Dataspace r then option_map (λ b. action.Bind b.0 b.1 (value_of r)) (bound_in l) else None

-- In an assignment it is bound where its name alone stands at the left.
abbrev pub binding_if : Bool → Meant → Meant → Option Action
binding_if named l r = if named then binding l r else None

-- What else it is given is stored in its content.
abbrev pub stored_or : ℕ → Meant → Meant → Option Action → Verdict Action
stored_or at l r None = stored at l r
stored_or at l r (Some a) = gives a

-- a name in its declaration, and its initial value
abbrev pub initial : ℕ → Meant → Meant → Verdict Meant
initial at n m = stored_or at n m (binding n m) >>= (λ a. gives (Done (a ∷ [])))

-- ---- lists of units

-- a phrase that delivers a value or ends with a LEAVE, or the one before it
abbrev pub or_last : Meant → Meant → Meant
or_last n (Value at t v) = Value at t v
or_last n (Left as') = Left []
or_last n m = n

-- the last phrase that delivers a value or ends with a LEAVE
abbrev pub last_value : Meant → List Meant → Meant
last_value n [] = n
last_value n (m ∷ ms) = last_value (or_last n m) ms

abbrev pub ended : List Action → Meant → Meant
ended as' (Value at t v) = Value at t (value.After as' v)
ended as' (Left bs) = Left as'
ended as' m = Done as'

-- Of the units of a list at most the last non-empty one delivers.
abbrev pub in_order : List Meant → Meant
in_order ms = ended (actions_of ms) (last_value Absent ms)

-- An expression that stands alone spends a mark. A variable is a value there.
abbrev pub alone : Meant → Meant
alone (Variable at t x) = Value at t (value.Unit (value.Load x (shape_in t)))
alone (Value at t v) = Value at t (value.Unit v)
alone (Left as') = Left (action.Unit as' ∷ [])
alone m = unit_of (actions m)

-- A value is superfluous. What delivers nothing is done, a LEAVE that is not the last unit too.
abbrev pub without_value : Meant → Verdict Meant
without_value (Variable at t x) = breaks (at, WrongType)
without_value (Value at t v) = breaks (at, WrongType)
without_value m = gives (Done (actions m))

-- A LEAVE agrees with every type. Where the type has no meaning nothing is asked for.
abbrev pub agrees_with : ElanType → Meant → Bool
agrees_with t (Left as') = true
agrees_with t m = is_open t || delivers t m

-- The last unit of a body delivers what the body has to deliver.
abbrev pub must_deliver : ℕ → ElanType → Meant → Verdict Meant
must_deliver at t m = if agrees_with t m then gives m else breaks (at, WrongType)

-- ---- bodies

-- the units of a body that delivers this type, or nothing; behind a LEAVE no value is reached
abbrev pub content_as : Option ElanType → Meant → Content
content_as None m = content.Units (actions m)
content_as (Some t) m = content.Value (shape_in t) (if delivers t m then value_of m else unreached (actions m) t)

-- the units of a refinement, which delivers what they deliver
abbrev pub content_of : Meant → Content
content_of (Value at t v) = content.Value (shape_in t) v
content_of m = content.Units (actions m)

abbrev pub body_with : Owner → Content → Meant
body_with o c = Bodies (record { scope = o; content = c } ∷ [])

abbrev pub bodies_in : Meant → List Body
bodies_in (Bodies bs) = bs
bodies_in _ = []

abbrev pub bodies_of : List Meant → List Body
bodies_of ms = flat_map bodies_in ms
