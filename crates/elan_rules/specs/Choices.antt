-- IF and SELECT.
use Rattle.std.specs.Prelude.{ℕ, ℤ, Bool, ◌||◌, List, [], ◌∷◌, map, flat_map, Option, Some, None, is_some, if◌then◌else◌}
use Rattle.std.specs.List.{list_any}
use Rattle.std.specs.Option.{option_and_then, unwrap_or}
use Rattle.std.specs.Ordering.{int_eq}
use Rattle.elan_types.specs.declared.elan_type.ElanType.{ElanType}
use Rattle.elan_types.specs.declared.elan_type.ElanType.TheVariants.{Int, Bool as Truths}
use Rattle.elan_types.specs.declared.core_phrase.ValuePhrase.{ValuePhrase}
use Rattle.elan_types.specs.declared.core_phrase.ValuePhrase.TheVariants as value
use Rattle.elan_types.specs.declared.core_phrase.Action.{Action}
use Rattle.elan_types.specs.declared.core_phrase.Action.TheVariants as action
use Rattle.elan_types.specs.declared.why.Why.{Why}
use Rattle.elan_types.specs.declared.why.Why.TheVariants.{Unknown, Doubled, WrongType}
use Rattle.elan_types.specs.Types.{same_type}
use Rattle.elan_scope.specs.declared.delivery.Delivery.{Delivery}
use Rattle.elan_scope.specs.declared.delivery.Delivery.TheVariants.{Open, Nothing, Of}
use Rattle.elan_meant.specs.declared.meant.Meant.{Meant}
use Rattle.elan_meant.specs.declared.meant.Meant.TheVariants.{Absent, Value, Done, Left, Labels}
use Rattle.elan_scope.specs.Scope.{Found, number_named}
use Rattle.elan_meant.specs.Verdict.{Verdict, gives, breaks, ◌>>=◌}
use Rattle.elan_meant.specs.Operands.{delivers}
use Rattle.elan_meant.specs.Parts.{value_of, actions, pairs, odd}
pub use Rattle.elan_meant.specs.Arms.{value_as, labels_in, action_arm, value_arm}

-- ---- what parts deliver, and whether they agree

-- One that ends with a LEAVE agrees with every type.
abbrev pub delivery_in : Meant → Delivery
delivery_in (Value at t v) = Of t
delivery_in (Left as') = Open
delivery_in m = Nothing

abbrev pub joined : Delivery → Delivery → Option Delivery
joined Open d = Some d
joined d Open = Some d
joined Nothing Nothing = Some Nothing
joined (Of t) (Of u) = if same_type t u then Some (Of t) else None
joined _ _ = None

-- a choice of parts that deliver this together: it does this, or has this value
abbrev pub delivering : ℕ → List Action → (ElanType → ValuePhrase) → Option Delivery → Verdict Meant
delivering at as' value_of_type None = breaks (at, WrongType)
delivering at as' value_of_type (Some Nothing) = gives (Done as')
delivering at as' value_of_type (Some Open) = gives (Left as')
delivering at as' value_of_type (Some (Of t)) = gives (Value at t (value_of_type t))

-- ---- the parts of IF and SELECT: conditions or labels, each before its units, and the units for none of them

abbrev pub Guard : Type 0
Guard = Meant × Meant

-- ---- IF

-- one of two parts, which deliver the same
abbrev pub chosen_of : ℕ → ValuePhrase → Meant → Meant → Verdict Meant
chosen_of at c m n =
    delivering at (action.If c (actions m) (actions n) ∷ []) (λ t. value.If c (value_as t m) (value_as t n)) (joined (delivery_in m) (delivery_in n))

-- A condition is a truth value.
abbrev pub branched : ℕ → Guard → Meant → Verdict Meant
branched at g m = if delivers Truths g.0 then chosen_of at (value_of g.0) g.1 m else breaks (at, WrongType)

-- branches from the first one on, and the part for none of them
abbrev pub chain : ℕ → List Guard → Verdict Meant → Verdict Meant
chain at [] r = r
chain at (g ∷ gs) r = chain at gs r >>= branched at g

abbrev pub choice : ℕ → List Meant → Verdict Meant
choice at ms = chain at (pairs ms) (gives (unwrap_or (odd ms) Absent))

-- ---- SELECT

abbrev pub label_is : ℕ → List ℤ → ℤ → Verdict Meant
label_is at earlier n = if list_any (λ m. int_eq m n) earlier then breaks (at, Doubled) else gives (Labels (n ∷ []))

abbrev pub label_as : ℕ → List ℤ → Why → Option ℤ → Verdict Meant
label_as at earlier why None = breaks (at, why)
label_as at earlier why (Some n) = label_is at earlier n

-- An identifier as a label names a number of a LET: all other names have the wrong type.
abbrev pub label_named : ℕ → List ℤ → Bool → Option Found → Verdict Meant
label_named at earlier known f = label_as at earlier (if is_some f || known then WrongType else Unknown) (number_named f)

abbrev pub labels_of : List Meant → List ℤ
labels_of ms = flat_map labels_in ms

-- what all parts deliver, if they agree
abbrev pub joined_with : Option Delivery → Meant → Option Delivery
joined_with d m = option_and_then (λ e. joined e (delivery_in m)) d

abbrev pub agreed : Option Delivery → List Guard → Option Delivery
agreed d [] = d
agreed d (g ∷ gs) = agreed (joined_with d g.1) gs

abbrev pub selected_by : ℕ → ValuePhrase → List Guard → Meant → Verdict Meant
selected_by at v gs m =
    delivering at (action.Select v (map action_arm gs) (actions m) ∷ []) (λ t. value.Select v (map (value_arm t) gs) (value_as t m))
    (agreed (Some (delivery_in m)) gs)

abbrev pub selected : ℕ → Meant → List Meant → Verdict Meant
selected at m ms = if delivers Int m then selected_by at (value_of m) (pairs ms) (unwrap_or (odd ms) Absent) else breaks (at, WrongType)
