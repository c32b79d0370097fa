-- What bodies deliver. A refinement delivers what its last unit delivers.
use Rattle.std.specs.Prelude.{ℕ, zero, suc, List, [], ◌∷◌, map, flat_map, length, Option, Some, None, option_to_list}
use Rattle.std.specs.Option.{option_map_or}
use Rattle.elan_scope.specs.declared.delivery.Delivery.{Delivery}
use Rattle.elan_scope.specs.declared.delivery.Delivery.TheVariants.{Open, Nothing, Of}
use Rattle.elan_judge.specs.Below.elan_names.specs.declared.heading.What.{What}
use Rattle.elan_judge.specs.Below.elan_names.specs.declared.heading.What.TheVariants.{Routine, Refinement}
use Rattle.elan_judge.specs.Below.elan_names.specs.declared.heading.Heading.{Heading}
use Rattle.elan_meant.specs.declared.meant.Meant.{Meant}
use Rattle.elan_meant.specs.declared.meant.Meant.TheVariants.{Value}
use Rattle.elan_scope.specs.Known.{delivered}
use Rattle.elan_scope.specs.declared.scope.Usage.TheVariants.{Expression}
use Rattle.elan_scope.specs.Scope.{refinement_named}
use Rattle.elan_scope.specs.Phrase as form
use Rattle.elan_scope.specs.Phrase.{Phrase, phrase, Parts, none, part}
use Rattle.elan_scope.specs.Ruled.{Ruled, gives}
use Rattle.elan_scope.specs.declared.known.Known.{Known}
use Rattle.elan_rules.specs.Meaning.{judged, phrases}

-- ---- bodies

-- the units of a PROC, OP or refinement
abbrev pub units_in : Phrase → List Phrase
units_in (phrase at (form.plain (form.body o r)) (part units none)) = units ∷ []
units_in (phrase at (form.plain (form.refinement o)) (part name (part units none))) = units ∷ []
units_in p = []

-- the bodies that stand in a phrase, in the order of their numbers
abbrev pub bodies_within : Phrase → List Phrase
bodies_within p = flat_map units_in (phrases p)

-- ---- calls

-- the refinement that a phrase calls
abbrev pub called_by : Phrase → List ℕ
called_by (phrase at (form.named Expression s x) ps) = option_to_list (refinement_named s x)
called_by p = []

-- the refinements that the phrases in a body call
abbrev pub called_in : Phrase → List ℕ
called_in p = flat_map called_by (phrases p)

-- ---- deliveries

-- what a heading tells
abbrev pub stated : What → Delivery
stated (Routine sort ps r) = delivered r
stated (Refinement home) = Open

abbrev pub last_part : Parts → Option Phrase
last_part none = None
last_part (part p none) = Some p
last_part (part p (part q ps)) = last_part (part q ps)

-- the last unit of a list
abbrev pub last_unit : Phrase → Option Phrase
last_unit (phrase at form ps) = last_part ps

-- what a phrase delivers, as far as it has a meaning
abbrev pub outcome : Ruled Meant → Delivery
outcome (gives (Value at t v)) = Of t
outcome (gives m) = Nothing
outcome _ = Open

-- what a meaning delivers
abbrev pub delivery_of : Meant → Delivery
delivery_of m = outcome (gives m)

abbrev pub unit_delivery : Known → Option Phrase → Delivery
unit_delivery k unit = option_map_or (λ p. outcome (judged k p)) unit Nothing

-- What is known stays. What is not is looked for in the last unit.
abbrev pub next : Known → Delivery → Phrase → Delivery
next k Open units = unit_delivery k (last_unit units)
next k known units = known

abbrev pub next_all : Known → List Delivery → List Phrase → List Delivery
next_all k (d ∷ ds) (u ∷ us) = next k d u ∷ next_all k ds us
next_all k ds us = ds

-- what is known after so many steps of the headings and the units of bodies
abbrev pub known_after : ℕ → List Heading → List Phrase → Known
known_after zero hs us = record { deliveries = map (λ h. stated h.what) hs; calls = map called_in us }
known_after (suc n) hs us =
    let k = known_after n hs us in record { deliveries = next_all k k.deliveries us; calls = map called_in us }

-- Each step finds what a further refinement delivers, or all that can be found is known.
abbrev pub known_of : List Heading → List Phrase → Known
known_of hs us = known_after (length hs) hs us
