-- What a round finds out of bodies, and which refinements they call.
use Rattle.std.specs.Prelude.{ℕ, suc, Bool, true, false, not, ◌||◌, if◌then◌else◌, List, [], ◌∷◌, ◌++◌, map, Option, Some, None, slice_index_or, slice_set}
use Rattle.elan_types.specs.Types.{same_type}
use Rattle.elan_scope.specs.declared.delivery.Delivery.{Delivery}
use Rattle.elan_scope.specs.declared.delivery.Delivery.TheVariants.{Open, Nothing, Of}
use Rattle.elan_judge.specs.Below.elan_names.specs.declared.heading.Heading.{Heading}
use Rattle.elan_scope.specs.declared.known.Known.{Known}
use Rattle.elan_scope.specs.Known.{delivery_at}
use Rattle.elan_scope.specs.Phrase.{Phrase}
use Rattle.elan_judge.specs.declared.deliveries.Calls.{Calls}
use Rattle.elan_judge.specs.declared.deliveries.Round.{Round}
use Rattle.elan_judge.specs.Refinements.{stated, called_in, last_unit, unit_delivery}

-- ---- calls

abbrev pub called_if : Option Phrase → List ℕ
called_if None = []
called_if (Some p) = called_in p

-- the refinements that the last unit of a body calls
abbrev pub called_last : Phrase → List ℕ
called_last units = called_if (last_unit units)

abbrev pub with_calls : Calls → Phrase → Calls
with_calls s units = record { all = s.all ++ called_in units ∷ []; last = s.last ++ called_last units ∷ [] }

-- ---- rounds

-- what the headings tell
abbrev pub all_stated : List Heading → List Delivery
all_stated hs = map (λ h. stated h.what) hs

abbrev pub same_delivery : Delivery → Delivery → Bool
same_delivery Open Open = true
same_delivery Nothing Nothing = true
same_delivery (Of t) (Of u) = same_type t u
same_delivery _ _ = false

abbrev pub is_open : Delivery → Bool
is_open Open = true
is_open Nothing = false
is_open (Of t) = false

abbrev pub any_open : Known → List ℕ → Bool
any_open k [] = false
any_open k (c ∷ cs) = is_open (delivery_at k c) || any_open k cs

-- A body of which something is known is not looked at, nor one whose last unit calls a refinement of which nothing is known.
abbrev pub is_kept : Known → List (List ℕ) → ℕ → Bool
is_kept k last n = not (is_open (delivery_at k n)) || any_open k (slice_index_or last n [])

abbrev pub looked_at : Known → Phrase → Delivery
looked_at k units = unit_delivery k (last_unit units)

abbrev pub found : Known → List (List ℕ) → ℕ → Phrase → Delivery
found k last n units = if is_kept k last n then delivery_at k n else looked_at k units

abbrev pub found_from : Known → List (List ℕ) → ℕ → List Phrase → List Delivery
found_from k last n [] = []
found_from k last n (u ∷ us) = found k last n u ∷ found_from k last (suc n) us

-- The delivery of a body that is looked at is put in its place.
abbrev pub seen : Round → ℕ → Phrase → Bool → Round
seen s n units true = s
seen s n units false = record { known = s.known; last = s.last; deliveries = slice_set s.deliveries n (looked_at s.known.now units) }

abbrev pub with_found : Round → ℕ → Phrase → Round
with_found s n units = seen s n units (is_kept s.known.now s.last.now n)
