-- One more part of a list.
use Rattle.std.proofs.Common.{◌≡◌, List, [], ◌∷◌, ◌++◌, refl, ap}
use Rattle.elan_types.specs.declared.core_phrase.Actual.{Actual}
use Rattle.elan_types.specs.declared.core_phrase.Actual.TheVariants as actual
use Rattle.elan_types.specs.declared.core_phrase.PlacePhrase.{PlacePhrase}
use Rattle.elan_types.specs.declared.core_phrase.ValuePhrase.{ValuePhrase}
use Rattle.eu_base.specs.declared.shape.Shape.{Shape}
use Rattle.value_rules.specs.Calls.{values_in}

pub value_more : (as' : List Actual) (v : ValuePhrase) → values_in (as' ++ actual.Value v ∷ []) ≡ values_in as' ++ v ∷ []
value_more [] v = refl
value_more (actual.Value w ∷ as') v = ap (λ l. w ∷ l) (value_more as' v)
value_more (actual.Place x s ∷ as') v = value_more as' v

pub place_more : (as' : List Actual) (x : PlacePhrase) (s : Shape) → values_in (as' ++ actual.Place x s ∷ []) ≡ values_in as'
place_more [] x s = refl
place_more (actual.Value w ∷ as') x s = ap (λ l. w ∷ l) (place_more as' x s)
place_more (actual.Place y j ∷ as') x s = place_more as' x s
