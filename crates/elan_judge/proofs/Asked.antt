-- What a unit is asked for, by where it stands.
use Rattle.std.proofs.Common.{◌≡◌, Bool, true, false, if◌then◌else◌, List, Option, Some, None, ap, ◌∙◌}
use Rattle.elan_scope.specs.declared.delivery.Delivery.{Delivery}
use Rattle.elan_scope.specs.declared.delivery.Delivery.TheVariants.{Nothing}
use Rattle.elan_scope.specs.Phrase.{Phrase}
use Rattle.elan_judge.specs.Shape.{all_empty}
use Rattle.elan_judge.specs.walks.Steps.{is_empty, asked}

module _ (d : Delivery) (u : Option Phrase) (us : List (Option Phrase)) where
  abbrev pub by_last : Bool → Option Delivery
  by_last c = if c then Some d else Some Nothing

  abbrev pub by_empty : Bool → Option Delivery
  by_empty b = if b then None else by_last (all_empty us)

  pub asked_none : true ≡ is_empty u → None ≡ asked d u us
  asked_none e = ap by_empty e

  pub asked_some : (c : Bool) (o : Option Delivery) → false ≡ is_empty u → c ≡ all_empty us → o ≡ by_last c → o ≡ asked d u us
  asked_some c o e f h = h ∙ ap by_last f ∙ ap by_empty e
