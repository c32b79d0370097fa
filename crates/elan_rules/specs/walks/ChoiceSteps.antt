-- Steps of the code. No definition of meaning needs them.
use Rattle.std.specs.Prelude.{ℤ, Bool, List, [], ◌∷◌, map, Option}
use Rattle.std.specs.List.{list_any}
use Rattle.std.specs.Option.{unwrap_or}
use Rattle.std.specs.Ordering.{int_eq}
use Rattle.elan_types.specs.declared.elan_type.ElanType.{ElanType}
use Rattle.elan_types.specs.declared.core_phrase.ValuePhrase.{ValuePhrase}
use Rattle.elan_types.specs.declared.core_phrase.ValuePhrase.TheVariants as value
use Rattle.elan_types.specs.declared.core_phrase.Action.{Action}
use Rattle.elan_types.specs.declared.core_phrase.Action.TheVariants as action
use Rattle.elan_meant.specs.declared.meant.Meant.{Meant}
use Rattle.elan_meant.specs.declared.meant.Meant.TheVariants.{Absent}
use Rattle.elan_meant.specs.Parts.{actions}
use Rattle.elan_rules.specs.Choices.{Guard, value_as, action_arm, value_arm}

abbrev pub if_actions : ValuePhrase → Meant → Meant → List Action
if_actions c m n = action.If c (actions m) (actions n) ∷ []

abbrev pub if_value : ValuePhrase → Meant → Meant → ElanType → ValuePhrase
if_value c m n t = value.If c (value_as t m) (value_as t n)

abbrev pub select_actions : ValuePhrase → List Guard → Meant → List Action
select_actions v gs m = action.Select v (map action_arm gs) (actions m) ∷ []

abbrev pub select_value : ValuePhrase → List Guard → Meant → ElanType → ValuePhrase
select_value v gs m t = value.Select v (map (value_arm t) gs) (value_as t m)

-- the units for none of them, where there are none, are absent
abbrev pub otherwise : Option Meant → Meant
otherwise o = unwrap_or o Absent

abbrev pub is_in : List ℤ → ℤ → Bool
is_in ns n = list_any (λ m. int_eq m n) ns
