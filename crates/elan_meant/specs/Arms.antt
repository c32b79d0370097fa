-- The arms of a SELECT: what labels mean, each before what its units mean.
use Rattle.std.specs.Prelude.{ℤ, List, []}
use Rattle.elan_types.specs.declared.elan_type.ElanType.{ElanType}
use Rattle.elan_types.specs.Types.{shape_in}
use Rattle.elan_types.specs.declared.core_phrase.ValuePhrase.{ValuePhrase}
use Rattle.elan_types.specs.declared.core_phrase.Arm.{Arm}
use Rattle.elan_types.specs.declared.core_phrase.ValueArm.{ValueArm}
use Rattle.elan_meant.specs.declared.meant.Meant.{Meant}
use Rattle.elan_meant.specs.declared.meant.Meant.TheVariants.{Value, Left, Labels}
use Rattle.elan_meant.specs.Parts.{actions, unreached}
use Rattle.elan_types.specs.declared.core_phrase.ValuePhrase.TheVariants as value

-- the value of a part where this type is asked for
abbrev pub value_as : ElanType → Meant → ValuePhrase
value_as t (Value at u v) = v
value_as t (Left as') = unreached as' t
value_as t m = value.Never (shape_in t)

abbrev pub labels_in : Meant → List ℤ
labels_in (Labels ns) = ns
labels_in _ = []

abbrev pub action_arm : Meant × Meant → Arm
action_arm g = record { labels = labels_in g.0; units = actions g.1 }

abbrev pub value_arm : ElanType → Meant × Meant → ValueArm
value_arm t g = record { labels = labels_in g.0; value = value_as t g.1 }
