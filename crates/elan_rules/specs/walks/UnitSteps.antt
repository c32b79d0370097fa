-- Steps of the code. No definition of meaning needs them.
use Rattle.std.specs.Prelude.{pos, Bool, ◌&&◌, List, [], ◌∷◌, Option}
use Rattle.std.specs.Option.{unwrap_or}
use Rattle.eu_base.specs.declared.shape.Shape.{Shape}
use Rattle.elan_types.specs.declared.elan_type.ElanType.{ElanType}
use Rattle.elan_types.specs.declared.elan_type.ElanType.TheVariants.{Int, Dataspace}
use Rattle.elan_types.specs.Types.{shape_in, same_type}
use Rattle.elan_types.specs.declared.core_phrase.ValuePhrase.{ValuePhrase}
use Rattle.elan_types.specs.declared.core_phrase.ValuePhrase.TheVariants as value
use Rattle.elan_types.specs.declared.core_phrase.Action.TheVariants as action
use Rattle.elan_meant.specs.declared.meant.Meant.{Meant}
use Rattle.elan_meant.specs.declared.meant.Meant.TheVariants.{Done}
use Rattle.elan_scope.specs.Ruled.{Ruled, gives, ◌>>=◌}
use Rattle.elan_meant.specs.Verdict.{Verdict}
use Rattle.elan_meant.specs.Verdict as verdict
use Rattle.elan_meant.specs.Operands.{delivers}
use Rattle.elan_meant.specs.Parts.{actions, may_deliver, written, unit_of}

-- nothing is done where parts have meaning
abbrev pub nothing_done : Ruled (List Meant) → Ruled Meant
nothing_done parts = parts >>= (λ ms. gives (Done []))

-- whether the type that two phrases deliver is that of data spaces, and its shape
abbrev pub agreed_shape : Verdict ElanType → Verdict (Bool × Shape)
agreed_shape q = verdict.◌>>=◌ q (λ t. verdict.gives (same_type Dataspace t, shape_in t))

abbrev pub uncounted : Meant → Meant → Meant → Meant
uncounted c us u = unit_of (action.Loop (written c) (actions us) (written u) ∷ [])

abbrev pub first_value : Option ValuePhrase → ValuePhrase
first_value o = unwrap_or o (value.Number (pos 1))

abbrev pub are_numbers : Meant → Meant → Meant → Bool
are_numbers n f l = delivers Int n && (may_deliver Int f && may_deliver Int l)
