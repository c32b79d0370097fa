-- Names of types.
use Rattle.std.specs.Prelude.{ℕ, Bool, false, List, Option, find}
use Rattle.std.specs.Str.{bytes_eq}
use Rattle.elan_types.specs.declared.elan_type.ElanType.{ElanType}
use Rattle.elan_types.specs.declared.elan_type.ElanType.TheVariants.{Open}
use Rattle.elan_types.specs.Types.{is_open}
use Rattle.elan_names.specs.declared.type_name.TypeName.{TypeName}
use Rattle.elan_names.specs.declared.type_name.Named.{Named}
use Rattle.elan_names.specs.declared.type_name.Named.TheVariants.{Of}

-- the first declaration of a name
abbrev pub first_type : List ℕ → List TypeName → Option TypeName
first_type x ts = find (λ t. bytes_eq t.name x) ts

-- the type that a name denotes; open where it denotes none
abbrev pub type_of : Named → ElanType
type_of (Of t) = t
type_of _ = Open

-- A name denotes a type that has no meaning. One that denotes no type is no such name.
abbrev pub is_open_named : Named → Bool
is_open_named (Of t) = is_open t
is_open_named _ = false
