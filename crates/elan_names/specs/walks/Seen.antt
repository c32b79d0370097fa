-- What the calls of this crate hand on by reference, as the definitions have it.
use Rattle.std.specs.Prelude.{◌+◌, List, [], ◌∷◌, map, Option, Some, None, option_map}
use Rattle.elan_names.specs.declared.callable.Callable.{Callable as Handed}
use Rattle.elan_types.specs.declared.elan_type.ElanType.{ElanType}
use Rattle.elan_types.specs.declared.elan_type.Parameter.{Parameter}
use Rattle.elan_types.specs.Types.{type_in}
use Rattle.elan_names.specs.declared.predefined.Operand.{Operand}
use Rattle.elan_names.specs.declared.callable.Called.{Called}
use Rattle.elan_names.specs.declared.callable.Called.TheVariants as called
use Rattle.elan_names.specs.declared.callable.Parameters.{Parameters as HandedParameters}
use Rattle.elan_names.specs.declared.callable.Parameters.TheVariants as handed
use Rattle.elan_names.specs.Callees.{Callee, Predefined, Body}
use Rattle.elan_names.specs.Predefined as predefined
use Rattle.elan_names.specs.Callables.{Callable}

-- what something predefined is given, as a parameter
abbrev pub operand : Operand → Parameter
operand o = record { of = type_in o.kind; access = o.access }

abbrev pub parameters : HandedParameters → List Parameter
parameters (handed.Own ps) = ps.now
parameters (handed.Predefined os) = map operand os.now

-- what a callee is given, what it delivers, and what it is
abbrev pub given_to : Called → List Parameter
given_to (called.Predefined p) = predefined.parameters p
given_to (called.Body b n ps r) = ps.now

abbrev pub result : Called → Option ElanType
result (called.Predefined p) = predefined.result p
result (called.Body b n ps r) = option_map (λ t. t.now) r

abbrev pub callee : Called → Callee
callee (called.Predefined p) = Predefined p
callee (called.Body b n ps r) = Body (b + n)

abbrev pub callable : Handed → Callable
callable c = record { sort = c.sort; name = c.name.now; parameters = given_to c.what; result = result c.what; callee = callee c.what }

abbrev pub listed : Option Handed → List Callable
listed None = []
listed (Some c) = callable c ∷ []
