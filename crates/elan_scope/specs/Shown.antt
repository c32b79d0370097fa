-- What the packets of a task show to a text of their types.
use Rattle.std.specs.Prelude.{List, filter, flat_map}
use Rattle.elan_names.specs.declared.interface.Interface.{Interface}
use Rattle.elan_names.specs.declared.type_name.TypeName.{TypeName}
use Rattle.elan_names.specs.Interfaces.{exports}
use Rattle.elan_scope.specs.declared.env.Env.{Env}

-- the names of types that later texts see of a packet
abbrev pub shows : Interface → List TypeName
shows p = filter (λ t. exports p t.name) p.types

-- those that all packets show, from the last inserted on
abbrev pub shown_types : Env → List TypeName
shown_types env = flat_map (λ p. shows p.interface) env.inserted
