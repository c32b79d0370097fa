-- What phrases declare, in text order.
use Rattle.std.specs.Prelude.{List, [], ◌∷◌, flat_map}
use Rattle.elan_tree.specs.declared.written_type.Name.{Name}
use Rattle.elan_tree.specs.declared.written_type.Constant.{Constant as Written}
use Rattle.elan_tree.specs.declared.written_type.Constant.TheVariants as written
use Rattle.elan_tree.specs.declared.phrase.Unit.{Unit as Statement}
use Rattle.elan_tree.specs.declared.written_type.TypePhrase.{TypePhrase}
use Rattle.elan_walk.specs.declared.node.Held.{Held}
use Rattle.elan_walk.specs.declared.node.Held.TheVariants as held
use Rattle.type_names.specs.Types.{type_in, type_within}
use Rattle.elan_names.specs.declared.type_name.TypeName.{TypeName}
use Rattle.elan_walk.specs.Nodes as nodes
use Rattle.elan_walk.specs.Nodes.{Node, item, let_name}
use Rattle.elan_names.specs.declared.denoter.Denoter.{Denoter}
use Rattle.elan_names.specs.declared.denoter.Denoter.TheVariants as denoters
use Rattle.elan_names.specs.declared.entry.Denotes.{Denotes}
use Rattle.elan_names.specs.declared.entry.Denotes.TheVariants.{Variable, Constant, Bound, Denoter as Given}
use Rattle.elan_names.specs.declared.entry.Entry.{Entry}

abbrev pub entry : Name → Denotes → List Entry
entry n d = record { at = n.at; name = n.text; denotes = d } ∷ []

-- what stands behind a name of a LET
abbrev pub denoter : Written → Denoter
denoter (written.Number at n) = denoters.Number n
denoter (written.Text at x) = denoters.Text x
denoter (written.Truth at b) = denoters.Truth b

-- where these names of types can be seen
module _ (ts : List TypeName) where
  abbrev pub held_as : Held → TypePhrase → Denotes
  held_as held.Variable of = Variable (type_in ts of)
  held_as held.Constant of = Constant (type_in ts of)
  held_as held.Bound of = Bound (type_within ts of)

  abbrev pub declared : Node → List Entry
  declared (item h of n) = entry n (held_as h of)
  declared (let_name n c) = entry n (Given (denoter c))
  declared _ = []

  abbrev pub in_unit : Statement → List Entry
  in_unit u = flat_map declared (nodes.in_unit u)

  abbrev pub in_units : List Statement → List Entry
  in_units us = flat_map declared (nodes.in_units us)
