-- The headings of units, with those of the first from this number on.
use Rattle.std.specs.Prelude.{ℕ, List, flat_map}
use Rattle.elan_tree.specs.declared.tree.LevelUnit.{LevelUnit}
use Rattle.elan_names.specs.declared.heading.Heading.{Heading}
use Rattle.elan_names.specs.declared.type_name.TypeName.{TypeName}
use Rattle.type_names.specs.Bodies.{numbered, unit_headings}

abbrev pub all_headings : List TypeName → ℕ → List LevelUnit → List Heading
all_headings ts k us = flat_map (λ u. unit_headings ts u.0 u.1) (numbered k us)
