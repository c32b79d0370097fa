-- The phrases of the units of a level, and the units of their bodies, with those of the first from this number on.
use Rattle.std.specs.Prelude.{ℕ, List, map, flat_map}
use Rattle.elan_tree.specs.declared.tree.LevelUnit.{LevelUnit}
use Rattle.elan_scope.specs.declared.scope.Scope.{Scope}
use Rattle.elan_scope.specs.Phrase.{Phrase}
use Rattle.type_names.specs.Bodies.{numbered}
use Rattle.elan_judge.specs.Level.{level_unit, unit_bodies}

module _ (s : Scope) where
  abbrev pub level_units : ℕ → List LevelUnit → List Phrase
  level_units k us = map (λ u. level_unit s u.0 u.1) (numbered k us)

  abbrev pub all_unit_bodies : ℕ → List LevelUnit → List Phrase
  all_unit_bodies k us = flat_map (λ u. unit_bodies s u.0 u.1) (numbered k us)
