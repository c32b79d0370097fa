-- The refinements that the nodes of phrases call, in text order, by their numbers.
use Rattle.std.specs.Prelude.{ℕ, List, [], ◌∷◌, ◌++◌, option_to_list}
use Rattle.elan_tree.specs.declared.phrase.Unit.{Unit as Statement}
use Rattle.elan_walk.specs.Nodes as nodes
use Rattle.elan_walk.specs.Nodes.{Node, alone, other, sign, of_type, item, let_name, abbreviation, new_type, content}
use Rattle.elan_scope.specs.declared.scope.Scope.{Scope}
use Rattle.elan_scope.specs.Scope.{refinement_named}

module _ (s : Scope) where
  -- The identifier after FOR is no call.
  abbrev pub called : Node → List ℕ
  called (alone n) = option_to_list (refinement_named s n.text)
  called (other n) = []
  called (sign o) = []
  called (of_type of) = []
  called (item h of n) = []
  called (let_name n c) = []
  called (abbreviation n of) = []
  called (new_type at n of) = []
  called (content of) = []

  abbrev pub all_called : List Node → List ℕ
  all_called [] = []
  all_called (n ∷ ns) = called n ++ all_called ns

  abbrev pub in_unit : Statement → List ℕ
  in_unit u = all_called (nodes.in_unit u)

  abbrev pub in_units : List Statement → List ℕ
  in_units us = all_called (nodes.in_units us)
