-- Steps of the code. No definition of meaning needs them.
use Rattle.std.specs.Prelude.{ℤ, Bool, List, [], ◌∷◌, flat_map, Option, Some, None, is_none, if◌then◌else◌}
use Rattle.std.specs.Option.{option_map_or}
use Rattle.elan_tree.specs.declared.written_type.Name.{Name}
use Rattle.elan_tree.specs.declared.written_type.Label.{Label}
use Rattle.elan_tree.specs.declared.phrase.Expr.{Expr}
use Rattle.elan_tree.specs.declared.phrase.Counter.{Counter}
use Rattle.elan_scope.specs.declared.delivery.Delivery.{Delivery}
use Rattle.elan_scope.specs.declared.delivery.Delivery.TheVariants.{Open, Nothing, Of}
use Rattle.elan_scope.specs.declared.scope.Scope.{Scope}
use Rattle.elan_scope.specs.Phrase as form
use Rattle.elan_scope.specs.Phrase.{Phrase, row, leaf, pair}
use Rattle.elan_judge.specs.declared.role.Wanted.{Wanted}
use Rattle.elan_judge.specs.declared.role.Wanted.TheVariants as wants
use Rattle.elan_judge.specs.Shape.{role, all_empty, Counted, number, label_phrases, expr, counter}

-- what the last unit of a list is asked for, as the definitions have it
abbrev pub wanted : Wanted → Delivery
wanted wants.Open = Open
wanted wants.Nothing = Nothing
wanted (wants.Of t) = Of t.now

abbrev pub is_empty : Option Phrase → Bool
is_empty u = is_none u

-- what a unit before these is asked for, if it is not empty
abbrev pub asked : Delivery → Option Phrase → List (Option Phrase) → Option Delivery
asked d u us = if is_empty u then None else (if all_empty us then Some d else Some Nothing)

abbrev pub in_role : Option Delivery → Phrase → List Phrase
in_role None p = []
in_role (Some d) p = role d p ∷ []

abbrev pub numbers : Scope → List Label → List ℤ
numbers s ls = flat_map (number s) ls

-- a name in its declaration, and its initial value
abbrev pub item_with : Name → Phrase → Option Phrase → Phrase
item_with n p o = option_map_or (λ a. pair n.at form.initial p a) o p

module _ (s : Scope) where
  -- the labels of a case after others, each compared with all before it
  abbrev pub labels_phrase : List ℤ → List Label → Phrase
  labels_phrase earlier ls = row 0 form.labels (label_phrases s earlier ls)

  abbrev pub optional_expr : Option Expr → Phrase
  optional_expr None = leaf 0 form.absent
  optional_expr (Some a) = expr s a

  abbrev pub optional_counter : Option Counter → Option Counted
  optional_counter None = None
  optional_counter (Some k) = Some (counter s k)
