-- The phrases of expressions and units.
use Rattle.std.specs.Prelude.{ℕ, ℤ, Bool, true, false, if◌then◌else◌, List, [], ◌∷◌, ◌++◌, map, flat_map, Option, Some, None, is_none, option_to_list}
use Rattle.std.specs.List.{list_all}
use Rattle.std.specs.Str.{bytes_eq}
use Rattle.elan_judge.specs.Below.value_rules.specs.Calls.{begin}
use Rattle.std.specs.Option.{option_map, option_map_or, unwrap_or}
use Rattle.eu_base.specs.declared.operation.Way.{Way}
use Rattle.eu_base.specs.declared.operation.Way.TheVariants.{Up, Down}
use Rattle.elan_tree.specs.declared.written_type.Constant.{Constant}
use Rattle.elan_tree.specs.declared.written_type.Constant.TheVariants as constants
use Rattle.elan_tree.specs.declared.written_type.LetItem.{LetItem}
use Rattle.elan_tree.specs.declared.written_type.LetItem.TheVariants as let_items
use Rattle.elan_tree.specs.declared.written_type.Label.{Label}
use Rattle.elan_tree.specs.declared.written_type.Label.TheVariants as label
use Rattle.elan_tree.specs.declared.phrase.Expr.{Expr}
use Rattle.elan_tree.specs.declared.phrase.Limit.{Limit}
use Rattle.elan_tree.specs.declared.phrase.Branch.{Branch}
use Rattle.elan_tree.specs.declared.phrase.Case.{Case}
use Rattle.elan_tree.specs.declared.phrase.Counter.{Counter}
use Rattle.elan_tree.specs.declared.phrase.Item.{Item}
use Rattle.elan_tree.specs.declared.phrase.Unit.{Unit as Statement}
use Rattle.elan_tree.specs.declared.phrase.Expr.TheOpen as t
use Rattle.elan_tree.specs.declared.phrase.Expr.TheOpen.{Expr-F, Limit-F, Unit-F, Branch-F, Case-F, Counter-F, Item-F}
use Rattle.elan_tree.specs.declared.phrase.Expr.TheFolds.{fold-Expr, fold-Limit, fold-Unit, fold-Branch, fold-Case, fold-Counter, fold-Item}
use Rattle.elan_scope.specs.declared.delivery.Delivery.{Delivery}
use Rattle.elan_scope.specs.declared.delivery.Delivery.TheVariants.{Open, Nothing, Of}
use Rattle.elan_judge.specs.Below.elan_names.specs.declared.heading.Sort.TheVariants.{Procedure, Operator}
use Rattle.elan_scope.specs.declared.scope.Scope.{Scope}
use Rattle.elan_scope.specs.Scope.{find, number_named}
use Rattle.elan_judge.specs.Below.elan_walk.specs.Operators.{operator_text}
use Rattle.elan_scope.specs.declared.scope.Usage.TheVariants.{Expression, Counter as Counts}
use Rattle.elan_scope.specs.Phrase as form
use Rattle.elan_scope.specs.Phrase.{Phrase, phrase, part, none, row, leaf, around, pair, name, place}

-- a part that may be left out
abbrev pub written : Option Phrase → Phrase
written o = unwrap_or o (leaf 0 form.absent)

-- an identifier without actuals
abbrev pub is_name : Phrase → Bool
is_name (phrase at (form.named u s x) ps) = true
is_name p = false

-- ---- lists of units

-- a unit that is asked for this: where it is open, it delivers what it will
abbrev pub role : Delivery → Phrase → Phrase
role Open p = p
role Nothing p = around (place p) form.without_value p
role (Of t) p = around (place p) (form.must_deliver t) p

-- The last unit of a list is asked for what the list has to deliver, each before it for nothing.
abbrev pub roles : Delivery → List Phrase → List Phrase
roles d [] = []
roles d (p ∷ []) = role d p ∷ []
roles d (p ∷ q ∷ ps) = role Nothing p ∷ roles d (q ∷ ps)

-- An empty unit is no phrase.
abbrev pub filled : List (Option Phrase) → List Phrase
filled us = flat_map option_to_list us

abbrev pub all_empty : List (Option Phrase) → Bool
all_empty us = list_all is_none us

abbrev pub units : Delivery → List (Option Phrase) → Phrase
units d us = row 0 form.units (roles d (filled us))

-- ---- conditions, each before its units

abbrev pub branches : List (Phrase × Phrase) → List Phrase
branches bs = flat_map (λ b. b.0 ∷ b.1 ∷ []) bs

-- ---- actuals

-- PROC with a name, where it may stand
abbrev pub as_start : Phrase → Phrase
as_start (phrase at (form.plain (form.start may)) ps) = phrase at (form.plain (form.start true)) ps
as_start p = p

abbrev pub second_starts : List Phrase → List Phrase
second_starts (p ∷ q ∷ ps) = p ∷ as_start q ∷ ps
second_starts ps = ps

-- It may stand as the second actual of `begin`.
abbrev pub actuals : List ℕ → List Phrase → List Phrase
actuals x ps = if bytes_eq x begin then second_starts ps else ps

-- ---- loops

-- the counter of a loop: the name, what it begins with, the limit, and the way to it
abbrev pub Counted : Type 0
Counted = Phrase × Phrase × Phrase × Way

abbrev pub loop : ℕ → Option Counted → Phrase → Phrase → Phrase → Phrase
loop at None c us u = row at form.loop (c ∷ us ∷ u ∷ [])
loop at (Some k) c us u = row at (form.count k.3) (k.0 ∷ k.1 ∷ k.2 ∷ c ∷ us ∷ u ∷ [])

-- ---- labels

-- a piece of a tree, what is in it being phrases: a limit with its way, a condition and labels with their units
abbrev pub Layer : (Type 0 → Type 0 → Type 0 → Type 0 → Type 0 → Type 0 → Type 0 → Type 0) → Type 0
Layer F = F Phrase (Way × Phrase) (Option Phrase) (Phrase × Phrase) (List Label × Phrase) Counted Phrase

module _ (s : Scope) where
  -- the number of a label, if it has one
  abbrev pub number : Label → List ℤ
  number (label.Number at n) = n ∷ []
  number (label.Named n) = option_to_list (number_named (find s n.text))

  abbrev pub label_phrase : List ℤ → Label → Phrase
  label_phrase earlier (label.Number at n) = leaf at (form.label earlier n)
  label_phrase earlier (label.Named n) = leaf n.at (form.label_name earlier s n.text)

  abbrev pub label_phrases : List ℤ → List Label → List Phrase
  label_phrases earlier [] = []
  label_phrases earlier (l ∷ ls) = label_phrase earlier l ∷ label_phrases (earlier ++ number l) ls

  -- labels, each compared with all before it, and each before the units that they choose
  abbrev pub arms : List ℤ → List (List Label × Phrase) → List Phrase
  arms earlier [] = []
  arms earlier (c ∷ cs) = row 0 form.labels (label_phrases earlier c.0) ∷ c.1 ∷ arms (earlier ++ flat_map number c.0) cs

  -- ---- what LET gives names to

  abbrev pub constant : Constant → Phrase
  constant (constants.Number at n) = leaf at (form.number n)
  constant (constants.Text at x) = leaf at (form.text x)
  constant (constants.Truth at b) = leaf at (form.truth b)

  abbrev pub let_item : LetItem → Phrase
  let_item (let_items.Constant n c) = pair n.at form.definition (leaf n.at (form.declares s n.text)) (constant c)
  let_item (let_items.Abbreviation n of) = leaf n.at (form.type_name s n.text)

  -- ---- the tree; an empty unit has no phrase

  abbrev pub expr_step : Layer Expr-F → Phrase
  expr_step (t.Number at n) = leaf at (form.number n)
  expr_step (t.Truth at b) = leaf at (form.truth b)
  expr_step (t.Text at x) = leaf at (form.text x)
  expr_step (t.Named n) = name Expression n.at s n.text
  expr_step (t.Call n as') = row n.at (form.applied s Procedure n.text) (actuals n.text as')
  expr_step (t.Bracket at a) = around at form.bracket a
  expr_step (t.If at bs other) = row at form.choice (branches bs ++ written (option_map (units Open) other) ∷ [])
  expr_step (t.Select at of cases other) = row at form.selection (of ∷ arms [] cases ++ written (option_map (units Open) other) ∷ [])
  expr_step (t.Monadic at o a) = around at (form.applied s Operator (operator_text o)) a
  expr_step (t.Dyadic at o a b) = pair at (form.applied s Operator (operator_text o)) a b
  expr_step (t.Cand at a b) = pair at form.cand a b
  expr_step (t.Cor at a b) = pair at form.cor a b
  expr_step (t.Procedure at n) = around at (form.start false) (leaf n.at (form.start_name s n.text))
  expr_step (t.Concr at a) = around at (form.concr s) a
  expr_step (t.Index at of index) = pair at form.index of index
  expr_step (t.Field at of field) = around at (form.field field.text) of

  -- Without a limit a counter goes up.
  abbrev pub limit_step : Layer Limit-F → Way × Phrase
  limit_step t.Without = (Up, leaf 0 form.absent)
  limit_step (t.Upto a) = (Up, a)
  limit_step (t.Downto a) = (Down, a)

  abbrev pub unit_step : Layer Unit-F → Option Phrase
  unit_step t.Empty = None
  unit_step (t.Variables at of items) = Some (row at form.declaration items)
  unit_step (t.Constants at of items) = Some (row at form.declaration items)
  unit_step (t.Value a) = Some (around (place a) form.statement a)
  unit_step (t.Becomes at a b) = Some (pair at (form.assignment s (is_name a)) a b)
  unit_step (t.Loop at k condition us until) = Some (loop at k (written condition) (units Nothing us) (written until))
  unit_step (t.Let at items) = Some (row at form.definition (map let_item items))
  unit_step (t.Bound at of items) = Some (row at form.declaration items)
  unit_step (t.Leave at n value) = Some (phrase at (form.leave s n.text) (part (written value) none))

  abbrev pub branch_step : Layer Branch-F → Phrase × Phrase
  branch_step b = (b.condition, units Open b.units)

  abbrev pub case_step : Layer Case-F → List Label × Phrase
  case_step c = (c.labels, units Open c.units)

  abbrev pub counter_step : Layer Counter-F → Counted
  counter_step c = (name Counts c.name.at s c.name.text, written c.from, c.limit.1, c.limit.0)

  -- a name in its declaration, with its initial value, if it has one
  abbrev pub item_step : Layer Item-F → Phrase
  item_step i = let p = leaf i.name.at (form.declares s i.name.text) in option_map_or (λ a. pair i.name.at form.initial p a) i.init p

  abbrev pub expr : Expr → Phrase
  expr = fold-Expr _ _ _ _ _ _ _ expr_step limit_step unit_step branch_step case_step counter_step item_step

  abbrev pub limit : Limit → Way × Phrase
  limit = fold-Limit _ _ _ _ _ _ _ expr_step limit_step unit_step branch_step case_step counter_step item_step

  abbrev pub unit : Statement → Option Phrase
  unit = fold-Unit _ _ _ _ _ _ _ expr_step limit_step unit_step branch_step case_step counter_step item_step

  abbrev pub branch : Branch → Phrase × Phrase
  branch = fold-Branch _ _ _ _ _ _ _ expr_step limit_step unit_step branch_step case_step counter_step item_step

  abbrev pub case : Case → List Label × Phrase
  case = fold-Case _ _ _ _ _ _ _ expr_step limit_step unit_step branch_step case_step counter_step item_step

  abbrev pub counter : Counter → Counted
  counter = fold-Counter _ _ _ _ _ _ _ expr_step limit_step unit_step branch_step case_step counter_step item_step

  abbrev pub item : Item → Phrase
  item = fold-Item _ _ _ _ _ _ _ expr_step limit_step unit_step branch_step case_step counter_step item_step
