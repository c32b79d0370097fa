-- The places of a tree in text order: of names that a packet shows, names that are declared, labels, expressions and units, and of
-- types.
use Rattle.std.specs.Prelude.{ℕ, List, [], ◌∷◌, ◌++◌, map, flat_map, Option, Some, None}
use Rattle.elan_tree.specs.declared.written_type.Name.{Name}
use Rattle.elan_tree.specs.declared.written_type.TypePhrase.{TypePhrase}
use Rattle.elan_tree.specs.declared.written_type.TypePhrase.TheOpen as type
use Rattle.elan_tree.specs.declared.written_type.TypePhrase.TheOpen.{TypePhrase-F, Field-F}
use Rattle.elan_tree.specs.declared.written_type.TypePhrase.TheFolds.{fold-TypePhrase, fold-Field}
use Rattle.elan_tree.specs.declared.written_type.Field.{Field}
use Rattle.elan_tree.specs.declared.written_type.Size.{Size}
use Rattle.elan_tree.specs.declared.written_type.Size.TheVariants as size
use Rattle.elan_tree.specs.declared.written_type.Constant.{Constant}
use Rattle.elan_tree.specs.declared.written_type.Constant.TheVariants as constants
use Rattle.elan_tree.specs.declared.written_type.LetItem.{LetItem}
use Rattle.elan_tree.specs.declared.written_type.LetItem.TheVariants as let_items
use Rattle.elan_tree.specs.declared.written_type.Label.{Label}
use Rattle.elan_tree.specs.declared.written_type.Label.TheVariants as labels
use Rattle.elan_tree.specs.declared.written_type.Formal.{Formal}
use Rattle.elan_tree.specs.declared.phrase.Expr.{Expr}
use Rattle.elan_tree.specs.declared.phrase.Limit.{Limit}
use Rattle.elan_tree.specs.declared.phrase.Branch.{Branch}
use Rattle.elan_tree.specs.declared.phrase.Case.{Case}
use Rattle.elan_tree.specs.declared.phrase.Counter.{Counter}
use Rattle.elan_tree.specs.declared.phrase.Item.{Item}
use Rattle.elan_tree.specs.declared.phrase.Unit.{Unit as Statement}
use Rattle.elan_tree.specs.declared.phrase.Expr.TheOpen as t
use Rattle.elan_tree.specs.declared.phrase.Expr.TheOpen.{Expr-F, Limit-F, Unit-F, Branch-F, Case-F, Counter-F, Item-F}
use Rattle.elan_tree.specs.declared.phrase.Expr.TheFolds.{fold-Expr, fold-Limit, fold-Unit, fold-Branch, fold-Case, fold-Counter, fold-Item}
use Rattle.elan_tree.specs.declared.tree.Body.{Body}
use Rattle.elan_tree.specs.declared.tree.Export.{Export}
use Rattle.elan_tree.specs.declared.tree.Export.TheVariants as exported
use Rattle.elan_tree.specs.declared.tree.Level.{Level}
use Rattle.elan_tree.specs.declared.tree.Refinement.{Refinement}
use Rattle.elan_tree.specs.declared.tree.LevelUnit.{LevelUnit}
use Rattle.elan_tree.specs.declared.tree.LevelUnit.TheVariants as level
use Rattle.elan_tree.specs.declared.tree.Tree.{Tree}
use Rattle.elan_tree.specs.declared.tree.Tree.TheVariants as tree
use Rattle.elan_laws.specs.Below.elan_walk.specs.Nodes.{Node, of_type, content, item, abbreviation, new_type, nodes}

abbrev pub all : List (List ℕ) → List ℕ
all [] = []
all (ns ∷ rest) = ns ++ all rest

-- a part that may be left out
abbrev pub written : Option (List ℕ) → List ℕ
written None = []
written (Some ns) = ns

abbrev pub listed : Option (List (List ℕ)) → List ℕ
listed None = []
listed (Some rest) = all rest

abbrev pub names : List Name → List ℕ
names [] = []
names (n ∷ ns) = n.at ∷ names ns

abbrev pub label : Label → ℕ
label (labels.Number at n) = at
label (labels.Named n) = n.at

abbrev pub all_labels : List Label → List ℕ
all_labels [] = []
all_labels (l ∷ ls) = label l ∷ all_labels ls

-- LET gives a name to a constant, or to a type
abbrev pub constant : Constant → ℕ
constant (constants.Number at n) = at
constant (constants.Text at x) = at
constant (constants.Truth at b) = at

abbrev pub let_item : LetItem → List ℕ
let_item (let_items.Constant n c) = n.at ∷ constant c ∷ []
let_item (let_items.Abbreviation n of) = n.at ∷ []

-- ---- expressions and units: each has a place, and behind it come those of its parts

abbrev pub Layer : (Type 0 → Type 0 → Type 0 → Type 0 → Type 0 → Type 0 → Type 0 → Type 0) → Type 0
Layer F = F (List ℕ) (List ℕ) (List ℕ) (List ℕ) (List ℕ) (List ℕ) (List ℕ)

abbrev pub expr_step : Layer Expr-F → List ℕ
expr_step (t.Number at n) = at ∷ []
expr_step (t.Text at x) = at ∷ []
expr_step (t.Truth at b) = at ∷ []
expr_step (t.Named n) = n.at ∷ []
expr_step (t.Call n actuals) = n.at ∷ all actuals
expr_step (t.Procedure at n) = at ∷ n.at ∷ []
expr_step (t.Concr at a) = at ∷ a
expr_step (t.Bracket at a) = at ∷ a
expr_step (t.If at branches otherwise) = at ∷ all branches ++ listed otherwise
expr_step (t.Select at of cases otherwise) = at ∷ of ++ (all cases ++ listed otherwise)
expr_step (t.Index at of index) = at ∷ of ++ index
expr_step (t.Field at of field) = at ∷ of
expr_step (t.Monadic at o a) = at ∷ a
expr_step (t.Dyadic at o a b) = at ∷ a ++ b
expr_step (t.Cand at a b) = at ∷ a ++ b
expr_step (t.Cor at a b) = at ∷ a ++ b

abbrev pub limit_step : Layer Limit-F → List ℕ
limit_step t.Without = []
limit_step (t.Upto a) = a
limit_step (t.Downto a) = a

abbrev pub unit_step : Layer Unit-F → List ℕ
unit_step t.Empty = []
unit_step (t.Let at items) = at ∷ all (map let_item items)
unit_step (t.Variables at of items) = at ∷ all items
unit_step (t.Constants at of items) = at ∷ all items
unit_step (t.Bound at of items) = at ∷ all items
unit_step (t.Value a) = a
unit_step (t.Becomes at a b) = at ∷ a ++ b
unit_step (t.Loop at counter condition units until) = at ∷ written counter ++ (written condition ++ (all units ++ written until))
unit_step (t.Leave at n value) = at ∷ written value

abbrev pub branch_step : Layer Branch-F → List ℕ
branch_step b = b.condition ++ all b.units

abbrev pub case_step : Layer Case-F → List ℕ
case_step c = all_labels c.labels ++ all c.units

abbrev pub counter_step : Layer Counter-F → List ℕ
counter_step c = c.name.at ∷ written c.from ++ c.limit

abbrev pub item_step : Layer Item-F → List ℕ
item_step i = i.name.at ∷ written i.init

abbrev pub in_expr : Expr → List ℕ
in_expr = fold-Expr _ _ _ _ _ _ _ expr_step limit_step unit_step branch_step case_step counter_step item_step

abbrev pub in_limit : Limit → List ℕ
in_limit = fold-Limit _ _ _ _ _ _ _ expr_step limit_step unit_step branch_step case_step counter_step item_step

abbrev pub in_unit : Statement → List ℕ
in_unit = fold-Unit _ _ _ _ _ _ _ expr_step limit_step unit_step branch_step case_step counter_step item_step

abbrev pub in_branch : Branch → List ℕ
in_branch = fold-Branch _ _ _ _ _ _ _ expr_step limit_step unit_step branch_step case_step counter_step item_step

abbrev pub in_case : Case → List ℕ
in_case = fold-Case _ _ _ _ _ _ _ expr_step limit_step unit_step branch_step case_step counter_step item_step

abbrev pub in_counter : Counter → List ℕ
in_counter = fold-Counter _ _ _ _ _ _ _ expr_step limit_step unit_step branch_step case_step counter_step item_step

abbrev pub in_item : Item → List ℕ
in_item = fold-Item _ _ _ _ _ _ _ expr_step limit_step unit_step branch_step case_step counter_step item_step

abbrev pub in_units : List Statement → List ℕ
in_units us = all (map in_unit us)

-- ---- the whole text

abbrev pub formals : List Formal → List ℕ
formals [] = []
formals (f ∷ fs) = names f.names ++ formals fs

abbrev pub refinements : List Refinement → List ℕ
refinements [] = []
refinements (r ∷ rs) = r.name.at ∷ in_units r.units ++ refinements rs

abbrev pub body : List Formal → Body → List ℕ
body fs b = formals fs ++ (in_units b.units ++ refinements b.refinements)

abbrev pub level_unit : LevelUnit → List ℕ
level_unit (level.Plain u) = in_unit u
level_unit (level.NewType at n of) = n.at ∷ []
level_unit (level.Proc at r n fs b) = n.at ∷ body fs b
level_unit (level.Op at r n fs b) = n.at ∷ body fs b

abbrev pub level_units : List LevelUnit → List ℕ
level_units [] = []
level_units (u ∷ us) = level_unit u ++ level_units us

abbrev pub in_level : Level → List ℕ
in_level l = level_units l.units ++ refinements l.refinements

-- a name that a packet shows
abbrev pub export : Export → ℕ
export (exported.Ident n) = n.at
export (exported.Bold n) = n.at
export (exported.Sign at s) = at

abbrev pub all_exports : List Export → List ℕ
all_exports [] = []
all_exports (e ∷ es) = export e ∷ all_exports es

-- What a packet shows stands before its level.
abbrev pub places : Tree → List ℕ
places (tree.Program l) = in_level l
places (tree.Packet at n exports l) = all_exports exports ++ in_level l

-- ---- types

abbrev pub size_place : Size → ℕ
size_place (size.Number at n) = at
size_place (size.Named n) = n.at

-- a type as it is written: the names of types, the word DATASPACE, the word and the size of a row, the word and the fields of a structure
abbrev pub written_step : TypePhrase-F (List ℕ) (List ℕ) → List ℕ
written_step (type.Dataspace at) = at ∷ []
written_step (type.Named n) = n.at ∷ []
written_step (type.Row at size ns) = at ∷ size_place size ∷ ns
written_step (type.Struct at fields) = at ∷ all fields
written_step _ = []

abbrev pub field_step : Field-F (List ℕ) (List ℕ) → List ℕ
field_step f = f.of ++ names f.names

abbrev pub type_phrase : TypePhrase → List ℕ
type_phrase = fold-TypePhrase (List ℕ) (List ℕ) written_step field_step

abbrev pub field : Field → List ℕ
field = fold-Field (List ℕ) (List ℕ) written_step field_step

-- A type is told of once more for each name that is declared with it. A LET of a type has the place of its name, and a TYPE its own.
abbrev pub node_types : Node → List ℕ
node_types (of_type of) = type_phrase of
node_types (content of) = type_phrase of
node_types (item h of n) = type_phrase of
node_types (abbreviation n of) = n.at ∷ type_phrase of
node_types (new_type at n of) = at ∷ type_phrase of
node_types _ = []

-- the places of types in text order
abbrev pub type_places : Tree → List ℕ
type_places t = flat_map node_types (nodes t)
