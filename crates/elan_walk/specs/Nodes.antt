-- The nodes of trees in text order, as far as they have a name, a type or an operator.
use Rattle.std.specs.Prelude.{ℕ, List, [], ◌∷◌, ◌++◌, map, flat_map, Option, option_map, option_to_list, unwrap_or}
use Rattle.elan_tree.specs.declared.written_type.Name.{Name}
use Rattle.elan_tree.specs.declared.written_type.Constant.{Constant as Denoter}
use Rattle.elan_tree.specs.declared.written_type.LetItem.{LetItem}
use Rattle.elan_tree.specs.declared.written_type.LetItem.TheVariants as item_of
use Rattle.elan_tree.specs.declared.written_type.Label.{Label}
use Rattle.elan_tree.specs.declared.written_type.Label.TheVariants as label
use Rattle.elan_tree.specs.declared.written_type.TypePhrase.{TypePhrase}
use Rattle.elan_tree.specs.declared.written_type.Formal.{Formal}
use Rattle.elan_tree.specs.declared.phrase.Operator.{Operator}
use Rattle.elan_tree.specs.declared.phrase.Expr.{Expr}
use Rattle.elan_tree.specs.declared.phrase.Limit.{Limit}
use Rattle.elan_tree.specs.declared.phrase.Branch.{Branch}
use Rattle.elan_tree.specs.declared.phrase.Case.{Case}
use Rattle.elan_tree.specs.declared.phrase.Counter.{Counter}
use Rattle.elan_tree.specs.declared.phrase.Item.{Item}
use Rattle.elan_tree.specs.declared.phrase.Unit.{Unit as Statement}
use Rattle.elan_tree.specs.declared.phrase.Expr.TheOpen as t
use Rattle.elan_tree.specs.declared.phrase.Expr.TheOpen.{Expr-F, Limit-F, Unit-F, Branch-F, Case-F, Counter-F, Item-F}
use Rattle.elan_tree.specs.declared.phrase.Expr.TheFolds.{fold-Expr, fold-Limit, fold-Unit, fold-Branch, fold-Case, fold-Counter, fold-Item}
use Rattle.elan_tree.specs.declared.tree.Body.{Body}
use Rattle.elan_tree.specs.declared.tree.Refinement.{Refinement}
use Rattle.elan_tree.specs.declared.tree.Export.{Export}
use Rattle.elan_tree.specs.declared.tree.Export.TheVariants as exported
use Rattle.elan_tree.specs.declared.tree.Level.{Level}
use Rattle.elan_tree.specs.declared.tree.LevelUnit.{LevelUnit}
use Rattle.elan_tree.specs.declared.tree.LevelUnit.TheVariants as level
use Rattle.elan_tree.specs.declared.tree.Tree.{Tree}
use Rattle.elan_tree.specs.declared.tree.Tree.TheVariants as tree
use Rattle.elan_walk.specs.declared.node.Held.{Held}
use Rattle.elan_walk.specs.declared.node.Held.TheVariants.{Variable, Constant, Bound}
use Rattle.elan_walk.specs.declared.node.Node.{Node as Lent}
use Rattle.elan_walk.specs.declared.node.Node.TheVariants as lent

pub data Node : Type 0 where
  -- an identifier that stands alone in an expression
  alone : Name → Node
  -- a name with actuals, as a label, after FOR, PROC or LEAVE
  other : Name → Node
  sign : Operator → Node
  of_type : TypePhrase → Node
  -- a name that is declared, with the type that is written
  item : Held → TypePhrase → Name → Node
  -- a name that LET gives to a constant
  let_name : Name → Denoter → Node
  -- a name that LET gives to a type
  abbreviation : Name → TypePhrase → Node
  -- a TYPE, with its place, its name, and its concrete type
  new_type : ℕ → Name → TypePhrase → Node
  -- the type of what BOUND variables denote
  content : TypePhrase → Node

abbrev pub plain : Lent → Node
plain (lent.Alone n) = alone n.now
plain (lent.Other n) = other n.now
plain (lent.Operator o) = sign o.now
plain (lent.Type of) = of_type of.now
plain (lent.Item h of n) = item h of.now n.now
plain (lent.Let n c) = let_name n.now c.now
plain (lent.Abbreviation n of) = abbreviation n.now of.now
plain (lent.NewType at n of) = new_type at n.now of.now
plain (lent.Content of) = content of.now

-- what the items of a declaration are, by how they are held and of which type
abbrev pub Declares : Type 0
Declares = Held → TypePhrase → List Node

abbrev pub all : List (List Node) → List Node
all lists = flat_map (λ ns. ns) lists

abbrev pub labels : List Label → List Node
labels [] = []
labels (label.Number at n ∷ ls) = labels ls
labels (label.Named n ∷ ls) = other n ∷ labels ls

-- LET gives a name to a constant, or to a type
abbrev pub let_item : LetItem → Node
let_item (item_of.Constant n c) = let_name n c
let_item (item_of.Abbreviation n of) = abbreviation n of

abbrev pub Layer : (Type 0 → Type 0 → Type 0 → Type 0 → Type 0 → Type 0 → Type 0 → Type 0) → Type 0
Layer F = F (List Node) (List Node) (List Node) (List Node) (List Node) (List Node) Declares

abbrev pub expr_step : Layer Expr-F → List Node
expr_step (t.Number at n) = []
expr_step (t.Truth at b) = []
expr_step (t.Text at x) = []
expr_step (t.Named n) = alone n ∷ []
expr_step (t.Call n actuals) = other n ∷ all actuals
expr_step (t.Bracket at a) = a
expr_step (t.Concr at a) = a
expr_step (t.If at branches otherwise) = all branches ++ all (unwrap_or otherwise [])
expr_step (t.Select at of cases otherwise) = of ++ all cases ++ all (unwrap_or otherwise [])
expr_step (t.Monadic at o a) = sign o ∷ a
expr_step (t.Dyadic at o a b) = a ++ sign o ∷ b
expr_step (t.Cand at a b) = a ++ b
expr_step (t.Cor at a b) = a ++ b
expr_step (t.Index at of index) = of ++ index
expr_step (t.Field at of field) = of ++ other field ∷ []
expr_step (t.Procedure at n) = other n ∷ []

abbrev pub limit_step : Layer Limit-F → List Node
limit_step t.Without = []
limit_step (t.Upto a) = a
limit_step (t.Downto a) = a

abbrev pub unit_step : Layer Unit-F → List Node
unit_step t.Empty = []
unit_step (t.Variables at of items) = of_type of ∷ flat_map (λ i. i Variable of) items
unit_step (t.Constants at of items) = of_type of ∷ flat_map (λ i. i Constant of) items
unit_step (t.Value a) = a
unit_step (t.Becomes at a b) = a ++ b
unit_step (t.Loop at counter condition units until) = unwrap_or counter [] ++ unwrap_or condition [] ++ all units ++ unwrap_or until []
unit_step (t.Leave at n value) = other n ∷ unwrap_or value []
unit_step (t.Let at items) = map let_item items
unit_step (t.Bound at of items) = content of ∷ flat_map (λ i. i Bound of) items

abbrev pub branch_step : Layer Branch-F → List Node
branch_step b = b.condition ++ all b.units

abbrev pub case_step : Layer Case-F → List Node
case_step c = labels c.labels ++ all c.units

abbrev pub counter_step : Layer Counter-F → List Node
counter_step c = other c.name ∷ unwrap_or c.from [] ++ c.limit

abbrev pub item_step : Layer Item-F → Declares
item_step i h of = item h of i.name ∷ unwrap_or i.init []

abbrev pub in_expr : Expr → List Node
in_expr = fold-Expr _ _ _ _ _ _ _ expr_step limit_step unit_step branch_step case_step counter_step item_step

abbrev pub in_limit : Limit → List Node
in_limit = fold-Limit _ _ _ _ _ _ _ expr_step limit_step unit_step branch_step case_step counter_step item_step

abbrev pub in_unit : Statement → List Node
in_unit = fold-Unit _ _ _ _ _ _ _ expr_step limit_step unit_step branch_step case_step counter_step item_step

abbrev pub in_branch : Branch → List Node
in_branch = fold-Branch _ _ _ _ _ _ _ expr_step limit_step unit_step branch_step case_step counter_step item_step

abbrev pub in_case : Case → List Node
in_case = fold-Case _ _ _ _ _ _ _ expr_step limit_step unit_step branch_step case_step counter_step item_step

abbrev pub in_counter : Counter → List Node
in_counter = fold-Counter _ _ _ _ _ _ _ expr_step limit_step unit_step branch_step case_step counter_step item_step

abbrev pub in_item : Item → Declares
in_item = fold-Item _ _ _ _ _ _ _ expr_step limit_step unit_step branch_step case_step counter_step item_step

abbrev pub in_units : List Statement → List Node
in_units us = all (map in_unit us)

-- ---- bodies

abbrev pub formals : List Formal → List Node
formals fs = flat_map (λ f. of_type f.of ∷ map other f.names) fs

abbrev pub refinements : List Refinement → List Node
refinements rs = flat_map (λ r. other r.name ∷ in_units r.units) rs

abbrev pub result : Option TypePhrase → List Node
result type = option_to_list (option_map of_type type)

abbrev pub body : List Formal → Body → List Node
body fs b = formals fs ++ in_units b.units ++ refinements b.refinements

abbrev pub level_unit : LevelUnit → List Node
level_unit (level.Plain u) = in_unit u
level_unit (level.NewType at n of) = new_type at n of ∷ []
level_unit (level.Proc at r n fs b) = result r ++ other n ∷ body fs b
level_unit (level.Op at r n fs b) = result r ++ sign n.operator ∷ body fs b

abbrev pub in_level : Level → List Node
in_level l = flat_map level_unit l.units ++ refinements l.refinements

-- No sign is unknown.
abbrev pub export : Export → List Node
export (exported.Ident n) = other n ∷ []
export (exported.Bold n) = other n ∷ []
export (exported.Sign at s) = []

abbrev pub nodes : Tree → List Node
nodes (tree.Program l) = in_level l
nodes (tree.Packet at n exports l) = flat_map export exports ++ in_level l
