-- How deep a tree is, and where a phrase begins.
use Rattle.std.specs.Prelude.{ℕ, ◌+◌, max, List, [], ◌∷◌, map, Option, Some, None}
use Rattle.elan_tree.specs.declared.written_type.TypePhrase.{TypePhrase}
use Rattle.elan_tree.specs.declared.written_type.Field.{Field}
use Rattle.elan_tree.specs.declared.written_type.TypePhrase.TheOpen as ty
use Rattle.elan_tree.specs.declared.written_type.TypePhrase.TheOpen.{TypePhrase-F}
use Rattle.elan_tree.specs.declared.written_type.TypePhrase.TheViews.{out-TypePhrase}
use Rattle.elan_tree.specs.declared.written_type.TypePhrase.TheFolds.{fold-TypePhrase, fold-Field}
use Rattle.elan_tree.specs.declared.written_type.Formal.{Formal}
use Rattle.elan_tree.specs.declared.written_type.LetItem.{LetItem}
use Rattle.elan_tree.specs.declared.written_type.LetItem.TheVariants as let_item
use Rattle.elan_tree.specs.declared.tree.Refinement.{Refinement}
use Rattle.elan_tree.specs.declared.tree.Body.{Body}
use Rattle.elan_tree.specs.declared.tree.LevelUnit.{LevelUnit}
use Rattle.elan_tree.specs.declared.tree.LevelUnit.TheVariants as lu
use Rattle.elan_tree.specs.declared.tree.Level.{Level}
use Rattle.elan_tree.specs.declared.tree.Tree.{Tree}
use Rattle.elan_tree.specs.declared.tree.Tree.TheVariants as tree
use Rattle.elan_tree.specs.declared.phrase.Expr.{Expr}
use Rattle.elan_tree.specs.declared.phrase.Branch.{Branch}
use Rattle.elan_tree.specs.declared.phrase.Case.{Case}
use Rattle.elan_tree.specs.declared.phrase.Item.{Item}
use Rattle.elan_tree.specs.declared.phrase.Counter.{Counter}
use Rattle.elan_tree.specs.declared.phrase.Limit.{Limit}
use Rattle.elan_tree.specs.declared.phrase.Unit.{Unit as Phrase}
use Rattle.elan_tree.specs.declared.phrase.Expr.TheOpen as e
use Rattle.elan_tree.specs.declared.phrase.Expr.TheOpen.{Expr-F, Branch-F, Case-F, Item-F, Counter-F, Limit-F, Unit-F}
use Rattle.elan_tree.specs.declared.phrase.Expr.TheViews.{out-Expr}
use Rattle.elan_tree.specs.declared.phrase.Expr.TheFolds.{fold-Expr, fold-Branch, fold-Case, fold-Item, fold-Counter, fold-Limit, fold-Unit}

abbrev pub deepest : List ℕ → ℕ
deepest [] = 0
deepest (n ∷ ns) = max n (deepest ns)

-- of some items, by the depth of each
abbrev pub deepest_of : {A : Type 0} → (A → ℕ) → List A → ℕ
deepest_of depth xs = deepest (map depth xs)

-- of what may be left out
abbrev pub if_any : {A : Type 0} → (A → ℕ) → Option A → ℕ
if_any depth (Some a) = depth a
if_any depth None = 0

-- ---- types: each adds one

abbrev pub type_step : TypePhrase-F ℕ ℕ → ℕ
type_step (ty.Row at size of) = of + 1
type_step (ty.Struct at fields) = deepest fields + 1
type_step _ = 1

abbrev pub type_depth : TypePhrase → ℕ
type_depth = fold-TypePhrase ℕ ℕ type_step (λ f. f.of)

abbrev pub field_depth : Field → ℕ
field_depth = fold-Field ℕ ℕ type_step (λ f. f.of)

abbrev pub type_start : TypePhrase-F TypePhrase Field → ℕ
type_start (ty.Int at) = at
type_start (ty.Bool at) = at
type_start (ty.Text at) = at
type_start (ty.Task at) = at
type_start (ty.Dataspace at) = at
type_start (ty.Named name) = name.at
type_start (ty.Row at size of) = at
type_start (ty.Struct at fields) = at

-- the place where a type begins
abbrev pub type_place : TypePhrase → ℕ
type_place t = type_start (out-TypePhrase t)

abbrev pub formal_depth : Formal → ℕ
formal_depth f = type_depth f.of

abbrev pub let_item_depth : LetItem → ℕ
let_item_depth (let_item.Constant name c) = 0
let_item_depth (let_item.Abbreviation name t) = type_depth t

-- ---- expressions and units: each application, call, bracket, selection and statement form adds one

abbrev pub expr_step : Expr-F ℕ ℕ ℕ ℕ ℕ ℕ ℕ → ℕ
expr_step (e.Call name actuals) = deepest actuals + 1
expr_step (e.Concr at a) = a + 1
expr_step (e.Bracket at a) = a + 1
expr_step (e.If at branches otherwise) = max (deepest branches) (if_any deepest otherwise) + 1
expr_step (e.Select at of cases otherwise) = max of (max (deepest cases) (if_any deepest otherwise)) + 1
expr_step (e.Index at of index) = max of index + 1
expr_step (e.Field at of field) = of + 1
expr_step (e.Monadic at operator operand) = operand + 1
expr_step (e.Dyadic at operator left right) = max left right + 1
expr_step (e.Cand at left right) = max left right + 1
expr_step (e.Cor at left right) = max left right + 1
expr_step _ = 0

abbrev pub branch_step : Branch-F ℕ ℕ ℕ ℕ ℕ ℕ ℕ → ℕ
branch_step b = max b.condition (deepest b.units)

abbrev pub case_step : Case-F ℕ ℕ ℕ ℕ ℕ ℕ ℕ → ℕ
case_step c = deepest c.units

abbrev pub item_step : Item-F ℕ ℕ ℕ ℕ ℕ ℕ ℕ → ℕ
item_step i = if_any (λ n. n) i.init

abbrev pub counter_step : Counter-F ℕ ℕ ℕ ℕ ℕ ℕ ℕ → ℕ
counter_step c = max (if_any (λ n. n) c.from) c.limit

abbrev pub limit_step : Limit-F ℕ ℕ ℕ ℕ ℕ ℕ ℕ → ℕ
limit_step e.Without = 0
limit_step (e.Upto a) = a
limit_step (e.Downto a) = a

abbrev pub unit_step : Unit-F ℕ ℕ ℕ ℕ ℕ ℕ ℕ → ℕ
unit_step e.Empty = 0
unit_step (e.Let at items) = deepest_of let_item_depth items
unit_step (e.Variables at of items) = max (type_depth of) (deepest items)
unit_step (e.Constants at of items) = max (type_depth of) (deepest items)
unit_step (e.Bound at of items) = max (type_depth of) (deepest items)
unit_step (e.Value a) = a
unit_step (e.Becomes at left right) = max left right + 1
unit_step (e.Loop at counter condition units until) =
    max (if_any (λ n. n) counter) (max (if_any (λ n. n) condition) (max (deepest units) (if_any (λ n. n) until))) + 1
unit_step (e.Leave at name value) = if_any (λ n. n) value + 1

abbrev pub expr_depth : Expr → ℕ
expr_depth = fold-Expr ℕ ℕ ℕ ℕ ℕ ℕ ℕ expr_step limit_step unit_step branch_step case_step counter_step item_step

abbrev pub branch_depth : Branch → ℕ
branch_depth = fold-Branch ℕ ℕ ℕ ℕ ℕ ℕ ℕ expr_step limit_step unit_step branch_step case_step counter_step item_step

abbrev pub case_depth : Case → ℕ
case_depth = fold-Case ℕ ℕ ℕ ℕ ℕ ℕ ℕ expr_step limit_step unit_step branch_step case_step counter_step item_step

abbrev pub item_depth : Item → ℕ
item_depth = fold-Item ℕ ℕ ℕ ℕ ℕ ℕ ℕ expr_step limit_step unit_step branch_step case_step counter_step item_step

abbrev pub counter_depth : Counter → ℕ
counter_depth = fold-Counter ℕ ℕ ℕ ℕ ℕ ℕ ℕ expr_step limit_step unit_step branch_step case_step counter_step item_step

abbrev pub limit_depth : Limit → ℕ
limit_depth = fold-Limit ℕ ℕ ℕ ℕ ℕ ℕ ℕ expr_step limit_step unit_step branch_step case_step counter_step item_step

abbrev pub unit_depth : Phrase → ℕ
unit_depth = fold-Unit ℕ ℕ ℕ ℕ ℕ ℕ ℕ expr_step limit_step unit_step branch_step case_step counter_step item_step

abbrev pub expr_start : Expr-F Expr Limit Phrase Branch Case Counter Item → ℕ
expr_start (e.Number at n) = at
expr_start (e.Text at b) = at
expr_start (e.Truth at t) = at
expr_start (e.Named name) = name.at
expr_start (e.Call name actuals) = name.at
expr_start (e.Procedure at name) = at
expr_start (e.Concr at a) = at
expr_start (e.Bracket at a) = at
expr_start (e.If at branches otherwise) = at
expr_start (e.Select at of cases otherwise) = at
expr_start (e.Index at of index) = at
expr_start (e.Field at of field) = at
expr_start (e.Monadic at operator operand) = at
expr_start (e.Dyadic at operator left right) = at
expr_start (e.Cand at left right) = at
expr_start (e.Cor at left right) = at

-- the place where an expression begins
abbrev pub expr_place : Expr → ℕ
expr_place a = expr_start (out-Expr a)

-- ---- texts: each body of a PROC, OP or refinement adds one

abbrev pub refinement_depth : Refinement → ℕ
refinement_depth r = deepest_of unit_depth r.units + 1

abbrev pub body_depth : Body → ℕ
body_depth b = max (deepest_of unit_depth b.units) (deepest_of refinement_depth b.refinements)

abbrev pub level_unit_depth : LevelUnit → ℕ
level_unit_depth (lu.Plain v) = unit_depth v
level_unit_depth (lu.NewType at name of) = type_depth of
level_unit_depth (lu.Proc at result name formals body) = max (if_any type_depth result) (max (deepest_of formal_depth formals) (body_depth body) + 1)
level_unit_depth (lu.Op at result name formals body) = max (if_any type_depth result) (max (deepest_of formal_depth formals) (body_depth body) + 1)

abbrev pub level_depth : Level → ℕ
level_depth l = max (deepest_of level_unit_depth l.units) (deepest_of refinement_depth l.refinements)

abbrev pub tree_depth : Tree → ℕ
tree_depth (tree.Program level) = level_depth level
tree_depth (tree.Packet at name exports level) = level_depth level
