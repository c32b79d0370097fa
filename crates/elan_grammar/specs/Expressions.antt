-- Expressions.
use Rattle.std.specs.Prelude.{ℕ, zero, suc, List, Option}
use Rattle.elan_tree.specs.declared.token.Key.TheVariants as key
use Rattle.elan_tree.specs.declared.token.Sign.TheVariants as sign
use Rattle.elan_tree.specs.declared.written_type.Name.{Name}
use Rattle.elan_tree.specs.declared.phrase.Expr.{Expr}
use Rattle.elan_tree.specs.declared.phrase.Expr.TheVariants as e
use Rattle.elan_tree.specs.declared.phrase.Branch.{Branch}
use Rattle.elan_tree.specs.declared.phrase.Case.{Case}
use Rattle.elan_tree.specs.declared.phrase.Unit.{Unit as Phrase}
use Rattle.elan_grammar.specs.declared.heading.SelectParts.{SelectParts}
use Rattle.elan_grammar.specs.declared.joint.Joint.{Joint}
use Rattle.elan_grammar.specs.declared.joint.Joint.TheVariants as joint
use Rattle.elan_grammar.specs.declared.joint.Right.{Right}
use Rattle.elan_grammar.specs.Kinds.{word_level, operand_level, selects}
use Rattle.elan_grammar.specs.Rule.{Rule, pure, ◌>>=◌, ◌>>◌, below, choose, iterate, optional, listed, seen, in_row}
use Rattle.elan_grammar.specs.Terminals.{word, keyword, end_of, mark, ident, literal_of, monadic_of, joint_of}
use Rattle.elan_grammar.specs.Types.{labels}
use Rattle.elan_grammar.specs.Depth.{expr_depth, expr_place}

-- Phrases of some depth: expressions whose operators hold as tightly as a level or more tightly (6 for all, 0 for none that stands between
-- two operands), and lists of units.
pub record Language : Type 1 where
  pub level : ℕ → Rule Expr
  pub units : Rule (List Phrase)

abbrev pub joined_by : Joint → Expr → Expr → Expr
joined_by joint.Cand a b = e.Cand (expr_place a) a b
joined_by joint.Cor a b = e.Cor (expr_place a) a b
joined_by (joint.Operator o) a b = e.Dyadic (expr_place a) o a b

abbrev pub joined : Expr → Right → Expr
joined a r = joined_by r.joint a r.operand

-- FI | END IF
unfoldable pub choice_end : Rule ℕ
choice_end = choose (end_of key.If) (keyword key.Fi)

-- The expressions at most n deep. What stands in them is less than n deep.
module _ (inner : Language) (n : ℕ) where
  abbrev e1 : Rule Expr
  e1 = inner.level word_level

  -- "(" e1 ")"
  unfoldable pub bracket : Rule Expr
  bracket = below 0 n (do
    at ← mark sign.LeftRound
    a ← e1
    mark sign.RightRound
    pure (e.Bracket at a))

  -- CONCR "(" e1 ")"
  unfoldable pub concr : Rule Expr
  concr = below 0 n (do
    at ← keyword key.Concr
    mark sign.LeftRound
    a ← e1
    mark sign.RightRound
    pure (e.Concr at a))

  -- PROC ident
  unfoldable pub procedure : Rule Expr
  procedure = do
    at ← keyword key.Proc
    x ← ident
    pure (e.Procedure at x)

  -- e1 | PROC ident
  unfoldable pub actual : Rule Expr
  actual = choose procedure e1

  -- actual { "," actual }
  unfoldable pub actuals : Rule (List Expr)
  actuals = listed (mark sign.Comma) actual

  -- "(" actuals ")"
  unfoldable pub call : Name → Rule Expr
  call x = below 0 n (do
    mark sign.LeftRound
    xs ← actuals
    mark sign.RightRound
    pure (e.Call x xs))

  -- ident [ "(" actuals ")" ]
  unfoldable pub named : Rule Expr
  named = do
    x ← ident
    choose (call x) (pure (e.Named x))

  -- e1 THEN units
  unfoldable pub branch : Rule Branch
  branch = do
    c ← e1
    keyword key.Then
    us ← inner.units
    pure (record { condition = c; units = us })

  -- branch { ELIF branch }
  unfoldable pub branches : Rule (List Branch)
  branches = listed (keyword key.Elif) branch

  -- [ ELSE units ]
  unfoldable pub else_part : Rule (Option (List Phrase))
  else_part = optional (do keyword key.Else; inner.units)

  -- IF branches [ ELSE units ] ( FI | END IF )
  unfoldable pub choice : Rule Expr
  choice = below 0 n (do
    at ← keyword key.If
    bs ← branches
    o ← else_part
    choice_end
    pure (e.If at bs o))

  -- CASE label { "," label } ":" units
  unfoldable pub a_case : Rule Case
  a_case = do
    keyword key.Case
    ls ← labels
    mark sign.Colon
    us ← inner.units
    pure (record { labels = ls; units = us })

  -- case { case }
  unfoldable pub cases : Rule (List Case)
  cases = in_row a_case

  -- [ OTHERWISE [ ":" ] units ]
  unfoldable pub otherwise_part : Rule (Option (List Phrase))
  otherwise_part = optional (do
    keyword key.Otherwise
    optional (mark sign.Colon)
    inner.units)

  -- cases [ OTHERWISE [ ":" ] units ] END SELECT
  unfoldable pub select_parts : Rule SelectParts
  select_parts = do
    cs ← cases
    o ← otherwise_part
    end_of key.Select
    pure (record { cases = cs; otherwise = o })

  -- SELECT e1 OF cases [ OTHERWISE [ ":" ] units ] END SELECT
  unfoldable pub selection : Rule Expr
  selection = below 0 n (do
    at ← keyword key.Select
    a ← e1
    keyword key.Of
    p ← select_parts
    pure (e.Select at a p.cases p.otherwise))

  -- number | textdenoter | TRUE | FALSE | "(" e1 ")" | CONCR "(" e1 ")" | if | select | ident [ "(" actuals ")" ]
  unfoldable pub head : Rule Expr
  head =
      choose (word literal_of)
      (choose bracket
      (choose concr (choose choice (choose selection named))))

  -- "[" e1 "]", behind an expression of this depth
  unfoldable pub index_part : ℕ → Rule Expr
  index_part depth = below depth n (do
    mark sign.LeftSquare
    b ← e1
    mark sign.RightSquare
    pure b)

  unfoldable pub index : Expr → Rule Expr
  index a = do
    b ← index_part (expr_depth a)
    pure (e.Index (expr_place a) a b)

  -- "." ident, behind an expression of this depth
  unfoldable pub field_part : ℕ → Rule Name
  field_part depth = below depth n (seen selects (do
    mark sign.Point
    ident))

  unfoldable pub field_of : Expr → Rule Expr
  field_of a = do
    x ← field_part (expr_depth a)
    pure (e.Field (expr_place a) a x)

  unfoldable pub longer : Expr → Rule Expr
  longer a = choose (index a) (field_of a)

  -- head { "[" e1 "]" | "." ident }
  unfoldable pub prim : Rule Expr
  prim = do
    a ← head
    iterate longer a

  -- ( "+" | "-" | BOLD ) m
  unfoldable pub applied : Rule Expr
  applied = below 0 n (do
    o ← word monadic_of
    a ← inner.level operand_level
    pure (e.Monadic o.0 o.1 a))

  -- m: ( "+" | "-" | BOLD ) m | prim
  unfoldable pub operand : Rule Expr
  operand = choose applied prim

  -- an operator of level i + 1 and its right operand, behind an expression of this depth
  unfoldable pub right_part : ℕ → ℕ → Rule Right
  right_part i depth = below depth n (do
    o ← word (joint_of (suc i))
    b ← inner.level i
    pure (record { joint = o; operand = b }))

  unfoldable pub dyadic : ℕ → Expr → Rule Expr
  dyadic i a = do
    r ← right_part i (expr_depth a)
    pure (joined a r)

  -- m, e6, e5, e4, e3, e2 and e1 are the levels 0 to 6: e6 is m { ( "*" | DIV | MOD ) m }, and so on
  unfoldable pub level : ℕ → Rule Expr
  level zero = operand
  level (suc i) = do
    a ← level i
    iterate (dyadic i) a
