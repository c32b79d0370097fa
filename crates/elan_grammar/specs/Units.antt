-- Units: what stands in every list of units.
use Rattle.std.specs.Prelude.{ℕ, zero, suc, List, Option, Some, None}
use Rattle.std.specs.Option.{unwrap_or}
use Rattle.elan_tree.specs.declared.token.Key.{Key}
use Rattle.elan_tree.specs.declared.token.Key.TheVariants as key
use Rattle.elan_tree.specs.declared.token.Sign.TheVariants as sign
use Rattle.elan_tree.specs.declared.written_type.Name.{Name}
use Rattle.elan_tree.specs.declared.written_type.TypePhrase.{TypePhrase}
use Rattle.elan_tree.specs.declared.phrase.Expr.{Expr}
use Rattle.elan_tree.specs.declared.phrase.Item.{Item}
use Rattle.elan_tree.specs.declared.phrase.Counter.{Counter}
use Rattle.elan_tree.specs.declared.phrase.Limit.{Limit}
use Rattle.elan_tree.specs.declared.phrase.Limit.TheVariants as limit
use Rattle.elan_tree.specs.declared.phrase.Unit.{Unit as Phrase}
use Rattle.elan_tree.specs.declared.phrase.Unit.TheVariants as u
use Rattle.elan_grammar.specs.declared.heading.LoopParts.{LoopParts}
use Rattle.elan_grammar.specs.Kinds.{begins_typed, word_level}
use Rattle.elan_grammar.specs.Rule.{Rule, pure, fail, ◌>>=◌, ◌>>◌, below, choose, optional, listed, seen}
use Rattle.elan_grammar.specs.Terminals.{word, keyword, mark, ident, init_mark, rep, leaving_of}
use Rattle.elan_grammar.specs.Types.{types, let_items}
use Rattle.elan_grammar.specs.Expressions.{Language, level}
use Rattle.elan_grammar.specs.Depth.{expr_depth, expr_place, type_place}

abbrev pub counter_of : Name → Option Expr → Limit → Counter
counter_of x f l = record { name = x; from = f; limit = l }

-- PER | END REP | END REPEAT
unfoldable pub loop_end : Rule ℕ
loop_end = choose (do keyword key.End; rep) (keyword key.Per)

-- The units at most n deep. What stands in their forms is less than n deep.
module _ (inner : Language) (n : ℕ) where
  -- e1 in a form
  abbrev inner_e1 : Rule Expr
  inner_e1 = inner.level word_level

  -- e1 as a unit, or as an initial value
  abbrev e1 : Rule Expr
  e1 = level inner n word_level

  -- key e1
  abbrev pub behind : Key → Rule Expr
  behind x = do
    keyword x
    inner_e1

  -- [ key e1 ]
  unfoldable pub key_part : Key → Rule (Option Expr)
  key_part x = optional (behind x)

  -- LET let_item { "," let_item }
  unfoldable pub a_let : Rule Phrase
  a_let = do
    at ← keyword key.Let
    xs ← let_items n
    pure (u.Let at xs)

  -- ( "::" | ":=" ) e1
  unfoldable pub init : Rule Expr
  init = do
    init_mark
    e1

  -- ident [ init ]
  unfoldable pub item : Rule Item
  item = do
    x ← ident
    i ← optional init
    pure (record { name = x; init = i })

  -- item { "," item }
  unfoldable pub items : Rule (List Item)
  items = listed (mark sign.Comma) item

  -- ident init
  unfoldable pub constant_item : Rule Item
  constant_item = do
    x ← ident
    i ← init
    pure (record { name = x; init = Some i })

  -- constant_item { "," constant_item }
  unfoldable pub constant_items : Rule (List Item)
  constant_items = listed (mark sign.Comma) constant_item

  -- VAR items
  unfoldable pub variables : TypePhrase → Rule Phrase
  variables t = do
    keyword key.Var
    xs ← items
    pure (u.Variables (type_place t) t xs)

  -- CONST constant_items
  unfoldable pub constants : TypePhrase → Rule Phrase
  constants t = do
    keyword key.Const
    xs ← constant_items
    pure (u.Constants (type_place t) t xs)

  -- VAR items | CONST constant_items
  unfoldable pub declared : TypePhrase → Rule Phrase
  declared t = choose (variables t) (constants t)

  -- type VAR items | type CONST constant_items
  unfoldable pub declaration : Rule Phrase
  declaration = do
    t ← types n
    declared t

  -- BOUND type VAR items
  unfoldable pub bound : Rule Phrase
  bound = below 0 n (do
    at ← keyword key.Bound
    t ← types n
    keyword key.Var
    xs ← items
    pure (u.Bound at t xs))

  -- ":=" e1
  unfoldable pub assigned : Expr → Rule Phrase
  assigned a = below (expr_depth a) n (do
    mark sign.Becomes
    b ← inner_e1
    pure (u.Becomes (expr_place a) a b))

  -- e1 [ ":=" e1 ]
  unfoldable pub statement : Rule Phrase
  statement = do
    a ← e1
    choose (assigned a) (pure (u.Value a))

  -- LEAVE ( ident | BOLD ) [ WITH e1 ]
  unfoldable pub leave : Rule Phrase
  leave = below 0 n (do
    at ← keyword key.Leave
    x ← word leaving_of
    a ← key_part key.With
    pure (u.Leave at x a))

  -- UPTO e1
  unfoldable pub upto : Rule Limit
  upto = do
    a ← behind key.Upto
    pure (limit.Upto a)

  -- DOWNTO e1
  unfoldable pub downto : Rule Limit
  downto = do
    a ← behind key.Downto
    pure (limit.Downto a)

  -- [ ( UPTO | DOWNTO ) e1 ]
  unfoldable pub a_limit : Rule Limit
  a_limit = choose upto (choose downto (pure limit.Without))

  -- ident [ FROM e1 ] [ ( UPTO | DOWNTO ) e1 ]
  unfoldable pub counter : Rule (Option Counter)
  counter = do
    x ← ident
    f ← key_part key.From
    l ← a_limit
    pure (Some (counter_of x f l))

  -- ( REP | REPEAT ) units [ UNTIL e1 ] ( PER | END REP | END REPEAT )
  unfoldable pub turn_parts : Rule LoopParts
  turn_parts = do
    r ← rep
    us ← inner.units
    a ← key_part key.Until
    loop_end
    pure (record { start = r; units = us; until = a })

  -- the same behind what stands before it
  unfoldable pub turns : Option ℕ → Option Counter → Option Expr → Rule Phrase
  turns at c w = do
    p ← turn_parts
    pure (u.Loop (unwrap_or at p.start) c w p.units p.until)

  -- FOR counter [ WHILE e1 ] turns
  unfoldable pub counted : Rule Phrase
  counted = below 0 n (do
    at ← keyword key.For
    c ← counter
    w ← key_part key.While
    turns (Some at) c w)

  -- WHILE e1 turns
  unfoldable pub guarded : Rule Phrase
  guarded = below 0 n (do
    at ← keyword key.While
    w ← inner_e1
    turns (Some at) None (Some w))

  -- turns, with nothing before them
  unfoldable pub repeated : Rule Phrase
  repeated = below 0 n (do
    turns None None None)

  -- [ let | BOUND type VAR items | LEAVE .. | loop | e1 [ ":=" e1 ] ]
  unfoldable pub plain : Rule Phrase
  plain =
      choose a_let (choose bound (choose leave (
      choose counted (choose guarded (choose repeated (
      choose statement (pure u.Empty)))))))

  -- [ let | decl | stat ]
  unfoldable pub unit : Rule Phrase
  unit = choose (seen begins_typed declaration) plain

  -- unit { ";" unit }
  unfoldable pub units : Rule (List Phrase)
  units = listed (mark sign.Semicolon) unit

-- the phrases less than n deep
unfoldable pub phrases : ℕ → Language
phrases zero = record { level = λ i. fail; units = fail }
phrases (suc n) = record { level = λ i. level (phrases n) n i; units = units (phrases n) n }
