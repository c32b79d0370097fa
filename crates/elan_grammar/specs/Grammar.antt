-- Whole texts: levels, PROCs, OPs, refinements, packets.
use Rattle.std.specs.Prelude.{ℕ, Bool, true, false, List, [], ◌∷◌, ◌++◌, Option, Some, None}
use Rattle.elan_tree.specs.declared.token.Key.TheVariants as key
use Rattle.elan_tree.specs.declared.token.Sign.TheVariants as sign
use Rattle.elan_tree.specs.declared.written_type.Name.{Name}
use Rattle.elan_tree.specs.declared.written_type.TypePhrase.{TypePhrase}
use Rattle.elan_tree.specs.declared.written_type.Access.{Access}
use Rattle.elan_tree.specs.declared.written_type.Formal.{Formal}
use Rattle.elan_tree.specs.declared.phrase.Operator.{Operator}
use Rattle.elan_tree.specs.declared.phrase.Operator.TheVariants as op
use Rattle.elan_tree.specs.declared.tree.Refinement.{Refinement}
use Rattle.elan_tree.specs.declared.tree.Body.{Body}
use Rattle.elan_tree.specs.declared.tree.OperatorName.{OperatorName}
use Rattle.elan_tree.specs.declared.tree.LevelUnit.{LevelUnit}
use Rattle.elan_tree.specs.declared.tree.LevelUnit.TheVariants as lu
use Rattle.elan_tree.specs.declared.tree.Level.{Level}
use Rattle.elan_tree.specs.declared.tree.Export.{Export}
use Rattle.elan_tree.specs.declared.tree.Tree.{Tree}
use Rattle.elan_tree.specs.declared.tree.Tree.TheVariants as tree
use Rattle.elan_grammar.specs.declared.heading.ProcParts.{ProcParts}
use Rattle.elan_grammar.specs.declared.heading.OperatorParts.{OperatorParts}
use Rattle.elan_grammar.specs.Kinds.{goes_on, leads, begins_typed}
use Rattle.elan_grammar.specs.Rule.{Rule, pure, ◌>>=◌, ◌>>◌, only, choose, optional, listed, seen}
use Rattle.elan_grammar.specs.Terminals.{word, keyword, end_of, mark, ident, bold, same_of, access_of, operator_of, same_operator_of, export_of}
use Rattle.elan_grammar.specs.Types.{types, formals}
use Rattle.elan_grammar.specs.Units.{declared, plain, phrases}
use Rattle.elan_grammar.specs.Depth.{type_place}

-- The refinements at most n deep. Each adds one to the depth of its units.
-- ident ":" units
unfoldable pub refinement : ℕ → Rule Refinement
refinement n = do
  x ← ident
  mark sign.Colon
  us ← (phrases n).units
  pure (record { name = x; units = us })

-- [ "." ]
unfoldable pub last_point : Rule (Option ℕ)
last_point = optional (mark sign.Point)

-- refinement { "." refinement }
unfoldable pub refinement_list : ℕ → Rule (List Refinement)
refinement_list n = listed (seen leads (mark sign.Point)) (refinement n)

-- refinement { "." refinement } [ "." ]
unfoldable pub refinements : ℕ → Rule (List Refinement)
refinements n = do
  rs ← refinement_list n
  last_point
  pure rs

-- "." [ refinement { "." refinement } [ "." ] ]
unfoldable pub point_tail : ℕ → Rule (List Refinement)
point_tail n = do
  mark sign.Point
  choose (refinements n) (pure [])

-- [ "." [ refinement { "." refinement } [ "." ] ] ]
unfoldable pub tail : ℕ → Rule (List Refinement)
tail n = choose (point_tail n) (pure [])

-- [ ident ], which is this one
unfoldable pub end_name : Name → Rule (Option (Unit {0}))
end_name x = optional (word (same_of x))

-- [ opname ], which is this one
unfoldable pub end_operator : OperatorName → Rule (Option (Unit {0}))
end_operator o = optional (word (same_operator_of o))

-- the place where a PROC or OP begins
abbrev pub start : Option TypePhrase → ℕ → ℕ
start (Some t) at = type_place t
start None at = at

-- Signs other than "+" and "-" take two operands; these and bold words take one or two.
abbrev pub takes_one : Operator → Bool
takes_one (op.Named b) = true
takes_one (op.Sign sign.Plus) = true
takes_one (op.Sign sign.Minus) = true
takes_one (op.Sign _) = false

abbrev pub operand_of : TypePhrase → Access → Name → Formal
operand_of t a x = record { of = t; access = a; names = x ∷ [] }

abbrev pub with_name : Formal → Name → Formal
with_name f x = record { of = f.of; access = f.access; names = f.names ++ x ∷ [] }

-- the second operand, with the type of the first
unfoldable pub same_typed : Formal → Rule (List Formal)
same_typed f = do
  mark sign.Comma
  x ← ident
  pure (with_name f x ∷ [])

-- no second operand
unfoldable pub one_operand : Operator → Formal → Rule (List Formal)
one_operand o f = do
  only (takes_one o)
  pure (f ∷ [])

-- iname { "," iname }
unfoldable pub export_list : Rule (List Export)
export_list = listed (mark sign.Comma) (word export_of)

-- [ DEFINES iname { "," iname } ]
unfoldable pub exports : Rule (List Export)
exports = choose (do keyword key.Defines; export_list) (pure [])

-- [ ";" | "." ]
unfoldable pub last_mark : Rule (Option ℕ)
last_mark = choose (do at ← mark sign.Semicolon; pure (Some at)) last_point

-- A text is at most so deep. The body of a PROC or OP adds one to the depth of its units, refinements and parameters, which are at
-- most `in_body` deep: one less.
module _ (most in_body : ℕ) where
  -- units tail
  unfoldable pub body : Rule Body
  body = do
    us ← (phrases most).units
    rs ← tail in_body
    pure (record { units = us; refinements = rs })

  -- "(" formals ")"
  unfoldable pub formal_list : Rule (List Formal)
  formal_list = do
    mark sign.LeftRound
    fs ← formals in_body
    mark sign.RightRound
    pure fs

  -- [ "(" formals ")" ]
  unfoldable pub optional_formals : Rule (List Formal)
  optional_formals = choose formal_list (pure [])

  -- PROC ident [ "(" formals ")" ] ":" units tail END PROC [ ident ]
  unfoldable pub proc_parts : Rule ProcParts
  proc_parts = do
    at ← keyword key.Proc
    x ← ident
    fs ← optional_formals
    mark sign.Colon
    b ← body
    end_of key.Proc
    end_name x
    pure (record { at = at; name = x; formals = fs; body = b })

  -- the same behind the type of its result
  unfoldable pub proc : Option TypePhrase → Rule LevelUnit
  proc t = do
    p ← proc_parts
    pure (lu.Proc (start t p.at) t p.name p.formals p.body)

  -- type ( CONST | VAR ) ident
  unfoldable pub operand : Rule Formal
  operand = do
    t ← types in_body
    a ← word access_of
    x ← ident
    pure (operand_of t a x)

  -- the second operand, with a type of its own
  unfoldable pub other_typed : Formal → Rule (List Formal)
  other_typed f = do
    mark sign.Comma
    g ← operand
    pure (f ∷ g ∷ [])

  -- operand [ "," ident | "," operand ]: as many as the operator takes
  unfoldable pub operands : Operator → Rule (List Formal)
  operands o = do
    f ← operand
    choose (seen goes_on (same_typed f)) (choose (other_typed f) (one_operand o f))

  -- OP opname "(" operands ")" ":" units tail END OP [ opname ]
  unfoldable pub operator_parts : Rule OperatorParts
  operator_parts = do
    at ← keyword key.Op
    o ← word operator_of
    mark sign.LeftRound
    fs ← operands o.operator
    mark sign.RightRound
    mark sign.Colon
    b ← body
    end_of key.Op
    end_operator o
    pure (record { at = at; name = o; formals = fs; body = b })

  -- the same behind the type of its result
  unfoldable pub operator : Option TypePhrase → Rule LevelUnit
  operator t = do
    p ← operator_parts
    pure (lu.Op (start t p.at) t p.name p.formals p.body)

  -- TYPE BOLD "=" type
  unfoldable pub new_type : Rule LevelUnit
  new_type = do
    at ← keyword key.TypeWord
    x ← bold
    mark sign.Equal
    t ← types most
    pure (lu.NewType at x t)

  -- VAR items | CONST constant_items
  unfoldable pub declared_unit : TypePhrase → Rule LevelUnit
  declared_unit t = do
    v ← declared (phrases most) most t
    pure (lu.Plain v)

  -- type VAR items | type CONST constant_items | type PROC .. | type OP ..
  unfoldable pub typed_unit : Rule LevelUnit
  typed_unit = do
    t ← types most
    choose (proc (Some t)) (choose (operator (Some t)) (declared_unit t))

  -- a unit that begins with no type
  unfoldable pub plain_unit : Rule LevelUnit
  plain_unit = do
    v ← plain (phrases most) most
    pure (lu.Plain v)

  -- lunit | TYPE BOLD "=" type | proc | op
  unfoldable pub level_unit : Rule LevelUnit
  level_unit =
      choose (seen begins_typed typed_unit)
      (choose new_type (choose (proc None) (choose (operator None) plain_unit)))

  -- unit { ";" unit }
  unfoldable pub level_units : Rule (List LevelUnit)
  level_units = listed (mark sign.Semicolon) level_unit

  -- units tail
  unfoldable pub a_level : Rule Level
  a_level = do
    us ← level_units
    rs ← tail most
    pure (record { units = us; refinements = rs })

  unfoldable pub program : Rule Tree
  program = do
    l ← a_level
    pure (tree.Program l)

  -- PACKET ident [ DEFINES iname { "," iname } ] ":" units tail END PACKET [ ident ] [ ";" | "." ]
  unfoldable pub packet : Rule Tree
  packet = do
    at ← keyword key.Packet
    x ← ident
    es ← exports
    mark sign.Colon
    l ← a_level
    end_of key.Packet
    end_name x
    last_mark
    pure (tree.Packet at x es l)
