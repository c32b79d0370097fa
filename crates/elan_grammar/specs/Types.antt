-- What holds no expression: types, parameters, constants, labels, LET.
use Rattle.std.specs.Prelude.{ℕ, zero, suc, List}
use Rattle.elan_tree.specs.declared.token.Key.TheVariants as key
use Rattle.elan_tree.specs.declared.token.Sign.TheVariants as sign
use Rattle.elan_tree.specs.declared.written_type.Name.{Name}
use Rattle.elan_tree.specs.declared.written_type.TypePhrase.{TypePhrase}
use Rattle.elan_tree.specs.declared.written_type.TypePhrase.TheVariants as ty
use Rattle.elan_tree.specs.declared.written_type.Field.{Field}
use Rattle.elan_tree.specs.declared.written_type.Formal.{Formal}
use Rattle.elan_tree.specs.declared.written_type.Constant.{Constant}
use Rattle.elan_tree.specs.declared.written_type.Constant.TheVariants as constant_form
use Rattle.elan_tree.specs.declared.written_type.LetItem.{LetItem}
use Rattle.elan_tree.specs.declared.written_type.LetItem.TheVariants as let_form
use Rattle.elan_tree.specs.declared.written_type.Label.{Label}
use Rattle.elan_tree.specs.declared.written_type.Label.TheVariants as label_form
use Rattle.elan_grammar.specs.Kinds.{goes_on}
use Rattle.elan_grammar.specs.Rule.{Rule, pure, fail, ◌>>=◌, ◌>>◌, below, choose, listed, seen}
use Rattle.elan_grammar.specs.Terminals.{word, keyword, mark, ident, bold, simple_of, size_of, access_of, constant_of, negated_of, label_of}

-- ident { "," ident }
unfoldable pub names : Rule (List Name)
names = listed (seen goes_on (mark sign.Comma)) ident

-- The types of the language stand in others.
module _ (inner : Rule TypePhrase) where
  -- BOLD
  unfoldable pub named_type : Rule TypePhrase
  named_type = do
    x ← bold
    pure (ty.Named x)

  -- type ident { "," ident }
  unfoldable pub field : Rule Field
  field = do
    t ← inner
    xs ← names
    pure (record { of = t; names = xs })

  -- field { "," field }
  unfoldable pub fields : Rule (List Field)
  fields = listed (mark sign.Comma) field

-- those that hold others, which are at most n deep
module _ (inner : Rule TypePhrase) (n : ℕ) where
  -- ROW size type
  unfoldable pub row : Rule TypePhrase
  row = below 0 n (do
    at ← keyword key.Row
    s ← word size_of
    t ← inner
    pure (ty.Row at s t))

  -- STRUCT "(" fields ")"
  unfoldable pub structure : Rule TypePhrase
  structure = below 0 n (do
    at ← keyword key.Struct
    mark sign.LeftRound
    fs ← fields inner
    mark sign.RightRound
    pure (ty.Struct at fs))

  -- INT | BOOL | TEXT | TASK | DATASPACE | BOLD | ROW size type | STRUCT "(" fields ")"
  unfoldable pub a_type : Rule TypePhrase
  a_type = choose (named_type inner) (choose row (choose structure (word simple_of)))

-- the types at most n deep
unfoldable pub types : ℕ → Rule TypePhrase
types zero = fail
types (suc n) = a_type (types n) n

-- type ( CONST | VAR ) ident { "," ident }
unfoldable pub formal : ℕ → Rule Formal
formal n = do
  t ← types n
  a ← word access_of
  xs ← names
  pure (record { of = t; access = a; names = xs })

-- formal { "," formal }
unfoldable pub formals : ℕ → Rule (List Formal)
formals n = listed (mark sign.Comma) (formal n)

-- "-" number
unfoldable pub negative : Rule Constant
negative = do
  at ← mark sign.Minus
  n ← word negated_of
  pure (constant_form.Number at n)

-- [ "-" ] number | textdenoter | TRUE | FALSE
unfoldable pub constant : Rule Constant
constant = choose negative (word constant_of)

-- ident "=" constant
unfoldable pub let_constant : Rule LetItem
let_constant = do
  x ← ident
  mark sign.Equal
  c ← constant
  pure (let_form.Constant x c)

-- BOLD "=" type
unfoldable pub abbreviation : ℕ → Rule LetItem
abbreviation n = below 0 n (do
  x ← bold
  mark sign.Equal
  t ← types n
  pure (let_form.Abbreviation x t))

unfoldable pub let_item : ℕ → Rule LetItem
let_item n = choose let_constant (abbreviation n)

-- let_item { "," let_item }
unfoldable pub let_items : ℕ → Rule (List LetItem)
let_items n = listed (mark sign.Comma) (let_item n)

-- "-" number
unfoldable pub negative_label : Rule Label
negative_label = do
  at ← mark sign.Minus
  n ← word negated_of
  pure (label_form.Number at n)

-- [ "-" ] number | ident
unfoldable pub label : Rule Label
label = choose negative_label (word label_of)

-- label { "," label }
unfoldable pub labels : Rule (List Label)
labels = listed (mark sign.Comma) label
