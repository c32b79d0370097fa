-- The kinds of tokens: what the parser looks at.
use Rattle.std.specs.Prelude.{ℕ, nat_lt, Bool, true, false, ◌||◌, if◌then◌else◌, List, [], ◌∷◌, bytes_eq}
use denote.Enum.Bare.{sameb}
use Rattle.elan_tree.specs.contracts.token.Key as of_key
use Rattle.elan_tree.specs.contracts.token.Sign as of_sign
use Rattle.elan_tree.specs.declared.token.Token.{Token}
use Rattle.elan_tree.specs.declared.token.Word.{Word}
use Rattle.elan_tree.specs.declared.token.Word.TheVariants as w
use Rattle.elan_tree.specs.declared.token.Key.{Key}
use Rattle.elan_tree.specs.declared.token.Key.TheVariants as key
use Rattle.elan_tree.specs.declared.token.Sign.{Sign}
use Rattle.elan_tree.specs.declared.token.Sign.TheVariants as sign
use Rattle.elan_grammar.specs.declared.kind.Tier.{Tier}
use Rattle.elan_grammar.specs.declared.kind.Tier.TheVariants as tier
use Rattle.elan_grammar.specs.declared.kind.Kind.{Kind}
use Rattle.elan_grammar.specs.declared.kind.Kind.TheVariants as k

abbrev pub same_key : Key → Key → Bool
same_key = sameb of_key.the_type

abbrev pub same_sign : Sign → Sign → Bool
same_sign = sameb of_sign.the_type

abbrev pub is_key : Key → Kind → Bool
is_key a (k.Key b) = same_key a b
is_key a _ = false

abbrev pub is_sign : Sign → Kind → Bool
is_sign a (k.Sign b) = same_sign a b
is_sign a _ = false

-- ---- the words of operators

abbrev pub word_and : List ℕ
word_and = 65 ∷ 78 ∷ 68 ∷ []

abbrev pub word_or : List ℕ
word_or = 79 ∷ 82 ∷ []

abbrev pub word_div : List ℕ
word_div = 68 ∷ 73 ∷ 86 ∷ []

abbrev pub word_mod : List ℕ
word_mod = 77 ∷ 79 ∷ 68 ∷ []

-- where a bold word stands as an operator
abbrev pub tier_of : List ℕ → Tier
tier_of b =
    if bytes_eq b word_and then tier.And
    else (if bytes_eq b word_or then tier.Or else (if bytes_eq b word_div || bytes_eq b word_mod then tier.Times else tier.Other))

abbrev pub kind_of : Word → Kind
kind_of (w.Ident b) = k.Ident
kind_of (w.Bold b) = k.Bold (tier_of b)
kind_of (w.Key x) = k.Key x
kind_of (w.Sign x) = k.Sign x
kind_of (w.Number n) = k.Number
kind_of (w.Text b) = k.Text

abbrev pub kind : List Token → Kind
kind [] = k.Nothing
kind (t ∷ ts) = kind_of t.what

abbrev pub second : List Token → Kind
second [] = k.Nothing
second (t ∷ ts) = kind ts

-- what a point is, by the two tokens after it
abbrev pub point_by : Kind → Kind → Kind
point_by k.Ident (k.Sign sign.Colon) = k.Refines
point_by k.Ident _ = k.Selects
point_by _ _ = k.Sign sign.Point

-- what a comma is, by the token after it
abbrev pub comma_by : Kind → Kind
comma_by k.Ident = k.GoesOn
comma_by _ = k.Sign sign.Comma

-- what a bold word is, by the token after it
abbrev pub bold_by : Tier → Kind → Kind
bold_by t (k.Key key.Var) = k.TypeName t
bold_by t (k.Key key.Const) = k.TypeName t
bold_by t (k.Key key.Proc) = k.TypeName t
bold_by t (k.Key key.Op) = k.TypeName t
bold_by t _ = k.Bold t

abbrev pub by_next : Kind → List Token → Kind
by_next (k.Sign sign.Point) ts = point_by (kind ts) (second ts)
by_next (k.Sign sign.Comma) ts = comma_by (kind ts)
by_next (k.Bold t) ts = bold_by t (kind ts)
by_next other ts = other

-- what the parser sees
unfoldable pub ahead : List Token → Kind
ahead [] = k.Nothing
ahead (t ∷ ts) = by_next (kind_of t.what) ts

-- ---- The levels of operators: those of a lower level hold more tightly.

-- no operator between two operands
abbrev pub operand_level : ℕ
operand_level = 0

abbrev pub times_level : ℕ
times_level = 1

abbrev pub plus_level : ℕ
plus_level = 2

abbrev pub compare_level : ℕ
compare_level = 3

abbrev pub and_level : ℕ
and_level = 4

abbrev pub or_level : ℕ
or_level = 5

-- bold words; so each expression is of this level
abbrev pub word_level : ℕ
word_level = 6

abbrev pub tier_level : Tier → ℕ
tier_level tier.Times = times_level
tier_level tier.And = and_level
tier_level tier.Or = or_level
tier_level tier.Other = word_level

-- The level of an operator; 0 for what is none.
abbrev pub loose : Kind → ℕ
loose (k.Bold t) = tier_level t
loose (k.TypeName t) = tier_level t
loose (k.Sign sign.Times) = times_level
loose (k.Sign sign.Plus) = plus_level
loose (k.Sign sign.Minus) = plus_level
loose (k.Sign sign.Equal) = compare_level
loose (k.Sign sign.Unequal) = compare_level
loose (k.Sign sign.Less) = compare_level
loose (k.Sign sign.LessEqual) = compare_level
loose (k.Sign sign.Greater) = compare_level
loose (k.Sign sign.GreaterEqual) = compare_level
loose (k.Key key.Cand) = and_level
loose (k.Key key.Cor) = or_level
loose _ = 0

-- ---- sets of kinds

-- a comma with an identifier behind it
abbrev pub goes_on : Kind → Bool
goes_on k.GoesOn = true
goes_on _ = false

-- the same, and no colon behind that
abbrev pub selects : Kind → Bool
selects k.Selects = true
selects _ = false

-- a point with an identifier behind it
abbrev pub leads : Kind → Bool
leads k.Selects = true
leads k.Refines = true
leads _ = false

abbrev pub is_init : Kind → Bool
is_init (k.Sign x) = same_sign sign.DoubleColon x || same_sign sign.Becomes x
is_init _ = false

abbrev pub is_rep : Kind → Bool
is_rep (k.Key x) = same_key key.Rep x || same_key key.Repeat x
is_rep _ = false

-- a name of an operator that may be defined
abbrev pub is_symbol : Sign → Bool
is_symbol sign.Becomes = true
is_symbol x = nat_lt 0 (loose (k.Sign x))

abbrev pub is_among : List Key → Key → Bool
is_among [] x = false
is_among (y ∷ ys) x = same_key y x || is_among ys x

-- a unit that begins with it begins with a type
abbrev pub begins_typed : Kind → Bool
begins_typed (k.TypeName t) = true
begins_typed (k.Key x) = is_among (key.Int ∷ key.Bool ∷ key.Text ∷ key.Task ∷ key.Dataspace ∷ key.Row ∷ key.Struct ∷ []) x
begins_typed _ = false
