-- Rules of one token.
use Rattle.std.specs.Prelude.{ℕ, ℤ, neg_ℤ, pos, int_lt, Bool, true, false, List, if◌then◌else◌, ◌&&◌, ◌==◌, Option, Some, None, bytes_eq}
use Rattle.elan_tree.specs.declared.token.Token.{Token}
use Rattle.elan_tree.specs.declared.token.Word.{Word}
use Rattle.elan_tree.specs.declared.token.Word.TheVariants as w
use Rattle.elan_tree.specs.declared.token.Key.{Key}
use Rattle.elan_tree.specs.declared.token.Key.TheVariants as key
use Rattle.elan_tree.specs.declared.token.Sign.{Sign}
use Rattle.elan_tree.specs.declared.token.Sign.TheVariants as sign
use Rattle.elan_tree.specs.declared.written_type.Name.{Name}
use Rattle.elan_tree.specs.declared.written_type.TypePhrase.{TypePhrase}
use Rattle.elan_tree.specs.declared.written_type.TypePhrase.TheVariants as ty
use Rattle.elan_tree.specs.declared.written_type.Size.{Size}
use Rattle.elan_tree.specs.declared.written_type.Size.TheVariants as size
use Rattle.elan_tree.specs.declared.written_type.Access.{Access}
use Rattle.elan_tree.specs.declared.written_type.Access.TheVariants as access
use Rattle.elan_tree.specs.declared.written_type.Constant.{Constant}
use Rattle.elan_tree.specs.declared.written_type.Constant.TheVariants as constant
use Rattle.elan_tree.specs.declared.written_type.Label.{Label}
use Rattle.elan_tree.specs.declared.written_type.Label.TheVariants as label
use Rattle.elan_tree.specs.declared.phrase.Expr.{Expr}
use Rattle.elan_tree.specs.declared.phrase.Expr.TheVariants as e
use Rattle.elan_tree.specs.declared.phrase.Operator.{Operator}
use Rattle.elan_tree.specs.declared.phrase.Operator.TheVariants as op
use Rattle.elan_tree.specs.declared.tree.OperatorName.{OperatorName}
use Rattle.elan_tree.specs.declared.tree.Export.{Export}
use Rattle.elan_tree.specs.declared.tree.Export.TheVariants as export
use Rattle.elan_grammar.specs.declared.kind.Kind.{Kind}
use Rattle.elan_grammar.specs.declared.kind.Kind.TheVariants as k
use Rattle.elan_grammar.specs.declared.joint.Joint.{Joint}
use Rattle.elan_grammar.specs.declared.joint.Joint.TheVariants as joint
use Rattle.elan_grammar.specs.Rule.{Rule, ◌>>◌, terminal}
use Rattle.elan_grammar.specs.Kinds.{kind_of, is_key, is_sign, is_init, is_symbol, is_rep, same_sign, loose, tier_of, tier_level, and_level, or_level}

-- the next token, where f finds something in its place and in what it says
abbrev pub in_word : {A : Type 0} → (ℕ → Word → Option A) → Token → Option A
in_word f t = f t.at t.what

abbrev pub word : {A : Type 0} → (ℕ → Word → Option A) → Rule A
word f = terminal (in_word f)

-- the place of the next token, where it is of these kinds
abbrev pub place_if : (Kind → Bool) → Token → Option ℕ
place_if b t = if b (kind_of t.what) then Some t.at else None

abbrev pub one_of : (Kind → Bool) → Rule ℕ
one_of b = terminal (place_if b)

-- ---- keywords and signs

abbrev pub keyword : Key → Rule ℕ
keyword x = one_of (is_key x)

-- END and a keyword
unfoldable pub end_of : Key → Rule ℕ
end_of x = do
  keyword key.End
  keyword x

abbrev pub mark : Sign → Rule ℕ
mark x = one_of (is_sign x)

-- "::" | ":="
abbrev pub init_mark : Rule ℕ
init_mark = one_of is_init

-- REP | REPEAT
abbrev pub rep : Rule ℕ
rep = one_of is_rep

-- ---- names

abbrev pub named_at : ℕ → List ℕ → Name
named_at at text = record { at = at; text = text }

abbrev pub ident_of : ℕ → Word → Option Name
ident_of at (w.Ident b) = Some (named_at at b)
ident_of at _ = None

abbrev pub ident : Rule Name
ident = word ident_of

abbrev pub bold_of : ℕ → Word → Option Name
bold_of at (w.Bold b) = Some (named_at at b)
bold_of at _ = None

abbrev pub bold : Rule Name
bold = word bold_of

-- ident | BOLD
abbrev pub leaving_of : ℕ → Word → Option Name
leaving_of at (w.Ident b) = Some (named_at at b)
leaving_of at (w.Bold b) = Some (named_at at b)
leaving_of at _ = None

-- the identifier that is this one
abbrev pub same_of : Name → ℕ → Word → Option (Unit {0})
same_of x at (w.Ident b) = if bytes_eq b x.text then Some tt else None
same_of x at _ = None

-- ---- what stands in types, constants and labels

-- INT | BOOL | TEXT | TASK | DATASPACE
abbrev pub simple_of : ℕ → Word → Option TypePhrase
simple_of at (w.Key key.Int) = Some (ty.Int at)
simple_of at (w.Key key.Bool) = Some (ty.Bool at)
simple_of at (w.Key key.Text) = Some (ty.Text at)
simple_of at (w.Key key.Task) = Some (ty.Task at)
simple_of at (w.Key key.Dataspace) = Some (ty.Dataspace at)
simple_of at _ = None

-- number | ident
abbrev pub size_of : ℕ → Word → Option Size
size_of at (w.Number n) = Some (size.Number at n)
size_of at (w.Ident b) = Some (size.Named (named_at at b))
size_of at _ = None

-- CONST | VAR
abbrev pub access_of : ℕ → Word → Option Access
access_of at (w.Key key.Const) = Some access.Const
access_of at (w.Key key.Var) = Some access.Var
access_of at _ = None

-- number | textdenoter | TRUE | FALSE
abbrev pub constant_of : ℕ → Word → Option Constant
constant_of at (w.Number n) = Some (constant.Number at n)
constant_of at (w.Text b) = Some (constant.Text at b)
constant_of at (w.Key key.True) = Some (constant.Truth at true)
constant_of at (w.Key key.False) = Some (constant.Truth at false)
constant_of at _ = None

-- number | ident
abbrev pub label_of : ℕ → Word → Option Label
label_of at (w.Number n) = Some (label.Number at n)
label_of at (w.Ident b) = Some (label.Named (named_at at b))
label_of at _ = None

-- A number behind a minus. No text spells a token of a negative number, and such a token is not taken here.
abbrev pub negated_of : ℕ → Word → Option ℤ
negated_of at (w.Number n) = if int_lt n (pos 0) then None else Some (neg_ℤ n)
negated_of at _ = None

-- ---- what stands in expressions

-- number | textdenoter | TRUE | FALSE
abbrev pub literal_of : ℕ → Word → Option Expr
literal_of at (w.Number n) = Some (e.Number at n)
literal_of at (w.Text b) = Some (e.Text at b)
literal_of at (w.Key key.True) = Some (e.Truth at true)
literal_of at (w.Key key.False) = Some (e.Truth at false)
literal_of at _ = None

-- "+" | "-" | BOLD
abbrev pub monadic_of : ℕ → Word → Option (ℕ × Operator)
monadic_of at (w.Sign sign.Plus) = Some (at, op.Sign sign.Plus)
monadic_of at (w.Sign sign.Minus) = Some (at, op.Sign sign.Minus)
monadic_of at (w.Bold b) = Some (at, op.Named b)
monadic_of at _ = None

-- An operator of a level. CAND and COR are no operators that a program may define.
abbrev pub joint_of : ℕ → ℕ → Word → Option Joint
joint_of i at (w.Bold b) = if tier_level (tier_of b) == i then Some (joint.Operator (op.Named b)) else None
joint_of i at (w.Sign x) = if loose (k.Sign x) == i then Some (joint.Operator (op.Sign x)) else None
joint_of i at (w.Key key.Cand) = if and_level == i then Some joint.Cand else None
joint_of i at (w.Key key.Cor) = if or_level == i then Some joint.Cor else None
joint_of i at _ = None

-- ---- names of operators

-- BOLD | symbol
abbrev pub operator_of : ℕ → Word → Option OperatorName
operator_of at (w.Bold b) = Some (record { at = at; operator = op.Named b })
operator_of at (w.Sign x) = if is_symbol x then Some (record { at = at; operator = op.Sign x }) else None
operator_of at _ = None

abbrev pub same_operator : Operator → Word → Bool
same_operator (op.Named a) (w.Bold b) = bytes_eq b a
same_operator (op.Sign x) (w.Sign y) = is_symbol y && same_sign x y
same_operator _ _ = false

-- the name of an operator that is this one
abbrev pub same_operator_of : OperatorName → ℕ → Word → Option (Unit {0})
same_operator_of o at v = if same_operator o.operator v then Some tt else None

-- ident | BOLD | symbol
abbrev pub export_of : ℕ → Word → Option Export
export_of at (w.Ident b) = Some (export.Ident (named_at at b))
export_of at (w.Bold b) = Some (export.Bold (named_at at b))
export_of at (w.Sign x) = if is_symbol x then Some (export.Sign at x) else None
export_of at _ = None
