-- The keywords and the signs.
use Rattle.std.specs.Prelude.{ℕ, if◌then◌else◌, List, [], ◌∷◌, ◌++◌, map, Option, Some, None, codes}
use Rattle.std.specs.Str.{bytes_eq}
use Rattle.elan_tree.specs.declared.token.Key.{Key}
use Rattle.elan_tree.specs.declared.token.Key.TheVariants as key
use Rattle.elan_tree.specs.declared.token.Sign.{Sign}
use Rattle.elan_tree.specs.declared.token.Sign.TheVariants as sign

abbrev pub Text : Type 0
Text = List ℕ

-- what the table has beside a spelling
abbrev pub lookup : {X : Type 0} → List (Text × X) → Text → Option X
lookup [] spelling = None
lookup (entry ∷ table) spelling = if bytes_eq entry.0 spelling then Some entry.1 else lookup table spelling

unfoldable pub keywords : List (Text × Key)
keywords =
    (codes "PACKET", key.Packet) ∷ (codes "DEFINES", key.Defines) ∷ (codes "END", key.End) ∷ (codes "PROC", key.Proc) ∷ (codes "OP", key.Op)
    ∷ (codes "TYPE", key.TypeWord) ∷ (codes "LET", key.Let) ∷ (codes "CONST", key.Const) ∷ (codes "VAR", key.Var) ∷ (codes "ROW", key.Row)
    ∷ (codes "STRUCT", key.Struct) ∷ (codes "BOUND", key.Bound) ∷ (codes "INT", key.Int) ∷ (codes "BOOL", key.Bool) ∷ (codes "TEXT", key.Text)
    ∷ (codes "TASK", key.Task) ∷ (codes "DATASPACE", key.Dataspace) ∷ (codes "IF", key.If) ∷ (codes "THEN", key.Then) ∷ (codes "ELIF", key.Elif)
    ∷ (codes "ELSE", key.Else) ∷ (codes "FI", key.Fi) ∷ (codes "SELECT", key.Select) ∷ (codes "OF", key.Of) ∷ (codes "CASE", key.Case)
    ∷ (codes "OTHERWISE", key.Otherwise) ∷ (codes "FOR", key.For) ∷ (codes "FROM", key.From) ∷ (codes "UPTO", key.Upto) ∷ (codes "DOWNTO", key.Downto)
    ∷ (codes "WHILE", key.While) ∷ (codes "REP", key.Rep) ∷ (codes "REPEAT", key.Repeat) ∷ (codes "UNTIL", key.Until) ∷ (codes "PER", key.Per)
    ∷ (codes "LEAVE", key.Leave) ∷ (codes "WITH", key.With) ∷ (codes "TRUE", key.True) ∷ (codes "FALSE", key.False) ∷ (codes "CONCR", key.Concr)
    ∷ (codes "CAND", key.Cand) ∷ (codes "COR", key.Cor) ∷ []

-- the keywords that may be written together with an END before them
unfoldable pub closed_by_end : List (Text × Key)
closed_by_end =
    (codes "IF", key.If) ∷ (codes "REP", key.Rep) ∷ (codes "REPEAT", key.Repeat) ∷ (codes "PROC", key.Proc) ∷ (codes "OP", key.Op)
    ∷ (codes "PACKET", key.Packet) ∷ (codes "SELECT", key.Select) ∷ []

-- END and what is written together with it
unfoldable pub end_words : List (Text × Key)
unfolding closed_by_end
end_words = map (λ entry. (codes "END" ++ entry.0, entry.1)) closed_by_end

unfoldable pub signs : List (Text × Sign)
signs =
    (codes "(", sign.LeftRound) ∷ (codes ")", sign.RightRound) ∷ (codes "[", sign.LeftSquare) ∷ (codes "]", sign.RightSquare)
    ∷ (codes ",", sign.Comma) ∷ (codes ";", sign.Semicolon) ∷ (codes ".", sign.Point) ∷ (codes ":", sign.Colon) ∷ (codes "::", sign.DoubleColon)
    ∷ (codes ":=", sign.Becomes) ∷ (codes "=", sign.Equal) ∷ (codes "<>", sign.Unequal) ∷ (codes "<", sign.Less) ∷ (codes "<=", sign.LessEqual)
    ∷ (codes ">", sign.Greater) ∷ (codes ">=", sign.GreaterEqual) ∷ (codes "+", sign.Plus) ∷ (codes "-", sign.Minus) ∷ (codes "*", sign.Times) ∷ []
