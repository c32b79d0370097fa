-- Sets of kinds: what productions begin with.
use Rattle.std.specs.Prelude.{ℕ, Bool, true, false, ◌||◌, ◌==◌, [], ◌∷◌}
use Rattle.elan_tree.specs.declared.token.Key.TheVariants as key
use Rattle.elan_tree.specs.declared.token.Sign.TheVariants as sign
use Rattle.elan_grammar.specs.declared.kind.Kind.{Kind}
use Rattle.elan_grammar.specs.declared.kind.Kind.TheVariants as k
use Rattle.elan_grammar.specs.Kinds.{same_key, same_sign, is_sign, is_symbol, is_among, leads, loose}

abbrev pub is_level : ℕ → Kind → Bool
is_level i k = loose k == i

abbrev pub is_ident : Kind → Bool
is_ident k.Ident = true
is_ident _ = false

abbrev pub is_number : Kind → Bool
is_number k.Number = true
is_number _ = false

abbrev pub is_bold : Kind → Bool
is_bold (k.Bold t) = true
is_bold (k.TypeName t) = true
is_bold _ = false

abbrev pub is_comma : Kind → Bool
is_comma k.GoesOn = true
is_comma x = is_sign sign.Comma x

abbrev pub is_point : Kind → Bool
is_point (k.Sign x) = same_sign sign.Point x
is_point x = leads x

abbrev pub lengthens : Kind → Bool
lengthens k.Selects = true
lengthens x = is_sign sign.LeftSquare x

abbrev pub is_operator : Kind → Bool
is_operator (k.Sign x) = is_symbol x
is_operator x = is_bold x

abbrev pub is_monadic : Kind → Bool
is_monadic (k.Sign x) = same_sign sign.Plus x || same_sign sign.Minus x
is_monadic x = is_bold x

abbrev pub is_literal : Kind → Bool
is_literal k.Text = true
is_literal (k.Key x) = same_key key.True x || same_key key.False x
is_literal x = is_number x

-- An expression may begin with it: with an operator before its operand, a literal, an identifier, or one of these.
abbrev pub begins : Kind → Bool
begins (k.TypeName t) = false
begins (k.Sign x) = is_monadic (k.Sign x) || same_sign sign.LeftRound x
begins (k.Key x) = is_literal (k.Key x) || is_among (key.Concr ∷ key.If ∷ key.Select ∷ []) x
begins x = is_monadic x || (is_literal x || is_ident x)
