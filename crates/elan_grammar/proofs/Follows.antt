-- What may begin and what may follow phrases.
use Rattle.std.proofs.Common.{ℕ, true, false}
use Rattle.std.specs.Prelude.{◌||◌, nat_lt}
use Rattle.elan_tree.specs.declared.token.Key.TheVariants as key
use Rattle.elan_tree.specs.declared.token.Sign.TheVariants as sign
use Rattle.elan_grammar.specs.declared.kind.Kind.{Kind}
use Rattle.elan_grammar.specs.declared.kind.Kind.TheVariants as k
use Rattle.elan_grammar.specs.Kinds.{is_key, is_sign, is_rep, begins_typed, loose}
use Rattle.elan_grammar.proofs.Sets.{begins, lengthens}
use Rattle.elan_grammar.proofs.Laws.{Set}

-- The level of an operator, and a greater one for what ends each expression; 0 for what can't follow an operand or goes on with it.
abbrev pub reach : Kind → ℕ
reach (k.Sign sign.RightRound) = 7
reach (k.Sign sign.RightSquare) = 7
reach (k.Sign sign.Comma) = 7
reach (k.Sign sign.Semicolon) = 7
reach (k.Sign sign.Point) = 7
reach (k.Sign sign.Becomes) = 7
reach (k.Key key.Then) = 7
reach (k.Key key.Elif) = 7
reach (k.Key key.Else) = 7
reach (k.Key key.Fi) = 7
reach (k.Key key.End) = 7
reach (k.Key key.Of) = 7
reach (k.Key key.Case) = 7
reach (k.Key key.Otherwise) = 7
reach (k.Key key.Upto) = 7
reach (k.Key key.Downto) = 7
reach (k.Key key.While) = 7
reach (k.Key key.Rep) = 7
reach (k.Key key.Repeat) = 7
reach (k.Key key.Until) = 7
reach (k.Key key.Per) = 7
reach k.GoesOn = 7
reach k.Refines = 7
reach k.Nothing = 7
reach x = loose x

abbrev pub ends_level : ℕ → Set
ends_level i x = nat_lt i (reach x)

abbrev pub after_head : Set
after_head x = lengthens x || nat_lt 0 (reach x)

abbrev pub after_name : Set
after_name x = is_sign sign.LeftRound x || after_head x

-- the end of a list of units
abbrev pub ends_units : Set
ends_units (k.Key key.Elif) = true
ends_units (k.Key key.Else) = true
ends_units (k.Key key.Fi) = true
ends_units (k.Key key.End) = true
ends_units (k.Key key.Case) = true
ends_units (k.Key key.Otherwise) = true
ends_units (k.Key key.Until) = true
ends_units (k.Key key.Per) = true
ends_units (k.Sign sign.Point) = true
ends_units k.Refines = true
ends_units k.Nothing = true
ends_units _ = false

abbrev pub ends_unit : Set
ends_unit x = is_sign sign.Semicolon x || ends_units x

-- a unit with no type at its front may begin with it, an empty one too
abbrev pub begins_plain : Set
begins_plain x =
    is_key key.Let x || (is_key key.Bound x || (is_key key.Leave x || (is_key key.For x || (is_key key.While x || (is_rep x || (begins x || ends_unit x))))))

abbrev pub begins_unit : Set
begins_unit x = begins_typed x || begins_plain x
