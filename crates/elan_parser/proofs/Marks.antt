-- What may stand at the end of a packet.
use Rattle.std.proofs.Common.{◌≡◌, Bool, true, false, Some, None, refl, sym}
use Rattle.elan_tree.specs.declared.token.Sign.TheVariants as sign
use Rattle.elan_tree.specs.declared.written_type.Name.{Name}
use Rattle.elan_cursor.specs.Passing.{Passes}
use Rattle.elan_grammar.specs.Rule.{Tokens}
use Rattle.elan_grammar.specs.Terminals.{word, mark, same_of}
use Rattle.elan_grammar.specs.Grammar.{end_name, last_mark, last_point}
use Rattle.elan_parser.specs.Skips.{Skips}

pub name_passed : (x : Name) (b : Bool) (xs ys : Tokens) → Passes (word (same_of x)) xs b ys → Skips (end_name x) xs ys
unfolding end_name
name_passed x true xs ys (starts, a, run) = (Some a, rw (starts, run) refl)
name_passed x false xs ys (starts, same) = (None, rw (starts, same) refl)

pub semicolon_passed : (b : Bool) (xs ys : Tokens) → Passes (mark sign.Semicolon) xs b ys → b ≡ true → Skips last_mark xs ys
unfolding last_mark
semicolon_passed true xs ys (starts, at, run) e = (Some at, rw (starts, run) refl)
semicolon_passed false xs ys (starts, same) e = absurd (cc e)

pub point_passed : (b c : Bool) (xs ys zs : Tokens) → Passes (mark sign.Semicolon) xs b ys → b ≡ false → Passes (mark sign.Point) ys c zs
    → Skips last_mark xs zs
unfolding last_mark last_point
point_passed false true xs ys zs (none, here) e (starts, at, run) = (Some at, rw (none, sym here, starts, run) refl)
point_passed false false xs ys zs (none, here) e (starts, same) = (None, rw (none, sym here, starts, same) refl)
point_passed true c xs ys zs p e q = absurd (cc e)
