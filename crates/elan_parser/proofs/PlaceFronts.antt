-- Fronts, and the place of a refusal.
use Rattle.std.proofs.Common.{◌≡◌, ℕ, ◌+◌, ◌-◌, ◌<◌, ◌≤◌, Bool, List, ◌++◌, length, take, min, Option, Some, None, sym, ap, subst, ◌∙◌, arith, add-one}
use Rattle.std.proofs.lemmas.List.{length-append}
use Rattle.std.specs.List.{slice_get}
use Rattle.elan_tree.specs.declared.token.Token.{Token}
use Rattle.elan_grammar.specs.Place.{CanGoOn, IsPlace, place_of, next_or_end}
use Rattle.elan_grammar.specs.Stops.{left}
use Rattle.elan_grammar.proofs.GrammarLaws.{left_most}
use Rattle.elan_grammar.proofs.PlaceLaws.{read_front}

abbrev Tokens : Type 0
Tokens = List Token

-- the tokens behind a front, counted
pub added : (all front behind : Tokens) → all ≡ front ++ behind → length all - length front ≡ length behind
added all front behind e = omega (arith, ap length e, length-append front behind)

pub front_fits : (all front behind : Tokens) → all ≡ front ++ behind → length front ≤ length all
front_fits all front behind e = omega (arith, ap length e, length-append front behind)

-- the token behind the front cannot follow
pub place_here : (p : Bool) (tokens front : Tokens) (n : ℕ) → n < length tokens → CanGoOn p (take n tokens) → front ≡ take (n + 1) tokens
    → (CanGoOn p front → ⊥) → IsPlace p tokens n
place_here p tokens front n lt can is none =
    (omega (arith, lt), can, λ _ more. none (subst (λ (z : Tokens). CanGoOn p z) (ap (λ (m : ℕ). take m tokens) (sym (add-one n)) ∙ sym is) more))

-- all tokens can go on
pub place_behind : (p : Bool) (tokens : Tokens) (n : ℕ) → n ≡ length tokens → CanGoOn p (take n tokens) → IsPlace p tokens (length tokens)
place_behind p tokens n e can = (omega arith, subst (λ (m : ℕ). CanGoOn p (take m tokens)) e can, λ lt. absurd (omega (arith, lt)))

pub one_more : (p : Bool) (tokens front : Tokens) (n : ℕ) → front ≡ take (n + 1) tokens → CanGoOn p front → CanGoOn p (take (n + 1) tokens)
one_more p tokens front n is can = subst (λ (z : Tokens). CanGoOn p z) is can

pub from_left : (p : Bool) (tokens : Tokens) (n : ℕ) → n ≡ left p tokens → CanGoOn p (take (length tokens - n) tokens)
from_left p tokens n e = read_front p tokens (length tokens - n) (ap (λ (m : ℕ). length tokens - m) e)

pub left_fits : (p : Bool) (tokens : Tokens) (n : ℕ) → n ≡ left p tokens → n ≤ length tokens
left_fits p tokens n e = omega (arith, e, left_most p tokens)

-- ---- the place in bytes

pub at_next : (tokens : Tokens) (n : ℕ) (t : Token) → Some t ≡ slice_get tokens n → t.at ≡ place_of tokens n
at_next tokens n t e = ap (λ (o : Option Token). next_or_end o (slice_get tokens (length tokens - 1))) e

pub behind_last : (tokens : Tokens) (n : ℕ) (t : Token) → None ≡ slice_get tokens n → Some t ≡ slice_get tokens (length tokens - 1)
    → min (t.at + t.len) 4294967295 ≡ place_of tokens n
behind_last tokens n t e f = ap (λ (o : Option Token). next_or_end None o) f ∙ ap (λ (o : Option Token). next_or_end o (slice_get tokens (length tokens - 1))) e

pub without_tokens : (tokens : Tokens) (n : ℕ) → ◌≡◌ {A = Option Token} None (slice_get tokens n)
    → ◌≡◌ {A = Option Token} None (slice_get tokens (length tokens - 1)) → 1 ≡ place_of tokens n
without_tokens tokens n e f =
    ap (λ (o : Option Token). next_or_end None o) f ∙ ap (λ (o : Option Token). next_or_end o (slice_get tokens (length tokens - 1))) e
