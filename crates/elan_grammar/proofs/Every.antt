-- A test of every kind.
use Rattle.std.proofs.Common.{◌≡◌, ℕ, zero, suc, Bool, true, false, List, [], ◌∷◌, refl}
use Rattle.std.specs.Prelude.{not}
use Rattle.elan_tree.specs.declared.token.Key.TheVariants as key
use Rattle.elan_tree.specs.declared.token.Sign.TheVariants as sign
use Rattle.elan_grammar.specs.declared.kind.Tier.TheVariants as tier
use Rattle.elan_grammar.specs.declared.kind.Kind.{Kind}
use Rattle.elan_grammar.specs.declared.kind.Kind.TheVariants as k
use Rattle.elan_grammar.proofs.Laws.{Set, Within, Apart}

abbrev pub both : Bool → Bool → Bool
both true b = b
both false b = false

both_first : (a b : Bool) → both a b ≡ true → a ≡ true
both_first true b e = refl
both_first false b e = absurd cc

both_second : (a b : Bool) → both a b ≡ true → b ≡ true
both_second true b e = e
both_second false b e = absurd cc

abbrev pub all_of : Set → List Kind → Bool
all_of p [] = true
all_of p (x ∷ xs) = both (p x) (all_of p xs)

abbrev at : List Kind → ℕ → Kind
at [] n = k.Nothing
at (x ∷ xs) zero = x
at (x ∷ xs) (suc n) = at xs n

all_of-at : (p : Set) (xs : List Kind) (n : ℕ) (x : Kind) → at xs n ≡ x → p k.Nothing ≡ true → all_of p xs ≡ true → p x ≡ true
all_of-at p [] n x h d e = rw (← h) d
all_of-at p (y ∷ xs) zero x h d e = rw (← h) (both_first (p y) (all_of p xs) e)
all_of-at p (y ∷ xs) (suc n) x h d e = all_of-at p xs n x h d (both_second (p y) (all_of p xs) e)

abbrev kinds : List Kind
kinds =
    k.Ident ∷ k.Number ∷ k.Text ∷ k.Selects ∷ k.Refines ∷ k.GoesOn ∷ k.Nothing ∷ (k.Bold tier.Times) ∷
    (k.Bold tier.And) ∷ (k.Bold tier.Or) ∷ (k.Bold tier.Other) ∷ (k.TypeName tier.Times) ∷ (k.TypeName tier.And) ∷ (k.TypeName tier.Or)
    ∷ (k.TypeName tier.Other) ∷ (k.Key key.Packet) ∷
    (k.Key key.Defines) ∷ (k.Key key.End) ∷ (k.Key key.Proc) ∷ (k.Key key.Op) ∷ (k.Key key.TypeWord) ∷ (k.Key key.Let) ∷ (k.Key key.Const) ∷ (k.Key key.Var) ∷
    (k.Key key.Row) ∷ (k.Key key.Struct) ∷ (k.Key key.Bound) ∷ (k.Key key.Int) ∷ (k.Key key.Bool) ∷ (k.Key key.Text) ∷ (k.Key key.Task) ∷ (k.Key key.Dataspace)
    ∷
    (k.Key key.If) ∷ (k.Key key.Then) ∷ (k.Key key.Elif) ∷ (k.Key key.Else) ∷ (k.Key key.Fi) ∷ (k.Key key.Select) ∷ (k.Key key.Of) ∷ (k.Key key.Case) ∷
    (k.Key key.Otherwise) ∷ (k.Key key.For) ∷ (k.Key key.From) ∷ (k.Key key.Upto) ∷ (k.Key key.Downto) ∷ (k.Key key.While) ∷ (k.Key key.Rep)
    ∷ (k.Key key.Repeat) ∷
    (k.Key key.Until) ∷ (k.Key key.Per) ∷ (k.Key key.Leave) ∷ (k.Key key.With) ∷ (k.Key key.True) ∷ (k.Key key.False) ∷ (k.Key key.Concr) ∷ (k.Key key.Cand) ∷
    (k.Key key.Cor) ∷ (k.Sign sign.LeftRound) ∷ (k.Sign sign.RightRound) ∷ (k.Sign sign.LeftSquare) ∷ (k.Sign sign.RightSquare) ∷ (k.Sign sign.Comma)
    ∷ (k.Sign sign.Semicolon) ∷ (k.Sign sign.Point) ∷
    (k.Sign sign.Colon) ∷ (k.Sign sign.DoubleColon) ∷ (k.Sign sign.Becomes) ∷ (k.Sign sign.Equal) ∷ (k.Sign sign.Unequal) ∷ (k.Sign sign.Less)
    ∷ (k.Sign sign.LessEqual) ∷ (k.Sign sign.Greater) ∷
    (k.Sign sign.GreaterEqual) ∷ (k.Sign sign.Plus) ∷ (k.Sign sign.Minus) ∷ (k.Sign sign.Times) ∷ []

abbrev pub every : Set → Bool
every p = both (p k.Nothing) (all_of p kinds)

there : (p : Set) (n : ℕ) (x : Kind) → at kinds n ≡ x → every p ≡ true → p x ≡ true
there p n x h e = all_of-at p kinds n x h (both_first (p k.Nothing) (all_of p kinds) e) (both_second (p k.Nothing) (all_of p kinds) e)

pub every-is : (p : Set) (x : Kind) → every p ≡ true → p x ≡ true
every-is p k.Ident e = there p 0 k.Ident refl e
every-is p k.Number e = there p 1 k.Number refl e
every-is p k.Text e = there p 2 k.Text refl e
every-is p k.Selects e = there p 3 k.Selects refl e
every-is p k.Refines e = there p 4 k.Refines refl e
every-is p k.GoesOn e = there p 5 k.GoesOn refl e
every-is p k.Nothing e = there p 6 k.Nothing refl e
every-is p (k.Bold tier.Times) e = there p 7 (k.Bold tier.Times) refl e
every-is p (k.Bold tier.And) e = there p 8 (k.Bold tier.And) refl e
every-is p (k.Bold tier.Or) e = there p 9 (k.Bold tier.Or) refl e
every-is p (k.Bold tier.Other) e = there p 10 (k.Bold tier.Other) refl e
every-is p (k.TypeName tier.Times) e = there p 11 (k.TypeName tier.Times) refl e
every-is p (k.TypeName tier.And) e = there p 12 (k.TypeName tier.And) refl e
every-is p (k.TypeName tier.Or) e = there p 13 (k.TypeName tier.Or) refl e
every-is p (k.TypeName tier.Other) e = there p 14 (k.TypeName tier.Other) refl e
every-is p (k.Key key.Packet) e = there p 15 (k.Key key.Packet) refl e
every-is p (k.Key key.Defines) e = there p 16 (k.Key key.Defines) refl e
every-is p (k.Key key.End) e = there p 17 (k.Key key.End) refl e
every-is p (k.Key key.Proc) e = there p 18 (k.Key key.Proc) refl e
every-is p (k.Key key.Op) e = there p 19 (k.Key key.Op) refl e
every-is p (k.Key key.TypeWord) e = there p 20 (k.Key key.TypeWord) refl e
every-is p (k.Key key.Let) e = there p 21 (k.Key key.Let) refl e
every-is p (k.Key key.Const) e = there p 22 (k.Key key.Const) refl e
every-is p (k.Key key.Var) e = there p 23 (k.Key key.Var) refl e
every-is p (k.Key key.Row) e = there p 24 (k.Key key.Row) refl e
every-is p (k.Key key.Struct) e = there p 25 (k.Key key.Struct) refl e
every-is p (k.Key key.Bound) e = there p 26 (k.Key key.Bound) refl e
every-is p (k.Key key.Int) e = there p 27 (k.Key key.Int) refl e
every-is p (k.Key key.Bool) e = there p 28 (k.Key key.Bool) refl e
every-is p (k.Key key.Text) e = there p 29 (k.Key key.Text) refl e
every-is p (k.Key key.Task) e = there p 30 (k.Key key.Task) refl e
every-is p (k.Key key.Dataspace) e = there p 31 (k.Key key.Dataspace) refl e
every-is p (k.Key key.If) e = there p 32 (k.Key key.If) refl e
every-is p (k.Key key.Then) e = there p 33 (k.Key key.Then) refl e
every-is p (k.Key key.Elif) e = there p 34 (k.Key key.Elif) refl e
every-is p (k.Key key.Else) e = there p 35 (k.Key key.Else) refl e
every-is p (k.Key key.Fi) e = there p 36 (k.Key key.Fi) refl e
every-is p (k.Key key.Select) e = there p 37 (k.Key key.Select) refl e
every-is p (k.Key key.Of) e = there p 38 (k.Key key.Of) refl e
every-is p (k.Key key.Case) e = there p 39 (k.Key key.Case) refl e
every-is p (k.Key key.Otherwise) e = there p 40 (k.Key key.Otherwise) refl e
every-is p (k.Key key.For) e = there p 41 (k.Key key.For) refl e
every-is p (k.Key key.From) e = there p 42 (k.Key key.From) refl e
every-is p (k.Key key.Upto) e = there p 43 (k.Key key.Upto) refl e
every-is p (k.Key key.Downto) e = there p 44 (k.Key key.Downto) refl e
every-is p (k.Key key.While) e = there p 45 (k.Key key.While) refl e
every-is p (k.Key key.Rep) e = there p 46 (k.Key key.Rep) refl e
every-is p (k.Key key.Repeat) e = there p 47 (k.Key key.Repeat) refl e
every-is p (k.Key key.Until) e = there p 48 (k.Key key.Until) refl e
every-is p (k.Key key.Per) e = there p 49 (k.Key key.Per) refl e
every-is p (k.Key key.Leave) e = there p 50 (k.Key key.Leave) refl e
every-is p (k.Key key.With) e = there p 51 (k.Key key.With) refl e
every-is p (k.Key key.True) e = there p 52 (k.Key key.True) refl e
every-is p (k.Key key.False) e = there p 53 (k.Key key.False) refl e
every-is p (k.Key key.Concr) e = there p 54 (k.Key key.Concr) refl e
every-is p (k.Key key.Cand) e = there p 55 (k.Key key.Cand) refl e
every-is p (k.Key key.Cor) e = there p 56 (k.Key key.Cor) refl e
every-is p (k.Sign sign.LeftRound) e = there p 57 (k.Sign sign.LeftRound) refl e
every-is p (k.Sign sign.RightRound) e = there p 58 (k.Sign sign.RightRound) refl e
every-is p (k.Sign sign.LeftSquare) e = there p 59 (k.Sign sign.LeftSquare) refl e
every-is p (k.Sign sign.RightSquare) e = there p 60 (k.Sign sign.RightSquare) refl e
every-is p (k.Sign sign.Comma) e = there p 61 (k.Sign sign.Comma) refl e
every-is p (k.Sign sign.Semicolon) e = there p 62 (k.Sign sign.Semicolon) refl e
every-is p (k.Sign sign.Point) e = there p 63 (k.Sign sign.Point) refl e
every-is p (k.Sign sign.Colon) e = there p 64 (k.Sign sign.Colon) refl e
every-is p (k.Sign sign.DoubleColon) e = there p 65 (k.Sign sign.DoubleColon) refl e
every-is p (k.Sign sign.Becomes) e = there p 66 (k.Sign sign.Becomes) refl e
every-is p (k.Sign sign.Equal) e = there p 67 (k.Sign sign.Equal) refl e
every-is p (k.Sign sign.Unequal) e = there p 68 (k.Sign sign.Unequal) refl e
every-is p (k.Sign sign.Less) e = there p 69 (k.Sign sign.Less) refl e
every-is p (k.Sign sign.LessEqual) e = there p 70 (k.Sign sign.LessEqual) refl e
every-is p (k.Sign sign.Greater) e = there p 71 (k.Sign sign.Greater) refl e
every-is p (k.Sign sign.GreaterEqual) e = there p 72 (k.Sign sign.GreaterEqual) refl e
every-is p (k.Sign sign.Plus) e = there p 73 (k.Sign sign.Plus) refl e
every-is p (k.Sign sign.Minus) e = there p 74 (k.Sign sign.Minus) refl e
every-is p (k.Sign sign.Times) e = there p 75 (k.Sign sign.Times) refl e

abbrev pub implies : Bool → Bool → Bool
implies true b = b
implies false b = true

implied : (a b : Bool) → implies a b ≡ true → a ≡ true → b ≡ true
implied true b e h = e
implied false b e h = absurd cc

refuted : (a b : Bool) → implies a (not b) ≡ true → a ≡ true → b ≡ false
refuted true true e h = absurd cc
refuted true false e h = refl
refuted false b e h = absurd cc

-- Sets are compared by looking at each kind.
pub within : (p q : Set) → every (λ x. implies (p x) (q x)) ≡ true → Within p q
within p q e x = implied (p x) (q x) (every-is (λ x. implies (p x) (q x)) x e)

pub apart : (p q : Set) → every (λ x. implies (p x) (not (q x))) ≡ true → Apart p q
apart p q e x = refuted (p x) (q x) (every-is (λ x. implies (p x) (not (q x))) x e)
