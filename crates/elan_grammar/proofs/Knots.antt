-- One depth above another.
use Rattle.std.proofs.Common.{◌≡◌, ℕ, suc, ◌+◌, List, Result, Ok, Err, refl, ◌∙◌, arith}
use Rattle.elan_tree.specs.declared.written_type.TypePhrase.{TypePhrase}
use Rattle.elan_tree.specs.declared.phrase.Expr.{Expr}
use Rattle.elan_tree.specs.declared.phrase.Unit.{Unit as Phrase}
use Rattle.elan_grammar.specs.declared.error.ParseError.{ParseError}
use Rattle.elan_grammar.specs.declared.tall.Tall.{Tall}
use Rattle.elan_grammar.specs.Rule.{Tokens, refusal, Rule, iterate, Parses, AtMost, Below}
use Rattle.elan_grammar.specs.Types.{types, a_type}
use Rattle.elan_grammar.specs.Expressions.{Language, operand, dyadic, level}
use Rattle.elan_grammar.specs.Units.{units, phrases}
use Rattle.elan_grammar.specs.Depth.{type_depth, expr_depth, unit_depth, deepest_of}

-- what parses a rule from where a reading of another ended parses all of it
pub parses_from : {A : Type 0} (r s : Rule A) (depth : A → ℕ) (P Q : ℕ → Type 0) (all old new : Tokens) (result : Result (Tall A) ParseError)
    → s.run all ≡ r.run old → ((h : ℕ) → P h → Q h)
    → Parses r depth P old result new → Parses s depth Q all result new
parses_from r s depth P Q all old new (Ok a) e more h = (e ∙ h.0, (h.1.0, more a.height h.1.1))
parses_from r s depth P Q all old new (Err d) e more h = λ n. e ∙ h n

pub types_zero : (d : ℕ) (xs : Tokens) → d ≡ 0 → (types d).run xs ≡ Err (refusal xs)
unfolding types
types_zero d xs h = rw h refl

pub types_more : (d j : ℕ) (xs : Tokens) → d ≡ suc j → (types d).run xs ≡ (a_type (types j) j).run xs
unfolding types
types_more d j xs h = rw h refl

pub types_parse : (d j : ℕ) (old new : Tokens) (result : Result (Tall TypePhrase) ParseError) → d ≡ suc j
    → Parses (a_type (types j) j) type_depth (AtMost (j + 1)) old result new → Parses (types d) type_depth (AtMost d) old result new
types_parse d j old new result e h =
    parses_from (a_type (types j) j) (types d) type_depth (AtMost (j + 1)) (AtMost d) old old new result (types_more d j old e) (λ k le. omega (arith, e, le)) h

-- ---- levels of operators

pub level_zero : (inner : Language) (n i : ℕ) (xs : Tokens) → i ≡ 0 → (level inner n i).run xs ≡ (operand inner n).run xs
unfolding level
level_zero inner n i xs h = rw h refl

pub level_err : (inner : Language) (n i j : ℕ) (xs : Tokens) (e : ParseError) → i ≡ suc j → (level inner n j).run xs ≡ Err e → (level inner n i).run xs ≡ Err e
unfolding level
level_err inner n i j xs e h r = rw (h, r) refl

pub level_ok : (inner : Language) (n i j : ℕ) (xs ys : Tokens) (a : Expr) → i ≡ suc j → (level inner n j).run xs ≡ Ok (a, ys)
    → (level inner n i).run xs ≡ (iterate (dyadic inner n j) a).run ys
unfolding level
level_ok inner n i j xs ys a h r = rw (h, r) refl

-- ---- phrases

pub expr_zero : (d i : ℕ) (xs : Tokens) → d ≡ 0 → ((phrases d).level i).run xs ≡ Err (refusal xs)
unfolding phrases
expr_zero d i xs h = rw h refl

pub expr_more : (d j i : ℕ) (xs : Tokens) → d ≡ suc j → ((phrases d).level i).run xs ≡ (level (phrases j) j i).run xs
unfolding phrases
expr_more d j i xs h = rw h refl

pub units_zero : (d : ℕ) (xs : Tokens) → d ≡ 0 → (phrases d).units.run xs ≡ Err (refusal xs)
unfolding phrases
units_zero d xs h = rw h refl

pub units_more : (d j : ℕ) (xs : Tokens) → d ≡ suc j → (phrases d).units.run xs ≡ (units (phrases j) j).run xs
unfolding phrases
units_more d j xs h = rw h refl

pub expr_parse : (d j i : ℕ) (old new : Tokens) (result : Result (Tall Expr) ParseError) → d ≡ suc j
    → Parses (level (phrases j) j i) expr_depth (AtMost j) old result new → Parses ((phrases d).level i) expr_depth (Below d) old result new
expr_parse d j i old new result e h =
    parses_from (level (phrases j) j i) ((phrases d).level i) expr_depth (AtMost j) (Below d) old old new result (expr_more d j i old e)
    (λ k le. omega (arith, e, le)) h

pub units_parse : (d j : ℕ) (old new : Tokens) (result : Result (Tall (List Phrase)) ParseError) → d ≡ suc j
    → Parses (units (phrases j) j) (deepest_of unit_depth) (AtMost j) old result new → Parses (phrases d).units (deepest_of unit_depth) (Below d) old result new
units_parse d j old new result e h =
    parses_from (units (phrases j) j) (phrases d).units (deepest_of unit_depth) (AtMost j) (Below d) old old new result (units_more d j old e)
    (λ k le. omega (arith, e, le)) h
