-- Each text has a meaning or is refused.
use Rattle.std.proofs.Common.{◌≡◌, ℕ, Bool, true, false, List, [], ◌∷◌, length, Result, Ok, Err, refl, ap}
use Rattle.std.specs.Prelude.{◌⊎◌, nat_lt, if◌then◌else◌}
use mathlib.Core.Logic.{inl, inr}
use Rattle.elan_tree.specs.declared.token.Token.{Token}
use Rattle.elan_tree.specs.declared.tree.Tree.{Tree}
use Rattle.elan_lexer.specs.declared.error.LexError.TheVariants as lex
use Rattle.elan_lexer.specs.Tokens.{tokens_of, most_tokens, limited}
use Rattle.packet_store.specs.Below.elan_grammar.specs.Rule.{Outcome}
use Rattle.packet_store.specs.Below.elan_grammar.specs.Reads as grammar
use Rattle.packet_store.specs.Below.elan_grammar.specs.Reads.{Reads}
use Rattle.packet_store.specs.Below.elan_grammar.proofs.GrammarLaws.{is_read, refused_run, some_left}
use Rattle.packet_store.specs.Below.elan_grammar.proofs.PlaceLaws.{some_place}
use Rattle.elan_scope.specs.declared.env.Env.{Env}
use Rattle.elan_check.specs.Text as tree
use Rattle.packet_store.specs.Meaning.{HasTokens, means, no_token, too_many, no_tree, no_meaning, HasOutcome, meaning, refusal}

-- tokens have a tree or none
has_tree : (packet : Bool) (ts : List Token) → ((t : Tree) × Reads packet ts t) ⊎ ((t : Tree) → Reads packet ts t → ⊥)
has_tree packet [] = inr (λ t r. r.0 refl)
has_tree packet (x ∷ ts) = by ((grammar.text packet).run (x ∷ ts)) refl
  where
    some : x ∷ ts ≡ [] → ⊥
    some e = cc

    by : (o : Outcome Tree) → (grammar.text packet).run (x ∷ ts) ≡ o → ((t : Tree) × Reads packet (x ∷ ts) t) ⊎ ((t : Tree) → Reads packet (x ∷ ts) t → ⊥)
    by (Ok (t, [])) e = inl (t, is_read packet (x ∷ ts) t some e)
    by (Ok (t, y ∷ rest)) e = inr (some_left packet (x ∷ ts) t (y ∷ rest) e (λ h. cc h))
    by (Err q) e = inr (refused_run packet (x ∷ ts) q e)

module _ (env : Env) (answers : (t : Tree) → tree.HasAnswer env t) (packet : Bool) where
  by_tree : (text : List ℕ) (ts : List Token) → HasTokens text ts → ((t : Tree) × Reads packet ts t) ⊎ ((t : Tree) → Reads packet ts t → ⊥)
      → HasOutcome env packet text
  by_tree text ts has (inr none) = let p = some_place packet ts in refusal _ (no_tree {n = p.0} has none p.1)
  by_tree text ts has (inl r) = by (answers r.0)
    where
      by : tree.HasAnswer env r.0 → HasOutcome env packet text
      by (tree.meaning c m) = meaning c (means r.0 has r.1 m)
      by (tree.refusal f k) = refusal _ (no_meaning r.0 has r.1 k)

  pub has_outcome : (text : List ℕ) → HasOutcome env packet text
  has_outcome text = by (tokens_of text) refl
    where
      counted : (ts : List Token) (b : Bool) → nat_lt most_tokens (length ts) ≡ b → limited (tokens_of text) ≡ (if b then Err lex.TooMany else Ok ts)
          → HasOutcome env packet text
      counted ts true e is = refusal _ (too_many is)
      counted ts false e is = by_tree text ts is (has_tree packet ts)

      by : (r : Result (List Token) ℕ) → tokens_of text ≡ r → HasOutcome env packet text
      by (Ok ts) e = counted ts (nat_lt most_tokens (length ts)) refl (ap limited e)
      by (Err place) e = refusal _ (no_token (ap limited e))
