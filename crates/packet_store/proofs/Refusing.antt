-- The refusals of the parts refuse the text.
use Rattle.std.proofs.Common.{◌≡◌, ℕ, Bool, List, Result, Ok, Err, refl, subst, sym}
use Rattle.std.specs.Prelude.{IsErr, IsErrAnd, IfErr}
use Rattle.elan_tree.specs.declared.token.Token.{Token}
use Rattle.elan_tree.specs.declared.tree.Tree.{Tree}
use Rattle.elan_lexer.specs.declared.error.LexError.{LexError}
use Rattle.elan_lexer.specs.declared.error.LexError.TheVariants as lex
use Rattle.elan_lexer.specs.Tokens.{Answers}
use Rattle.elan_parser.specs.declared.error.ParseError.{ParseError}
use Rattle.elan_parser.specs.declared.error.ParseError.TheVariants as syntactic
use Rattle.packet_store.specs.Below.elan_grammar.specs.Reads.{Reads}
use Rattle.packet_store.specs.Below.elan_grammar.specs.Place.{IsPlace, place_of}
use Rattle.elan_scope.specs.declared.env.Env.{Env}
use Rattle.elan_check.specs.declared.error.CheckError.{CheckError}
use Rattle.elan_check.specs.declared.error.CheckError.TheVariants as semantic
use Rattle.elan_check.specs.Text as tree
use Rattle.packet_store.specs.declared.error.CompileError.{CompileError}
use Rattle.units.specs.declared.error.Refusal.TheVariants.{NotElan}
use Rattle.packet_store.specs.Meaning.{HasTokens, no_token, too_many, no_tree, no_meaning, of_lexer, of_parser, of_check, IsCause, IsRefused}

module _ (env : Env) (packet : Bool) (text : List ℕ) where
  -- what `?` hands on is the cause
  pub handed_on : {A : Type 0} (cause : CompileError) (r : Result A CompileError) → IsErr r × IsErrAnd r (λ e. e ≡ cause) → IsCause env packet text cause
      → IfErr r (IsCause env packet text)
  handed_on cause (Ok c) h k = tt
  handed_on cause (Err e) h k = subst (IsCause env packet text) (sym h.1) k

  pub lexer_refuses : (q : LexError) → Answers text (Err q) → IsCause env packet text (of_lexer q)
  lexer_refuses lex.NoMemory h = tt
  lexer_refuses (lex.NoToken place) h = no_token h
  lexer_refuses lex.TooMany h = too_many h

  pub parser_refuses : (ts : List Token) (q : ParseError) → HasTokens text ts
      → ((at : ℕ) → ◌≡◌ {A = Result Tree ParseError} (Err q) (Err (syntactic.NotElan at)) → (t : Tree) → Reads packet ts t → ⊥)
      → ((at : ℕ) → ◌≡◌ {A = Result Tree ParseError} (Err q) (Err (syntactic.NotElan at)) → (n : ℕ) × IsPlace packet ts n × (at ≡ place_of ts n))
      → IsCause env packet text (of_parser q)
  parser_refuses ts syntactic.NoMemory has none there = tt
  parser_refuses ts (syntactic.NotElan at) has none there =
      let p = there at refl in
      subst (λ (z : ℕ). IsRefused env packet text (NotElan z)) (sym p.2) (no_tree {n = p.0} has (none at refl) p.1)

  pub check_refuses : (ts : List Token) (t : Tree) (q : CheckError) → HasTokens text ts → Reads packet ts t
      → tree.IsRefusal (tree.Refused env t) (Err q) → IsCause env packet text (of_check q)
  check_refuses ts t semantic.NoMemory has reads first = tt
  check_refuses ts t (semantic.NoMeaning place why) has reads first = no_meaning t has reads first
