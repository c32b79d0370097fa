-- What a text means behind packets, and why it is refused.
use Rattle.std.specs.Prelude.{◌≡◌, ℕ, Bool, List, Ok, Err}
use Rattle.elan_tree.specs.declared.token.Token.{Token}
use Rattle.elan_tree.specs.declared.tree.Tree.{Tree}
use Rattle.elan_lexer.specs.declared.error.LexError.{LexError}
use Rattle.elan_lexer.specs.declared.error.LexError.TheVariants as lex
use Rattle.elan_lexer.specs.Tokens.{tokens_of, limited}
use Rattle.elan_parser.specs.declared.error.ParseError.{ParseError}
use Rattle.elan_parser.specs.declared.error.ParseError.TheVariants as syntactic
use Rattle.packet_store.specs.Below.elan_grammar.specs.Reads.{Reads}
use Rattle.packet_store.specs.Below.elan_grammar.specs.Place.{IsPlace, place_of}
use Rattle.elan_scope.specs.declared.env.Env.{Env}
use Rattle.elan_types.specs.declared.core_phrase.Core.{Core}
use Rattle.elan_types.specs.declared.why.Why.{Why}
use Rattle.elan_check.specs.declared.error.CheckError.{CheckError}
use Rattle.elan_check.specs.declared.error.CheckError.TheVariants as semantic
use Rattle.elan_check.specs.Text as tree
use Rattle.units.specs.declared.error.Refusal.{Refusal}
use Rattle.units.specs.declared.error.Refusal.TheVariants.{NoToken, TooMany, NotElan, NoMeaning}
use Rattle.packet_store.specs.declared.error.CompileError.{CompileError}
use Rattle.packet_store.specs.declared.error.CompileError.TheVariants.{NoMemory, Refused}

-- these are the tokens of the text, and they are not too many
abbrev pub HasTokens : List ℕ → List Token → Type 0
HasTokens text ts = limited (tokens_of text) ≡ Ok ts

-- the text, read as a packet or as a program, has this meaning behind these packets: it has tokens, they have a tree, and the tree has
-- this core
pub data Means (env : Env) (packet : Bool) (text : List ℕ) (core : Core) : Type 0 where
  means : {ts : List Token} (t : Tree) → HasTokens text ts → Reads packet ts t → tree.Means env t core → Means env packet text core

-- the text is refused so
pub data IsRefused (env : Env) (packet : Bool) (text : List ℕ) : Refusal → Type 0 where
  no_token : {place : ℕ} → limited (tokens_of text) ≡ Err (lex.NoToken place) → IsRefused env packet text (NoToken place)
  too_many : limited (tokens_of text) ≡ Err lex.TooMany → IsRefused env packet text TooMany
  no_tree : {ts : List Token} {n : ℕ} → HasTokens text ts → ((t : Tree) → Reads packet ts t → ⊥) → IsPlace packet ts n
      → IsRefused env packet text (NotElan (place_of ts n))
  no_meaning : {ts : List Token} {place : ℕ} {why : Why} (t : Tree) → HasTokens text ts → Reads packet ts t → tree.Refused env t (place, why)
      → IsRefused env packet text (NoMeaning place why)

-- The text has a meaning, or is refused.
pub data HasOutcome (env : Env) (packet : Bool) (text : List ℕ) : Type 0 where
  meaning : (core : Core) → Means env packet text core → HasOutcome env packet text
  refusal : (r : Refusal) → IsRefused env packet text r → HasOutcome env packet text

-- memory was wanting, or the text is refused so
abbrev pub IsCause : Env → Bool → List ℕ → CompileError → Type 0
IsCause env packet text NoMemory = Unit {0}
IsCause env packet text (Refused r) = IsRefused env packet text r

-- the refusals of the parts, as those of the text
abbrev pub of_lexer : LexError → CompileError
of_lexer lex.NoMemory = NoMemory
of_lexer (lex.NoToken place) = Refused (NoToken place)
of_lexer lex.TooMany = Refused TooMany

abbrev pub of_parser : ParseError → CompileError
of_parser syntactic.NoMemory = NoMemory
of_parser (syntactic.NotElan place) = Refused (NotElan place)

abbrev pub of_check : CheckError → CompileError
of_check semantic.NoMemory = NoMemory
of_check (semantic.NoMeaning place why) = Refused (NoMeaning place why)
