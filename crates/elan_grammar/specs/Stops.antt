-- How far the parser reads, and what it is tried with behind a front.
use Rattle.std.specs.Prelude.{ℕ, Bool, [], ◌∷◌, length, Ok, Err}
use Rattle.elan_tree.specs.declared.token.Token.{Token}
use Rattle.elan_tree.specs.declared.token.Word.{Word}
use Rattle.elan_tree.specs.declared.token.Word.TheVariants as w
use Rattle.elan_tree.specs.declared.token.Key.TheVariants as key
use Rattle.elan_tree.specs.declared.token.Sign.TheVariants as sign
use Rattle.elan_tree.specs.declared.tree.Tree.{Tree}
use Rattle.elan_grammar.specs.declared.error.ParseError.TheVariants.{NoMemory, NotElan}
use Rattle.elan_grammar.specs.declared.continuation.Continuation.{Continuation}
use Rattle.elan_grammar.specs.declared.continuation.Continuation.TheVariants as behind
use Rattle.elan_grammar.specs.Rule.{Tokens, Outcome}
use Rattle.elan_grammar.specs.Reads.{text}

abbrev pub left_by : Outcome Tree → ℕ
left_by (Ok p) = length p.1
left_by (Err (NotElan n)) = n
left_by (Err NoMemory) = 0

-- the number of tokens that the parser leaves
abbrev pub left : Bool → Tokens → ℕ
left is_packet tokens = left_by ((text is_packet).run tokens)

abbrev pub token_of : Word → Token
token_of what = record { what = what; at = 1; len = 1 }

abbrev pub a_name : Token
a_name = token_of (w.Ident (97 ∷ []))

-- what stands behind a front
abbrev pub tokens_of : Continuation → Tokens
tokens_of behind.End = []
tokens_of behind.Name = a_name ∷ []
tokens_of behind.Refinement = a_name ∷ token_of (w.Sign sign.Colon) ∷ []
tokens_of behind.Colon = token_of (w.Sign sign.Colon) ∷ []
tokens_of behind.Declaration = token_of (w.Key key.Var) ∷ []
