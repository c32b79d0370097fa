-- How tokens are gathered while a text is read.
use Rattle.std.specs.Prelude.{ℕ, ◌+◌, true, ◌||◌, if◌then◌else◌, nat_lt, List, [], ◌∷◌, ◌++◌, length, Result, Ok, Err}
use Rattle.elan_tree.specs.declared.token.Token.{Token}
use Rattle.elan_tree.specs.declared.token.Word.{Word}
use Rattle.elan_lexer.specs.declared.lexer.Found.{Found}
use Rattle.elan_lexer.specs.declared.error.LexError.{LexError}
use Rattle.elan_lexer.specs.declared.error.LexError.TheVariants as error
use Rattle.elan_lexer.specs.Tokens.{most_tokens}

abbrev pub token : Word → ℕ → ℕ → Token
token w index n = record { what = w; at = index + 1; len = n }

abbrev pub added : Found → Token → Found
added found t =
    if nat_lt (length found.tokens) most_tokens then record { tokens = found.tokens ++ t ∷ []; over = found.over }
    else record { tokens = found.tokens; over = true }

-- the answer, where these are the tokens behind
abbrev pub answer : Found → Result (List Token) ℕ → Result (List Token) LexError
answer found (Ok ts) = if found.over || nat_lt most_tokens (length (found.tokens ++ ts)) then Err error.TooMany else Ok (found.tokens ++ ts)
answer found (Err place) = Err (error.NoToken place)
