-- The place of a refusal: where a text stops being one of the grammar.
use Rattle.std.specs.Prelude.{ℕ, suc, ◌+◌, ◌-◌, ◌<◌, ◌≤◌, min, Bool, take, length, ◌++◌, Option, Some, None}
use Rattle.std.specs.List.{slice_get}
use Rattle.elan_tree.specs.declared.token.Token.{Token}
use Rattle.elan_tree.specs.declared.tree.Tree.{Tree}
use Rattle.elan_grammar.specs.Rule.{Tokens}
use Rattle.elan_grammar.specs.Reads.{Reads}

-- These tokens begin a text of the grammar: with some tokens behind them they have a tree.
abbrev pub CanGoOn : Bool → Tokens → Type 0
CanGoOn is_packet front = (rest : Tokens) × (tree : Tree) × Reads is_packet (front ++ rest) tree

-- So many tokens stand before the place: these can go on, and with the token at the place, where one stands there, they cannot.
abbrev pub IsPlace : Bool → Tokens → ℕ → Type 0
IsPlace is_packet tokens n = (n ≤ length tokens) × CanGoOn is_packet (take n tokens) × (n < length tokens → CanGoOn is_packet (take (suc n) tokens) → ⊥)

-- ---- the place in bytes

-- no place is greater
abbrev pub last_place : ℕ
last_place = 4294967295

abbrev pub next_or_end : Option Token → Option Token → ℕ
next_or_end (Some next) last = next.at
next_or_end None (Some last) = min (last.at + last.len) last_place
next_or_end None None = 1

-- The place of the token that has n before it; where there is none, the place behind the last token's last byte; 1 without a token.
abbrev pub place_of : Tokens → ℕ → ℕ
place_of tokens n = next_or_end (slice_get tokens n) (slice_get tokens (length tokens - 1))
