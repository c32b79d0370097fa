-- The longest prefix that is a piece.
use Rattle.std.proofs.Common.{◌≡◌, ℕ, zero, suc, ◌<◌, ◌≤◌, inl, inr, true, false, length, take, sym, arith}
use Rattle.std.proofs.Math.Nat.{le-suc_iff}
use Rattle.elan_lexer.specs.Tables.{Text}
use Rattle.elan_lexer.specs.Pieces.{piece, is_piece}
use Rattle.elan_lexer.specs.Tokens.{longest, first}

-- no longer prefix than this is a piece
abbrev pub NoLonger : ℕ → Text → Type 0
NoLonger n text = (m : ℕ) → n < m → m ≤ length text → is_piece (piece (take m text)) ≡ false

longest_is : (k n : ℕ) (text : Text) → n ≤ k → k ≤ length text → is_piece (piece (take n text)) ≡ true → NoLonger n text → 0 < n → longest k text ≡ n
longest_is zero n text le lt here above pos = absurd (omega arith)
longest_is (suc k) n text le lt here above pos =
    elim (le-suc_iff.0 le) [
      | inl l ↦ rw (above (suc k) (omega arith) lt) (longest_is k n text l (omega arith) here above pos)
      | inr e ↦ let h = rw e at here in rw h (sym e)
    ]

pub first_is : (n : ℕ) (text : Text) → n ≤ length text → is_piece (piece (take n text)) ≡ true → NoLonger n text → 0 < n → first text ≡ n
unfolding first
first_is n text le here above pos = longest_is (length text) n text le (omega arith) here above pos
