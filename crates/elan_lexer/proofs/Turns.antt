-- The turns of the loops over a text.
use Rattle.std.proofs.Common.{◌≡◌, ℕ, zero, suc, ◌+◌, ◌-◌, ◌<◌, Bool, true, false, not, [], ◌∷◌, ◌++◌, length, get_or, drop, Option, Some, None, refl, sym}
use Rattle.std.proofs.Common.{ap, ◌∙◌, arith, append_assoc, add-one, drop-cons}
use Rattle.std.specs.Prelude.{◌==◌}
use Rattle.std.proofs.lemmas.List.{drop-drop}
use Rattle.elan_lexer.specs.Tables.{Text}
use Rattle.elan_lexer.specs.declared.reading.Quote.TheVariants.{Code, Doubled}
use Rattle.elan_lexer.specs.Pieces.{comment_end, one_more, opens_at, closes_at, character, characters, quote}

pub drop_turn : (text : Text) (i : ℕ) → i < length text → drop i text ≡ get_or text i 0 ∷ drop (i + 1) text
drop_turn text i lt = drop-cons text i 0 lt ∙ ap (λ (n : ℕ). get_or text i 0 ∷ drop n text) (sym (add-one i))

-- ---- comments

abbrev pub longer_by : ℕ → Option ℕ → Option ℕ
longer_by n (Some m) = Some (n + m)
longer_by n None = None

longer_turn : (i : ℕ) (o : Option ℕ) → longer_by i (one_more o) ≡ longer_by (i + 1) o
longer_turn i (Some n) = ap (λ (m : ℕ). Some m) (omega arith)
longer_turn i None = refl

module _ (curly : Bool) (depth : ℕ) (text : Text) (i : ℕ) (lt : i < length text) (whole : Option ℕ) where
  pub comment_second : whole ≡ longer_by i (comment_end curly depth true (drop i text))
      → whole ≡ longer_by (i + 1) (comment_end curly depth false (drop (i + 1) text))
  comment_second e = e ∙ rw (drop_turn text i lt) (longer_turn i (comment_end curly depth false (drop (i + 1) text)))

  pub comment_done : depth ≡ 0 → whole ≡ longer_by i (comment_end curly depth false (drop i text)) → whole ≡ Some i
  comment_done z e = e ∙ rw (drop_turn text i lt, z) (ap (λ (m : ℕ). Some m) (omega arith))

  pub comment_opens : (depth == 0) ≡ false → opens_at curly (drop i text) ≡ true → whole ≡ longer_by i (comment_end curly depth false (drop i text))
      → whole ≡ longer_by (i + 1) (comment_end curly (depth + 1) (not curly) (drop (i + 1) text))
  comment_opens z o e =
      let o1 = rw (drop_turn text i lt) at o in
      e ∙ rw (drop_turn text i lt, z, o1) (longer_turn i (comment_end curly (depth + 1) (not curly) (drop (i + 1) text)))

  pub comment_closes : (depth == 0) ≡ false → opens_at curly (drop i text) ≡ false → closes_at curly (drop i text) ≡ true
      → whole ≡ longer_by i (comment_end curly depth false (drop i text))
      → whole ≡ longer_by (i + 1) (comment_end curly (depth - 1) (not curly) (drop (i + 1) text))
  comment_closes z o c e =
      let o1 = rw (drop_turn text i lt) at o in
      let c1 = rw (drop_turn text i lt) at c in
      e ∙ rw (drop_turn text i lt, z, o1, c1) (longer_turn i (comment_end curly (depth - 1) (not curly) (drop (i + 1) text)))

  pub comment_other : (depth == 0) ≡ false → opens_at curly (drop i text) ≡ false → closes_at curly (drop i text) ≡ false
      → whole ≡ longer_by i (comment_end curly depth false (drop i text))
      → whole ≡ longer_by (i + 1) (comment_end curly depth false (drop (i + 1) text))
  comment_other z o c e =
      let o1 = rw (drop_turn text i lt) at o in
      let c1 = rw (drop_turn text i lt) at c in
      e ∙ rw (drop_turn text i lt, z, o1, c1) (longer_turn i (comment_end curly depth false (drop (i + 1) text)))

-- ---- denoters

-- what was read before, and what is still read
abbrev pub behind : Text → ℕ → Option (Text × ℕ) → Option (Text × ℕ)
behind xs i (Some p) = Some (xs ++ p.0, i + p.1)
behind xs i None = None

behind_byte : (xs : Text) (i b n : ℕ) (o : Option (Text × ℕ)) → behind xs i (character b n o) ≡ behind (xs ++ b ∷ []) (i + n) o
behind_byte xs i b n (Some p) =
    let e : i + (p.1 + n) ≡ i + n + p.1 = omega arith in
    let f : xs ++ (b ∷ p.0) ≡ (xs ++ b ∷ []) ++ p.0 = sym (append_assoc xs (b ∷ []) p.0) in
    rw (e, f) refl
behind_byte xs i b n None = refl

pub characters_skip : (n : ℕ) (bs : Text) → characters n bs ≡ characters 0 (drop n bs)
characters_skip zero bs = refl
characters_skip (suc n) [] = refl
characters_skip (suc n) (b ∷ bs) = characters_skip n bs

module _ (text : Text) (i : ℕ) (lt : i < length text) (xs : Text) (whole : Option (Text × ℕ)) (so_far : whole ≡ behind xs i (characters 0 (drop i text))) where
  pub denoter_code : (c n : ℕ) → get_or text i 0 ≡ 34 → quote (drop (i + 1) text) ≡ Code (Some c) n
      → whole ≡ behind (xs ++ c ∷ []) (i + (n + 1)) (characters 0 (drop (i + (n + 1)) text))
  denoter_code c n b q =
      let skip : characters n (drop (i + 1) text) ≡ characters 0 (drop (i + (n + 1)) text) =
      characters_skip n (drop (i + 1) text) ∙ ap (λ (z : Text). characters 0 z) (drop-drop n (i + 1) text ∙ ap (λ (m : ℕ). drop m text) (omega arith)) in
      so_far ∙ rw (drop_turn text i lt, b, q, skip) (behind_byte xs i c (n + 1) (characters 0 (drop (i + (n + 1)) text)))

  pub denoter_doubled : get_or text i 0 ≡ 34 → quote (drop (i + 1) text) ≡ Doubled → whole ≡ behind (xs ++ 34 ∷ []) (i + 2) (characters 0 (drop (i + 2) text))
  denoter_doubled b q =
      let skip : characters 1 (drop (i + 1) text) ≡ characters 0 (drop (i + 2) text) =
      characters_skip 1 (drop (i + 1) text) ∙ ap (λ (z : Text). characters 0 z) (drop-drop 1 (i + 1) text ∙ ap (λ (m : ℕ). drop m text) (omega arith)) in
      so_far ∙ rw (drop_turn text i lt, b, q, skip) (behind_byte xs i 34 2 (characters 0 (drop (i + 2) text)))
