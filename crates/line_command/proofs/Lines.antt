-- Lines and bytes, piece by piece.
use Rattle.std.proofs.Common.{◌≡◌, ℕ, suc, ◌+◌, ◌<◌, Bool, true, false, List, [], ◌∷◌, ◌++◌, length, take, drop, get_or, Option, Some, None, ◌==◌}
use Rattle.std.proofs.Common.{if◌then◌else◌, refl, sym, ap, ◌∙◌, append_assoc, append-nil, length-append, nat_le, drop-cons, arith}
use Rattle.std.proofs.lemmas.List.{take-append-drop, take_more}
use Rattle.std.proofs.lemmas.Bool.Decides.{nat_tests}
use Rattle.std.specs.Io.KnownBytes.{Consumes}
use Rattle.edge.specs.Told.{OnTold}
use Rattle.line_command.specs.declared.stream.Line.{Line}
use Rattle.line_command.specs.declared.stream.Line.TheVariants as line
use Rattle.line_command.specs.Line.{first_line, longest_line, IsTooLong}
use Rattle.line_command.specs.Streams.{HasNoLineEnd, EndsLineAt, IsLine, whole_line}

-- what has no line end stands before what follows
pub first_line-append : (a b : List ℕ) → HasNoLineEnd a → first_line (a ++ b) ≡ a ++ first_line b
first_line-append [] b h = refl
first_line-append (x ∷ a) b h = go (x == 10) h (first_line-append a b)
  where
    go : (t : Bool) → (if t then [] else x ∷ first_line a) ≡ x ∷ a → (HasNoLineEnd a → first_line (a ++ b) ≡ a ++ first_line b)
        → (if t then [] else x ∷ first_line (a ++ b)) ≡ x ∷ (a ++ first_line b)
    go true h more = cc h
    go false h more = let inner : HasNoLineEnd a = cc h in ap (λ l. x ∷ l) (more inner)

pub no_end_more : (a b : List ℕ) → HasNoLineEnd a → HasNoLineEnd b → HasNoLineEnd (a ++ b)
no_end_more a b h k = first_line-append a b h ∙ ap (λ l. a ++ l) k

-- a list at a place
parted : (n : ℕ) (xs : List ℕ) → n < length xs → xs ≡ take n xs ++ (get_or xs n 0 ∷ drop (suc n) xs)
parted n xs h = sym (take-append-drop n xs) ∙ ap (λ l. take n xs ++ l) (drop-cons xs n 0 h)

pub ends_at : (piece : List ℕ) (n : ℕ) → n < length piece → get_or piece n 0 ≡ 10 → HasNoLineEnd (take n piece) → EndsLineAt piece n
ends_at piece n h b open_ = (
  omega arith,
  λ more.
      ap (λ l. first_line (l ++ more)) (parted n piece h ∙ ap (λ x. take n piece ++ (x ∷ drop (suc n) piece)) b)
      ∙ (ap first_line (append_assoc (take n piece) (10 ∷ drop (suc n) piece) more)
      ∙ (first_line-append (take n piece) (10 ∷ (drop (suc n) piece ++ more)) open_ ∙ append-nil (take n piece))),
)

-- one byte more that is no line end
pub no_end_next : (piece : List ℕ) (n : ℕ) → n < length piece → (get_or piece n 0 ≡ 10 → ⊥) → HasNoLineEnd (take n piece) → HasNoLineEnd (take (n + 1) piece)
no_end_next piece n h other open_ = rw (take_more piece n 0 h) (no_end_more (take n piece) (get_or piece n 0 ∷ []) open_ (go (get_or piece n 0) other))
  where
    go : (b : ℕ) → (b ≡ 10 → ⊥) → HasNoLineEnd (b ∷ [])
    go b other = grind (arith, nat_tests)

-- the end was found in the next piece
line_found : (old mid new : Option (List ℕ)) (so_far piece : List ℕ) (n : ℕ) → Consumes old mid so_far → HasNoLineEnd so_far → Consumes mid new piece
    → EndsLineAt piece n → OnTold old (λ bytes. first_line bytes ≡ so_far ++ take n piece)
line_found None mid new so_far piece n taken open_ next ends =
    (so_far ++ (piece ++ []), tt, first_line-append so_far (piece ++ []) open_ ∙ ap (λ l. so_far ++ l) (ends.1 []))
line_found (Some xs) None new so_far piece n taken open_ next ends = absurd taken
line_found (Some xs) (Some ys) None so_far piece n taken open_ next ends = absurd next
line_found (Some xs) (Some ys) (Some zs) so_far piece n taken open_ next ends = (
  xs,
  refl,
  ap first_line (taken ∙ ap (λ l. so_far ++ l) next)
      ∙ (first_line-append so_far (piece ++ zs) open_ ∙ ap (λ l. so_far ++ l) (ends.1 zs)),
)

too_long_by : (old : Option (List ℕ)) (text : List ℕ) → longest_line < length text → OnTold old (λ bytes. first_line bytes ≡ text) → OnTold old IsTooLong
too_long_by old text long h = (h.0, h.1, rw h.2 long)

is_whole : (old new : Option (List ℕ)) (text : List ℕ) → OnTold old (λ bytes. first_line bytes ≡ text) → IsLine old new (whole_line text)
is_whole old new text h = go (nat_le (length text) longest_line) refl
  where
    go : (t : Bool) → nat_le (length text) longest_line ≡ t → IsLine old new (if t then line.Text text else line.TooLong)
    go true e = (grind (arith, nat_tests), h)
    go false e = too_long_by old text (grind (arith, nat_tests)) h

pub line_ends : (old mid new : Option (List ℕ)) (so_far piece text : List ℕ) (n : ℕ) (found : Line) → Consumes old mid so_far → HasNoLineEnd so_far
    → Consumes mid new piece → EndsLineAt piece n → text ≡ so_far ++ take n piece → found ≡ whole_line text → IsLine old new found
line_ends old mid new so_far piece text n found taken open_ next ends text_is is =
    rw (is, text_is) (is_whole old new (so_far ++ take n piece) (line_found old mid new so_far piece n taken open_ next ends))

-- no end was found, and the line is too long already
pub line_too_long : (old mid : Option (List ℕ)) (so_far : List ℕ) → Consumes old mid so_far → HasNoLineEnd so_far → longest_line < length so_far
    → OnTold old IsTooLong
line_too_long None mid so_far taken open_ long = (so_far, tt, rw open_ long)
line_too_long (Some xs) None so_far taken open_ long = absurd taken
line_too_long (Some xs) (Some ys) so_far taken open_ long =
    (xs, refl, rw (taken, first_line-append so_far ys open_) (omega (arith, length-append so_far (first_line ys))))
