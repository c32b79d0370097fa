-- What the front of a buffer holds.
use Rattle.std.proofs.Common.{◌≡◌, ℕ, ◌+◌, ◌-◌, ◌≤◌, List, ◌++◌, length, take, drop, min, sym, ap, ◌∙◌, append_assoc, length-append, length-drop, arith}
use Rattle.std.proofs.lemmas.List.{length-take-le, take_at, take-append-drop, drop_min, drop-take}
use Rattle.std.proofs.lemmas.List.Edits.{take-paste}
use Rattle.std.specs.List.{copy_within}
use borrow.Rule.Slice.PartMut.{put_mid, post_of}
use lib.Seq.{paste}

-- a piece was put behind what is filled
pub filled_more : (bytes piece : List ℕ) (filled k count : ℕ) → filled ≤ length bytes → count ≤ length piece
    → take (filled + count) (put_mid filled k bytes piece) ≡ take filled bytes ++ take count piece
filled_more bytes piece filled k count within some =
    let front = take filled bytes ++ take count piece in
    let rest = drop count piece ++ post_of filled k bytes in
    let parts : put_mid filled k bytes piece ≡ front ++ rest =
    ap (λ l. take filled bytes ++ (l ++ post_of filled k bytes)) (sym (take-append-drop count piece))
    ∙ ap (λ l. take filled bytes ++ l) (append_assoc (take count piece) (drop count piece) (post_of filled k bytes))
    ∙ sym (append_assoc (take filled bytes) (take count piece) rest) in
    ap (take (filled + count)) parts
    ∙ take_at front rest (filled + count)
    (omega (arith, length-append (take filled bytes) (take count piece), length-take-le filled bytes within, length-take-le count piece some))

-- a front of what is filled was let go
pub filled_less : (bytes moved : List ℕ) (filled count n : ℕ) → filled ≤ length bytes → n ≡ min count filled → moved ≡ copy_within bytes n filled 0
    → take (filled - n) moved ≡ drop count (take filled bytes)
filled_less bytes moved filled count n within is copied =
    let left = filled - n in
    let sum : n + left ≡ filled = omega (arith, is) in
    let same : left ≡ 0 + left = omega arith in
    let some : left ≤ length (drop n bytes) = omega (arith, within, length-drop n bytes) in
    ap (take left) copied ∙ ap (λ k. take k (paste bytes 0 (drop n bytes) left)) same ∙ take-paste bytes 0 (drop n bytes) left (omega arith) some
    ∙ sym (drop-take n left bytes) ∙ ap (λ k. drop n (take k bytes)) sum
    ∙ ap (λ k. drop k (take filled bytes)) (is ∙ ap (min count) (sym (length-take-le filled bytes within)))
    ∙ drop_min count (take filled bytes)
