-- Blocks among bytes.
use Rattle.std.proofs.Common.{◌≡◌, ℕ, ◌+◌, ◌*◌, ◌<◌, ◌≤◌, List, ◌++◌, length, take, drop, sym, ◌∙◌, ap, arith, length-take}
use Rattle.std.proofs.lemmas.List.{drop-take}
use Rattle.std.proofs.lemmas.Slice.{take-put_mid_below}
use Rattle.std.proofs.Math.Seq.{take-append_seam, drop-append_seam}
use borrow.Rule.Slice.PartMut.{put_mid, post_of}
use Rattle.block_disk.specs.Runs.{block_of}

-- a block that was put at its place stands there
pub block_there : (k n : ℕ) (bytes block : List ℕ) → 512 * k ≤ length bytes → length block ≡ 512 → block_of k (put_mid (512 * k) n bytes block) ≡ block
block_there k n bytes block within long =
    let front : length (take (512 * k) bytes) ≡ 512 * k = simp length-take (omega (arith, within)) in
    let rest = post_of (512 * k) n bytes in
    ap (λ (m : ℕ). take 512 (drop m (take (512 * k) bytes ++ (block ++ rest)))) (sym front)
    ∙ ap (take 512) (drop-append_seam (take (512 * k) bytes) (block ++ rest))
    ∙ ap (λ (m : ℕ). take m (block ++ rest)) (sym long)
    ∙ take-append_seam block rest

-- and the blocks before it are as they were
pub block_before : (j k n : ℕ) (bytes block : List ℕ) → j < k → 512 * k ≤ length bytes → block_of j (put_mid (512 * k) n bytes block) ≡ block_of j bytes
block_before j k n bytes block before within =
    sym (drop-take (512 * j) 512 (put_mid (512 * k) n bytes block))
    ∙ ap (drop (512 * j)) (take-put_mid_below (512 * k) n bytes block (512 * j + 512) (omega (arith, before)) within)
    ∙ drop-take (512 * j) 512 bytes
