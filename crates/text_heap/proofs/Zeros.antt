-- Texts in a space of zeros.
use Rattle.std.proofs.Common.{◌≡◌, ℕ, ◌+◌, ◌*◌, List, [], Option, Some, None, refl, sym, ap, ◌∙◌, arith}
use Rattle.eu_base.specs.Spaces.{Content}
use Rattle.cell_layout.specs.Layout.{cell_in}
use Rattle.cell_layout.proofs.Numbers.{same_cell}
use Rattle.text_heap.specs.Blocks.{block_at, used_in, chain, gather, blocks_of, length_in, first_in, text_in, times}
use Rattle.text_heap.specs.Texts.{Texts, part, Holds}
use Rattle.text_heap.proofs.Totals.{total_same, total_zero, times_none}
use Rattle.text_heap.proofs.Chained.{chain_none, gather_none}

zero_cell : (c : ℕ) → cell_in (λ n. 0) c ≡ 0
unfolding cell_in
zero_cell c = refl

module _ (content : Content) (zero : (n : ℕ) → content n ≡ 0) where
  length_zero : (c : ℕ) → length_in content c ≡ 0
  length_zero c = let z = same_cell (λ n. 0) content c (λ k low. zero (8 * c + k)) ∙ zero_cell c in omega (arith, z)

  text_none : (c : ℕ) → text_in content c ≡ []
  text_none c = ap (λ n. gather content (first_in content c) n (blocks_of n)) (length_zero c) ∙ gather_none content (first_in content c) 0

  part_none : (k c : ℕ) (o : Option (List ℕ)) → part content k c o ≡ 0
  part_none k c None = refl
  part_none k c (Some t) =
      ap (λ n. times k (chain content (first_in content c) (blocks_of n))) (length_zero c)
      ∙ ap (times k) (chain_none content (first_in content c)) ∙ times_none k

  free : (k : ℕ) → used_in content k ≡ 0
  free k = let a = zero (block_at k) in let b = zero (block_at k + 1) in omega (arith, a, b)

  pub zeros_hold : (texts : Texts) → ((c : ℕ) (t : List ℕ) → texts c ≡ Some t → t ≡ []) → Holds content texts
  zeros_hold texts none = record {
    each = λ c t low is. text_none c ∙ sym (none c t is);
    sound = λ k under.
        total_same (λ c. part content k c (texts c)) (λ c. 0) 16384 (λ c low. part_none k c (texts c)) ∙ total_zero 16384 ∙ sym (free k);
  }
