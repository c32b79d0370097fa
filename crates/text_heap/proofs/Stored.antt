-- What a space holds after a text was stored.
use Rattle.std.proofs.Common.{◌≡◌, ◌≢◌, ℕ, zero, suc, ◌+◌, ◌-◌, ◌*◌, ◌/◌, ◌%◌, ◌<◌, ◌≤◌, min, true, false, cond, ◌==◌, List, length, Option, Some, None}
use Rattle.std.proofs.Common.{inr, refl, sym, ap, ◌∙◌, arith, ⊎_elim}
use Rattle.std.specs.Option.{IsSome}
use Rattle.std.proofs.lemmas.Bool.{cases_lt}
use Rattle.std.proofs.lemmas.Bool.Decides.{eqb_tells}
use Rattle.eu_base.specs.Spaces.{Content}
use Rattle.cell_layout.specs.Layout.{cell_in, HoldsIn, IsKeptBut}
use Rattle.cell_layout.proofs.Numbers.{same_cell}
use Rattle.text_heap.specs.Blocks.{block_at, used_in, chain, gather, blocks_of, length_in, first_in, chain_in, text_in, times, total, free_in}
use Rattle.text_heap.specs.Chains.{Filled, SameBlock}
use Rattle.text_heap.specs.Texts.{Texts, stored, size_of, blocks_in, part, Holds}
use Rattle.text_heap.proofs.Totals.{total_none, total_more, total_same, total_add, total_zero, total_but, total_turned, total_times, one_of, two_of, times_past}
use Rattle.text_heap.proofs.Chained.{SameAlong, chain_same, chain_long, chain_below, gather_same, gather_long, same_used}
use Rattle.text_heap.proofs.Freed.{Freed}

some_is : {A : Type 0} (a b : A) → Some a ≡ Some b → a ≡ b
some_is a b e = cc

-- the cells of a space
cell_same : (before now : Content) → ((n : ℕ) → n < 131072 → now n ≡ before n) → (c : ℕ) → c < 16384 → cell_in now c ≡ cell_in before c
cell_same before now same c low = same_cell before now c (λ k h. same (8 * c + k) (omega (arith, low, h)))

text_of_cell : (before now : Content) (c : ℕ) → cell_in now c ≡ cell_in before c
    → SameAlong before now (first_in before c) (blocks_of (length_in before c)) → text_in now c ≡ text_in before c
text_of_cell before now c e along =
    ap (λ n. gather now (n / 4294967296 % 4096) (min (n % 4294967296) 114688) (blocks_of (min (n % 4294967296) 114688))) e
    ∙ gather_same before now (first_in before c) (length_in before c) (blocks_of (length_in before c)) along

chain_of_cell : (before now : Content) (c : ℕ) → cell_in now c ≡ cell_in before c
    → SameAlong before now (first_in before c) (blocks_of (length_in before c)) → chain_in now c ≡ chain_in before c
chain_of_cell before now c e along =
    ap (λ n. chain now (n / 4294967296 % 4096) (blocks_of (min (n % 4294967296) 114688))) e
    ∙ chain_same before now (first_in before c) (blocks_of (length_in before c)) along

module _ (before : Content) (texts : Texts) (h : Holds before texts) (cell : ℕ) (u : List ℕ) (low : cell < 16384) (is : texts cell ≡ Some u) where
  not_it : (c : ℕ) → c ≢ cell → (c == cell) ≡ false
  not_it c ne = ⊎_elim (λ t. absurd (ne t.1)) (λ t. t.0) (eqb_tells c cell)

  it : (c : ℕ) → c ≡ cell → (c == cell) ≡ true
  it c e = ⊎_elim (λ t. t.0) (λ t. absurd (t.1 e)) (eqb_tells c cell)

  here : (j : ℕ) → part before j cell (texts cell) ≡ times j (chain_in before cell)
  here j = ap (part before j cell) is

  blocks_low : (c j : ℕ) → 4096 ≤ j → times j (chain_in before c) ≡ 0
  blocks_low c j past = times_past (chain_in before c) 4096 j (chain_below before (first_in before c) (blocks_of (length_in before c)) (omega arith)) past

  -- the blocks of its text are used, each once
  pub once : (j : ℕ) → times j (chain_in before cell) ≤ used_in before j
  once j = ⊎_elim
      (λ lt. let a = one_of (λ c. part before j c (texts c)) cell 16384 low in let b = h.sound j lt in let c = here j in omega (arith, a, b, c))
      (λ past. let a = blocks_low cell j past in omega (arith, a))
      (cases_lt j 4096)

  -- the length of the text that stands in a cell
  pub length_is : (c : ℕ) (t : List ℕ) → c < 16384 → texts c ≡ Some t → length_in before c ≡ length t
  length_is c t lt e =
      sym (gather_long before (first_in before c) (length_in before c) (blocks_of (length_in before c)) (omega arith)) ∙ ap length (h.each c t lt e)

  pub sizes : (t : List ℕ) → blocks_in (stored texts cell t) + blocks_of (length_in before cell) ≡ blocks_in texts + blocks_of (length t)
  sizes t =
      let other : (c : ℕ) → c < 16384 → c ≢ cell → size_of (stored texts cell t c) ≡ size_of (texts c) =
      λ c lt ne. ap (λ b. size_of (cond b (Some t) (texts c))) (not_it c ne) in
      let a = total_but (λ c. size_of (stored texts cell t c)) (λ c. size_of (texts c)) cell 16384 low other in
      let b : size_of (stored texts cell t cell) ≡ blocks_of (length t) = ap (λ b. size_of (cond b (Some t) (texts cell))) (it cell refl) in
      let c : size_of (texts cell) ≡ blocks_of (length_in before cell) = ap size_of is ∙ ap blocks_of (sym (length_is cell u low is)) in
      omega (arith, a, b, c)

  module _ (middle spread now : Content) (t : List ℕ) (first : ℕ) (f : Freed before middle (chain_in before cell))
      (g : Filled middle spread first t) (first_low : first < 4096) (few : length t ≤ 114688)
      (put : HoldsIn spread now cell (length t + 4294967296 * first)) (kept : IsKeptBut spread now cell 1) where
    put_same : (j : ℕ) → SameBlock spread now j
    put_same j off in_it read = kept (block_at j + off) (inr (omega (arith, low)))

    -- the text of another cell
    other_cell : (d : ℕ) → d < 16384 → d ≢ cell → cell_in now d ≡ cell_in before d
    other_cell d lt ne =
        put d ∙ ap (λ b. cond b (length t + 4294967296 * first) (cell_in spread d)) (not_it d ne)
        ∙ cell_same middle spread g.cells d lt ∙ cell_same before middle f.cells d lt

    other_blocks : (d : ℕ) (v : List ℕ) → d < 16384 → d ≢ cell → texts d ≡ Some v → SameAlong before now (first_in before d) (blocks_of (length_in before d))
    other_blocks d v lt ne v_is j among =
        let under : j < 4096 = ⊎_elim (λ l. l) (λ past. let z = blocks_low d j past in absurd (omega (arith, z, among))) (cases_lt j 4096) in
        let both = two_of (λ c. part before j c (texts c)) cell d 16384 low lt (λ e. ne (sym e)) in
        let sound = h.sound j under in
        let a = here j in
        let b : part before j d (texts d) ≡ times j (chain_in before d) = ap (part before j d) v_is in
        let old_free : times j (chain_in before cell) ≡ 0 = omega (arith, both, sound, a, b, among) in
        let u1 = f.used j in
        let u2 = g.used j in
        let new_free : times j (chain spread first (blocks_of (length t))) ≡ 0 = omega (arith, u1, u2, old_free, both, sound, a, b, among) in
        λ off in_it read. put_same j off in_it read ∙ g.same j new_free off in_it read ∙ f.same j old_free off in_it read

    -- the text of this cell
    number : cell_in now cell ≡ length t + 4294967296 * first
    number = put cell ∙ ap (λ b. cond b (length t + 4294967296 * first) (cell_in spread cell)) (it cell refl)

    length_now : length_in now cell ≡ length t
    length_now = let n = number in omega (arith, n, few, first_low)

    first_now : first_in now cell ≡ first
    first_now = let n = number in omega (arith, n, few, first_low)

    text_now : text_in now cell ≡ t
    text_now =
        ap (λ k. gather now k (length_in now cell) (blocks_of (length_in now cell))) first_now
        ∙ ap (λ m. gather now first m (blocks_of m)) length_now
        ∙ gather_same spread now first (length t) (blocks_of (length t)) (λ j among. put_same j)
        ∙ g.text

    chain_now : chain_in now cell ≡ chain spread first (blocks_of (length t))
    chain_now =
        ap (λ k. chain now k (blocks_of (length_in now cell))) first_now
        ∙ ap (λ m. chain now first (blocks_of m)) length_now
        ∙ chain_same spread now first (blocks_of (length t)) (λ j among. put_same j)

    part_same : (j d : ℕ) (o : Option (List ℕ)) → d < 16384 → d ≢ cell → texts d ≡ o → part now j d o ≡ part before j d o
    part_same j d None lt ne o_is = refl
    part_same j d (Some v) lt ne o_is = ap (times j) (chain_of_cell before now d (other_cell d lt ne) (other_blocks d v lt ne o_is))

    pub stores : Holds now (stored texts cell t)
    stores = record {
      each = λ d v lt v_is. ⊎_elim
          (λ e.
          let same : t ≡ v = some_is t v (sym (ap (λ b. cond b (Some t) (texts d)) e.0) ∙ v_is) in
          ap (text_in now) e.1 ∙ text_now ∙ same)
          (λ e.
          let old : texts d ≡ Some v = sym (ap (λ b. cond b (Some t) (texts d)) e.0) ∙ v_is in
          text_of_cell before now d (other_cell d lt e.1) (other_blocks d v lt e.1 old) ∙ h.each d v lt old)
          (eqb_tells d cell);
      sound = λ j under.
          let a = total_but (λ c. part now j c (stored texts cell t c)) (λ c. part before j c (texts c)) cell 16384 low (λ d lt ne.
          ap (λ b. part now j d (cond b (Some t) (texts d))) (not_it d ne) ∙ part_same j d (texts d) lt ne refl) in
          let b = h.sound j under in
          let c = here j in
          let d : part now j cell (stored texts cell t cell) ≡ times j (chain spread first (blocks_of (length t))) =
          ap (λ b. part now j cell (cond b (Some t) (texts cell))) (it cell refl) ∙ ap (times j) chain_now in
          let u1 = f.used j in
          let u2 = g.used j in
          let u3 = same_used spread now j (put_same j) in
          omega (arith, a, b, c, d, u1, u2, u3);
    }

-- the text that was read is the one that stands in the cell
pub found : (content : Content) (texts : Texts) (cell : ℕ) (t : List ℕ) → cell < 16384 → t ≡ text_in content cell
    → Holds content texts → IsSome (texts cell) → texts cell ≡ Some t
found content texts cell t low is h some = by (texts cell) refl some
  where
    by : (o : Option (List ℕ)) → texts cell ≡ o → IsSome o → o ≡ Some t
    by None e none = let f : ⊥ = cc in absurd f
    by (Some u) e there = ap Some (sym (h.each cell u low e) ∙ sym is)

-- used and free blocks
total_ones : (n : ℕ) → total (λ k. 1) n ≡ n
total_ones zero = total_none (λ k. 1)
total_ones (suc n) = let a = total_more (λ k. 1) n in let b = total_ones n in omega (arith, a, b)

pub free_and_used : (content : Content) (n : ℕ) → free_in content n + total (used_in content) n ≡ n
free_and_used content n =
    sym (total_add (λ k. 1 - used_in content k) (used_in content) n)
    ∙ total_same (λ k. 1 - used_in content k + used_in content k) (λ k. 1) n (λ k lt. omega arith) ∙ total_ones n

part_total : (content : Content) (texts : Texts) (c : ℕ) (o : Option (List ℕ)) → Holds content texts → c < 16384 → texts c ≡ o
    → total (λ k. part content k c o) 4096 ≡ size_of o
part_total content texts c None h low is = total_zero 4096
part_total content texts c (Some t) h low is =
    total_times (chain_in content c) 4096 (chain_below content (first_in content c) (blocks_of (length_in content c)) (omega arith))
    ∙ chain_long content (first_in content c) (blocks_of (length_in content c))
    ∙ ap blocks_of (length_is content texts h c t low is c t low is)

pub room : (content : Content) (texts : Texts) → Holds content texts → free_in content 4096 + blocks_in texts ≡ 4096
room content texts h =
    let a = free_and_used content 4096 in
    let b : total (used_in content) 4096 ≡ blocks_in texts =
    sym (total_same (λ k. total (λ c. part content k c (texts c)) 16384) (used_in content) 4096 h.sound)
    ∙ total_turned (λ k c. part content k c (texts c)) 16384 4096
    ∙ total_same (λ c. total (λ k. part content k c (texts c)) 4096) (λ c. size_of (texts c)) 16384 (λ c lt. part_total content texts c (texts c) h lt refl) in
    omega (arith, a, b)

-- the blocks of a chain are free after it was freed
pub freed_room : (before now : Content) (first n : ℕ) → first < 4096 → Freed before now (chain before first n) → free_in now 4096 ≡ free_in before 4096 + n
freed_room before now first n low f =
    let a = total_same (λ k. 1 - used_in now k) (λ k. 1 - used_in before k + times k (chain before first n)) 4096 (λ k lt.
    let u = f.used k in omega (arith, u)) in
    let b = total_add (λ k. 1 - used_in before k) (λ k. times k (chain before first n)) 4096 in
    let c = total_times (chain before first n) 4096 (chain_below before first n low) in
    let d = chain_long before first n in
    omega (arith, a, b, c, d)
