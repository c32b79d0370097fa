-- What `set` and `clear` come to.
use Rattle.std.proofs.Common.{◌≡◌, ℕ, zero, suc, ◌+◌, ◌*◌, ◌<◌, ◌≤◌, List, [], length, Option, Some, None}
use Rattle.std.proofs.Common.{inl, inr, refl, sym, ap, ◌∙◌, subst, arith, ⊎_elim}
use Rattle.std.specs.Option.{IsSome}
use Rattle.eu_base.specs.Spaces.{Content}
use Rattle.eu_base.specs.declared.set.Set.{Set}
use Rattle.eu_base.specs.declared.set.Set.TheVariants.{Done, HeapFull}
use Rattle.cell_layout.specs.Layout.{HoldsIn, IsKeptBut}
use Rattle.text_heap.specs.Blocks.{hint_at, next_in, blocks_of, length_in, first_in, chain_in, free_in, KeptBut}
use Rattle.text_heap.specs.Chains.{Releases, Filled}
use Rattle.text_heap.specs.Texts.{Texts, stored, blocks_in, Holds, Sets, KeepsCells}
use Rattle.text_heap.proofs.Freed.{Freed, freed, cells_kept}
use Rattle.text_heap.proofs.Stored.{once, sizes, stores, room, freed_room, free_and_used}

some_of : (o : Option (List ℕ)) → IsSome o → (u : List ℕ) × (o ≡ Some u)
some_of None h = let f : ⊥ = cc in absurd f
some_of (Some u) h = (u, refl)

-- no byte of the cells changes where blocks are freed
released_cells : (n : ℕ) (before now : Content) (k : ℕ) → Releases before now k n → (m : ℕ) → m < 131072 → now m ≡ before m
unfolding Releases
released_cells zero before now k h m low = ap (λ (c : Content). c m) h
released_cells (suc n) before now k h m low = released_cells n h.0 now (next_in before k) h.1.1 m low ∙ cells_kept before h.0 k 2 m h.1.0.kept low

-- the blocks of the text in a cell were freed
pub record Released (before middle : Content) (cell first had : ℕ) : Type 0 where
  pub first_is : first ≡ first_in before cell
  pub had_is : had ≡ blocks_of (length_in before cell)
  pub releases : Releases before middle first had

-- no byte of a cell is one of the hint
pub hint_cells : (before now : Content) → KeptBut before now hint_at 2 → (n : ℕ) → n < 131072 → now n ≡ before n
hint_cells before now kept n low = kept n (inl (omega (arith, low)))

-- no byte of another cell changed, where cells stay as the text is put into blocks, and where nothing is put into the cell
pub keeps_cells : (before middle spread now : Content) (cell first had : ℕ) → Released before middle cell first had
    → ((n : ℕ) → n < 131072 → spread n ≡ middle n) → IsKeptBut spread now cell 1 → KeepsCells before now cell
keeps_cells before middle spread now cell first had r same kept n low out =
    kept n (⊎_elim (λ l. inl l) (λ g. inr (omega (arith, g))) out) ∙ same n low ∙ released_cells had before middle first r.releases n low

pub keeps_all : (before middle spread : Content) (cell first had : ℕ) → Released before middle cell first had
    → ((n : ℕ) → n < 131072 → spread n ≡ middle n) → KeepsCells before spread cell
keeps_all before middle spread cell first had r same n low out = same n low ∙ released_cells had before middle first r.releases n low

module _ (before : Content) (texts : Texts) (h : Holds before texts) (cell : ℕ) (low : cell < 16384) (some : IsSome (texts cell)) where
  -- where it has no room
  pub full : (t : List ℕ) (had : ℕ) → had ≡ blocks_of (length_in before cell) → free_in before 4096 + had < blocks_of (length t)
      → 4096 < blocks_in (stored texts cell t)
  full t had is lt =
      let u = some_of (texts cell) some in
      let a = room before texts h in
      let b = sizes before texts h cell u.0 low u.1 t in
      omega (arith, a, b, is, lt)

  -- where it has room
  pub fits : (t : List ℕ) (had : ℕ) → had ≡ blocks_of (length_in before cell) → blocks_of (length t) ≤ free_in before 4096 + had
      → blocks_in (stored texts cell t) ≤ 4096
  fits t had is le =
      let u = some_of (texts cell) some in
      let a = room before texts h in
      let b = sizes before texts h cell u.0 low u.1 t in
      omega (arith, a, b, is, le)

  -- where all texts have room, it does
  pub has_room : (t : List ℕ) (had : ℕ) → had ≡ blocks_of (length_in before cell) → blocks_in (stored texts cell t) ≤ 4096
      → blocks_of (length t) ≤ free_in before 4096 + had
  has_room t had is few =
      let u = some_of (texts cell) some in
      let a = room before texts h in
      let b = sizes before texts h cell u.0 low u.1 t in
      omega (arith, a, b, is, few)

  freed_here : (middle : Content) (first had : ℕ) → Released before middle cell first had → Freed before middle (chain_in before cell)
  freed_here middle first had r =
      let u = some_of (texts cell) some in
      let n = blocks_of (length_in before cell) in
      freed n before middle (first_in before cell) (once before texts h cell u.0 low u.1)
      (subst (λ k. Releases before middle k n) r.first_is (subst (Releases before middle first) r.had_is r.releases))

  free_then : (middle : Content) (first had : ℕ) → Released before middle cell first had → free_in middle 4096 ≡ free_in before 4096 + had
  free_then middle first had r =
      let a = freed_room before middle (first_in before cell) (blocks_of (length_in before cell)) (omega arith) (freed_here middle first had r) in
      a ∙ ap (λ n. free_in before 4096 + n) (sym r.had_is)

  -- a text that has room finds blocks
  pub never_full : (middle : Content) (t : List ℕ) (first had : ℕ) → Released before middle cell first had
      → blocks_of (length t) ≤ free_in before 4096 + had → free_in middle 4096 < blocks_of (length t) → ⊥
  never_full middle t first had r le lt = let e = free_then middle first had r in omega (arith, e, le, lt)

  -- and is stored in them
  pub sets : (middle spread now : Content) (t : List ℕ) (first had new : ℕ) → Released before middle cell first had
      → blocks_of (length t) ≤ free_in before 4096 + had → new < 4096 → Filled middle spread new t
      → HoldsIn spread now cell (length t + 4294967296 * new) → IsKeptBut spread now cell 1
      → (blocks_in (stored texts cell t) ≤ 4096) × Holds now (stored texts cell t)
  sets middle spread now t first had new r le new_low f put kept =
      let u = some_of (texts cell) some in
      let room_is = fits t had r.had_is le in
      let all = sizes before texts h cell u.0 low u.1 t in
      let held = room before texts h in
      let few : blocks_of (length t) ≤ 4096 = omega (arith, free_le, free_then middle first had r, le) in (
        room_is,
        stores before texts h cell u.0 low u.1 middle spread now t new (freed_here middle first had r) f new_low (omega (arith, few))
            put kept,
      )
    where
      free_le : free_in middle 4096 ≤ 4096
      free_le = let a = free_and_used middle 4096 in omega (arith, a)

  -- the text "" has room
  pub empty_fits : blocks_in (stored texts cell []) ≤ 4096
  empty_fits =
      let u = some_of (texts cell) some in
      let a = room before texts h in
      let b = sizes before texts h cell u.0 low u.1 [] in
      omega (arith, a, b)

-- a text that has room was stored
pub was_stored : (before now : Content) (texts : Texts) (cell : ℕ) (t : List ℕ) (set : Set) → blocks_in (stored texts cell t) ≤ 4096
    → Sets before now texts cell t set → Holds now (stored texts cell t)
was_stored before now texts cell t Done few is = is.1
was_stored before now texts cell t HeapFull few is = absurd (omega (arith, is.0, few))
