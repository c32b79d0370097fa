-- A memory after another task's data space was given to it, and after one of its own was taken out.
use Rattle.std.proofs.Common.{◌≡◌, ◌+◌, ℕ, Bool, true, false, List, [], ◌∷◌, Option, None, refl, sym, ap, ◌∙◌, subst, true≢false}
use Rattle.std.specs.Prelude.{slice_get}
use Rattle.std.specs.Option.{is_some, unwrap_or}
use Rattle.task_numbers.specs.declared.number.SpaceNo.{SpaceNo}
use Rattle.eu_base.specs.declared.address.Area.{Area}
use Rattle.eu_base.specs.declared.address.Area.TheVariants.{Run, Packets, Space}
use Rattle.eu_base.specs.Cells.{Free, Cells, area_cell, same_area}
use Rattle.eu_base.specs.DataSpaces.{Head, Gets, Forgets, heads_by}
use Rattle.eu_base.specs.DataSpaces as data_spaces
use Rattle.eu_base.specs.SpaceCells.{value_cell, content_cells, cells_by}
use Rattle.eu_base.proofs.Heads.{append_heads}
use Rattle.eu_base.proofs.Places.{same_area_is}
use Rattle.space_memory.specs.Below.page_table.specs.Frames.{Over as Pages}
use Rattle.space_memory.specs.Below.page_table.specs.Frames.{content_at}
use Rattle.text_heap.specs.Held.{HoldsCells}
use Rattle.text_heap.proofs.Kept.{moved_held}
use Rattle.data_space.specs.Data.{SpaceData}
use Rattle.space_memory.specs.Live.{no_space, space_at, without}
use Rattle.space_memory.proofs.Roots.{keeps_none}
use Rattle.space_memory.specs.Memories.{MemoryData, HoldsAll, forgotten, head_of, memory_heads, is_there, space_in, bytes_in, roots, with_new}
use Rattle.space_memory.proofs.Changed.{own_there, other_there, at_push, push_at, forgot_held}

-- what is said of the data spaces then: of the one that comes, what is said of what stands in it
pub given_heads : (d : SpaceData) (content : data_spaces.Space) (m : MemoryData) → d.kind ≡ content.kind → d.shape ≡ content.shape
    → memory_heads (with_new d m) ≡ heads_by (Gets content) (memory_heads m)
given_heads d content m kind shape =
    ap (λ (l : List (ℕ × Head)). record (memory_heads m) { live = l; last = m.last + 1 }) (append_heads head_of m.spaces ((m.last + 1, d) ∷ []))
    ∙ ap (λ k. data_spaces.with_new (record { kind = k; shape = d.shape }) (memory_heads m)) kind
    ∙ ap (λ o. data_spaces.with_new (record { kind = content.kind; shape = o }) (memory_heads m)) shape

module _ (pages : Pages) (m : MemoryData) (d : SpaceData) (content : data_spaces.Space) (free : space_at (m.last + 1) m.spaces ≡ None)
    (holds : HoldsCells Run (content_at pages d.root) (λ at. value_cell (slice_get content.values at.cell))) where
  abbrev now : MemoryData
  now = with_new d m

  abbrev mine : Area
  mine = Space (record { 0 = m.last + 1 })

  area_same : (b : Area) → same_area b mine ≡ false → is_there b now ≡ is_there b m
  area_same Run apart = refl
  area_same Packets apart = refl
  area_same (Space s) apart = ap (λ (o : Option SpaceData). is_some o) (at_push s.0 (m.last + 1) d apart m.spaces)

  space_same : (b : Area) → same_area b mine ≡ false → space_in b now ≡ space_in b m
  space_same Run apart = refl
  space_same Packets apart = refl
  space_same (Space s) apart = ap (λ (o : Option SpaceData). unwrap_or o no_space) (at_push s.0 (m.last + 1) d apart m.spaces)

  mine_is : space_in mine now ≡ d
  mine_is = ap (λ (o : Option SpaceData). unwrap_or o no_space) (push_at (m.last + 1) d m.spaces free)

  mine_there : is_there mine now ≡ true
  mine_there = ap (λ (o : Option SpaceData). is_some o) (push_at (m.last + 1) d m.spaces free)

  -- its cells hold what stands in it, and those of the others what they held
  pub given_held : (cells : Cells) → HoldsAll pages m cells → HoldsAll pages now (cells_by (Gets content) (memory_heads m) cells)
  given_held cells h = record { knows = h.knows; there = λ b is. by b is (same_area b mine) refl; gone = λ b not k. none b not k (same_area b mine) refl }
    where
      like : (b : Area) (c : ℕ) → same_area b mine ≡ false → cells_by (Gets content) (memory_heads m) cells (area_cell b c) ≡ cells (area_cell b c)
      like b c apart = other_there mine b (content_cells content) cells c apart

      own : HoldsCells mine (content_at pages d.root) (cells_by (Gets content) (memory_heads m) cells)
      own =
          moved_held Run mine (content_at pages d.root) (λ at. value_cell (slice_get content.values at.cell)) (cells_by (Gets content) (memory_heads m) cells)
          (own_there mine (content_cells content) cells) holds

      by : (b : Area) → is_there b now ≡ true → (one : Bool) → same_area b mine ≡ one
          → HoldsCells b (bytes_in b pages now) (cells_by (Gets content) (memory_heads m) cells)
      by b is true e =
          subst (λ x. HoldsCells x (bytes_in x pages now) (cells_by (Gets content) (memory_heads m) cells)) (sym (same_area_is b mine e))
          (subst (λ (s : SpaceData). HoldsCells mine (content_at pages s.root) (cells_by (Gets content) (memory_heads m) cells)) (sym mine_is) own)
      by b is false e =
          let was : is_there b m ≡ true = sym (area_same b e) ∙ is in
          moved_held b b (bytes_in b pages now) cells (cells_by (Gets content) (memory_heads m) cells) (λ c. like b c e)
          (subst (λ (s : SpaceData). HoldsCells b (content_at pages s.root) cells) (sym (space_same b e)) (h.there b was))

      none : (b : Area) → is_there b now ≡ false → (k : ℕ) → (one : Bool) → same_area b mine ≡ one
          → cells_by (Gets content) (memory_heads m) cells (area_cell b k) ≡ Free
      none b not k true e =
          absurd (true≢false (sym mine_there ∙ ap (λ a. is_there a now) (sym (same_area_is b mine e)) ∙ not))
      none b not k false e = like b k e ∙ h.gone b (sym (area_same b e) ∙ not) k

-- after one was taken out, what is said and known is what it is after it was forgotten
pub taken_held : (pages : Pages) (m : MemoryData) (s : SpaceNo) → space_at s.0 (without s.0 m.spaces) ≡ None → (cells : Cells) → HoldsAll pages m cells
    → HoldsAll pages (forgotten s.0 m) (cells_by (Forgets s) (memory_heads m) cells)
taken_held pages m s free cells h = forgot_held pages pages m (forgotten s.0 m) s refl (keeps_none pages (roots (forgotten s.0 m))) free cells h
