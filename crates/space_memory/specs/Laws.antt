-- What is known of the cells of all areas can be forgotten, and has room.
use Rattle.std.specs.Prelude.{◌≡◌, ◌&&◌, ◌==◌, ℕ, zero, suc, Bool, true, false, cond, ◌≤◌, [], refl}
use Rattle.std.proofs.Common.{sym, ap, ◌∙◌, subst, ⊎_elim, arith, true≢false}
use Rattle.eu_base.specs.declared.address.Area.{Area}
use Rattle.eu_base.specs.declared.address.Addr.{Addr}
use Rattle.eu_base.specs.Room.{most_blocks, total}
use Rattle.eu_base.specs.Cells.{Cell, Free, Word, Letters, Cells, IsCell, area_cell, same_area, written, cell_blocks, area_blocks, Within}
use Rattle.eu_base.proofs.Places.{same_area_is}
use Rattle.space_memory.specs.Below.page_table.specs.Frames.{Over as Pages}
use Rattle.text_heap.specs.Held.{HoldsCells}
use Rattle.text_heap.proofs.Kept.{other_held, fewer_held, empty_held, room_held}
use Rattle.space_memory.specs.Memories.{MemoryData, HoldsAll, is_there, bytes_in}

-- less may be known, the number 0 is also the text "", and all texts of an area have room
pub all_fewer : (pages : Pages) (memory : MemoryData) (cells fewer : Cells) → HoldsAll pages memory cells → Within fewer cells
    → HoldsAll pages memory fewer
all_fewer pages memory cells fewer h within = record {
  knows = h.knows;
  there = λ area is. fewer_held area (bytes_in area pages memory) cells fewer (h.there area is) within;
  gone = λ area not k.
      ⊎_elim (λ same. same ∙ h.gone area not k) (λ none. none.0) (within (area_cell area k));
}

-- an area that is there is none of those that are not
pub not_gone : (a b : Area) (memory : MemoryData) → same_area b a ≡ true → is_there a memory ≡ true → is_there b memory ≡ false → ⊥
not_gone a b memory same is not =
    true≢false (sym is ∙ sym (ap (λ (x : Area). is_there x memory) (same_area_is b a same)) ∙ not)

-- a cell of an area that is not there was not written
pub gone_still : (memory : MemoryData) (cells : Cells) (at : Addr) (x : Cell) (b : Area) (k : ℕ) → is_there at.area memory ≡ true
    → is_there b memory ≡ false → cells (area_cell b k) ≡ Free → written cells at x (area_cell b k) ≡ Free
gone_still memory cells at x b k is not free = by (same_area b at.area) refl
  where
    by : (same : Bool) → same_area b at.area ≡ same → cond (same && k == at.cell) x (cells (area_cell b k)) ≡ Free
    by true e = absurd (not_gone at.area b memory e is not)
    by false e = free

-- a word is known of a cell only where its area is there
pub word_is_there : (pages : Pages) (memory : MemoryData) (cells : Cells) (at : Addr) (n : ℕ) → HoldsAll pages memory cells → cells at ≡ Word n
    → is_there at.area memory ≡ true
word_is_there pages memory cells at n h is = by (is_there at.area memory) refl
  where
    by : (b : Bool) → is_there at.area memory ≡ b → b ≡ true
    by true e = refl
    by false e = let f : Word n ≡ Free = sym is ∙ h.gone at.area e at.cell in let g : ⊥ = cc in absurd g

pub all_empty : (pages : Pages) (memory : MemoryData) (cells : Cells) (at : Addr) → IsCell at → HoldsAll pages memory cells → cells at ≡ Word 0
    → HoldsAll pages memory (written cells at (Letters []))
all_empty pages memory cells at low h is = record {
  knows = h.knows;
  there = λ area there. by area there (same_area area at.area) refl;
  gone = λ area not k. gone_still memory cells at (Letters []) area k (word_is_there pages memory cells at 0 h is) not (h.gone area not k);
}
  where
    by : (area : Area) → is_there area memory ≡ true → (b : Bool) → same_area area at.area ≡ b
        → HoldsCells area (bytes_in area pages memory) (written cells at (Letters []))
    by area there true e =
        let own : at.area ≡ area = sym (same_area_is area at.area e) in
        let here : HoldsCells at.area (bytes_in area pages memory) cells = subst (λ x. HoldsCells x (bytes_in area pages memory) cells) (sym own) (h.there area there) in
        subst (λ x. HoldsCells x (bytes_in area pages memory) (written cells at (Letters []))) own (empty_held (bytes_in area pages memory) cells at low here is)
    by area there false e = other_held area (bytes_in area pages memory) cells at (Letters []) e (h.there area there)

none_in : (f : ℕ → ℕ) (n : ℕ) → ((k : ℕ) → f k ≡ 0) → total f n ≡ 0
unfolding total
none_in f zero none = refl
none_in f (suc n) none = omega (arith, none_in f n none, none n)

pub all_room : (pages : Pages) (memory : MemoryData) (area : Area) (cells : Cells) → HoldsAll pages memory cells → area_blocks area cells ≤ most_blocks
all_room pages memory area cells h = by (is_there area memory) refl
  where
    by : (b : Bool) → is_there area memory ≡ b → area_blocks area cells ≤ most_blocks
    by true e = room_held area (bytes_in area pages memory) cells (h.there area e)
    by false e =
        let none : area_blocks area cells ≡ 0 =
        none_in (λ k. cell_blocks (cells (area_cell area k))) 16384 (λ k. ap cell_blocks (h.gone area e k)) in
        omega (arith, none)
