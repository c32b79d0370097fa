-- What is known of the cells of all areas, as the space of one of them is read or changed.
use Rattle.std.proofs.Common.{◌≡◌, ℕ, ◌+◌, Bool, true, false, Some, List, refl, sym, ap, ◌∙◌, subst}
use Rattle.std.specs.Prelude.{Result, Ok, Err, IfOk, OnOk}
use Rattle.std.specs.Option.{IsSome}
use Rattle.eu_base.specs.declared.address.Area.{Area}
use Rattle.eu_base.specs.declared.address.Addr.{Addr}
use Rattle.eu_base.specs.declared.set.Set.{Set}
use Rattle.eu_base.specs.declared.set.Set.TheVariants.{Done, HeapFull}
use Rattle.eu_base.specs.Spaces.{Content}
use Rattle.eu_base.specs.Room.{most_blocks}
use Rattle.eu_base.specs.Cells.{Cell, Word, Letters, Cells, IsCell, area_cell, same_area, written, cell_blocks, area_blocks, HasText, Puts}
use Rattle.eu_base.proofs.Places.{same_area_is}
use Rattle.space_memory.specs.Below.page_table.specs.Frames.{Over as Pages, Knows}
use Rattle.cell_layout.specs.Layout.{cell_in, HoldsIn, IsKeptBut}
use Rattle.text_heap.specs.Texts.{Texts, Holds, Sets, KeepsCells}
use Rattle.text_heap.specs.Texts as heap
use Rattle.text_heap.specs.Held.{HoldsCells}
use Rattle.text_heap.proofs.Kept.{kept_held, other_held, word_held, text_held, text_read, rooms_left}
use Rattle.space_memory.specs.Memories.{MemoryData, HoldsAll, KeepsSpace, is_there, space_in, bytes_in}
use Rattle.space_memory.specs.Changes.{LeavesOthers}
use Rattle.space_memory.specs.Laws.{gone_still}

-- the free blocks of an area
pub blocks_left : (area a : Area) (pages : Pages) (memory : MemoryData) (rooms : ℕ) → a ≡ area → is_there area memory ≡ true
    → (Knows pages → (texts : Texts) → Holds (bytes_in area pages memory) texts → rooms + heap.blocks_in texts ≡ most_blocks) → (cells : Cells)
    → HoldsAll pages memory cells → rooms + area_blocks a cells ≡ most_blocks
blocks_left area a pages memory rooms is there left cells h =
    subst (λ x. rooms + area_blocks x cells ≡ most_blocks) (sym is)
    (rooms_left area (bytes_in area pages memory) cells rooms (left h.knows) (h.there area there))

-- what was read in the space of an area is what is known of the cell
module _ (area : Area) (pages : Pages) (memory : MemoryData) (there : is_there area memory ≡ true) (at : Addr) (own : at.area ≡ area) where
  pub number_known : {E : Type 0} (result : Result ℕ E) → IsCell at → IfOk result (λ number. Knows pages → number ≡ cell_in (bytes_in area pages memory) at.cell)
      → IfOk result (λ number. (cells : Cells) (n : ℕ) → HoldsAll pages memory cells → cells at ≡ Word n → number ≡ n)
  number_known (Ok number) low is = λ cells n h e.
      is h.knows ∙ (h.there area there).words at.cell n low (ap (λ x. cells (area_cell x at.cell)) (sym own) ∙ e)
  number_known (Err e) low is = tt

  pub text_known : {E : Type 0} (result : Result (List ℕ) E)
      → IfOk result (λ text. Knows pages → (texts : Texts) → Holds (bytes_in area pages memory) texts → IsSome (texts at.cell) → texts at.cell ≡ Some text)
      → IfOk result (λ text. (cells : Cells) (t : List ℕ) → HoldsAll pages memory cells → cells at ≡ Letters t → text ≡ t)
  text_known (Ok text) found = λ cells t h e.
      text_read (bytes_in area pages memory) cells at text t (found h.knows)
      (subst (λ x. HoldsCells x (bytes_in area pages memory) cells) (sym own) (h.there area there)) e
  text_known (Err e) found = tt

-- a call on the space of an area, which leaves those of the others as they were
module _ (area : Area) (old new : Pages) (before after : MemoryData) (is_here : is_there area before ≡ true) (leaves : LeavesOthers area old new before after) where
  abbrev was : Content
  was = bytes_in area old before

  abbrev now : Content
  now = bytes_in area new after

  was_there : (b : Area) → is_there b after ≡ true → is_there b before ≡ true
  was_there b is = sym (leaves.there b) ∙ is

  was_gone : (b : Area) → is_there b after ≡ false → is_there b before ≡ false
  was_gone b not = sym (leaves.there b) ∙ not

  -- of another area all is known still
  other_there : (cells : Cells) → HoldsAll old before cells → (b : Area) → same_area b area ≡ false → is_there b after ≡ true
      → HoldsCells b (bytes_in b new after) cells
  other_there cells h b apart is =
      kept_held b (bytes_in b old before) (bytes_in b new after) cells (leaves.others b apart (was_there b is)) (h.there b (was_there b is))

  -- where its bytes are as they were, all is known still
  pub known_still : KeepsSpace old new (space_in area before) (space_in area after) → (cells : Cells) → HoldsAll old before cells → HoldsAll new after cells
  known_still same cells h = record {
    knows = leaves.knows h.knows;
    there = λ b is. by b is (same_area b area) refl;
    gone = λ b not k. h.gone b (was_gone b not) k;
  }
    where
      by : (b : Area) → is_there b after ≡ true → (one : Bool) → same_area b area ≡ one → HoldsCells b (bytes_in b new after) cells
      by b is true e =
          subst (λ x. HoldsCells x (bytes_in x new after) cells) (sym (same_area_is b area e)) (kept_held area was now cells same (h.there area is_here))
      by b is false e = other_there cells h b e is

  pub still : {T E : Type 0} (result : Result T E) → OnOk result (KeepsSpace old new (space_in area before) (space_in area after))
      → OnOk result ((cells : Cells) → HoldsAll old before cells → HoldsAll new after cells)
  still (Ok x) same = known_still same
  still (Err e) same = tt

  module _ (at : Addr) (own : at.area ≡ area) (low : IsCell at) where
    -- something was put into one of its cells
    put_there : (cells : Cells) (x : Cell) → HoldsAll old before cells → HoldsCells at.area now (written cells at x) → HoldsAll new after (written cells at x)
    put_there cells x h here = record {
      knows = leaves.knows h.knows;
      there = λ b is. by b is (same_area b area) refl;
      gone = λ b not k.
          gone_still before cells at x b k (ap (λ a. is_there a before) own ∙ is_here) (was_gone b not) (h.gone b (was_gone b not) k);
    }
      where
        by : (b : Area) → is_there b after ≡ true → (one : Bool) → same_area b area ≡ one → HoldsCells b (bytes_in b new after) (written cells at x)
        by b is true e =
            subst (λ a. HoldsCells a (bytes_in a new after) (written cells at x)) (sym (same_area_is b area e))
            (subst (λ a. HoldsCells a now (written cells at x)) own here)
        by b is false e =
            other_held b (bytes_in b new after) cells at x (ap (same_area b) own ∙ e) (other_there cells h b e is)

    here_before : (cells : Cells) → HoldsAll old before cells → HoldsCells at.area was cells
    here_before cells h = subst (λ x. HoldsCells x was cells) (sym own) (h.there area is_here)

    pub number_put : {T E : Type 0} (result : Result T E) (n : ℕ) → OnOk result (Knows old → HoldsIn was now at.cell n) → (Knows old → IsKeptBut was now at.cell 1)
        → OnOk result ((cells : Cells) → HoldsAll old before cells → cell_blocks (cells at) ≡ 0 → HoldsAll new after (written cells at (Word n)))
    number_put (Ok x) n put kept = λ cells h none.
        put_there cells (Word n) h (word_held was now cells at n low (here_before cells h) none (put h.knows) (kept h.knows))
    number_put (Err e) n put kept = tt

    text_there : (t : List ℕ) (set : Set) → (Knows old → (texts : Texts) → Holds was texts → IsSome (texts at.cell) → Sets was now texts at.cell t set)
        → (Knows old → KeepsCells was now at.cell) → (cells : Cells) → HoldsAll old before cells → HasText (cells at) → Puts (HoldsAll new after) cells at t set
    text_there t set sets kept cells h has = by set (text_held was now cells at t set low (here_before cells h) has (sets h.knows) (kept h.knows))
      where
        same_bytes : HoldsCells at.area now cells → HoldsAll new after cells
        same_bytes here = record {
          knows = leaves.knows h.knows;
          there = λ b is. again b is (same_area b area) refl;
          gone = λ b not k. h.gone b (was_gone b not) k;
        }
          where
            again : (b : Area) → is_there b after ≡ true → (one : Bool) → same_area b area ≡ one → HoldsCells b (bytes_in b new after) cells
            again b is true e =
                subst (λ a. HoldsCells a (bytes_in a new after) cells) (sym (same_area_is b area e)) (subst (λ a. HoldsCells a now cells) own here)
            again b is false e = other_there cells h b e is

        by : (set : Set) → Puts (HoldsCells at.area now) cells at t set → Puts (HoldsAll new after) cells at t set
        by Done put = (put.0, put_there cells (Letters t) h put.1)
        by HeapFull put = (put.0, same_bytes put.1)

    pub text_put : {E : Type 0} (result : Result Set E) (t : List ℕ)
        → IfOk result (λ set. Knows old → (texts : Texts) → Holds was texts → IsSome (texts at.cell) → Sets was now texts at.cell t set)
        → OnOk result (Knows old → KeepsCells was now at.cell)
        → IfOk result (λ set. (cells : Cells) → HoldsAll old before cells → HasText (cells at) → Puts (HoldsAll new after) cells at t set)
    text_put (Ok set) t sets kept = text_there t set sets kept
    text_put (Err e) t sets kept = tt
