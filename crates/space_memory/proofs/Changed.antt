-- A memory after data spaces came, went or got a shape: what is said of them, and what is known of the cells.
use Rattle.std.proofs.Common.{◌≡◌, ◌+◌, ◌<◌, ◌≤◌, ℕ, ℤ, Bool, true, false, cond, nat_eq, eq-eqb, List, [], ◌∷◌, ◌++◌, length, Option, None, Some, inl, inr, refl, sym, ap, ◌∙◌, subst, arith, true≢false}
use Rattle.std.specs.Prelude.{slice_get, get_or, IfSome, Result, Ok, Err, OnOk, OnErr}
use Rattle.std.specs.Option.{is_some, unwrap_or}
use Rattle.std.proofs.lemmas.Option.{slice_get-get_or, slice_get_past}
use Rattle.task_numbers.specs.declared.number.SpaceNo.{SpaceNo}
use Rattle.eu_base.specs.declared.address.Area.{Area}
use Rattle.eu_base.specs.declared.address.Area.TheVariants.{Run, Packets, Space}
use Rattle.eu_base.specs.declared.value.Kind.{Kind}
use Rattle.eu_base.specs.declared.value.Kind.TheVariants as kinds
use Rattle.eu_base.specs.declared.shape.Shape.{Shape}
use Rattle.eu_base.specs.Shapes.{cell_count, cell_kinds}
use Rattle.eu_base.specs.Values.{blank_of, cell_of}
use Rattle.eu_base.specs.Cells.{Cell, Free, Cells, AreBare, held_of, area_cell, space_cell, same_area}
use Rattle.eu_base.specs.DataSpaces.{Head, Heads, heads_in, Makes, Forgets, SetsKind, Fills, heads_by, head_from, no_head, the_head, next_number}
use Rattle.eu_base.specs.DataSpaces as data_spaces
use Rattle.eu_base.specs.SpaceCells.{with_area, cells_from, blank_or, blank_cells, cells_by}
use Rattle.eu_base.proofs.Heads.{append_heads, remove_head, set_head, head_there, live_there, long_heads}
use Rattle.eu_base.proofs.Places.{same_area_is, same_area_self}
use Rattle.space_memory.specs.Below.page_table.specs.Frames.{Over as Pages, Knows}
use Rattle.space_memory.specs.Below.page_table.specs.Frames.{content_at}
use Rattle.cell_layout.specs.Layout.{cell_in}
use Rattle.cell_layout.proofs.Counts.{kinds_counted}
use Rattle.text_heap.specs.Held.{HoldsCells}
use Rattle.text_heap.proofs.Kept.{kept_held, moved_held, IsBlankCell, blank_held}
use Rattle.data_space.specs.Data.{SpaceData}
use Rattle.space_memory.specs.Kept.{KeepsBytes, IsFilled}
use Rattle.space_memory.specs.Live.{no_space, space_at, IsLive, the_space, without, with_space, space_roots}
use Rattle.space_memory.specs.Memories.{MemoryData, HoldsAll, KeepsSpace, changed, forgotten, head_of, memory_heads, is_there, space_in, bytes_in, roots, most_roots, source, with_new}
use Rattle.space_memory.specs.Changes.{LeavesOthers}
use Rattle.space_memory.proofs.Numbers.{with_is}
use Rattle.space_memory.proofs.Roots.{keeps_none}
use Rattle.space_memory.proofs.Areas.{root_among, at_without, same_bytes, same_long, leaves_others}
use Rattle.space_memory.proofs.Framed.{roots_long}
use Rattle.space_memory.proofs.Held.{known_still}
use Rattle.space_memory.proofs.Led.{without_long}
use Rattle.std.proofs.lemmas.List.{length-append}
use Rattle.space_memory.proofs.Fresh.{nothing_held}

-- ---- what is said of the data spaces

pub head_is : (s : SpaceNo) (m : MemoryData) → the_head s (memory_heads m) ≡ head_of (the_space s.0 m.spaces)
head_is s m = head_there head_of no_space no_head refl s.0 m.spaces

source_head : (from : Option SpaceNo) (m : MemoryData) → head_of (source from m) ≡ head_from from (memory_heads m)
source_head None m = refl
source_head (Some s) m = sym (head_is s m)

pub made_heads : (from : Option SpaceNo) (m : MemoryData) → memory_heads (with_new (source from m) m) ≡ heads_by (Makes from) (memory_heads m)
made_heads from m =
    ap (λ (l : List (ℕ × Head)). record (memory_heads m) { live = l; last = m.last + 1 }) (append_heads head_of m.spaces ((m.last + 1, source from m) ∷ []))
    ∙ ap (λ (h : Head). data_spaces.with_new h (memory_heads m)) (source_head from m)

pub forgot_heads : (s : SpaceNo) (m : MemoryData) → memory_heads (forgotten s.0 m) ≡ heads_by (Forgets s) (memory_heads m)
forgot_heads s m =
    ap (λ (l : List (ℕ × Head)). record (memory_heads (forgotten s.0 m)) { live = l }) (remove_head head_of (nat_eq s.0) m.spaces)

other_head : (s : SpaceNo) (w : SpaceData) (h : Head) (m : MemoryData) → head_of w ≡ h
    → memory_heads (changed s.0 w m) ≡ data_spaces.with_other s h (memory_heads m)
other_head s w h m is =
    ap (λ (l : List (ℕ × Head)). record (memory_heads m) { live = l }) (set_head head_of (nat_eq s.0) m.spaces w)
    ∙ ap (λ (g : Head). data_spaces.with_other s g (memory_heads m)) is

pub kind_heads : (s : SpaceNo) (z : ℤ) (m : MemoryData)
    → memory_heads (changed s.0 (record (the_space s.0 m.spaces) { kind = z }) m) ≡ heads_by (SetsKind s z) (memory_heads m)
kind_heads s z m =
    other_head s (record (the_space s.0 m.spaces) { kind = z }) (record (the_head s (memory_heads m)) { kind = z }) m
    (ap (λ (h : Head). record h { kind = z }) (sym (head_is s m)))

pub filled_heads : (s : SpaceNo) (shape : Shape) (old new : Pages) (m n : MemoryData) → n ≡ changed s.0 (the_space s.0 n.spaces) m
    → IsFilled old new shape (the_space s.0 m.spaces) (the_space s.0 n.spaces) → memory_heads n ≡ heads_by (Fills s shape) (memory_heads m)
filled_heads s shape old new m n is filled =
    ap memory_heads is
    ∙ other_head s (the_space s.0 n.spaces) (record (the_head s (memory_heads m)) { shape = Some shape }) m
    (ap (λ k. record { kind = k; shape = (the_space s.0 n.spaces).shape }) filled.kind
    ∙ ap (λ o. record { kind = (the_space s.0 m.spaces).kind; shape = o }) filled.shaped
    ∙ ap (λ (h : Head). record h { shape = Some shape }) (sym (head_is s m)))

-- ---- what is known of the cells

-- the cells of an area that were put by others, and those of another area
pub own_there : (area : Area) (own : ℕ → Cell) (cells : Cells) (c : ℕ) → with_area area own cells (area_cell area c) ≡ own c
own_there area own cells c = ap (λ (b : Bool). cond b (own c) (cells (area_cell area c))) (same_area_self area)

pub other_there : (area b : Area) (own : ℕ → Cell) (cells : Cells) (c : ℕ) → same_area b area ≡ false
    → with_area area own cells (area_cell b c) ≡ cells (area_cell b c)
other_there area b own cells c apart = ap (λ (t : Bool). cond t (own c) (cells (area_cell b c))) apart

-- another number leads to the same space where one comes, and the new number to the new one
pub at_push : (n k : ℕ) (d : SpaceData) → nat_eq n k ≡ false → (es : List (ℕ × SpaceData)) → space_at n (es ++ (k, d) ∷ []) ≡ space_at n es
at_push n k d apart [] = ap (λ (b : Bool). cond b (Some d) None) apart
at_push n k d apart (e ∷ es) = ap (cond (nat_eq n e.0) (Some e.1)) (at_push n k d apart es)

pub push_at : (k : ℕ) (d : SpaceData) (es : List (ℕ × SpaceData)) → space_at k es ≡ None → space_at k (es ++ (k, d) ∷ []) ≡ Some d
push_at k d [] free = ap (λ (b : Bool). cond b (Some d) None) (eq-eqb k k refl)
push_at k d (e ∷ es) free = by (nat_eq k e.0) refl free (push_at k d es)
  where
    by : (b : Bool) → nat_eq k e.0 ≡ b → cond b (Some e.1) (space_at k es) ≡ None → (space_at k es ≡ None → space_at k (es ++ (k, d) ∷ []) ≡ Some d)
        → cond b (Some e.1) (space_at k (es ++ (k, d) ∷ [])) ≡ Some d
    by true same free rest = let f : ⊥ = cc in absurd f
    by false other free rest = rest free

-- a space more
module _ (old new : Pages) (m : MemoryData) (from : Option SpaceNo) (live : IfSome from (λ s. IsLive s.0 m.spaces))
    (keeps : KeepsBytes old new (roots m)) (free : space_at (m.last + 1) m.spaces ≡ None) where
  abbrev d : SpaceData
  d = source from m

  abbrev now : MemoryData
  now = with_new d m

  abbrev mine : Area
  mine = Space (record { 0 = m.last + 1 })

  root_kept : (s : SpaceNo) → IsLive s.0 m.spaces → KeepsSpace old new (the_space s.0 m.spaces) (the_space s.0 m.spaces)
  root_kept s live = root_among (same_bytes old new m m) s.0 m.spaces live keeps.each.1.1

  area_same : (b : Area) → same_area b mine ≡ false → is_there b now ≡ is_there b m
  area_same Run apart = refl
  area_same Packets apart = refl
  area_same (Space s) apart = ap (λ (o : Option SpaceData). is_some o) (at_push s.0 (m.last + 1) d apart m.spaces)

  area_kept : (b : Area) → same_area b mine ≡ false → is_there b m ≡ true → KeepsSpace old new (space_in b m) (space_in b now)
  area_kept Run apart there = keeps.each.0
  area_kept Packets apart there = keeps.each.1.0
  area_kept (Space s) apart there =
      subst (λ (o : Option SpaceData). KeepsSpace old new (the_space s.0 m.spaces) (unwrap_or o no_space))
      (sym (at_push s.0 (m.last + 1) d apart m.spaces)) (root_kept s there)

  mine_is : space_in mine now ≡ d
  mine_is = ap (λ (o : Option SpaceData). unwrap_or o no_space) (push_at (m.last + 1) d m.spaces free)

  mine_there : is_there mine now ≡ true
  mine_there = ap (λ (o : Option SpaceData). is_some o) (push_at (m.last + 1) d m.spaces free)

  mine_held : (o : Option SpaceNo) → IfSome o (λ s. IsLive s.0 m.spaces) → (cells : Cells) → HoldsAll old m cells
      → HoldsCells mine (content_at new (source o m).root) (cells_by (Makes o) (memory_heads m) cells)
  mine_held None live cells h =
      moved_held mine mine (content_at new None) (λ _. Free) (cells_by (Makes None) (memory_heads m) cells) (own_there mine (λ k. Free) cells)
      (nothing_held mine new)
  mine_held (Some s) live cells h =
      moved_held (Space s) mine (content_at new (the_space s.0 m.spaces).root) cells (cells_by (Makes (Some s)) (memory_heads m) cells)
      (own_there mine (λ k. cells (space_cell s k)) cells)
      (kept_held (Space s) (content_at old (the_space s.0 m.spaces).root) (content_at new (the_space s.0 m.spaces).root) cells (root_kept s live)
      (h.there (Space s) live))

  like : (cells : Cells) (b : Area) (c : ℕ) → same_area b mine ≡ false → cells_by (Makes from) (memory_heads m) cells (area_cell b c) ≡ cells (area_cell b c)
  like cells b c apart = other_there mine b (cells_from from cells) cells c apart

  pub made_held : (cells : Cells) → HoldsAll old m cells → HoldsAll new now (cells_by (Makes from) (memory_heads m) cells)
  made_held cells h = record { knows = keeps.knows h.knows; there = λ b is. by b is (same_area b mine) refl; gone = λ b not k. none b not k (same_area b mine) refl }
    where
      by : (b : Area) → is_there b now ≡ true → (one : Bool) → same_area b mine ≡ one
          → HoldsCells b (bytes_in b new now) (cells_by (Makes from) (memory_heads m) cells)
      by b is true e =
          subst (λ x. HoldsCells x (bytes_in x new now) (cells_by (Makes from) (memory_heads m) cells)) (sym (same_area_is b mine e))
          (subst (λ (s : SpaceData). HoldsCells mine (content_at new s.root) (cells_by (Makes from) (memory_heads m) cells)) (sym mine_is)
          (mine_held from live cells h))
      by b is false e =
          let was : is_there b m ≡ true = sym (area_same b e) ∙ is in
          moved_held b b (bytes_in b new now) cells (cells_by (Makes from) (memory_heads m) cells) (λ c. like cells b c e)
          (kept_held b (bytes_in b old m) (bytes_in b new now) cells (area_kept b e was) (h.there b was))

      none : (b : Area) → is_there b now ≡ false → (k : ℕ) → (one : Bool) → same_area b mine ≡ one
          → cells_by (Makes from) (memory_heads m) cells (area_cell b k) ≡ Free
      none b not k true e =
          absurd (true≢false (sym mine_there ∙ ap (λ a. is_there a now) (sym (same_area_is b mine e)) ∙ not))
      none b not k false e = like cells b k e ∙ h.gone b (sym (area_same b e) ∙ not) k

-- a space less
module _ (old new : Pages) (m : MemoryData) (s : SpaceNo) (keeps : KeepsBytes old new (roots (forgotten s.0 m)))
    (free : space_at s.0 (without s.0 m.spaces) ≡ None) where
  abbrev less : MemoryData
  less = forgotten s.0 m

  left_there : (b : Area) → same_area b (Space s) ≡ false → is_there b less ≡ is_there b m
  left_there Run apart = refl
  left_there Packets apart = refl
  left_there (Space t) apart = ap (λ (o : Option SpaceData). is_some o) (at_without t.0 s.0 apart m.spaces)

  left_kept : (b : Area) → same_area b (Space s) ≡ false → is_there b less ≡ true → KeepsSpace old new (space_in b m) (space_in b less)
  left_kept Run apart there = keeps.each.0
  left_kept Packets apart there = keeps.each.1.0
  left_kept (Space t) apart there =
      subst (λ (o : Option SpaceData). KeepsSpace old new (unwrap_or o no_space) (the_space t.0 less.spaces)) (at_without t.0 s.0 apart m.spaces)
      (root_among (same_bytes old new less less) t.0 less.spaces there keeps.each.1.1)

  less_held : (cells : Cells) → HoldsAll old m cells → HoldsAll new less (cells_by (Forgets s) (memory_heads m) cells)
  less_held cells h = record { knows = keeps.knows h.knows; there = λ b is. by b is (same_area b (Space s)) refl; gone = λ b not k. none b not k (same_area b (Space s)) refl }
    where
      by : (b : Area) → is_there b less ≡ true → (one : Bool) → same_area b (Space s) ≡ one
          → HoldsCells b (bytes_in b new less) (cells_by (Forgets s) (memory_heads m) cells)
      by b is true e =
          let not : is_there (Space s) less ≡ false = ap (λ (o : Option SpaceData). is_some o) free in
          absurd (true≢false (sym is ∙ ap (λ a. is_there a less) (same_area_is b (Space s) e) ∙ not))
      by b is false e =
          let was : is_there b m ≡ true = sym (left_there b e) ∙ is in
          moved_held b b (bytes_in b new less) cells (cells_by (Forgets s) (memory_heads m) cells) (λ c. other_there (Space s) b (λ k. Free) cells c e)
          (kept_held b (bytes_in b old m) (bytes_in b new less) cells (left_kept b e is) (h.there b was))

      none : (b : Area) → is_there b less ≡ false → (k : ℕ) → (one : Bool) → same_area b (Space s) ≡ one
          → cells_by (Forgets s) (memory_heads m) cells (area_cell b k) ≡ Free
      none b not k true e = ap (λ (t : Bool). cond t Free (cells (area_cell b k))) e
      none b not k false e = other_there (Space s) b (λ k. Free) cells k e ∙ h.gone b (sym (left_there b e) ∙ not) k

pub forgot_held : (old new : Pages) (m n : MemoryData) (s : SpaceNo) → n ≡ forgotten s.0 m → KeepsBytes old new (roots n) → space_at s.0 n.spaces ≡ None
    → (cells : Cells) → HoldsAll old m cells → HoldsAll new n (cells_by (Forgets s) (memory_heads m) cells)
forgot_held old new m n s is keeps free cells h =
    subst (λ (u : MemoryData). HoldsAll new u (cells_by (Forgets s) (memory_heads m) cells)) (sym is)
    (less_held old new m s (subst (λ (u : MemoryData). KeepsBytes old new (roots u)) is keeps)
    (subst (λ (u : MemoryData). space_at s.0 u.spaces ≡ None) is free) cells h)

-- a space that got a shape
blank_zero : (kind : Kind) → cell_of (blank_of kind) ≡ 0
blank_zero kinds.Int = refl
blank_zero kinds.Truth = refl
blank_zero kinds.Text = refl
blank_zero kinds.Task = refl
blank_zero kinds.Space = refl

blank_there : (kind : Kind) → IsBlankCell (held_of (blank_of kind))
blank_there kinds.Int = inl refl
blank_there kinds.Truth = inl refl
blank_there kinds.Text = inr refl
blank_there kinds.Task = inl refl
blank_there kinds.Space = inl refl

module _ (old new : Pages) (m n : MemoryData) (s : SpaceNo) (shape : Shape) (few : cell_count shape ≤ 16384) (live : IsLive s.0 m.spaces)
    (leaves : LeavesOthers (Space s) old new m n) (filled : IsFilled old new shape (the_space s.0 m.spaces) (the_space s.0 n.spaces)) where
  kind_at : (c : ℕ) → c < cell_count shape → slice_get (cell_kinds shape) c ≡ Some (get_or (cell_kinds shape) c kinds.Int)
  kind_at c low = slice_get-get_or (cell_kinds shape) c kinds.Int (omega (arith, kinds_counted shape, low))

  zero_at : Knows old → (c : ℕ) → c < cell_count shape → cell_in (bytes_in (Space s) new n) c ≡ 0
  zero_at known c low =
      let same : 0 + c ≡ c = omega arith in
      ap (cell_in (bytes_in (Space s) new n)) (sym same) ∙ filled.blank known c (get_or (cell_kinds shape) c kinds.Int) (kind_at c low)
      ∙ blank_zero (get_or (cell_kinds shape) c kinds.Int)

  module _ (cells : Cells) (h : HoldsAll old m cells) (bare : AreBare (Space s) 0 (cell_count shape) cells) where
    abbrev after : Cells
    after = cells_by (Fills s shape) (memory_heads m) cells

    at_cell : (c : ℕ) → after (space_cell s c) ≡ blank_or (slice_get (cell_kinds shape) c) (cells (space_cell s c))
    at_cell c = own_there (Space s) (λ k. blank_or (slice_get (cell_kinds shape) k) (cells (space_cell s k))) cells c

    own_held : HoldsCells (Space s) (bytes_in (Space s) new n) after
    own_held =
        blank_held (Space s) (bytes_in (Space s) old m) (bytes_in (Space s) new n) cells after (cell_count shape) few (h.there (Space s) live)
        (λ c low. bare c (omega arith) (omega (arith, low))) (zero_at h.knows)
        (λ c low. subst (λ x. IsBlankCell x) (sym (at_cell c ∙ ap (λ o. blank_or o (cells (space_cell s c))) (kind_at c low)))
        (blank_there (get_or (cell_kinds shape) c kinds.Int)))
        (λ c past. at_cell c ∙ ap (λ o. blank_or o (cells (space_cell s c))) (slice_get_past (cell_kinds shape) c (omega (arith, kinds_counted shape, past))))
        (filled.kept h.knows)

    apart_cell : (b : Area) (c : ℕ) → same_area b (Space s) ≡ false → after (area_cell b c) ≡ cells (area_cell b c)
    apart_cell b c e = other_there (Space s) b (blank_cells s (cell_kinds shape) cells) cells c e

    pub filled_held : HoldsAll new n after
    filled_held = record { knows = leaves.knows h.knows; there = λ b is. by b is (same_area b (Space s)) refl; gone = λ b not k. none b not k (same_area b (Space s)) refl }
      where
        by : (b : Area) → is_there b n ≡ true → (one : Bool) → same_area b (Space s) ≡ one → HoldsCells b (bytes_in b new n) after
        by b is true e = subst (λ x. HoldsCells x (bytes_in x new n) after) (sym (same_area_is b (Space s) e)) own_held
        by b is false e =
            let was : is_there b m ≡ true = sym (leaves.there b) ∙ is in
            moved_held b b (bytes_in b new n) cells after (λ c. apart_cell b c e)
            (kept_held b (bytes_in b old m) (bytes_in b new n) cells (leaves.others b e was) (h.there b was))

        none : (b : Area) → is_there b n ≡ false → (k : ℕ) → (one : Bool) → same_area b (Space s) ≡ one → after (area_cell b k) ≡ Free
        none b not k true e =
            absurd (true≢false (sym live ∙ ap (λ a. is_there a m) (sym (same_area_is b (Space s) e)) ∙ sym (leaves.there b) ∙ not))
        none b not k false e = apart_cell b k e ∙ h.gone b (sym (leaves.there b) ∙ not) k

-- where only names are others, all is known still
pub named_still : (pages : Pages) (m : MemoryData) (names : List (List ℕ × SpaceNo)) (cells : Cells) → HoldsAll pages m cells
    → HoldsAll pages (record m { names = names }) cells
named_still pages m names cells h = record { knows = h.knows; there = there; gone = gone }
  where
    there : (b : Area) → is_there b (record m { names = names }) ≡ true → HoldsCells b (bytes_in b pages (record m { names = names })) cells
    there Run is = h.there Run is
    there Packets is = h.there Packets is
    there (Space s) is = h.there (Space s) is

    gone : (b : Area) → is_there b (record m { names = names }) ≡ false → (k : ℕ) → cells (area_cell b k) ≡ Free
    gone Run not = h.gone Run not
    gone Packets not = h.gone Packets not
    gone (Space s) not = h.gone (Space s) not

-- and where a type is another
pub kind_still : (pages : Pages) (m n : MemoryData) (s : SpaceNo) (z : ℤ) → IsLive s.0 m.spaces
    → n ≡ changed s.0 (record (the_space s.0 m.spaces) { kind = z }) m → (cells : Cells) → HoldsAll pages m cells → HoldsAll pages n cells
kind_still pages m n s z live is cells h =
    let w = record (the_space s.0 m.spaces) { kind = z } in
    let same : the_space s.0 (with_space s.0 w m.spaces) ≡ w = with_is s.0 w m.spaces live in
    let leaves = leaves_others pages pages m (changed s.0 w m) s (ap (λ (d : SpaceData). changed s.0 d m) (sym same)) (keeps_none pages _) in
    subst (λ (u : MemoryData). HoldsAll pages u cells) (sym is)
    (known_still (Space s) pages pages m (changed s.0 w m) live leaves
    (subst (λ (d : SpaceData). KeepsSpace pages pages (the_space s.0 m.spaces) d) (sym same) (λ k. refl)) cells h)

-- ---- spaces that live

pub live_here : (s : SpaceNo) (m : MemoryData) → data_spaces.IsLive s (memory_heads m) → IsLive s.0 m.spaces
live_here s m live = sym (live_there head_of s.0 m.spaces) ∙ live

pub live_from : (from : Option SpaceNo) (m : MemoryData) → IfSome from (λ s. data_spaces.IsLive s (memory_heads m))
    → IfSome from (λ s. IsLive s.0 m.spaces)
live_from None m live = tt
live_from (Some s) m live = live_here s m live

pub live_told : (o : Option SpaceNo) (m : MemoryData) → IfSome o (λ s. IsLive s.0 m.spaces)
    → IfSome o (λ s. data_spaces.IsLive s (memory_heads m))
live_told None m live = tt
live_told (Some s) m live = live_there head_of s.0 m.spaces ∙ live

pub few_here : (m : MemoryData) (most : ℕ) → length (memory_heads m).live < most → length m.spaces < most
few_here m most few = omega (arith, long_heads head_of m.spaces, few)

pub most_after : (m n : MemoryData) (d : SpaceData) → n ≡ with_new d m → length m.spaces < 16 → length (roots n) ≤ most_roots
most_after m n d is few =
    let long = ap (λ (u : MemoryData). length u.spaces) is in
    omega (arith, few, long, length-append m.spaces ((m.last + 1, d) ∷ []), roots_long n.spaces)

pub few_left : (m n : MemoryData) (s : SpaceNo) → n ≡ forgotten s.0 m → length (roots m) ≤ most_roots → length (roots n) ≤ most_roots
few_left m n s is few =
    let long = ap (λ (u : MemoryData). length u.spaces) is in
    omega (arith, few, long, without_long s.0 m.spaces, roots_long n.spaces, roots_long m.spaces)

-- ---- a space gets a shape, or none

pub few_filled : (m n : MemoryData) (s : SpaceNo) → n ≡ changed s.0 (the_space s.0 n.spaces) m → length (roots m) ≤ most_roots
    → length (roots n) ≤ most_roots
few_filled m n s is few =
    let long : length (roots n) ≡ length (roots m) =
    ap (λ (u : MemoryData). length (roots u)) is ∙ same_long s.0 (the_space s.0 n.spaces) m in
    omega (arith, few, long)

module _ {T E : Type 0} (old new : Pages) (m n : MemoryData) (s : SpaceNo) (shape : Shape) (live : IsLive s.0 m.spaces)
    (is : n ≡ changed s.0 (the_space s.0 n.spaces) m) where
  pub heads_filled : (result : Result T E) → OnOk result (IsFilled old new shape (the_space s.0 m.spaces) (the_space s.0 n.spaces))
      → OnOk result (memory_heads n ≡ heads_by (Fills s shape) (memory_heads m))
  heads_filled (Ok x) filled = filled_heads s shape old new m n is filled
  heads_filled (Err e) filled = tt

  pub cells_filled : (result : Result T E) → cell_count shape ≤ 16384
      → KeepsBytes old new (m.run.root ∷ m.packets.root ∷ space_roots (without s.0 m.spaces))
      → OnOk result (IsFilled old new shape (the_space s.0 m.spaces) (the_space s.0 n.spaces))
      → OnOk result ((cells : Cells) → HoldsAll old m cells → AreBare (Space s) 0 (cell_count shape) cells
      → HoldsAll new n (cells_by (Fills s shape) (memory_heads m) cells))
  cells_filled (Ok x) few keeps filled = λ cells h bare.
      filled_held old new m n s shape few live (leaves_others old new m n s is keeps) filled cells h bare
  cells_filled (Err e) few keeps filled = tt

-- ---- a space more, or none; a name more, or none

pub few_made : {T E : Type 0} (result : Result T E) (m n : MemoryData) (d : SpaceData) → OnOk result (n ≡ with_new d m) → OnErr result (n ≡ m)
    → length m.spaces < 16 → length (roots m) ≤ most_roots → length (roots n) ≤ most_roots
few_made (Ok x) m n d made none few most = most_after m n d made few
few_made (Err e) m n d made none few most = let long = ap (λ (u : MemoryData). length (roots u)) none in omega (arith, long, most)

pub room_left : (m : MemoryData) → length m.spaces < 16 → length (roots m) < most_roots
room_left m few = omega (arith, few, roots_long m.spaces)

pub names_only : {T E : Type 0} (result : Result T E) (m n : MemoryData) (names : List (List ℕ × SpaceNo)) → OnOk result (n ≡ record m { names = names })
    → OnErr result (n ≡ m) → roots n ≡ roots m
names_only (Ok x) m n names named none = ap roots named
names_only (Err e) m n names named none = ap roots none

pub made_so : (old new : Pages) (m n : MemoryData) (from : Option SpaceNo) → IfSome from (λ s. IsLive s.0 m.spaces) → KeepsBytes old new (roots m)
    → space_at (m.last + 1) m.spaces ≡ None → n ≡ with_new (source from m) m
    → (cells : Cells) → HoldsAll old m cells → HoldsAll new n (cells_by (Makes from) (memory_heads m) cells)
made_so old new m n from live keeps free is cells h =
    subst (λ (u : MemoryData). HoldsAll new u (cells_by (Makes from) (memory_heads m) cells)) (sym is) (made_held old new m from live keeps free cells h)
