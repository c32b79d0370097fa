-- What a call does to the spaces over a pool, whatever else stands over it.
use Rattle.std.specs.Prelude.{◌≡◌, ◌+◌, ◌/◌, ◌%◌, ◌≤◌, ℕ, zero, suc, List, ◌++◌, length, Option, Some, slice_index_or}
use Rattle.std.specs.Option.{ForSome}
use Rattle.page_pool.specs.Pool.{Pages, Shown, Tell, Known, seen, count_of, home_of, Stays}
use Rattle.page_table.specs.Entries.{Names, book_of, told, child, content_of}
use Rattle.page_table.specs.Sharing.{most_spaces, Hands, both, occ, AgreeIn, Agree}

-- the entry on the way to page k, in a page one higher than this
abbrev pub place : ℕ → ℕ → ℕ
place zero k = k % 128
place (suc h) k = k / 128

-- page k of what a page of this height shows
abbrev pub shown : Pages → ℕ → Option ℕ → ℕ → Shown
shown pages zero page k = content_of (told pages) page
shown pages (suc h) page k = shown pages h (child (book_of pages) page (place h k)) k

-- a pool, over a backing that tells this
pub record Over : Type 0 where
  pub pool : Pages
  pub tell : Tell

abbrev pub over : Pages → Tell → Over
over pool tell = record { pool = pool; tell = tell }

-- bytes are told, and what the pool keeps of them is right
abbrev pub Knows : Over → Type 0
Knows pages = Known pages.tell pages.pool

-- the byte at each place of the space with this root, where bytes are told
abbrev pub content_at : Over → Option ℕ → ℕ → ℕ
content_at pages root n = slice_index_or (seen pages.tell (shown pages.pool 2 root (n / 512))) (n % 512) 0

-- a page with a home afterwards stands as it stood: what was made or written counts as changed
pub record KeepsHomes (old new : Pages) : Type 0 where
  pub stays : (p b : ℕ) → home_of new p ≡ Some b → Stays old new p

-- pool and spaces agree, and no byte of the rest changed
pub record Framed (old new : Over) (after rest : Names) : Type 0 where
  pub agrees : Agree new.pool (after ++ rest)
  pub same : (root : Option ℕ) → ForSome root (λ r. 1 ≤ occ r rest) → (n : ℕ) → content_at new root n ≡ content_at old root n

-- Spaces with the roots before become spaces with those after. Whatever the rest is, pool and spaces agree, and no byte
-- of the rest changes. What is known stays known.
pub record Frames (old new : Over) (before after : Names) : Type 0 where
  pub tell : new.tell ≡ old.tell
  pub knows : Knows old → Knows new
  pub homes : KeepsHomes old.pool new.pool
  pub frame : (rest : Names) → Agree old.pool (before ++ rest) → length (after ++ rest) ≤ most_spaces → Framed old new after rest

-- the pool agrees with some spaces, these among them, and there is room for so many more
pub record Stands (pages : Pages) (mine : Names) (more : ℕ) : Type 0 where
  pub some : ∥ ((rest : Names) × Agree pages (mine ++ rest) × (length (mine ++ rest) + more ≤ most_spaces)) ∥₁

-- the same with names in hand: the rest shows what it showed, and a page of it has its home, and one with one name keeps one
pub record Moved (old new : Pages) (after rest : Hands) : Type 0 where
  pub agrees : AgreeIn new (both after rest)
  pub same : (h x k : ℕ) → h ≤ 2 → 1 ≤ rest h x → shown new h (Some x) k ≡ shown old h (Some x) k
  pub home : (h x : ℕ) → h ≤ 2 → 1 ≤ rest h x → home_of new x ≡ home_of old x
  pub single : (h x : ℕ) → h ≤ 2 → 1 ≤ rest h x → count_of old x ≡ 1 → count_of new x ≡ 1

pub record Moves (old new : Pages) (before after : Hands) : Type 0 where
  pub homes : KeepsHomes old new
  pub frame : (rest : Hands) → AgreeIn old (both before rest) → Moved old new after rest

pub record Holds (pages : Pages) (mine : Hands) : Type 0 where
  pub some : ∥ ((rest : Hands) × AgreeIn pages (both mine rest)) ∥₁
