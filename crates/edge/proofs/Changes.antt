-- What a call leaves alone.
use Rattle.std.proofs.Common.{◌≡◌, ◌≢◌, ℕ, Bool, List, Option, None, Some, refl, sym, ◌∙◌, subst, arith}
use Rattle.std.specs.Option.{option_map}
use Rattle.std.proofs.lemmas.Option.{same_Some, none-some}
use Rattle.std.proofs.lemmas.Bool.Decides.{nat_tests}
use Rattle.edge.specs.Disk.{Blocks, DiskState, with_block, with_mark, after_write, after_lost_write, IsImage}
use Rattle.edge.specs.Moments.{ChangesOnly, AgreesOutside}

pub block_other : (blocks : Blocks) (at : ℕ) (bytes : List ℕ) (block : ℕ) → block ≢ at → with_block blocks at bytes block ≡ blocks block
block_other blocks at bytes block other = grind (arith, nat_tests)

pub block_there : (blocks : Blocks) (at : ℕ) (bytes : List ℕ) → with_block blocks at bytes at ≡ bytes
block_there blocks at bytes = grind (arith, nat_tests)

mark_other : (written : ℕ → Bool) (at block : ℕ) → block ≢ at → with_mark written at block ≡ written block
mark_other written at block other = grind (arith, nat_tests)

pub changes_nothing : (changed : ℕ → Type 0) (s : DiskState) → ChangesOnly changed s s
changes_nothing changed s = record { content = λ block out. refl; written = λ block out is. is }

pub changes_written : (changed : ℕ → Type 0) (at : ℕ) (bytes : List ℕ) (s : DiskState) → changed at → ChangesOnly changed s (after_write at bytes s)
changes_written changed at bytes s there = record {
  content = λ block out. block_other s.content at bytes block (λ same. out (subst changed (sym same) there));
  written = λ block out is. mark_other s.written at block (λ same. out (subst changed (sym same) there)) ∙ is;
}

pub changes_lost : (changed : ℕ → Type 0) (at : ℕ) (s : DiskState) → changed at → ChangesOnly changed s (after_lost_write at s)
changes_lost changed at s there = record {
  content = λ block out. refl;
  written = λ block out is. mark_other s.written at block (λ same. out (subst changed (sym same) there)) ∙ is;
}

pub changes_more : (changed : ℕ → Type 0) (s t u : DiskState) → ChangesOnly changed s t → ChangesOnly changed t u → ChangesOnly changed s u
changes_more changed s t u first second = record {
  content = λ block out. second.content block out ∙ first.content block out;
  written = λ block out is. second.written block out (first.written block out is);
}

pub changes_within : (changed more : ℕ → Type 0) (s t : DiskState) → ((block : ℕ) → changed block → more block) → ChangesOnly changed s t → ChangesOnly more s t
changes_within changed more s t within only = record {
  content = λ block out. only.content block (λ there. out (within block there));
  written = λ block out. only.written block (λ there. out (within block there));
}

-- an image after blocks have changed agrees in all others
pub image_agrees : (changed : ℕ → Type 0) (s t : DiskState) (image : Blocks) → ChangesOnly changed s t → IsImage t image → AgreesOutside changed s image
image_agrees changed s t image only is block out synced = is block (only.written block out synced) ∙ only.content block out

pub agrees_before : (changed : ℕ → Type 0) (s t : DiskState) (image : Blocks) → ChangesOnly changed s t → AgreesOutside changed t image
    → AgreesOutside changed s image
agrees_before changed s t image only agrees block out synced = agrees block out (only.written block out synced) ∙ only.content block out

-- a value that was mapped to another
pub record Mapped (f : DiskState → DiskState) (old : Option DiskState) (t : DiskState) : Type 0 where
  pub from : DiskState
  pub was : old ≡ Some from
  pub is : t ≡ f from

pub mapped : (f : DiskState → DiskState) (old new : Option DiskState) (t : DiskState) → new ≡ option_map f old → new ≡ Some t → Mapped f old t
mapped f None new t is told = absurd (none-some t (sym is ∙ told))
mapped f (Some s) new t is told = record { from = s; was = refl; is = same_Some t (f s) (sym told ∙ is) }
