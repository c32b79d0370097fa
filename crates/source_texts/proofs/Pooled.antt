-- Spaces without pages over a pool, and a space that is given back.
use Rattle.std.proofs.Common.{◌≡◌, sym, subst, ℕ, ◌%◌, ◌≤◌, [], ◌∷◌, Option, None, get_or, replicate, inl, inr, refl, ap, ◌∙◌, arith}
use Rattle.std.proofs.lemmas.Bool.{cases_lt}
use Rattle.std.proofs.lemmas.List.{get_or-replicate, get_or_past, length-replicate}
use Rattle.std.specs.Option.{ForSome}
use Rattle.eu_base.specs.Spaces.{IsKept}
use Rattle.page_pool.specs.Pool.{Pages, Tell}
use Rattle.source_texts.specs.Below.page_table.specs.Entries.{Names}
use Rattle.source_texts.specs.Below.page_table.specs.Frames.{Over, over, content_at, Frames, Stands}
use Rattle.source_texts.specs.Below.page_table.specs.Sharing.{occ}
use Rattle.data_space.specs.Data.{SpaceData}
use Rattle.source_texts.specs.Spaces.{Space, HoldsSpace}
use Rattle.source_texts.specs.Below.page_table.proofs.Framing.{frames_nil, frames_then, frames_more, stands_after, beside}

-- a space without pages is one of zeros
zeros : (n i : ℕ) → let zero_byte : ℕ = 0 in get_or (replicate n zero_byte) i zero_byte ≡ zero_byte
zeros n i = elim (cases_lt i n) [
  | inl low ↦ get_or-replicate n i 0 0 low
  | inr past ↦ get_or_past (replicate n 0) i 0 (simp length-replicate past)
]

pub nothing_there : (pages : Over) (root : Option ℕ) → root ≡ None → (n : ℕ) → content_at pages root n ≡ 0
nothing_there pages root is n = ap (λ o. content_at pages o n) is ∙ zeros 512 (n % 512)

-- a space without pages can be taken, where there is room for one more
pub frames_new : (pages : Over) → Frames pages pages [] (None ∷ [])
frames_new pages = frames_nil pages [] (None ∷ []) (λ p. refl) (λ p. omega arith)

pub stands_new : (pages : Pages) (mine : Names) → Stands pages mine 1 → Stands pages (None ∷ mine) 0
stands_new pages mine stands =
    stands_after (over pages None) (over pages None) mine (None ∷ mine) 1 0 (omega arith)
    (frames_more (over pages None) (over pages None) [] (None ∷ []) mine (frames_new (over pages None))) stands

-- a new space, and one that was let go
pub frames_made : (old new : Over) (root : Option ℕ) → Frames old new (None ∷ []) (root ∷ []) → Frames old new [] (root ∷ [])
frames_made old new root f = frames_then old old new [] (None ∷ []) (root ∷ []) (omega arith) (frames_new old) f

pub frames_back : (old mid new : Over) (root : Option ℕ) → Frames old mid (None ∷ []) (root ∷ []) → Frames mid new (root ∷ []) []
    → Frames old new (None ∷ []) []
frames_back old mid new root f g = frames_then old mid new (None ∷ []) (root ∷ []) [] (omega arith) f g

-- where all that was taken is given back, the spaces of the pool stand as before, with the same room, and keep each byte
module _ (old new : Over) (mine : Names) (back : Frames old new (None ∷ []) []) (stands : Stands old.pool mine 1) where
  pub stands_back : Stands new.pool mine 1
  stands_back =
      stands_after old new (None ∷ mine) mine 0 1 (omega arith) (frames_more old new (None ∷ []) [] mine back) (stands_new old.pool mine stands)

  pub kept_back : (root : Option ℕ) → ForSome root (λ r. 1 ≤ occ r mine) → IsKept (content_at old root) (content_at new root)
  kept_back = beside old new (None ∷ []) [] mine 0 (omega arith) back (stands_new old.pool mine stands)

-- a pool and what stands behind it, where they were lent, and where they are back
pub frames_there : {B : Type 0} (tells : B → Tell) (old lent new back : Pages) (was held now left : B) (mine : Names) → lent ≡ old → held ≡ was → back ≡ new → left ≡ now
    → Frames (over lent (tells held)) (over new (tells now)) mine mine → Frames (over old (tells was)) (over back (tells left)) mine mine
frames_there tells old lent new back was held now left mine a b c d f =
    subst (λ (x : Pages). Frames (over x (tells was)) (over back (tells left)) mine mine) a
    (subst (λ x. Frames (over lent (tells x)) (over back (tells left)) mine mine) b
    (subst (λ (x : Pages). Frames (over lent (tells held)) (over x (tells left)) mine mine) (sym c)
    (subst (λ x. Frames (over lent (tells held)) (over new (tells x)) mine mine) (sym d) f)))

pub space_there : {B : Type 0} (tells : B → Tell) (old lent : Pages) (was held : B) (paged view : SpaceData) (value : Space) → lent ≡ old → held ≡ was → view ≡ paged
    → HoldsSpace (over old (tells was)) paged value → HoldsSpace (over lent (tells held)) view value
space_there tells old lent was held paged view value a b c h =
    subst (λ (x : Pages). HoldsSpace (over x (tells held)) view value) (sym a)
    (subst (λ x. HoldsSpace (over old (tells x)) view value) (sym b)
    (subst (λ (x : SpaceData). HoldsSpace (over old (tells was)) x value) (sym c) h))
