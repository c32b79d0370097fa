-- The roots of live spaces after a call on one of them.
use Rattle.std.proofs.Common.{◌≡◌, ◌<◌, ◌≤◌, ◌+◌, ℕ, Bool, true, false, cond, List, [], ◌∷◌, ◌++◌, length, Option, None, Some, inl, inr, refl, true≢false, sym, subst, arith}
use Rattle.std.proofs.lemmas.Bool.{cases_eq}
use Rattle.std.proofs.lemmas.Option.{none-some}
use Rattle.std.specs.List.{AllByRecursion}
use Rattle.std.specs.Map.{lookup, remove_entry, set_value}
use Rattle.std.specs.Option.{ForSome}
use Rattle.eu_base.specs.Spaces.{IsKept}
use Rattle.page_pool.specs.Pool.{Pages}
use Rattle.space_memory.specs.Below.page_table.specs.Entries.{Names}
use Rattle.space_memory.specs.Below.page_table.specs.Changes.{FreesOnly}
use Rattle.space_memory.specs.Below.page_table.specs.Frames.{Over, content_at, Frames, Stands}
use Rattle.space_memory.specs.Below.page_table.specs.Sharing.{hit, occ}
use Rattle.space_memory.specs.Below.page_table.proofs.Counting.{hit_some}
use Rattle.space_memory.specs.Below.page_table.proofs.Framing.{Same, same_self, frames_same, frames_more, stands_same, stands_first, beside, named_first, named_later}
use Rattle.space_memory.specs.Below.page_table.proofs.Moving.{stays_then}
use Rattle.data_space.specs.Data.{SpaceData}
use Rattle.space_memory.specs.Kept.{KeepsBytes}
use Rattle.space_memory.specs.Live.{space_roots}

pub flip : (a b : Names) → Same a b → Same b a
flip a b s = record { long = sym s.long; occs = λ p. sym (s.occs p) }

-- what holds of each root among names holds of all
pub all_named : (P : Option ℕ → Type 0) (names : Names) → ((root : Option ℕ) → ForSome root (λ r. 1 ≤ occ r names) → P root) → AllByRecursion P names
all_named P [] h = tt
all_named P (o ∷ os) h = (h o (named_first o os), all_named P os (λ root among. h root (named_later o root os among)))

-- where no byte of the pool changed, none of a space did
pub keeps_none : (pages : Over) (names : Names) → KeepsBytes pages pages names
keeps_none pages names = record { knows = λ k. k; each = all_named (λ root. IsKept (content_at pages root) (content_at pages root)) names (λ root among n. refl) }

pub frees_none : (pages : Pages) → FreesOnly pages pages
frees_none pages = record { lived = λ p alive. alive; stays = λ p alive. record { shows = refl; home = refl } }

pub frees_then : (p0 p1 p2 : Pages) → FreesOnly p0 p1 → FreesOnly p1 p2 → FreesOnly p0 p2
frees_then p0 p1 p2 f g = record {
  lived = λ p alive. f.lived p (g.lived p alive);
  stays = λ p alive. stays_then (f.stays p (g.lived p alive)) (g.stays p alive);
}

-- a root among names is the first, or among the others
pub first_or_later : (P : Option ℕ → Type 0) (mine : Option ℕ) (rest : Names) → P mine → ((root : Option ℕ) → ForSome root (λ r. 1 ≤ occ r rest) → P root)
    → (root : Option ℕ) → ForSome root (λ r. 1 ≤ occ r (mine ∷ rest)) → P root
first_or_later P mine rest first later None among = later None (λ x is. absurd (none-some x is))
first_or_later P mine rest first later (Some x) among = elim (cases_eq (hit x mine) 0) [
  | inl none ↦ later (Some x) (λ y is. grind (arith, none, among y is, is))
  | inr hits ↦ subst P (hit_some x mine (omega (arith, hits))) first
]

-- roots that are the same names, in another order
pub among_same : (a b : Names) → Same a b → (root : Option ℕ) → ForSome root (λ r. 1 ≤ occ r a) → ForSome root (λ r. 1 ≤ occ r b)
among_same a b s root among x is = omega (arith, among x is, s.occs x)

-- a space that comes last
pub last_one : (n : ℕ) (d : SpaceData) (es : List (ℕ × SpaceData)) → Same (space_roots (es ++ (n, d) ∷ [])) (d.root ∷ space_roots es)
last_one n d [] = same_self (d.root ∷ [])
last_one n d (e ∷ es) = let s = last_one n d es in record { long = omega (arith, s.long); occs = λ p. omega (arith, s.occs p) }

pub none_left : (es : List (ℕ × SpaceData)) → (0 < length es → false ≡ true) → es ≡ []
none_left [] none = refl
none_left (e ∷ es) none = absurd (true≢false (sym (none (omega arith))))

-- the last space is taken out
module _ (all es : List (ℕ × SpaceData)) (n : ℕ) (d : SpaceData) (is : all ≡ es ++ (n, d) ∷ []) where
  last_apart : Same (space_roots all) (d.root ∷ space_roots es)
  last_apart = subst (λ (l : List (ℕ × SpaceData)). Same (space_roots l) (d.root ∷ space_roots es)) (sym is) (last_one n d es)

  pub last_stands : (pages : Pages) → Stands pages (space_roots all) 0 → Stands pages (d.root ∷ []) 0
  last_stands pages s = stands_first pages (d.root ∷ []) (space_roots es) 0 (stands_same pages _ _ 0 last_apart s)

  pub last_frames : (old new : Over) → Frames old new (d.root ∷ []) [] → Frames old new (space_roots all) (space_roots es)
  last_frames old new f =
      frames_same old new _ _ _ _ (flip _ _ last_apart) (same_self (space_roots es)) (frames_more old new (d.root ∷ []) [] (space_roots es) f)

  pub last_fewer : length (space_roots es) ≤ length (space_roots all)
  last_fewer = omega (arith, last_apart.long)

module _ (test : ℕ → Bool) where
  pub apart : (es : List (ℕ × SpaceData)) (d : SpaceData) → lookup test es ≡ Some d → Same (space_roots es) (d.root ∷ space_roots (remove_entry test es))
  apart [] d is = absurd (none-some d is)
  apart (e ∷ es) d is = by (test e.0) is (apart es d)
    where
      by : (b : Bool) → cond b (Some e.1) (lookup test es) ≡ Some d
          → (lookup test es ≡ Some d → Same (space_roots es) (d.root ∷ space_roots (remove_entry test es)))
          → Same (space_roots (e ∷ es)) (d.root ∷ space_roots (cond b es (e ∷ remove_entry test es)))
      by true is rest =
          let same : e.1 ≡ d = cc in
          subst (λ (u : SpaceData). Same (space_roots (e ∷ es)) (u.root ∷ space_roots es)) same (same_self (space_roots (e ∷ es)))
      by false is rest = let s = rest is in record { long = omega (arith, s.long); occs = λ p. omega (arith, s.occs p) }

  pub apart_with : (es : List (ℕ × SpaceData)) (d w : SpaceData) → lookup test es ≡ Some d
      → Same (space_roots (set_value test es w)) (w.root ∷ space_roots (remove_entry test es))
  apart_with [] d w is = absurd (none-some d is)
  apart_with (e ∷ es) d w is = by (test e.0) is (apart_with es d w)
    where
      by : (b : Bool) → cond b (Some e.1) (lookup test es) ≡ Some d
          → (lookup test es ≡ Some d → Same (space_roots (set_value test es w)) (w.root ∷ space_roots (remove_entry test es)))
          → Same (space_roots (cond b ((e.0, w) ∷ es) (e ∷ set_value test es w))) (w.root ∷ space_roots (cond b es (e ∷ remove_entry test es)))
      by true is rest = same_self (w.root ∷ space_roots es)
      by false is rest = let s = rest is in record { long = omega (arith, s.long); occs = λ p. omega (arith, s.occs p) }

  module _ (es : List (ℕ × SpaceData)) (d : SpaceData) (is : lookup test es ≡ Some d) where
    pub one_stands : (pages : Pages) (more : ℕ) → Stands pages (space_roots es) more → Stands pages (d.root ∷ []) more
    one_stands pages more s = stands_first pages (d.root ∷ []) (space_roots (remove_entry test es)) more (stands_same pages _ _ more (apart es d is) s)

    module _ (old new : Over) where
      pub one_frames : (w : SpaceData) → Frames old new (d.root ∷ []) (w.root ∷ []) → Frames old new (space_roots es) (space_roots (set_value test es w))
      one_frames w f =
          frames_same old new _ _ _ _ (flip _ _ (apart es d is)) (flip _ _ (apart_with es d w is))
          (frames_more old new (d.root ∷ []) (w.root ∷ []) (space_roots (remove_entry test es)) f)

      pub gone_frames : Frames old new (d.root ∷ []) [] → Frames old new (space_roots es) (space_roots (remove_entry test es))
      gone_frames f =
          frames_same old new _ _ _ _ (flip _ _ (apart es d is)) (same_self (space_roots (remove_entry test es)))
          (frames_more old new (d.root ∷ []) [] (space_roots (remove_entry test es)) f)

      pub others_same : (after : Names) (more : ℕ) → length after ≤ 1 + more → Frames old new (d.root ∷ []) after → Stands old.pool (space_roots es) more
          → (root : Option ℕ) → ForSome root (λ r. 1 ≤ occ r (space_roots (remove_entry test es))) → IsKept (content_at old root) (content_at new root)
      others_same after more few f s =
          beside old new (d.root ∷ []) after (space_roots (remove_entry test es)) more few f (stands_same old.pool _ _ more (apart es d is) s)

      pub others_keep : (after : Names) (more : ℕ) → length after ≤ 1 + more → Frames old new (d.root ∷ []) after → Stands old.pool (space_roots es) more
          → KeepsBytes old new (space_roots (remove_entry test es))
      others_keep after more few f s =
          record { knows = f.knows; each = all_named (λ root. IsKept (content_at old root) (content_at new root)) _ (others_same after more few f s) }

      -- a copy of it, which comes last
      pub copy_frames : (n : ℕ) → Frames old new (d.root ∷ []) (d.root ∷ d.root ∷ []) → Frames old new (space_roots es) (space_roots (es ++ (n, d) ∷ []))
      copy_frames n f =
          let rest = space_roots (remove_entry test es) in
          frames_same old new _ _ _ _ (flip _ _ (apart es d is)) (last_same n) (frames_more old new (d.root ∷ []) (d.root ∷ d.root ∷ []) rest f)
        where
          last_same : (n : ℕ) → Same (d.root ∷ d.root ∷ space_roots (remove_entry test es)) (space_roots (es ++ (n, d) ∷ []))
          last_same n =
              let s = apart es d is in
              let t = last_one n d es in
              record { long = omega (arith, s.long, t.long); occs = λ p. omega (arith, s.occs p, t.occs p) }

      pub copy_keeps : Frames old new (d.root ∷ []) (d.root ∷ d.root ∷ []) → IsKept (content_at old d.root) (content_at new d.root) → Stands old.pool (space_roots es) 1
          → KeepsBytes old new (space_roots es)
      copy_keeps f shows s = record {
        knows = f.knows;
        each =
            let P : Option ℕ → Type 0 = λ root. IsKept (content_at old root) (content_at new root) in
            all_named P (space_roots es) (λ root among.
            first_or_later P d.root (space_roots (remove_entry test es)) shows (others_same (d.root ∷ d.root ∷ []) 1 (omega arith) f s) root
            (among_same _ _ (apart es d is) root among));
      }
