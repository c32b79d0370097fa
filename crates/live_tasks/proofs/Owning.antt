-- Owners of spaces over one pool, anything with roots: what a call on one of them leaves of the others.
use Rattle.std.proofs.Common.{◌≡◌, ℕ, zero, suc, ◌+◌, ◌-◌, ◌*◌, ◌<◌, ◌≤◌, List, [], ◌∷◌, ◌++◌, length, set, Option, None, Some, refl, sym, subst, arith}
use Rattle.std.specs.Prelude.{slice_get}
use Rattle.std.specs.List.{All, AllZip, flat_map, remove}
use Rattle.std.specs.Option.{ForSome}
use Rattle.std.proofs.lemmas.List.{length-append}
use Rattle.std.proofs.lemmas.List.Elements.{All-head, All-tail}
use Rattle.std.proofs.lemmas.Option.{none-some, same_Some}
use Rattle.std.proofs.Math.Logic.{∥∥₁_map}
use Rattle.page_pool.specs.Pool.{Pages}
use Rattle.live_tasks.specs.Below.page_table.specs.Entries.{Names}
use Rattle.live_tasks.specs.Below.page_table.specs.Frames.{Stands}
use Rattle.live_tasks.specs.Below.page_table.specs.Sharing.{occ, Agree, most_spaces}
use Rattle.live_tasks.specs.Below.page_table.proofs.Counting.{occ-append, names_same}
use Rattle.live_tasks.specs.Below.page_table.proofs.Moving.{in_like, equal}
use Rattle.live_tasks.specs.Below.page_table.proofs.Framing.{Same, same_self, reorder, agree_same, stands_of}
use Rattle.live_tasks.specs.Below.space_memory.specs.Memories.{most_roots, StandsWhole}
use Rattle.live_tasks.specs.Below.task_job.specs.Here.{Knows, content_at, Frames, MemoryFrames}
use Rattle.live_tasks.specs.Below.task_job.proofs.Here.{agree_after}
use Rattle.task_ends.specs.Refused.{RoomFrames, Refused}
use Rattle.live_tasks.proofs.Zips.{remove_set, found_set, zip_others}

-- a space without bytes has no pages
with_nil : (pages : Pages) (a : Names) → length (None ∷ a) ≤ most_spaces → Agree pages a → Agree pages (None ∷ a)
with_nil pages a room g = record { few = room; agrees = in_like (names_same 2 a (None ∷ a) (λ p. omega arith)) g.agrees }

-- where there is room for a whole memory besides
pub room_frames : (old new : Pages) (before after : Names) → length after ≤ length before + most_roots → Frames old new before after
    → RoomFrames old new before after most_roots
room_frames old new before after few f = record {
  knows = f.knows;
  homes = f.homes;
  frame = λ rest agree room. f.frame rest agree (omega (arith, few, room, length-append before rest, length-append after rest));
}

pub room_memory : (old new : Pages) (before after : Names) → MemoryFrames old new before after → RoomFrames old new before after most_roots
room_memory old new before after f = record {
  knows = f.knows;
  homes = f.homes;
  frame = λ rest agree room. f.frame rest agree (omega (arith, room, length-append before rest));
}

module _ {T : Type 0} (roots : T → Names) where
  abbrev pub all : List T → Names
  all ts = flat_map roots ts

  -- the roots of the owner at a place, and those of the others
  pub split : (ts : List T) (k : ℕ) (t : T) → slice_get ts k ≡ Some t → Same (all ts) (roots t ++ all (remove ts k))
  split [] k t at = absurd (none-some t at)
  split (u ∷ ts) zero t at = subst (λ (v : T). Same (roots u ++ all ts) (roots v ++ all ts)) (same_Some u t at) (same_self _)
  split (u ∷ ts) (suc k) t at =
      let s = split ts k t at in
      record {
        long =
            omega (
              arith,
              s.long,
              length-append (roots u) (all ts),
              length-append (roots t) (all (remove ts k)),
              length-append (roots t) (roots u ++ all (remove ts k)),
              length-append (roots u) (all (remove ts k)),
            );
        occs =
            λ p. omega (
              arith,
              s.occs p,
              occ-append p (roots u) (all ts),
              occ-append p (roots t) (all (remove ts k)),
              occ-append p (roots t) (roots u ++ all (remove ts k)),
              occ-append p (roots u) (all (remove ts k)),
            );
      }

  -- another owner comes to the place
  pub joined : (ts : List T) (k : ℕ) (u : T) → k < length ts → Same (roots u ++ all (remove ts k)) (all (set ts k u))
  joined ts k u low =
      let s = subst (λ (us : List T). Same (all (set ts k u)) (roots u ++ all us)) (remove_set ts k u) (split (set ts k u) k u (found_set ts k u low)) in
      record { long = sym s.long; occs = λ p. sym (s.occs p) }

  -- an owner comes last
  pub pushed : (ts : List T) (u : T) → Same (roots u ++ all ts) (all (ts ++ u ∷ []))
  pushed [] u = same_self _
  pushed (t ∷ ts) u =
      let s = pushed ts u in
      record {
        long =
            omega (
              arith,
              s.long,
              length-append (roots u) (all ts),
              length-append (roots u) (roots t ++ all ts),
              length-append (roots t) (all ts),
              length-append (roots t) (all (ts ++ u ∷ [])),
            );
        occs =
            λ p. omega (
              arith,
              s.occs p,
              occ-append p (roots u) (all ts),
              occ-append p (roots u) (roots t ++ all ts),
              occ-append p (roots t) (all ts),
              occ-append p (roots t) (all (ts ++ u ∷ [])),
            );
      }

  -- and that beside an owner at a place, in any order
  pub grown : (ts : List T) (k : ℕ) (t u : T) → slice_get ts k ≡ Some t → Same ((roots t ++ roots u) ++ all (remove ts k)) (all (ts ++ u ∷ []))
  grown ts k t u at =
      let s = split ts k t at in
      let p = pushed ts u in
      record {
        long =
            omega (
              arith,
              s.long,
              p.long,
              length-append (roots t ++ roots u) (all (remove ts k)),
              length-append (roots t) (roots u),
              length-append (roots t) (all (remove ts k)),
              length-append (roots u) (all ts),
            );
        occs =
            λ p'. omega (
              arith,
              s.occs p',
              p.occs p',
              occ-append p' (roots t ++ roots u) (all (remove ts k)),
              occ-append p' (roots t) (roots u),
              occ-append p' (roots t) (all (remove ts k)),
              occ-append p' (roots u) (all ts),
            );
      }

  -- where each has few, all have not many
  pub not_many : (n : ℕ) (ts : List T) → All (λ t. length (roots t) ≤ 18) ts → length ts ≤ n → length (all ts) ≤ 18 * n
  not_many n [] each few = omega (arith, few)
  not_many zero (t ∷ ts) each few = absurd (omega (arith, few))
  not_many (suc n) (t ∷ ts) each few =
      omega (
        arith,
        length-append (roots t) (all ts),
        All-head (λ t. length (roots t) ≤ 18) t ts each,
        not_many n ts (All-tail (λ t. length (roots t) ≤ 18) t ts each) (omega (arith, few)),
      )

  -- the owner at a place makes a call
  module _ (old : Pages) (ts : List T) (k : ℕ) (t : T) (at : slice_get ts k ≡ Some t) (agree : ∥ Agree old (all ts) ∥₁)
      (room : length (all ts) + most_roots ≤ most_spaces) where
    abbrev others : Names
    others = all (remove ts k)

    apart : ∥ Agree old (roots t ++ others) ∥₁
    apart = agree_same old _ _ (split ts k t at) agree

    fits : length (roots t ++ others) + most_roots ≤ most_spaces
    fits = omega (arith, room, (split ts k t at).long)

    pub stands : (more : ℕ) → more ≤ most_roots → Stands old (roots t) more
    stands more few = stands_of old (roots t) others more (omega (arith, fits, few)) apart

    pub whole : length (roots t) ≤ most_roots → StandsWhole old (roots t)
    whole few = record { few = few; stands = stands (most_roots - length (roots t)) (omega arith) }

    module _ (new : Pages) (b : Names) (framed : RoomFrames old new (roots t) b most_roots) where
      -- the pool agrees with what it has then, and the others
      pub agrees : ∥ Agree new (b ++ others) ∥₁
      agrees = ∥∥₁_map apart (λ a. (framed.frame others a fits).agrees)

      -- no byte of the others' spaces changed
      pub others_same : (root : Option ℕ) → ForSome root (λ r. 1 ≤ occ r others) → (n : ℕ) → content_at new root n ≡ content_at old root n
      others_same root among n = equal _ _ apart (λ a. (framed.frame others a fits).same root among n)

  -- a call that had a space without bytes in hand besides
  pub agrees_nil : (old new : Pages) (ts : List T) (k : ℕ) (t : T) → slice_get ts k ≡ Some t → ∥ Agree old (all ts) ∥₁
      → length (all ts) + most_roots ≤ most_spaces → (b : Names) → length b ≤ length (roots t) + 1 → Frames old new (None ∷ roots t) b
      → ∥ Agree new (b ++ all (remove ts k)) ∥₁
  agrees_nil old new ts k t at agree room b few frames =
      let s = split ts k t at in
      let rest : Names = all (remove ts k) in
      let fits : length (None ∷ (roots t ++ rest)) ≤ most_spaces = omega (arith, room, s.long) in
      agree_after old new (None ∷ roots t) b rest (omega (arith, fits, few, length-append (roots t) rest, length-append b rest)) frames
      (∥∥₁_map agree (λ a. with_nil old (roots t ++ rest) fits (reorder old _ _ s a)))

  -- it was refused
  pub agrees_refused : (old new : Pages) (ts : List T) (k : ℕ) (t : T) → slice_get ts k ≡ Some t → ∥ Agree old (all ts) ∥₁
      → length (all ts) + most_roots ≤ most_spaces → Refused old new (roots t) most_roots → ∥ Agree new (all ts) ∥₁
  agrees_refused old new ts k t at agree room refused =
      let s = split ts k t at in
      let back : Same (roots t ++ all (remove ts k)) (all ts) = record { long = sym s.long; occs = λ p. sym (s.occs p) } in
      agree_same new _ _ back (agrees old ts k t at agree room new (roots t) refused)

-- What an owner stands for, over the pages of its spaces alone.
module _ {T O : Type 0} (roots : T → Names) (For : Pages → T → O → Type 0)
    (carried : (old new : Pages) (t : T) (o : O) → (Knows old → Knows new)
    → ((root : Option ℕ) → ForSome root (λ r. 1 ≤ occ r (roots t)) → (n : ℕ) → content_at new root n ≡ content_at old root n) → For old t o → For new t o) where
  pub all_carried : (old new : Pages) (ts : List T) (os : List O) → (Knows old → Knows new)
      → ((root : Option ℕ) → ForSome root (λ r. 1 ≤ occ r (all roots ts)) → (n : ℕ) → content_at new root n ≡ content_at old root n)
      → AllZip (For old) ts os → AllZip (For new) ts os
  all_carried old new [] [] known same h = tt
  all_carried old new [] (o ∷ os) known same h = absurd h
  all_carried old new (t ∷ ts) [] known same h = absurd h
  all_carried old new (t ∷ ts) (o ∷ os) known same h = (
    carried old new t o known (λ root among. same root (λ r is. omega (arith, among r is, occ-append r (roots t) (all roots ts)))) h.0,
    all_carried old new ts os known (λ root among. same root (λ r is. omega (arith, among r is, occ-append r (roots t) (all roots ts)))) h.1,
  )

  -- after a call of the owner at a place the others stand for what they stood for
  pub others_stand : (old new : Pages) (ts : List T) (k : ℕ) (t : T) → slice_get ts k ≡ Some t → ∥ Agree old (all roots ts) ∥₁
      → length (all roots ts) + most_roots ≤ most_spaces → (b : Names) → RoomFrames old new (roots t) b most_roots
      → (os : List O) → AllZip (For old) ts os → AllZip (For new) (remove ts k) (remove os k)
  others_stand old new ts k t at agree room b framed os h =
      all_carried old new (remove ts k) (remove os k) framed.knows (others_same roots old ts k t at agree room new b framed) (zip_others (For old) ts os k h)
