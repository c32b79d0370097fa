-- Owners of spaces over one pool: what a call on one of them leaves of the others. An owner is anything with roots.
use Rattle.std.proofs.Common.{◌≡◌, ◌≢◌, ℕ, zero, suc, ◌<◌, ◌≤◌, List, [], ◌∷◌, ◌++◌, length, get_or, set, Option, None, Some, refl, sym, ap, subst, arith}
use Rattle.std.proofs.Common.{get_or-set_same}
use Rattle.std.proofs.Math.Logic.{∥∥₁_map}
use Rattle.std.proofs.lemmas.List.{length-append, get_or_read}
use Rattle.std.specs.List.{flat_map, remove}
use Rattle.std.specs.Option.{ForSome}
use Rattle.eu_base.specs.Spaces.{IsKept}
use Rattle.page_table.specs.Frames.{Over as Pages}
use Rattle.page_table.specs.Entries.{Names}
use Rattle.page_table.specs.Frames.{content_at, Frames, Framed, Stands}
use Rattle.page_table.specs.Sharing.{occ, Agree, most_spaces}
use Rattle.page_table.proofs.Counting.{occ-append}
use Rattle.page_table.proofs.Framing.{Same, same_self, reorder, agree_same, agree_after, all_keep, stands_of, named_first, named_later}
use Rattle.page_table.proofs.Moving.{equal}
use Rattle.data_space.specs.Owners.{Keeps, ChangesOwner, LosesOwner}

nth_named : (l : Names) (n : ℕ) → ForSome (get_or l n None) (λ x. 1 ≤ occ x l)
nth_named [] n = λ x is. let f : ⊥ = cc in absurd f
nth_named (o ∷ l) zero = named_first o l
nth_named (o ∷ l) (suc n) = named_later o (get_or l n None) l (nth_named l n)

module _ {T : Type 0} (roots : T → Names) (none : T) where
  abbrev pub all : List T → Names
  all ts = flat_map roots ts

  abbrev pub without : ℕ → List T → List T
  without i [] = []
  without zero (x ∷ xs) = xs
  without (suc i) (x ∷ xs) = x ∷ without i xs

  pub split_set : (ts : List T) (k : ℕ) (u : T) → k < length ts → Same (all (set ts k u)) (roots u ++ all (without k ts))
  split_set [] k u low = absurd (omega (arith, low))
  split_set (t ∷ ts) zero u low = record { long = refl; occs = λ p. refl }
  split_set (t ∷ ts) (suc k) u low =
      let s = split_set ts k u (omega (arith, low)) in
      record {
        long =
            omega (
              arith,
              s.long,
              length-append (roots t) (all (set ts k u)),
              length-append (roots u) (all (without k ts)),
              length-append (roots u) (roots t ++ all (without k ts)),
              length-append (roots t) (all (without k ts)),
            );
        occs =
            λ p. omega (
              arith,
              s.occs p,
              occ-append p (roots t) (all (set ts k u)),
              occ-append p (roots u) (all (without k ts)),
              occ-append p (roots u) (roots t ++ all (without k ts)),
              occ-append p (roots t) (all (without k ts)),
            );
      }

  set_get : (ts : List T) (k : ℕ) → k < length ts → set ts k (get_or ts k none) ≡ ts
  set_get [] k low = refl
  set_get (t ∷ ts) zero low = refl
  set_get (t ∷ ts) (suc k) low = ap (λ (l : List T). t ∷ l) (set_get ts k (omega (arith, low)))

  pub in_all : (ts : List T) (j x : ℕ) → j < length ts → occ x (roots (get_or ts j none)) ≤ occ x (all ts)
  in_all [] j x low = absurd (omega (arith, low))
  in_all (t ∷ ts) zero x low = omega (arith, occ-append x (roots t) (all ts))
  in_all (t ∷ ts) (suc j) x low = omega (arith, in_all ts j x (omega (arith, low)), occ-append x (roots t) (all ts))

  in_others : (ts : List T) (k j x : ℕ) → j < length ts → j ≢ k → occ x (roots (get_or ts j none)) ≤ occ x (all (without k ts))
  in_others [] k j x low ne = absurd (omega (arith, low))
  in_others (t ∷ ts) zero zero x low ne = absurd (ne refl)
  in_others (t ∷ ts) zero (suc j) x low ne = in_all ts j x (omega (arith, low))
  in_others (t ∷ ts) (suc k) zero x low ne = omega (arith, occ-append x (roots t) (all (without k ts)))
  in_others (t ∷ ts) (suc k) (suc j) x low ne =
      omega (arith, in_others ts k j x (omega (arith, low)) (λ e. ne (ap suc e)), occ-append x (roots t) (all (without k ts)))

  pub without_is : (ts : List T) (k : ℕ) → k < length ts → without k ts ≡ remove ts k
  without_is [] k low = absurd (omega (arith, low))
  without_is (t ∷ ts) zero low = refl
  without_is (t ∷ ts) (suc k) low = ap (λ (l : List T). t ∷ l) (without_is ts k (omega (arith, low)))

  -- names in hand, and those of an owner that stands at k
  in_hand : (hand : Names) (ts : List T) (k : ℕ) (u : T) → k < length ts → Same (hand ++ all (set ts k u)) ((hand ++ roots u) ++ all (without k ts))
  in_hand hand ts k u low =
      let s = split_set ts k u low in
      let rest : Names = all (without k ts) in
      record {
        long =
            omega (
              arith,
              s.long,
              length-append hand (all (set ts k u)),
              length-append (hand ++ roots u) rest,
              length-append hand (roots u),
              length-append (roots u) rest,
            );
        occs =
            λ p. omega (
              arith,
              s.occs p,
              occ-append p hand (all (set ts k u)),
              occ-append p (hand ++ roots u) rest,
              occ-append p hand (roots u),
              occ-append p (roots u) rest,
            );
      }

  -- an owner that stands at k, with names in hand
  module _ (pages : Pages) (hand : Names) (ts : List T) (k : ℕ) (t : T) (low : k < length ts) (read : t ≡ get_or ts k t)
      (some : ∥ Agree pages.pool (hand ++ all ts) ∥₁) where
    pub apart : Same (hand ++ all ts) ((hand ++ roots t) ++ all (without k ts))
    apart =
        subst (λ (l : List T). Same (hand ++ all l) ((hand ++ roots t) ++ all (without k ts)))
        (subst (λ (u : T). set ts k u ≡ ts) (sym (get_or_read ts k t low read none)) (set_get ts k low)) (in_hand hand ts k t low)

    pub own : Stands pages.pool (hand ++ roots t) 0
    own = record { some = ∥∥₁_map some (λ a. (all (without k ts), reorder pages.pool _ _ apart a, omega (arith, a.few, apart.long))) }

    -- A call on it turns its names, and those in hand before, into others. Afterwards the spaces are those of the others, and these.
    module _ (new : Pages) (mine later : Names) (frames : Frames pages new (hand ++ roots t) mine) (same : Same (mine ++ all (without k ts)) later)
        (fits : length (hand ++ all ts) ≤ most_spaces → length later ≤ most_spaces) where
      framed : Agree pages.pool (hand ++ all ts) → Framed pages new mine (all (without k ts))
      framed a = frames.frame (all (without k ts)) (reorder pages.pool _ _ apart a) (omega (arith, fits a.few, same.long))

      pub agree_one : ∥ Agree new.pool later ∥₁
      agree_one = ∥∥₁_map some (λ a. reorder new.pool _ _ same (framed a).agrees)

      others_keep : (j : ℕ) → j < length ts → j ≢ k → Keeps roots pages new (get_or ts j none)
      others_keep j there ne i n =
          let named = nth_named (roots (get_or ts j none)) i in
          equal _ _ some (λ a. (framed a).same _
          (λ (x : ℕ) (e : get_or (roots (get_or ts j none)) i None ≡ Some x). omega (arith, named x e, in_others ts k j x there ne)) n)

  put_back : (ts : List T) (k : ℕ) (u : T) → k < length ts → Same (roots u ++ all (without k ts)) (all (set ts k u))
  put_back ts k u low = let s = split_set ts k u low in record { long = sym s.long; occs = λ p. sym (s.occs p) }

  left : (ts : List T) (k : ℕ) → k < length ts → Same (all (without k ts)) (all (remove ts k))
  left ts k low = subst (λ (l : List T). Same (all (without k ts)) (all l)) (without_is ts k low) (same_self _)

  module _ (old new : Pages) (hand : Names) (ts : List T) (k : ℕ) (t : T) (low : k < length ts) (read : t ≡ get_or ts k t)
      (some : ∥ Agree old.pool (hand ++ all ts) ∥₁) where
    -- owner k is another one, which has the names in hand
    module _ (u : T) (fewer : length (roots u) ≤ length (hand ++ roots t)) (frames : Frames old new (hand ++ roots t) (roots u)) where
      set_fits : length (hand ++ all ts) ≤ most_spaces → length (all (set ts k u)) ≤ most_spaces
      set_fits few =
          omega (
            arith,
            few,
            fewer,
            (apart old hand ts k t low read some).long,
            length-append (hand ++ roots t) (all (without k ts)),
            (split_set ts k u low).long,
            length-append (roots u) (all (without k ts)),
          )

      pub set_agree : ∥ Agree new.pool (all (set ts k u)) ∥₁
      set_agree = agree_one old hand ts k t low read some new (roots u) _ frames (put_back ts k u low) set_fits

      pub set_changes : ChangesOwner roots none old new ts (set ts k u) k
      set_changes = record {
        list = ap (set ts k) (sym (get_or-set_same ts k u none low));
        others = others_keep old hand ts k t low read some new (roots u) _ frames (put_back ts k u low) set_fits;
      }

    -- it is gone, with the names in hand
    module _ (frames : Frames old new (hand ++ roots t) []) where
      gone_fits : length (hand ++ all ts) ≤ most_spaces → length (all (remove ts k)) ≤ most_spaces
      gone_fits few = omega (arith, few, (apart old hand ts k t low read some).long, length-append (hand ++ roots t) (all (without k ts)), (left ts k low).long)

      pub gone_agree : ∥ Agree new.pool (all (remove ts k)) ∥₁
      gone_agree = agree_one old hand ts k t low read some new [] _ frames (left ts k low) gone_fits

      pub gone_loses : LosesOwner roots none old new ts (remove ts k) k
      gone_loses = record { list = refl; others = others_keep old hand ts k t low read some new [] _ frames (left ts k low) gone_fits }

  -- a copy of a space of owner k, its first, is in hand
  module _ (old : Pages) (ts : List T) (k : ℕ) (t : T) (low : k < length ts) (read : t ≡ get_or ts k t) (some : ∥ Agree old.pool (all ts) ∥₁)
      (mine : Option ℕ) (more : Names) (has : roots t ≡ mine ∷ more) (room : length (all ts) < most_spaces) where
    split : Same (all ts) (mine ∷ (more ++ all (without k ts)))
    split = subst (λ (l : Names). Same (all ts) (l ++ all (without k ts))) has (apart old [] ts k t low read some)

    pub copy_stands : Stands old.pool (mine ∷ []) 1
    copy_stands = stands_of old.pool (mine ∷ []) (more ++ all (without k ts)) 1 (omega (arith, room, split.long)) (agree_same old.pool _ _ split some)

    module _ (new : Pages) (frames : Frames old new (mine ∷ []) (mine ∷ mine ∷ [])) (shows : IsKept (content_at old mine) (content_at new mine)) where
      pub copy_agree : (copy : Option ℕ) → copy ≡ mine → ∥ Agree new.pool (copy ∷ all ts) ∥₁
      copy_agree copy is = subst (λ (o : Option ℕ). ∥ Agree new.pool (o ∷ all ts) ∥₁) (sym is)
          (agree_same new.pool _ _ (record { long = omega (arith, split.long); occs = λ p. omega (arith, split.occs p) })
          (agree_after old new (mine ∷ []) (mine ∷ mine ∷ []) (more ++ all (without k ts)) (omega (arith, room, split.long)) frames
          (agree_same old.pool _ _ split some)))

      pub copy_keeps : (j : ℕ) → j < length ts → Keeps roots old new (get_or ts j none)
      copy_keeps j there i =
          let named = nth_named (roots (get_or ts j none)) i in
          all_keep old new mine _ (more ++ all (without k ts)) frames shows (agree_same old.pool _ _ split some) (omega (arith, room, split.long)) _
          (λ (x : ℕ) (e : get_or (roots (get_or ts j none)) i None ≡ Some x). omega (arith, named x e, in_all ts j x there, split.occs x))
