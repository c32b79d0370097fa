-- What a memory keeps while the data spaces that nothing denotes are forgotten.
use Rattle.std.proofs.Common.{◌≡◌, ℕ, zero, suc, ◌+◌, ◌-◌, ◌<◌, ◌≤◌, Bool, true, false, cond, nat_eq, List, [], ◌∷◌, length, Option, Some, None, refl, sym, ap, ◌∙◌, subst, arith, filter, not}
use Rattle.std.specs.Prelude.{slice_get, option_map, get_or, ◌==◌}
use Rattle.std.specs.List.{list_any}
use Rattle.std.proofs.lemmas.Option.{slice_get-get_or}
use Rattle.task_numbers.specs.declared.number.SpaceNo.{SpaceNo}
use Rattle.eu_base.specs.declared.value.Kind.{Kind}
use Rattle.eu_base.specs.DataSpaces.{Head, Heads, Space, head_of, no_space, last_number, without_space}
use Rattle.eu_base.proofs.Heads.{long_heads}
use Rattle.page_pool.specs.Pool.{Pages}
use Rattle.task_tidy.specs.Below.data_space.specs.Data.{SpaceData}
use Rattle.task_tidy.specs.Below.task_job.specs.Here.{Frames, KeepsBytes}
use Rattle.task_tidy.specs.Below.task_job.proofs.Here.{stands_after}
use Rattle.task_tidy.specs.Below.space_memory.specs.Live.{without}
use Rattle.task_tidy.specs.Below.space_memory.specs.Memories.{MemoryData, memory_heads, roots, most_roots, forgotten, StandsWhole}
use Rattle.task_tidy.specs.Below.space_memory.specs.Memories as memories
use Rattle.task_tidy.specs.Below.space_memory.proofs.Framed.{roots_long}
use Rattle.task_tidy.specs.Below.system_meaning.specs.Stores.{Store, is_used, only_used}
use Rattle.task_tidy.specs.Below.task_job.specs.Standing.{Keeps}
use Rattle.task_tidy.specs.Below.task_texts.proofs.Coming.{forgets}
use Rattle.task_tidy.specs.Tidied.{gone_unless, tidied_by, tidied_at, tidied_from}
use Rattle.task_tidy.proofs.Left.{at_most, number_same, left_from, is_there, kept_there, gone_there, neither, names_stay}

-- ---- one place

module _ (ks : List Kind) (pages : Pages) (m : MemoryData) (store : Store) (h : Keeps ks pages m store) where
  -- the memory has the number there that the store has
  number_there : (k : ℕ) → option_map (λ (e : ℕ × SpaceData). e.0) (slice_get m.spaces k) ≡ option_map (λ (e : ℕ × Space). e.0) (slice_get store.spaces.live k)
  number_there k =
      sym (number_same memories.head_of m.spaces k)
      ∙ ap (λ (u : Heads). option_map (λ (e : ℕ × Head). e.0) (slice_get u.live k)) h.spaces.heads
      ∙ number_same head_of store.spaces.live k

  as_many : length m.spaces ≡ length store.spaces.live
  as_many = sym (long_heads memories.head_of m.spaces) ∙ ap (λ (u : Heads). length u.live) h.spaces.heads ∙ long_heads head_of store.spaces.live

  pub none_at : (k : ℕ) → None ≡ option_map (λ (e : ℕ × SpaceData). e.0) (slice_get m.spaces k) → Keeps ks pages m (tidied_at k store)
  none_at k is = by (slice_get store.spaces.live k) (is ∙ number_there k)
    where
      by : (o : Option (ℕ × Space)) → None ≡ option_map (λ (e : ℕ × Space). e.0) o → Keeps ks pages m (tidied_by o store)
      by None e = h
      by (Some x) e = let f : ⊥ = cc in absurd f

  pub low_at : (k n : ℕ) → Some n ≡ option_map (λ (e : ℕ × SpaceData). e.0) (slice_get m.spaces k) → n ≤ last_number
  low_at k n is = by (slice_get store.spaces.live k) refl (is ∙ number_there k)
    where
      by : (o : Option (ℕ × Space)) → slice_get store.spaces.live k ≡ o → Some n ≡ option_map (λ (e : ℕ × Space). e.0) o → n ≤ last_number
      by None there e = let f : ⊥ = cc in absurd f
      by (Some x) there e =
          let same : n ≡ x.0 = cc in
          let low = at_most head_of 0 store.spaces.live store.spaces.last k x h.spaces.given.rise there in
          omega (arith, same, low, h.spaces.sound.given)

  tidied_is : (k n : ℕ) (used : Bool) → Some n ≡ option_map (λ (e : ℕ × SpaceData). e.0) (slice_get m.spaces k) → used ≡ is_used n store
      → gone_unless used n store ≡ tidied_at k store
  tidied_is k n used is so = by (slice_get store.spaces.live k) (is ∙ number_there k)
    where
      by : (o : Option (ℕ × Space)) → Some n ≡ option_map (λ (e : ℕ × Space). e.0) o → gone_unless used n store ≡ tidied_by o store
      by None e = let f : ⊥ = cc in absurd f
      by (Some x) e =
          let same : n ≡ x.0 = cc in
          ap (λ b. gone_unless b n store) so ∙ ap (λ (j : ℕ). gone_unless (is_used j store) j store) same

  pub used_at : (k n : ℕ) (used : Bool) (new : Pages) (now : MemoryData) → Some n ≡ option_map (λ (e : ℕ × SpaceData). e.0) (slice_get m.spaces k)
      → used ≡ is_used n store → used ≡ true → Keeps ks new now store → Keeps ks new now (tidied_at k store)
  used_at k n used new now is so is_used_so later =
      subst (λ (s : Store). Keeps ks new now s) (tidied_is k n used is so)
      (subst (λ b. Keeps ks new now (gone_unless b n store)) (sym is_used_so) later)

  pub gone_at : (k : ℕ) (s : SpaceNo) (used : Bool) (middle new : Pages) (now last : MemoryData)
      → Some s.0 ≡ option_map (λ (e : ℕ × SpaceData). e.0) (slice_get m.spaces k) → used ≡ is_used s.0 store → used ≡ false → Keeps ks middle now store
      → last ≡ forgotten s.0 now → KeepsBytes middle new (roots last) → Keeps ks new last (tidied_at k store)
  gone_at k s used middle new now last is so not_used later same kept =
      let there = forgets ks middle new now store s (subst (λ (u : MemoryData). KeepsBytes middle new (roots u)) same kept) later in
      subst (λ (x : Store). Keeps ks new last x) (tidied_is k s.0 used is so)
      (subst (λ b. Keeps ks new last (gone_unless b s.0 store)) (sym not_used)
      (subst (λ (u : MemoryData). Keeps ks new u (record store { spaces = without_space s store.spaces })) (sym same) there))

  -- ---- one place after the other

  abbrev with_live : List (ℕ × Space) → Store
  with_live live = record store { spaces = record store.spaces { live = live } }

  abbrev with_both : List (ℕ × Space) → List (List ℕ × SpaceNo) → Store
  with_both live names = record store { spaces = record store.spaces { live = live; names = names } }

  one_place : (k : ℕ) (e : ℕ × Space) → slice_get store.spaces.live k ≡ Some e → tidied_at k (tidied_from (suc k) store) ≡ tidied_from k store
  one_place k e is =
      let used = λ (n : ℕ). is_used n store in
      ap (λ (o : Option (ℕ × Space)). tidied_by o (tidied_from (suc k) store)) (is_there used k store.spaces.live e is) ∙ by (is_used e.0 store) refl
    where
      by : (b : Bool) → is_used e.0 store ≡ b → gone_unless b e.0 (tidied_from (suc k) store) ≡ tidied_from k store
      by true u = ap with_live (kept_there (λ (n : ℕ). is_used n store) k store.spaces.live e is u)
      by false u =
          let no_name = neither _ (list_any (λ (entry : List ℕ × SpaceNo). entry.1.0 == e.0) store.spaces.names) u in
          ap (λ (live : List (ℕ × Space)). with_both live (filter (λ (x : List ℕ × SpaceNo). not (nat_eq e.0 x.1.0)) store.spaces.names))
          (gone_there (λ (n : ℕ). is_used n store) head_of 0 store.spaces.last k store.spaces.live e h.spaces.given.rise is u)
          ∙ ap (λ (names : List (List ℕ × SpaceNo)). with_both (left_from (λ (n : ℕ). is_used n store) k store.spaces.live) names)
          (names_stay e.0 store.spaces.names no_name.1)

  pub next_place : (count done : ℕ) → count ≡ length m.spaces → done < count
      → tidied_at (count - 1 - done) (tidied_from (count - done) store) ≡ tidied_from (count - (done + 1)) store
  next_place count done many lt =
      let k = count - 1 - done in
      let next : count - done ≡ suc (count - 1 - done) = omega (arith, lt) in
      let last : count - 1 - done ≡ count - (done + 1) = omega (arith, lt) in
      let within : count - 1 - done < length store.spaces.live = omega (arith, lt, many, as_many) in
      ap (λ (j : ℕ). tidied_at (count - 1 - done) (tidied_from j store)) next
      ∙ one_place (count - 1 - done) (get_or store.spaces.live (count - 1 - done) (0, no_space))
      (slice_get-get_or store.spaces.live (count - 1 - done) (0, no_space) within)
      ∙ ap (λ (j : ℕ). tidied_from j store) last

  -- at first all are left
  pub all_first : (count : ℕ) → count ≡ length m.spaces → Keeps ks pages m (tidied_from (count - 0) store)
  all_first count many =
      let le : length store.spaces.live ≤ count - 0 = omega (arith, many, as_many) in
      subst (λ (live : List (ℕ × Space)). Keeps ks pages m (with_live live)) (sym (whole (count - 0) store.spaces.live le)) h
    where
      none_left : (n : ℕ) → left_from {T = Space} (λ (j : ℕ). is_used j store) n [] ≡ []
      none_left zero = refl
      none_left (suc n) = refl

      whole : (n : ℕ) (live : List (ℕ × Space)) → length live ≤ n → left_from (λ (j : ℕ). is_used j store) n live ≡ live
      whole n [] le = none_left n
      whole zero (e ∷ live) le = absurd (omega (arith, le))
      whole (suc n) (e ∷ live) le = ap (λ l. e ∷ l) (whole n live (omega (arith, le)))

  -- and at last those that are used
  pub all_last : (new : Pages) (now : MemoryData) (count done : ℕ) → count ≤ done → Keeps ks new now (tidied_from (count - done) store)
      → Keeps ks new now (record store { spaces = only_used store })
  all_last new now count done le later =
      let end : count - done ≡ 0 = omega (arith, le) in subst (λ (j : ℕ). Keeps ks new now (tidied_from j store)) end later

-- ---- roots

fewer : (n : ℕ) (es : List (ℕ × SpaceData)) → length (without n es) ≤ length es
fewer n [] = omega arith
fewer n (e ∷ es) = by (nat_eq n e.0) (fewer n es)
  where
    by : (b : Bool) → length (without n es) ≤ length es → length (cond b es (e ∷ without n es)) ≤ suc (length es)
    by true le = omega arith
    by false le = omega (arith, le)

pub fewer_roots : (n : ℕ) (m now : MemoryData) → now ≡ forgotten n m → length (roots now) ≤ length (roots m)
fewer_roots n m now is =
    let many = ap (λ (u : MemoryData). length (roots u)) is in
    omega (arith, many, fewer n m.spaces, roots_long m.spaces, roots_long (without n m.spaces))

pub whole_less : (old new : Pages) (n : ℕ) (m now : MemoryData) → now ≡ forgotten n m → Frames old new (roots m) (roots now) → StandsWhole old (roots m)
    → StandsWhole new (roots now)
whole_less old new n m now is f s =
    let less = fewer_roots n m now is in
    record {
      few = omega (arith, less, s.few);
      stands =
          stands_after old new (roots m) (roots now) (most_roots - length (roots m)) (most_roots - length (roots now)) (omega (arith, less, s.few)) f s.stands;
    }
