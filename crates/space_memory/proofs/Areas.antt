-- The areas of a memory, after a call on the space of one of them.
use Rattle.std.proofs.Common.{◌≡◌, ◌≤◌, ℕ, Bool, true, false, cond, nat_eq, List, [], ◌∷◌, length, Option, Some, refl, sym, ap, ◌∙◌, subst, arith, eqb-true, true≢false}
use Rattle.std.specs.List.{AllByRecursion}
use Rattle.std.specs.Option.{is_some, unwrap_or}
use Rattle.std.proofs.lemmas.Map.{length-set_value}
use Rattle.task_numbers.specs.declared.number.SpaceNo.{SpaceNo}
use Rattle.eu_base.specs.declared.address.Area.{Area}
use Rattle.eu_base.specs.declared.address.Area.TheVariants.{Run, Packets, Space}
use Rattle.eu_base.specs.Cells.{same_area}
use Rattle.eu_base.specs.Spaces.{IsKept}
use Rattle.eu_base.specs.DataSpaces.{Head, heads_in}
use Rattle.eu_base.specs.SpaceCells.{IsThere}
use Rattle.eu_base.proofs.Heads.{live_there}
use Rattle.space_memory.specs.Below.page_table.specs.Frames.{Over as Pages, content_at, Frames}
use Rattle.data_space.specs.Data.{SpaceData}
use Rattle.space_memory.specs.Kept.{KeepsBytes, IsOfKind}
use Rattle.space_memory.specs.Live.{space_at, IsLive, no_space, the_space, without, with_space, space_roots}
use Rattle.space_memory.specs.Memories.{MemoryData, KeepsSpace, StandsWhole, MemoryFrames, changed, head_of, memory_heads, is_there, space_in, most_roots, roots}
use Rattle.space_memory.specs.Changes.{OnlyRun, OnlyPackets, OnlySpace, OnlyIn, LeavesOthers, kind_none, frames_before}
use Rattle.space_memory.proofs.Framed.{roots_long, whole_after}

-- ---- lists of spaces

-- what holds of each root holds of that of a live space
pub root_among : (P : Option ℕ → Type 0) (n : ℕ) (es : List (ℕ × SpaceData)) → IsLive n es → AllByRecursion P (space_roots es) → P (the_space n es).root
root_among P n [] live each = absurd (true≢false (sym live))
root_among P n (e ∷ es) live each = by (nat_eq n e.0) live (root_among P n es)
  where
    by : (b : Bool) → is_some (cond b (Some e.1) (space_at n es)) ≡ true → (IsLive n es → AllByRecursion P (space_roots es) → P (the_space n es).root)
        → P (unwrap_or (cond b (Some e.1) (space_at n es)) no_space).root
    by true live rest = each.0
    by false live rest = rest live each.1

-- another number does not lead to the space that is left out, or to the one that comes in its place
pub at_without : (n k : ℕ) → nat_eq n k ≡ false → (es : List (ℕ × SpaceData)) → space_at n (without k es) ≡ space_at n es
at_without n k apart [] = refl
at_without n k apart (e ∷ es) = by (nat_eq k e.0) (nat_eq n e.0) refl refl (at_without n k apart es)
  where
    by : (c b : Bool) → nat_eq k e.0 ≡ c → nat_eq n e.0 ≡ b → space_at n (without k es) ≡ space_at n es
        → space_at n (cond c es (e ∷ without k es)) ≡ cond b (Some e.1) (space_at n es)
    by true true here same rest =
        let k_is : k ≡ e.0 = eqb-true k e.0 here in
        let n_is : n ≡ e.0 = eqb-true n e.0 same in
        let f : false ≡ true = sym apart ∙ ap (nat_eq n) k_is ∙ same in absurd (true≢false (sym f))
    by true false here other rest = refl
    by false true there same rest = ap (λ (b : Bool). cond b (Some e.1) (space_at n (without k es))) same
    by false false there other rest = ap (λ (b : Bool). cond b (Some e.1) (space_at n (without k es))) other ∙ rest

pub at_with : (n k : ℕ) → nat_eq n k ≡ false → (w : SpaceData) (es : List (ℕ × SpaceData)) → space_at n (with_space k w es) ≡ space_at n es
at_with n k apart w [] = refl
at_with n k apart w (e ∷ es) = by (nat_eq k e.0) (nat_eq n e.0) refl refl (at_with n k apart w es)
  where
    by : (c b : Bool) → nat_eq k e.0 ≡ c → nat_eq n e.0 ≡ b → space_at n (with_space k w es) ≡ space_at n es
        → space_at n (cond c ((e.0, w) ∷ es) (e ∷ with_space k w es)) ≡ cond b (Some e.1) (space_at n es)
    by true true here same rest =
        let k_is : k ≡ e.0 = eqb-true k e.0 here in
        let f : false ≡ true = sym apart ∙ ap (nat_eq n) k_is ∙ same in absurd (true≢false (sym f))
    by true false here other rest = ap (λ (b : Bool). cond b (Some w) (space_at n es)) other
    by false true there same rest = ap (λ (b : Bool). cond b (Some e.1) (space_at n (with_space k w es))) same
    by false false there other rest = ap (λ (b : Bool). cond b (Some e.1) (space_at n (with_space k w es))) other ∙ rest

-- a number is live where a space comes in the place of another
pub live_with : (n k : ℕ) (w : SpaceData) (es : List (ℕ × SpaceData)) → is_some (space_at n (with_space k w es)) ≡ is_some (space_at n es)
live_with n k w [] = refl
live_with n k w (e ∷ es) = by (nat_eq k e.0) (nat_eq n e.0) refl (live_with n k w es)
  where
    by : (c b : Bool) → nat_eq n e.0 ≡ b → is_some (space_at n (with_space k w es)) ≡ is_some (space_at n es)
        → is_some (space_at n (cond c ((e.0, w) ∷ es) (e ∷ with_space k w es))) ≡ is_some (cond b (Some e.1) (space_at n es))
    by true true same rest = ap (λ (b : Bool). is_some (cond b (Some w) (space_at n es))) same
    by true false other rest = ap (λ (b : Bool). is_some (cond b (Some w) (space_at n es))) other
    by false true same rest = ap (λ (b : Bool). is_some (cond b (Some e.1) (space_at n (with_space k w es)))) same
    by false false other rest = ap (λ (b : Bool). is_some (cond b (Some e.1) (space_at n (with_space k w es)))) other ∙ rest

-- a space in the place of one with the same type and shape
pub heads_with : (n : ℕ) (w : SpaceData) (es : List (ℕ × SpaceData)) → head_of w ≡ head_of (the_space n es)
    → heads_in head_of (with_space n w es) ≡ heads_in head_of es
heads_with n w [] same = refl
heads_with n w (e ∷ es) same = by (nat_eq n e.0) same (heads_with n w es)
  where
    by : (b : Bool) → head_of w ≡ head_of (unwrap_or (cond b (Some e.1) (space_at n es)) no_space)
        → (head_of w ≡ head_of (the_space n es) → heads_in head_of (with_space n w es) ≡ heads_in head_of es)
        → heads_in head_of (cond b ((e.0, w) ∷ es) (e ∷ with_space n w es)) ≡ (e.0, head_of e.1) ∷ heads_in head_of es
    by true is rest = ap (λ (h : Head). (e.0, h) ∷ heads_in head_of es) is
    by false is rest = ap (λ (l : List (ℕ × Head)). (e.0, head_of e.1) ∷ l) (rest is)

same_head : (a b : SpaceData) → IsOfKind a b → head_of b ≡ head_of a
same_head a b same = ap (λ k. record { kind = k; shape = b.shape }) same.kind ∙ ap (λ s. record { kind = a.kind; shape = s }) same.shape

-- ---- an area that is there

pub there_is : (m : MemoryData) (a : Area) → IsThere (memory_heads m) a → is_there a m ≡ true
there_is m Run there = refl
there_is m Packets there = refl
there_is m (Space s) there = sym (live_there head_of s.0 m.spaces) ∙ there

pub live_area : (m : MemoryData) (a : Area) (s : SpaceNo) → a ≡ Space s → IsThere (memory_heads m) a → IsLive s.0 m.spaces
live_area m a s is there = there_is m (Space s) (subst (IsThere (memory_heads m)) is there)

-- ---- a call on one space

pub same_long : (n : ℕ) (w : SpaceData) (m : MemoryData) → length (roots (changed n w m)) ≡ length (roots m)
same_long n w m = omega (arith, roots_long (with_space n w m.spaces), roots_long m.spaces, length-set_value (nat_eq n) m.spaces w)

module _ (old new : Pages) (was now : MemoryData) where
  abbrev pub same_bytes : Option ℕ → Type 0
  same_bytes root = IsKept (content_at old root) (content_at new root)

  -- where the live spaces are the same ones
  spaces_there : now.spaces ≡ was.spaces → (b : Area) → is_there b now ≡ is_there b was
  spaces_there is Run = refl
  spaces_there is Packets = refl
  spaces_there is (Space s) = ap (λ (es : List (ℕ × SpaceData)). is_some (space_at s.0 es)) is

  live_kept : now.spaces ≡ was.spaces → AllByRecursion same_bytes (space_roots was.spaces) → (s : SpaceNo) → is_there (Space s) was ≡ true
      → KeepsSpace old new (space_in (Space s) was) (space_in (Space s) now)
  live_kept is each s live =
      subst (λ (es : List (ℕ × SpaceData)). KeepsSpace old new (the_space s.0 was.spaces) (the_space s.0 es)) (sym is)
      (root_among same_bytes s.0 was.spaces live each)

  pub of_run : OnlyRun old new was now → OnlyIn Run old new was now
  of_run only = record {
    heads = ap memory_heads only.memory;
    run_kind = only.kind;
    packets_kind = subst (IsOfKind was.packets) (sym packets) (kind_none was.packets);
    long = ap (λ (m : MemoryData). length (roots m)) only.memory;
    leaves = record { knows = only.keeps.knows; there = spaces_there (ap (λ (m : MemoryData). m.spaces) only.memory); others = others };
  }
    where
      packets : now.packets ≡ was.packets
      packets = ap (λ (m : MemoryData). m.packets) only.memory

      others : (b : Area) → same_area b Run ≡ false → is_there b was ≡ true → KeepsSpace old new (space_in b was) (space_in b now)
      others Run apart live = absurd (true≢false apart)
      others Packets apart live = subst (λ (s : SpaceData). KeepsSpace old new was.packets s) (sym packets) only.keeps.each.0
      others (Space s) apart live = live_kept (ap (λ (m : MemoryData). m.spaces) only.memory) only.keeps.each.1 s live

  pub of_packets : OnlyPackets old new was now → OnlyIn Packets old new was now
  of_packets only = record {
    heads = ap memory_heads only.memory;
    run_kind = subst (IsOfKind was.run) (sym run) (kind_none was.run);
    packets_kind = only.kind;
    long = ap (λ (m : MemoryData). length (roots m)) only.memory;
    leaves = record { knows = only.keeps.knows; there = spaces_there (ap (λ (m : MemoryData). m.spaces) only.memory); others = others };
  }
    where
      run : now.run ≡ was.run
      run = ap (λ (m : MemoryData). m.run) only.memory

      others : (b : Area) → same_area b Packets ≡ false → is_there b was ≡ true → KeepsSpace old new (space_in b was) (space_in b now)
      others Run apart live = subst (λ (s : SpaceData). KeepsSpace old new was.run s) (sym run) only.keeps.each.0
      others Packets apart live = absurd (true≢false apart)
      others (Space s) apart live = live_kept (ap (λ (m : MemoryData). m.spaces) only.memory) only.keeps.each.1 s live

  module _ (n : SpaceNo) (is : now ≡ changed n.0 (the_space n.0 now.spaces) was)
      (keeps : KeepsBytes old new (was.run.root ∷ was.packets.root ∷ space_roots (without n.0 was.spaces))) where
    abbrev w : SpaceData
    w = the_space n.0 now.spaces

    spaces : now.spaces ≡ with_space n.0 w was.spaces
    spaces = ap (λ (m : MemoryData). m.spaces) is

    area_there : (b : Area) → is_there b now ≡ is_there b was
    area_there Run = refl
    area_there Packets = refl
    area_there (Space s) = ap (λ (es : List (ℕ × SpaceData)). is_some (space_at s.0 es)) spaces ∙ live_with s.0 n.0 w was.spaces

    area_kept : (b : Area) → same_area b (Space n) ≡ false → is_there b was ≡ true → KeepsSpace old new (space_in b was) (space_in b now)
    area_kept Run apart live = subst (λ (s : SpaceData). KeepsSpace old new was.run s) (sym (ap (λ (m : MemoryData). m.run) is)) keeps.each.0
    area_kept Packets apart live = subst (λ (s : SpaceData). KeepsSpace old new was.packets s) (sym (ap (λ (m : MemoryData). m.packets) is)) keeps.each.1.0
    area_kept (Space s) apart live =
        let left : the_space s.0 (without n.0 was.spaces) ≡ the_space s.0 was.spaces =
        ap (λ (o : Option SpaceData). unwrap_or o no_space) (at_without s.0 n.0 apart was.spaces) in
        let same : the_space s.0 now.spaces ≡ the_space s.0 was.spaces =
        ap (the_space s.0) spaces ∙ ap (λ (o : Option SpaceData). unwrap_or o no_space) (at_with s.0 n.0 apart w was.spaces) in
        let there : IsLive s.0 (without n.0 was.spaces) = ap (λ (o : Option SpaceData). is_some o) (at_without s.0 n.0 apart was.spaces) ∙ live in
        subst (λ (d : SpaceData). KeepsSpace old new (the_space s.0 was.spaces) d) (sym same)
        (subst (λ (d : SpaceData). same_bytes d.root) left (root_among same_bytes s.0 (without n.0 was.spaces) there keeps.each.1.1))

    pub leaves_others : LeavesOthers (Space n) old new was now
    leaves_others = record { knows = keeps.knows; there = area_there; others = area_kept }

  pub of_space : (n : SpaceNo) → OnlySpace n.0 old new was now → OnlyIn (Space n) old new was now
  of_space n only = record {
    heads = ap memory_heads only.memory
        ∙ ap (λ (l : List (ℕ × Head)). record (memory_heads was) { live = l })
        (heads_with n.0 (the_space n.0 now.spaces) was.spaces (same_head (the_space n.0 was.spaces) (the_space n.0 now.spaces) only.kind));
    run_kind = subst (IsOfKind was.run) (sym (ap (λ (m : MemoryData). m.run) only.memory)) (kind_none was.run);
    packets_kind = subst (IsOfKind was.packets) (sym (ap (λ (m : MemoryData). m.packets) only.memory)) (kind_none was.packets);
    long = ap (λ (m : MemoryData). length (roots m)) only.memory ∙ same_long n.0 (the_space n.0 now.spaces) was;
    leaves = leaves_others n only.memory only.keeps;
  }

-- ---- what a call on one space leaves of a memory over its pool
pub record Left (area : Area) (old new : Pages) (was now : MemoryData) : Type 0 where
  pub only : OnlyIn area old new was now
  pub whole : StandsWhole new.pool (roots now)
  pub frames : MemoryFrames old new (roots was) (roots now)

pub left : (area : Area) (old new : Pages) (was now : MemoryData) → OnlyIn area old new was now → Frames old new (roots was) (roots now)
    → StandsWhole old.pool (roots was) → Left area old new was now
left area old new was now only f s =
    let few : length (roots now) ≤ most_roots = omega (arith, only.long, s.few) in
    record { only = only; whole = whole_after old new (roots was) (roots now) few f s; frames = frames_before old new (roots was) (roots now) few f }
