-- A memory over a pool, after a call on one of its spaces: that of the command, that of the packets, and the live ones.
use Rattle.std.proofs.Common.{nat_eq, cond, Bool, true, false, ℤ, Some, List, ◌≡◌, ◌+◌, ◌-◌, ◌<◌, ◌≤◌, ℕ, [], ◌∷◌, ◌++◌, length, Option, None, refl, sym, ap, ◌∙◌, subst, arith}
use Rattle.std.specs.Map.{lookup, set_value}
use Rattle.std.specs.Option.{IfSome}
use Rattle.eu_base.specs.Spaces.{IsKept}
use Rattle.page_pool.specs.Pool.{Pages}
use Rattle.space_memory.specs.Below.page_table.specs.Entries.{Names}
use Rattle.space_memory.specs.Below.page_table.specs.Frames.{Over, over, content_at, Frames, Stands}
use Rattle.space_memory.specs.Below.page_table.specs.Sharing.{Agree}
use Rattle.space_memory.specs.Below.page_table.proofs.Framing.{Same, same_self, frames_same, frames_more, frames_nil, frames_none, frames_then, stands_same, stands_first, stands_after, beside}
use Rattle.space_memory.specs.Below.page_table.proofs.Counting.{occ-append}
use Rattle.std.proofs.lemmas.List.{length-append, append-nil}
use Rattle.std.proofs.lemmas.Map.{length-set_value}
use Rattle.space_memory.specs.Kept.{KeepsBytes, IsOfKind}
use Rattle.space_memory.proofs.Roots.{all_named, flip, last_one, apart}
use Rattle.data_space.specs.Data.{SpaceData}
use Rattle.space_memory.specs.Live.{LiveData, no_space, space_roots, IsLive, IsNumbered, the_space, without, with_space}
use Rattle.space_memory.proofs.Numbers.{live_is}
use Rattle.space_memory.specs.Memories.{MemoryData, roots, with_new, forgotten, most_roots, StandsWhole}
use Rattle.space_memory.specs.Changes.{OnlyRun, OnlyPackets, OnlySpace}

-- how many spaces there are
pub roots_long : (es : List (ℕ × SpaceData)) → length (space_roots es) ≡ length es
roots_long [] = refl
roots_long (e ∷ es) = omega (arith, roots_long es)

-- so there is room for the spaces of many tasks
pub few_roots : (m : MemoryData) → IsNumbered m.spaces m.last → length (roots m) ≤ 18
few_roots m is = omega (arith, is.few, roots_long m.spaces)

-- the spaces beside those of a call keep their bytes
pub beside_keep : (old new : Over) (a b others : Names) (more : ℕ) → length b ≤ length a + more → Frames old new a b → Stands old.pool (a ++ others) more
    → KeepsBytes old new others
beside_keep old new a b others more few f s =
    record { knows = f.knows; each = all_named (λ root. IsKept (content_at old root) (content_at new root)) others (beside old new a b others more few f s) }

module _ (run packets : Option ℕ) (rest : Names) where
  second : Same (run ∷ packets ∷ rest) (packets ∷ run ∷ rest)
  second = record { long = refl; occs = λ p. omega arith }

  thirds : Same (run ∷ packets ∷ rest) (rest ++ run ∷ packets ∷ [])
  thirds = record {
    long = omega (arith, length-append rest (run ∷ packets ∷ []));
    occs = λ p. omega (arith, occ-append p rest (run ∷ packets ∷ []));
  }

  module _ (pages : Pages) (more : ℕ) (s : Stands pages (run ∷ packets ∷ rest) more) where
    pub run_stands : Stands pages (run ∷ []) more
    run_stands = stands_first pages (run ∷ []) (packets ∷ rest) more s

    pub packets_apart : Stands pages (packets ∷ run ∷ rest) more
    packets_apart = stands_same pages _ _ more second s

    pub packets_stand : Stands pages (packets ∷ []) more
    packets_stand = stands_first pages (packets ∷ []) (run ∷ rest) more packets_apart

    pub rest_apart : Stands pages (rest ++ run ∷ packets ∷ []) more
    rest_apart = stands_same pages _ _ more thirds s

    pub rest_stand : Stands pages rest more
    rest_stand = stands_first pages rest (run ∷ packets ∷ []) more rest_apart

-- only the space of the command changes
module _ (old new : Over) (run later packets : Option ℕ) (rest : Names) (f : Frames old new (run ∷ []) (later ∷ [])) where
  pub run_frames : Frames old new (run ∷ packets ∷ rest) (later ∷ packets ∷ rest)
  run_frames = frames_more old new (run ∷ []) (later ∷ []) (packets ∷ rest) f

  pub run_keeps : Stands old.pool (run ∷ packets ∷ rest) 0 → KeepsBytes old new (packets ∷ rest)
  run_keeps s = beside_keep old new (run ∷ []) (later ∷ []) (packets ∷ rest) 0 (omega arith) f s

-- only that of the packets
module _ (old new : Over) (run packets later : Option ℕ) (rest : Names) (f : Frames old new (packets ∷ []) (later ∷ [])) where
  pub packets_frames : Frames old new (run ∷ packets ∷ rest) (run ∷ later ∷ rest)
  packets_frames =
      frames_same old new _ _ _ _ (flip _ _ (second run packets rest)) (flip _ _ (second run later rest))
      (frames_more old new (packets ∷ []) (later ∷ []) (run ∷ rest) f)

  pub packets_keep : Stands old.pool (run ∷ packets ∷ rest) 0 → KeepsBytes old new (run ∷ rest)
  packets_keep s =
      beside_keep old new (packets ∷ []) (later ∷ []) (run ∷ rest) 0 (omega arith) f (packets_apart run packets rest old.pool 0 s)

-- only the live ones
module _ (old new : Over) (run packets : Option ℕ) (rest later : Names) (f : Frames old new rest later) where
  pub rest_frames : Frames old new (run ∷ packets ∷ rest) (run ∷ packets ∷ later)
  rest_frames =
      frames_same old new _ _ _ _ (flip _ _ (thirds run packets rest)) (flip _ _ (thirds run packets later))
      (frames_more old new rest later (run ∷ packets ∷ []) f)

  pub rest_keeps : (more : ℕ) → length later ≤ length rest + more → Stands old.pool (run ∷ packets ∷ rest) more → (kept : Names) → KeepsBytes old new kept
      → KeepsBytes old new (run ∷ packets ∷ kept)
  rest_keeps more few s kept k =
      let two = beside_keep old new rest later (run ∷ packets ∷ []) more few f (rest_apart run packets rest old.pool more s) in
      record { knows = two.knows; each = (two.each.0, (two.each.1.0, k.each)) }

-- a call on the space of the command, where v is the memory as its fields have it
module _ (v m : MemoryData) (is : v ≡ m) where
  pub command_stands : (pages : Pages) (more : ℕ) → Stands pages (roots m) more → Stands pages (v.run.root ∷ []) more
  command_stands pages more s = run_stands _ _ _ pages more (subst (λ (u : MemoryData). Stands pages (roots u) more) (sym is) s)

  pub parcel_stands : (pages : Pages) (more : ℕ) → Stands pages (roots m) more → Stands pages (v.packets.root ∷ []) more
  parcel_stands pages more s = packets_stand _ _ _ pages more (subst (λ (u : MemoryData). Stands pages (roots u) more) (sym is) s)

  module _ (old new : Over) (later : SpaceData) where
    pub command_frames : Frames old new (v.run.root ∷ []) (later.root ∷ []) → Frames old new (roots m) (roots (record v { run = later }))
    command_frames f = subst (λ (u : MemoryData). Frames old new (roots u) (roots (record v { run = later }))) is
        (run_frames old new _ later.root _ _ f)

    pub only_run : IsOfKind v.run later → Frames old new (v.run.root ∷ []) (later.root ∷ []) → Stands old.pool (roots m) 0
        → OnlyRun old new m (record v { run = later })
    only_run kind f s = subst (λ (u : MemoryData). OnlyRun old new u (record v { run = later })) is (record {
      memory = refl;
      kind = kind;
      keeps = run_keeps old new _ later.root _ _ f (subst (λ (u : MemoryData). Stands old.pool (roots u) 0) (sym is) s);
    })

    pub parcel_frames : Frames old new (v.packets.root ∷ []) (later.root ∷ []) → Frames old new (roots m) (roots (record v { packets = later }))
    parcel_frames f = subst (λ (u : MemoryData). Frames old new (roots u) (roots (record v { packets = later }))) is
        (packets_frames old new _ _ later.root _ f)

    pub only_packets : IsOfKind v.packets later → Frames old new (v.packets.root ∷ []) (later.root ∷ []) → Stands old.pool (roots m) 0
        → OnlyPackets old new m (record v { packets = later })
    only_packets kind f s = subst (λ (u : MemoryData). OnlyPackets old new u (record v { packets = later })) is (record {
      memory = refl;
      kind = kind;
      keeps = packets_keep old new _ _ later.root _ f (subst (λ (u : MemoryData). Stands old.pool (roots u) 0) (sym is) s);
    })

-- the space of the command is emptied
module _ (v m : MemoryData) (is : v ≡ m) (old new : Over) (f : Frames old new (v.run.root ∷ []) []) where
  emptied : Frames old new (v.run.root ∷ []) (None ∷ [])
  emptied = frames_then old new new (v.run.root ∷ []) [] (None ∷ []) (omega arith) f (frames_nil new [] (None ∷ []) (λ p. refl) (λ p. omega arith))

  pub cleared_frames : Frames old new (roots m) (roots (record v { run = no_space }))
  cleared_frames = command_frames v m is old new no_space emptied

  pub cleared_keeps : Stands old.pool (roots m) 0 → KeepsBytes old new (roots (record v { run = no_space }))
  cleared_keeps s =
      let others = run_keeps old new v.run.root None v.packets.root (space_roots v.spaces) emptied
      (subst (λ (u : MemoryData). Stands old.pool (roots u) 0) (sym is) s) in
      record { knows = others.knows; each = (λ n. refl, others.each) }

-- a son gets the packets
module _ (m : MemoryData) (old new : Over) (f : Frames old new (m.packets.root ∷ []) (m.packets.root ∷ m.packets.root ∷ [])) where
  pub son_frames : Frames old new (roots m) (roots m ++ None ∷ m.packets.root ∷ [])
  son_frames =
      let two = frames_more old new _ _ (m.run.root ∷ space_roots m.spaces) f in
      let nil = frames_more new new [] (None ∷ []) (m.packets.root ∷ m.packets.root ∷ m.run.root ∷ space_roots m.spaces)
      (frames_nil new [] (None ∷ []) (λ p. refl) (λ p. omega arith)) in
      frames_same old new _ _ _ _ (flip _ _ (second m.run.root m.packets.root (space_roots m.spaces))) last
      (frames_then old new new _ _ _ (omega arith) two nil)
    where
      last : Same (None ∷ m.packets.root ∷ m.packets.root ∷ m.run.root ∷ space_roots m.spaces) (roots m ++ None ∷ m.packets.root ∷ [])
      last = record {
        long = omega (arith, length-append (roots m) (None ∷ m.packets.root ∷ []));
        occs = λ p. omega (arith, occ-append p (roots m) (None ∷ m.packets.root ∷ []));
      }

  pub son_keeps : IsKept (content_at old m.packets.root) (content_at new m.packets.root) → Stands old.pool (roots m) 2 → KeepsBytes old new (roots m)
  son_keeps shows s =
      let apart = packets_apart m.run.root m.packets.root (space_roots m.spaces) old.pool 2 s in
      let k = beside_keep old new (m.packets.root ∷ []) (m.packets.root ∷ m.packets.root ∷ []) (m.run.root ∷ space_roots m.spaces) 2 (omega arith) f apart in
      record { knows = k.knows; each = (k.each.0, (shows, k.each.1)) }

pub fewer_stand : (pages : Pages) (names : Names) → Stands pages names 2 → Stands pages names 1
fewer_stand pages names s = stands_after (over pages None) (over pages None) names names 2 1 (omega arith) (frames_none (over pages None) names) s

-- all spaces are let go, one after the other
module _ (v m : MemoryData) (is : v ≡ m) (p0 p1 : Over) (live : Frames p0 p1 (space_roots v.spaces) []) where
  first_gone : Frames p0 p1 (roots v) (v.run.root ∷ v.packets.root ∷ [])
  first_gone = rest_frames p0 p1 v.run.root v.packets.root (space_roots v.spaces) [] live

  module _ (s : Stands p0.pool (roots m) 0) where
    first_left : Stands p1.pool (v.run.root ∷ v.packets.root ∷ []) 0
    first_left =
        stands_after p0 p1 (roots v) (v.run.root ∷ v.packets.root ∷ []) 0 0 (omega arith) first_gone
        (subst (λ (u : MemoryData). Stands p0.pool (roots u) 0) (sym is) s)

    pub second_stands : Stands p1.pool (v.packets.root ∷ []) 0
    second_stands = packets_stand v.run.root v.packets.root [] p1.pool 0 first_left

  module _ (p2 : Over) (packets : Frames p1 p2 (v.packets.root ∷ []) []) where
    second_gone : Frames p1 p2 (v.run.root ∷ v.packets.root ∷ []) (v.run.root ∷ [])
    second_gone =
        frames_same p1 p2 _ _ _ _ (flip _ _ (second v.run.root v.packets.root [])) (same_self (v.run.root ∷ []))
        (frames_more p1 p2 (v.packets.root ∷ []) [] (v.run.root ∷ []) packets)

    pub third_stands : Stands p0.pool (roots m) 0 → Stands p2.pool (v.run.root ∷ []) 0
    third_stands s = stands_after p1 p2 _ _ 0 0 (omega arith) second_gone (first_left s)

    two_gone : Frames p0 p2 (roots v) (v.run.root ∷ [])
    two_gone = frames_then p0 p1 p2 (roots v) (v.run.root ∷ v.packets.root ∷ []) (v.run.root ∷ []) (omega arith) first_gone second_gone

    pub all_gone : (p3 : Over) → Frames p2 p3 (v.run.root ∷ []) [] → Frames p0 p3 (roots m) []
    all_gone p3 run =
        subst (λ (u : MemoryData). Frames p0 p3 (roots u) []) is
        (frames_then p0 p2 p3 (roots v) (v.run.root ∷ []) [] (omega arith) two_gone run)

    pub last_agrees : Agree p0.pool (roots m) → Agree p2.pool (v.run.root ∷ [])
    last_agrees a =
        let b : Agree p0.pool (roots v) = subst (λ (u : MemoryData). Agree p0.pool (roots u)) (sym is) a in
        (two_gone.frame [] (subst (Agree p0.pool) (sym (append-nil (roots v))) b) (omega arith)).agrees

-- a call on the live spaces, where v is the memory as its fields have it
module _ (v m : MemoryData) (is : v ≡ m) where
  pub live_stand : (pages : Pages) (more : ℕ) → Stands pages (roots m) more → Stands pages (space_roots v.spaces) more
  live_stand pages more s = rest_stand _ _ _ pages more (subst (λ (u : MemoryData). Stands pages (roots u) more) (sym is) s)

  module _ (old new : Over) (later : List (ℕ × SpaceData)) (f : Frames old new (space_roots v.spaces) (space_roots later)) where
    pub live_frames : Frames old new (roots m) (v.run.root ∷ v.packets.root ∷ space_roots later)
    live_frames = subst (λ (u : MemoryData). Frames old new (roots u) (v.run.root ∷ v.packets.root ∷ space_roots later)) is
        (rest_frames old new v.run.root v.packets.root (space_roots v.spaces) (space_roots later) f)

    module _ (more : ℕ) (few : length later ≤ length v.spaces + more) (s : Stands old.pool (roots m) more) where
      pub left_keep : (kept : Names) → KeepsBytes old new kept → KeepsBytes old new (v.run.root ∷ v.packets.root ∷ kept)
      left_keep kept k =
          rest_keeps old new v.run.root v.packets.root (space_roots v.spaces) (space_roots later) f more
          (omega (arith, few, roots_long later, roots_long v.spaces)) (subst (λ (u : MemoryData). Stands old.pool (roots u) more) (sym is) s) kept k

      pub live_keep : (names : List (ℕ × SpaceData) → Names) → KeepsBytes old new (names v.spaces)
          → KeepsBytes old new (m.run.root ∷ m.packets.root ∷ names m.spaces)
      live_keep names k = subst (λ (u : MemoryData). KeepsBytes old new (u.run.root ∷ u.packets.root ∷ names u.spaces)) is (left_keep (names v.spaces) k)

-- an empty space came
pub nil_frames : (pages : Over) (m : MemoryData) → Frames pages pages (roots m) (roots (with_new no_space m))
nil_frames pages m =
    let s = last_one (m.last + 1) no_space m.spaces in
    frames_same pages pages _ _ _ _ (same_self (roots m))
    (record { long = omega (arith, s.long); occs = λ p. omega (arith, s.occs p) })
    (frames_more pages pages [] (None ∷ []) (roots m) (frames_nil pages [] (None ∷ []) (λ p. refl) (λ p. omega arith)))

-- a space that is taken out, or given, is in hand
pub taken_same : (n : ℕ) (m : MemoryData) → IsLive n m.spaces → Same (roots m) ((the_space n m.spaces).root ∷ roots (forgotten n m))
taken_same n m live =
    let s = apart (nat_eq n) m.spaces (the_space n m.spaces) (live_is n m.spaces live) in
    record { long = omega (arith, s.long); occs = λ p. omega (arith, s.occs p) }

pub given_same : (space : SpaceData) (m : MemoryData) → Same (roots (with_new space m)) (space.root ∷ roots m)
given_same space m =
    let s = last_one (m.last + 1) space m.spaces in
    record { long = omega (arith, s.long); occs = λ p. omega (arith, s.occs p) }

-- a space that has another type has the same root
module _ (test : ℕ → Bool) (w : SpaceData) where
  same_root : (es : List (ℕ × SpaceData)) → IfSome (lookup test es) (λ d. w.root ≡ d.root) → space_roots (set_value test es w) ≡ space_roots es
  same_root [] is = refl
  same_root (e ∷ es) is = by (test e.0) is (same_root es)
    where
      by : (b : Bool) → IfSome (cond b (Some e.1) (lookup test es)) (λ d. w.root ≡ d.root)
          → (IfSome (lookup test es) (λ d. w.root ≡ d.root) → space_roots (set_value test es w) ≡ space_roots es)
          → space_roots (cond b ((e.0, w) ∷ es) (e ∷ set_value test es w)) ≡ space_roots (e ∷ es)
      by true is rest = ap (λ (o : Option ℕ). o ∷ space_roots es) is
      by false is rest = ap (λ (l : Names). e.1.root ∷ l) (rest is)

pub kind_roots : (v m : MemoryData) → v ≡ m → (n : ℕ) (kind : ℤ) → IsLive n m.spaces
    → v.run.root ∷ v.packets.root ∷ space_roots (with_space n (record (the_space n v.spaces) { kind = kind }) v.spaces) ≡ roots m
kind_roots v m is n kind live =
    let w = record (the_space n v.spaces) { kind = kind } in
    let there : IsLive n v.spaces = subst (λ (u : MemoryData). IsLive n u.spaces) (sym is) live in
    let at = subst (λ (o : Option SpaceData). IfSome o (λ d. w.root ≡ d.root)) (sym (live_is n v.spaces there)) refl in
    ap (λ (l : Names). v.run.root ∷ v.packets.root ∷ l) (same_root (nat_eq n) w v.spaces at) ∙ ap roots is

pub taken_frames : (v m : MemoryData) → v ≡ m → (n : ℕ) → IsLive n m.spaces → (pages : Over)
    → Frames pages pages (roots m) ((the_space n v.spaces).root ∷ v.run.root ∷ v.packets.root ∷ space_roots (without n v.spaces))
taken_frames v m is n live pages =
    let there : IsLive n v.spaces = subst (λ (u : MemoryData). IsLive n u.spaces) (sym is) live in
    subst (λ (u : MemoryData). Frames pages pages (roots u) ((the_space n v.spaces).root ∷ v.run.root ∷ v.packets.root ∷ space_roots (without n v.spaces))) is
    (frames_same pages pages _ _ _ _ (same_self (roots v)) (taken_same n v there) (frames_none pages (roots v)))

pub given_frames : (v m : MemoryData) → v ≡ m → (space : SpaceData) (pages : Over) → Frames pages pages (space.root ∷ roots m) (roots (with_new space v))
given_frames v m is space pages =
    subst (λ (u : MemoryData). Frames pages pages (space.root ∷ roots u) (roots (with_new space v))) is
    (frames_same pages pages _ _ _ _ (same_self (space.root ∷ roots v)) (flip _ _ (given_same space v)) (frames_none pages (space.root ∷ roots v)))

-- the memory with its data spaces as they are now
abbrev pub with_live : MemoryData → LiveData → MemoryData
with_live v later = record v { spaces = later.spaces; last = later.last }

with_length : (n : ℕ) (w : SpaceData) (es : List (ℕ × SpaceData)) → length (with_space n w es) ≡ length es
with_length n w es = length-set_value (nat_eq n) es w

-- only the space under a number changes
pub only_space : (v m : MemoryData) → v ≡ m → (old new : Over) (n : ℕ) (later : LiveData)
    → later ≡ record { spaces = with_space n (the_space n later.spaces) v.spaces; last = v.last }
    → IsOfKind (the_space n v.spaces) (the_space n later.spaces) → Frames old new (space_roots v.spaces) (space_roots later.spaces)
    → KeepsBytes old new (space_roots (without n v.spaces)) → Stands old.pool (roots m) 0 → OnlySpace n old new m (with_live v later)
only_space v m is old new n later others kind f keeps s = subst (λ (u : MemoryData). OnlySpace n old new u (with_live v later)) is (record {
  memory = ap (λ (live : LiveData). with_live v live) others;
  kind = kind;
  keeps = left_keep v m is old new later.spaces f 0
      (omega (arith, ap (λ (live : LiveData). length live.spaces) others ∙ with_length n (the_space n later.spaces) v.spaces)) s (space_roots (without n v.spaces)) keeps;
})

-- ---- a whole memory has room

pub stands_now : (pages : Pages) (names : Names) → StandsWhole pages names → Stands pages names 0
stands_now pages names s = stands_after (over pages None) (over pages None) names names (most_roots - length names) 0 (omega (arith, s.few)) (frames_none (over pages None) names) s.stands

pub stands_one : (pages : Pages) (names : Names) → length names < most_roots → StandsWhole pages names → Stands pages names 1
stands_one pages names few s = stands_after (over pages None) (over pages None) names names (most_roots - length names) 1 (omega (arith, few)) (frames_none (over pages None) names) s.stands

pub whole_after : (old new : Over) (a b : Names) → length b ≤ most_roots → Frames old new a b → StandsWhole old.pool a → StandsWhole new.pool b
whole_after old new a b few f s = record {
  few = few;
  stands = stands_after old new a b (most_roots - length a) (most_roots - length b) (omega (arith, few, s.few)) f s.stands;
}

-- where there is room for a memory in the place of this one
pub whole_of : (pages : Pages) (names : Names) (more : ℕ) → length names ≤ most_roots → most_roots ≤ length names + more → Stands pages names more
    → StandsWhole pages names
whole_of pages names more few room s = record {
  few = few;
  stands = stands_after (over pages None) (over pages None) names names more (most_roots - length names) (omega (arith, few, room)) (frames_none (over pages None) names) s;
}
