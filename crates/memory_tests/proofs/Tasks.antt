-- Two memories whose spaces are all that there are over their pool.
use Rattle.std.proofs.Common.{◌++◌, ◌≡◌, ◌≤◌, ℕ, [], ◌∷◌, length, Option, None, sym, ap, subst, arith}
use Rattle.std.proofs.Math.Logic.{∥∥₁_map}
use Rattle.std.proofs.lemmas.List.{append-nil, length-append}
use Rattle.page_pool.specs.Pool.{Pages}
use Rattle.page_table.specs.Entries.{Names}
use Rattle.page_table.specs.Frames.{Over, Frames, Stands}
use Rattle.page_table.specs.Sharing.{Agree}
use Rattle.space_memory.specs.Memories.{MemoryData, MemoryFrames, roots, forgotten, with_new, new_memory, heir}
use Rattle.space_memory.proofs.Framed.{roots_long, taken_same, given_same}
use Rattle.space_memory.proofs.Led.{without_long}
use Rattle.space_memory.proofs.Roots.{flip}
use Rattle.space_memory.specs.Live.{IsLive, the_space}
use Rattle.data_space.specs.Data.{SpaceData}
use Rattle.page_table.proofs.Framing.{Same, same_app, same_self, agree_same, nil_agree}
use Rattle.page_table.proofs.Counting.{occ-append}

-- two lists of names, one after the other
swap : (a b : Names) → Same (a ++ b) (b ++ a)
swap a b = record { long = omega (arith, length-append a b, length-append b a); occs = λ p. omega (arith, occ-append p a b, occ-append p b a) }

pub turned : (pages : Pages) (a b : Names) → ∥ Agree pages (a ++ b) ∥₁ → ∥ Agree pages (b ++ a) ∥₁
turned pages a b some = agree_same pages _ _ (swap a b) some

-- a call that needs no more room
module _ (a b : Names) where
  pub first_stands : (pages : Pages) → ∥ Agree pages (a ++ b) ∥₁ → Stands pages a 0
  first_stands pages some = record { some = ∥∥₁_map some (λ g. (b, g, omega (arith, g.few))) }

  pub first_after : (old new : Over) (later : Names) → length later ≤ length a → Frames old new a later → ∥ Agree old.pool (a ++ b) ∥₁
      → ∥ Agree new.pool (later ++ b) ∥₁
  first_after old new later few f some = ∥∥₁_map some (λ g.
      (f.frame b g (omega (arith, few, g.few, length-append a b, length-append later b))).agrees)

pub no_more : (pages : Pages) (names : Names) → ∥ Agree pages (names ++ []) ∥₁ → ∥ Agree pages names ∥₁
no_more pages names some = subst (λ (all : Names). ∥ Agree pages all ∥₁) (append-nil names) some

pub now_stand : (pages : Pages) (names : Names) → ∥ Agree pages names ∥₁ → Stands pages names 0
now_stand pages names some = first_stands names [] pages (subst (λ (all : Names). ∥ Agree pages all ∥₁) (sym (append-nil names)) some)

-- and one that needs some, where at most 16 spaces live in each memory
module _ (pages : Pages) (m o : MemoryData) (also : length o.spaces ≤ 16) (some : ∥ Agree pages (roots m ++ roots o) ∥₁) where
  pub memory_stands : (more : ℕ) → more ≤ 100 → length m.spaces ≤ 16 → Stands pages (roots m) more
  memory_stands more few live = record {
    some = ∥∥₁_map some (λ g.
        (roots o, g, omega (arith, few, live, also, roots_long m.spaces, roots_long o.spaces, length-append (roots m) (roots o))));
  }

-- and what is there after it
module _ (old : Over) (m o : MemoryData) (also : length o.spaces ≤ 16) (some : ∥ Agree old.pool (roots m ++ roots o) ∥₁) where
  pub memory_after : (new : Over) (n : MemoryData) → length n.spaces ≤ 16 → Frames old new (roots m) (roots n) → ∥ Agree new.pool (roots n ++ roots o) ∥₁
  memory_after new n live f = ∥∥₁_map some (λ g.
      (f.frame (roots o) g (omega (arith, live, also, roots_long n.spaces, roots_long o.spaces, length-append (roots n) (roots o)))).agrees)

  -- a son beside both
  pub son_agrees : (new : Over) (son : MemoryData) → length m.spaces ≤ 16 → son ≡ heir m → Frames old new (roots m) (roots m ++ roots son)
      → ∥ Agree new.pool (roots o ++ (roots m ++ roots son)) ∥₁
  son_agrees new son live is f =
      let two = ap (λ (u : MemoryData). length (roots u)) is in
      let both = roots m ++ roots son in
      turned new.pool both (roots o) (∥∥₁_map some (λ g.
      (f.frame (roots o) g (omega (
        arith,
        two,
        live,
        also,
        roots_long m.spaces,
        roots_long o.spaces,
        length-append (roots m) (roots son),
        length-append both (roots o),
      ))).agrees))

-- a program ran over the one memory
pub memory_went : (old new : Over) (m n o : MemoryData) → length o.spaces ≤ 16 → ∥ Agree old.pool (roots m ++ roots o) ∥₁
    → MemoryFrames old new (roots m) (roots n) → ∥ Agree new.pool (roots n ++ roots o) ∥₁
memory_went old new m n o also some f = ∥∥₁_map some (λ g. (f.frame (roots o) g (omega (arith, also, roots_long o.spaces))).agrees)

-- a space is in hand, and comes back, or is let go
module _ (b : Names) where
  pub taken : (pages : Pages) (n : ℕ) (m left : MemoryData) (d : SpaceData) → IsLive n m.spaces → d ≡ the_space n m.spaces → left ≡ forgotten n m
      → ∥ Agree pages (roots m ++ b) ∥₁ → ∥ Agree pages (d.root ∷ (roots left ++ b)) ∥₁
  taken pages n m left d live is rest some =
      subst (λ (o : SpaceData). ∥ Agree pages (o.root ∷ (roots left ++ b)) ∥₁) (sym is)
      (subst (λ (t : MemoryData). ∥ Agree pages ((the_space n m.spaces).root ∷ (roots t ++ b)) ∥₁) (sym rest)
      (agree_same pages _ _ (same_app (roots m) _ b b (taken_same n m live) (same_self b)) some))

  pub given : (pages : Pages) (m later : MemoryData) (d : SpaceData) → later ≡ with_new d m → ∥ Agree pages (d.root ∷ (roots m ++ b)) ∥₁
      → ∥ Agree pages (roots later ++ b) ∥₁
  given pages m later d is some =
      subst (λ (g : MemoryData). ∥ Agree pages (roots g ++ b) ∥₁) (sym is)
      (agree_same pages _ _ (same_app (d.root ∷ roots m) _ b b (flip _ _ (given_same d m)) (same_self b)) some)

pub in_hand : (pages : Pages) (d : Option ℕ) (rest : Names) → ∥ Agree pages (d ∷ rest) ∥₁ → Stands pages (d ∷ []) 0
in_hand pages d rest some = record { some = ∥∥₁_map some (λ a. (rest, a, omega (arith, a.few))) }

pub let_go : (old new : Over) (d : Option ℕ) (rest : Names) → Frames old new (d ∷ []) [] → ∥ Agree old.pool (d ∷ rest) ∥₁ → ∥ Agree new.pool rest ∥₁
let_go old new d rest f some = ∥∥₁_map some (λ a. (f.frame rest a (omega (arith, a.few))).agrees)

pub fewer : (n : ℕ) (m taken : MemoryData) → taken ≡ forgotten n m → length taken.spaces ≤ length m.spaces
fewer n m taken is = subst (λ (t : MemoryData). length t.spaces ≤ length m.spaces) (sym is) (without_long n m.spaces)

pub none_agree : ∥ Agree (record { slots = []; clean = [] }) (roots new_memory ++ roots new_memory) ∥₁
none_agree = ∣ nil_agree (None ∷ None ∷ None ∷ None ∷ []) (λ p. omega arith) (omega arith) ∣₁
