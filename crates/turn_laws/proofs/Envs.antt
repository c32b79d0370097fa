-- What packets mean, where one is installed and where one goes.
use Rattle.std.proofs.Common.{◌≡◌, ℕ, ◌+◌, ◌≤◌, ◌<◌, Bool, true, false, cond, not, List, [], ◌∷◌, ◌++◌, ◌==◌, find, filter, Option, Some, None}
use Rattle.std.proofs.Common.{refl, sym, ap, ◌∙◌, arith}
use Rattle.std.specs.Prelude.{nat_eq}
use Rattle.std.specs.List.{AllByRecursion, list_any}
use Rattle.std.proofs.lemmas.Bool.{or_parts}
use Rattle.std.proofs.lemmas.Bool.Decides.{nat_tests}
use Rattle.turn_laws.specs.Below.elan_names.specs.declared.interface.Interface.{Interface}
use Rattle.turn_laws.specs.Below.elan_scope.specs.declared.env.Env.{Env}
use Rattle.turn_laws.specs.Below.units.specs.Packets.{nothing, after}
use Rattle.turn_laws.specs.Below.units.specs.Library.{Live}
use Rattle.turn_laws.specs.Below.units.specs.declared.unit.Compiled.{Compiled}
use Rattle.turn_laws.specs.Below.units.specs.Library.{Library, has_number, live_as, behind, env_behind, env_of, released}
use Rattle.system_meaning.specs.Tasks.{Own}
use Rattle.system_meaning.specs.Ends.{has_packet, released_unless, without_packets}
use Rattle.system_meaning.specs.Monitor.{installed}
use Rattle.system_meaning.specs.Whole.{AreGiven, AreNumbered}

-- the same packets live under these numbers
env_same : (lib later : Library) (ns : List ℕ) (env : Env) → AllByRecursion (λ n. live_as n later ≡ live_as n lib) ns
    → env_behind later env ns ≡ env_behind lib env ns
env_same lib later [] env h = refl
env_same lib later (n ∷ ns) env h =
    env_same lib later ns (behind (live_as n later) env) h.1 ∙ ap (λ (l : Option Live). env_behind lib (behind l env) ns) h.0

env_push : (lib : Library) (env : Env) (ns : List ℕ) (n : ℕ) → env_behind lib env (ns ++ n ∷ []) ≡ behind (live_as n lib) (env_behind lib env ns)
env_push lib env [] n = refl
env_push lib env (m ∷ ns) n = env_push lib (behind (live_as m lib) env) ns n

-- ---- a packet is installed

above : (a b : ℕ) → a < b → nat_eq b a ≡ false
above a b less = grind (arith, nat_tests)

below : (a b : ℕ) → a < b → nat_eq a b ≡ false
below a b less = grind (arith, nat_tests)

same_one : (n : ℕ) → nat_eq n n ≡ true
same_one n = grind (arith, nat_tests)

find_other : (n : ℕ) (ls : List Live) (l : Live) → nat_eq l.number n ≡ false → find (has_number n) (ls ++ l ∷ []) ≡ find (has_number n) ls
find_other n [] l free = ap (λ (b : Bool). cond b (Some l) None) free
find_other n (x ∷ xs) l free = ap (λ (r : Option Live). cond (has_number n x) (Some x) r) (find_other n xs l free)

find_new : (last : ℕ) (ls : List Live) (l : Live) → AllByRecursion (λ (x : Live). x.number ≤ last) ls → nat_eq l.number (last + 1) ≡ true
    → find (has_number (last + 1)) (ls ++ l ∷ []) ≡ Some l
find_new last [] l h same = ap (λ (b : Bool). cond b (Some l) None) same
find_new last (x ∷ xs) l h same =
    let low = h.0 in
    ap (λ (b : Bool). cond b (Some x) (find (has_number (last + 1)) (xs ++ l ∷ []))) (below x.number (last + 1) (omega (arith, low)))
    ∙ find_new last xs l h.1 same

module _ (unit : Compiled) (i : Interface) (lib : Library) where
  abbrev added : Live
  added = record { number = lib.last + 1; unit = unit; after = after unit.packets i unit.core (lib.last + 1) }

  live_before : (n : ℕ) → n ≤ lib.last → live_as n (installed unit i lib) ≡ live_as n lib
  live_before n low = find_other n lib.live added (above n (lib.last + 1) (omega (arith, low)))

  all_before : (ns : List ℕ) → AreGiven lib.last ns → AllByRecursion (λ n. live_as n (installed unit i lib) ≡ live_as n lib) ns
  all_before [] h = tt
  all_before (n ∷ ns) h = (live_before n h.0, all_before ns h.1)

  -- the packets that were there mean what they meant
  pub env_before : (ns : List ℕ) → AreGiven lib.last ns → env_of (installed unit i lib) ns ≡ env_of lib ns
  env_before ns given = env_same lib (installed unit i lib) ns nothing (all_before ns given)

  -- and with the new one they mean what it was compiled to
  pub env_with : AreNumbered lib → (ns : List ℕ) → env_of (installed unit i lib) (ns ++ (lib.last + 1) ∷ []) ≡ after unit.packets i unit.core (lib.last + 1)
  env_with numbered ns =
      env_push (installed unit i lib) nothing ns (lib.last + 1)
      ∙ ap (λ (l : Option Live). behind l (env_of (installed unit i lib) ns)) (find_new lib.last lib.live added numbered (same_one (lib.last + 1)))

  pushed : (ls : List Live) → AllByRecursion (λ (l : Live). l.number ≤ lib.last) ls → AllByRecursion (λ (l : Live). l.number ≤ lib.last + 1) (ls ++ added ∷ [])
  pushed [] h = (omega arith, tt)
  pushed (l ∷ ls) h = let low = h.0 in (omega (arith, low), pushed ls h.1)

  pub installed_numbered : AreNumbered lib → AreNumbered (installed unit i lib)
  installed_numbered numbered = pushed lib.live numbered

-- ---- a packet goes

others : (x n k : ℕ) → nat_eq x n ≡ true → (k == n) ≡ false → nat_eq x k ≡ false
others x n k is free = grind (arith, nat_tests)

find_left : (n k : ℕ) (ls : List Live) → (k == n) ≡ false → find (has_number k) (filter (λ (l : Live). not (has_number n l)) ls) ≡ find (has_number k) ls
find_left n k [] free = refl
find_left n k (x ∷ xs) free = by (nat_eq x.number n) refl (find_left n k xs free)
  where
    by : (b : Bool) → nat_eq x.number n ≡ b → find (has_number k) (filter (λ (l : Live). not (has_number n l)) xs) ≡ find (has_number k) xs
        → find (has_number k) (cond (not b) (x ∷ filter (λ (l : Live). not (has_number n l)) xs) (filter (λ (l : Live). not (has_number n l)) xs))
        ≡ cond (nat_eq x.number k) (Some x) (find (has_number k) xs)
    by true is rest = rest ∙ sym (ap (λ (b : Bool). cond b (Some x) (find (has_number k) xs)) (others x.number n k is free))
    by false is rest = ap (λ (r : Option Live). cond (nat_eq x.number k) (Some x) r) rest

all_left : (n : ℕ) (lib : Library) (ns : List ℕ) → list_any (λ p. p == n) ns ≡ false → AllByRecursion (λ k. live_as k (released n lib) ≡ live_as k lib) ns
all_left n lib [] free = tt
all_left n lib (k ∷ ns) free =
    let both = or_parts (k == n) (list_any (λ p. p == n) ns) free in (find_left n k lib.live both.0, all_left n lib ns both.1)

env_left : (n : ℕ) (lib : Library) (o : Own) → has_packet n o ≡ false → env_of (released n lib) o.packets ≡ env_of lib o.packets
env_left n lib o free = env_same lib (released n lib) o.packets nothing (all_left n lib o.packets free)

env_unless : (had : Bool) (n : ℕ) (lib : Library) (o : Own) → (had ≡ false → has_packet n o ≡ false)
    → env_of (released_unless had n lib) o.packets ≡ env_of lib o.packets
env_unless true n lib o free = refl
env_unless false n lib o free = env_left n lib o (free refl)

-- the packets of one that is left mean what they meant
pub env_without : (gone : List ℕ) (left : List Own) (lib : Library) (o : Own) → ((n : ℕ) → list_any (has_packet n) left ≡ false → has_packet n o ≡ false)
    → env_of (without_packets gone left lib) o.packets ≡ env_of lib o.packets
env_without [] left lib o has = refl
env_without (n ∷ gone) left lib o has =
    env_without gone left (released_unless (list_any (has_packet n) left) n lib) o has
    ∙ env_unless (list_any (has_packet n) left) n lib o (has n)

all_numbered : (last n : ℕ) (ls : List Live) → AllByRecursion (λ (l : Live). l.number ≤ last) ls
    → AllByRecursion (λ (l : Live). l.number ≤ last) (filter (λ (l : Live). not (has_number n l)) ls)
all_numbered last n [] h = tt
all_numbered last n (x ∷ xs) h = by (nat_eq x.number n) h.0 (all_numbered last n xs h.1)
  where
    by : (b : Bool) → x.number ≤ last → AllByRecursion (λ (l : Live). l.number ≤ last) (filter (λ (l : Live). not (has_number n l)) xs)
        → AllByRecursion (λ (l : Live). l.number ≤ last) (cond (not b) (x ∷ filter (λ (l : Live). not (has_number n l)) xs) (filter (λ (l : Live). not (has_number n l)) xs))
    by true low rest = rest
    by false low rest = (low, rest)

unless_numbered : (b : Bool) (n : ℕ) (lib : Library) → AreNumbered lib → AreNumbered (released_unless b n lib)
unless_numbered true n lib h = h
unless_numbered false n lib h = all_numbered lib.last n lib.live h

unless_last : (b : Bool) (n : ℕ) (lib : Library) → (released_unless b n lib).last ≡ lib.last
unless_last true n lib = refl
unless_last false n lib = refl

pub without_numbered : (gone : List ℕ) (left : List Own) (lib : Library) → AreNumbered lib → AreNumbered (without_packets gone left lib)
without_numbered [] left lib h = h
without_numbered (n ∷ gone) left lib h =
    without_numbered gone left (released_unless (list_any (has_packet n) left) n lib) (unless_numbered (list_any (has_packet n) left) n lib h)

pub without_last : (gone : List ℕ) (left : List Own) (lib : Library) → (without_packets gone left lib).last ≡ lib.last
without_last [] left lib = refl
without_last (n ∷ gone) left lib =
    without_last gone left (released_unless (list_any (has_packet n) left) n lib) ∙ unless_last (list_any (has_packet n) left) n lib
