-- Packets, where one is installed and where some go.
use Rattle.std.proofs.Common.{◌≡◌, ℕ, ◌+◌, ◌≤◌, ◌<◌, Bool, true, false, cond, not, ◌||◌, ◌==◌, List, [], ◌∷◌, ◌++◌, length, find, filter, Option, Some, None, refl, sym, ap, ◌∙◌, subst, ◌⊎◌, inl, inr, arith}
use Rattle.std.specs.Prelude.{nat_eq, option_map}
use Rattle.std.specs.List.{AllByRecursion, list_any}
use Rattle.std.proofs.lemmas.Bool.{or_parts}
use Rattle.std.proofs.lemmas.Bool.Decides.{nat_tests}
use Rattle.std.proofs.lemmas.List.Sums.{length-filter, count_by-le-length}
use Rattle.std.proofs.lemmas.Option.{none-some, same_Some}
use Rattle.turn_laws.specs.Below.elan_names.specs.declared.interface.Interface.{Interface}
use Rattle.turn_laws.specs.Below.elan_scope.specs.declared.env.Env.{Env}
use Rattle.turn_laws.specs.Below.units.specs.Packets.{nothing, after}
use Rattle.turn_laws.specs.Below.elan_check.specs.Packets.{AreCompiled}
use Rattle.turn_laws.specs.Below.elan_check.specs.Packets as compiled
use Rattle.turn_laws.specs.Below.units.specs.Library.{Live}
use Rattle.turn_laws.specs.Below.units.specs.declared.library.TheConstants.{PACKETS}
use Rattle.turn_laws.specs.Below.units.specs.declared.unit.Compiled.{Compiled}
use Rattle.turn_laws.specs.Below.units.specs.Library.{Library, has_number, live_as, behind, env_behind, env_of, released}
use Rattle.packet_store.specs.Units.{Shows, start_unit_of}
use Rattle.turn_laws.specs.Below.units.specs.Starts.{start_at}
use Rattle.elan_types.specs.declared.core_phrase.Core.{Core}
use Rattle.system_meaning.specs.Stores.{Store}
use Rattle.system_meaning.specs.Tasks.{Doing, Idle, Entering, Running, Own}
use Rattle.system_meaning.specs.Ends.{has_packet, released_unless, without_packets}
use Rattle.system_meaning.specs.Monitor.{Reading, installed, with_packet}
use Rattle.packet_store.specs.Readings.{ReadsSo, IsReading}
use Rattle.system_meaning.specs.Whole.{AreNumbered}
use Rattle.turn_laws.proofs.Lists.{all_map, all_filter, all_append, all_both, none_all}
use Rattle.turn_laws.specs.Valid.{IsRead, of_text, of_start, AreBehind, DoesRead, OwnIsRead, AreRising, DoRise}

-- ---- the same packets live under these numbers

abbrev pub Same : Library → Library → List ℕ → Type 0
Same lib later ns = AllByRecursion (λ n. live_as n later ≡ live_as n lib) ns

env_same : (lib later : Library) (ns : List ℕ) (env : Env) → Same lib later ns → env_behind later env ns ≡ env_behind lib env ns
env_same lib later [] env h = refl
env_same lib later (n ∷ ns) env h =
    env_same lib later ns (behind (live_as n later) env) h.1 ∙ ap (λ (l : Option Live). env_behind lib (behind l env) ns) h.0

-- a start procedure shows nothing
started_shows : (env : Env) (packet number : ℕ) (unit : Compiled) (o : Option Core) → option_map (start_unit_of env packet number) o ≡ Some unit
    → unit.shown ≡ None
started_shows env packet number unit None e = absurd (none-some unit e)
started_shows env packet number unit (Some c) e = ap (λ (u : Compiled). u.shown) (sym (same_Some (start_unit_of env packet number c) unit e))

module _ (read : Env → Bool → List ℕ → Reading) where
  behind_same : (lib later : Library) (env : Env) (ns : List ℕ) → lib.last ≤ later.last → Same lib later ns → AreBehind read lib env ns → AreBehind read later env ns
  behind_same lib later env [] more same h = tt
  behind_same lib later env (n ∷ ns) more same h =
      let live = h.4 in
      let low = live.0 in
      (h.0, same.0 ∙ h.1, h.2, h.3, (omega (arith, low, more), live.1, live.2, live.3), behind_same lib later h.0.after ns more same.1 h.5)

  does_same : (lib later : Library) (o : Own) (d : Doing) → Same lib later o.packets → DoesRead read lib o d → DoesRead read later o d
  does_same lib later o (Idle store) same h = tt
  does_same lib later o (Entering name lines store) same h = tt
  does_same lib later o (Running c) same h =
      subst (λ (env : Env). IsRead read env c.unit) (sym (env_same lib later o.packets nothing same)) h

  pub own_same : (lib later : Library) (o : Own) → lib.last ≤ later.last → Same lib later o.packets → OwnIsRead read lib o → OwnIsRead read later o
  own_same lib later o more same h = (behind_same lib later nothing o.packets more same h.0, does_same lib later o o.doing same h.1, h.2)

  -- their numbers were given
  find_number : (n : ℕ) (ls : List Live) (l : Live) → find (has_number n) ls ≡ Some l → nat_eq l.number n ≡ true
  find_number n [] l e = absurd (none-some l e)
  find_number n (x ∷ xs) l e = by (nat_eq x.number n) refl e (find_number n xs l)
    where
      by : (b : Bool) → nat_eq x.number n ≡ b → cond b (Some x) (find (has_number n) xs) ≡ Some l
          → (find (has_number n) xs ≡ Some l → nat_eq l.number n ≡ true) → nat_eq l.number n ≡ true
      by true is e rest = ap (λ (y : Live). nat_eq y.number n) (sym (same_Some x l e)) ∙ is
      by false is e rest = rest e

  given_behind : (lib : Library) (env : Env) (ns : List ℕ) → AreBehind read lib env ns → AllByRecursion (λ n. n ≤ lib.last) ns
  given_behind lib env [] h = tt
  given_behind lib env (n ∷ ns) h =
      let is = find_number n lib.live h.0 h.1 in
      let live = h.4 in
      let low = live.0 in
      (by n h.0.number is low, given_behind lib h.0.after ns h.5)
    where
      by : (n m : ℕ) → nat_eq m n ≡ true → m ≤ lib.last → n ≤ lib.last
      by n m is low = grind (arith, nat_tests)

  -- ---- what they mean is compiled

  module _ (good : IsReading read) where
    pub unit_of : (env : Env) (unit : Compiled) (i : Interface) → AreCompiled env → IsRead read env unit → unit.shown ≡ Some i
        → (unit.packets ≡ env) × compiled.IsPacket env i unit.core
    unit_of env unit i all (of_text packet text e) shows =
        let u = subst (λ (r : Reading). ReadsSo env packet text r) e (good env packet text all) in
        (u.packets_are, subst (λ (o : Option Interface). Shows env unit.core o) shows u.shows)
    unit_of env unit i all (of_start n e) shows =
        absurd (none-some i (sym (started_shows env _ _ unit (start_at env n) e) ∙ shows))

    all_compiled : (lib : Library) (env : Env) (ns : List ℕ) → AreCompiled env → AreBehind read lib env ns → AreCompiled (env_behind lib env ns)
    all_compiled lib env [] all h = all
    all_compiled lib env (n ∷ ns) all h =
        let l = h.0 in
        let live = h.4 in
        let unit = unit_of env l.unit live.1 all h.3 live.2 in
        let is : l.after ≡ after env live.1 l.unit.core l.number = live.3 ∙ ap (λ (e : Env). after e live.1 l.unit.core l.number) h.2 in
        subst (λ (o : Option Live). AreCompiled (env_behind lib (behind o env) ns)) (sym h.1)
        (all_compiled lib l.after ns (subst AreCompiled (sym is) (compiled.behind env live.1 l.unit.core l.number all unit.1)) h.5)

  push_behind : (lib : Library) (env : Env) (ns : List ℕ) (n : ℕ) → AreBehind read lib env ns → AreBehind read lib (env_behind lib env ns) (n ∷ [])
      → AreBehind read lib env (ns ++ n ∷ [])
  push_behind lib env [] n h one = one
  push_behind lib env (m ∷ ns) n h one = (
    h.0,
    h.1,
    h.2,
    h.3,
    h.4,
    push_behind lib h.0.after ns n h.5
        (subst (λ (o : Option Live). AreBehind read lib (env_behind lib (behind o env) ns) (n ∷ [])) h.1 one),
  )

-- ---- one is installed

find_other : (n : ℕ) (ls : List Live) (l : Live) → nat_eq l.number n ≡ false → find (has_number n) (ls ++ l ∷ []) ≡ find (has_number n) ls
find_other n [] l free = ap (λ (b : Bool). cond b (Some l) None) free
find_other n (x ∷ xs) l free = ap (λ (r : Option Live). cond (has_number n x) (Some x) r) (find_other n xs l free)

find_new : (last : ℕ) (ls : List Live) (l : Live) → AllByRecursion (λ (x : Live). x.number ≤ last) ls → l.number ≡ last + 1
    → find (has_number (last + 1)) (ls ++ l ∷ []) ≡ Some l
find_new last [] l h is = ap (λ (b : Bool). cond b (Some l) None) (same l.number (last + 1) is)
  where
    same : (a b : ℕ) → a ≡ b → nat_eq a b ≡ true
    same a b e = grind (arith, nat_tests)
find_new last (x ∷ xs) l h is =
    ap (λ (b : Bool). cond b (Some x) (find (has_number (last + 1)) (xs ++ l ∷ []))) (low x.number last h.0) ∙ find_new last xs l h.1 is
  where
    low : (a b : ℕ) → a ≤ b → nat_eq a (b + 1) ≡ false
    low a b e = grind (arith, nat_tests)

pub rising_push : (last : ℕ) (ls : List Live) (l : Live) → AllByRecursion (λ (x : Live). x.number ≤ last) ls → l.number ≡ last + 1 → AreRising ls
    → AreRising (ls ++ l ∷ [])
rising_push last [] l low is h = (omega (arith, is), tt, tt)
rising_push last (x ∷ xs) l low is h =
    let less = low.0 in
    (h.0, all_append (λ (m : Live). x.number < m.number) xs (l ∷ []) h.1 (omega (arith, less, is), tt), rising_push last xs l low.1 is h.2)

rise_push : (last : ℕ) (ns : List ℕ) → AllByRecursion (λ n. n ≤ last) ns → DoRise ns → DoRise (ns ++ (last + 1) ∷ [])
rise_push last [] low h = (tt, tt)
rise_push last (n ∷ ns) low h =
    let less = low.0 in
    (all_append (λ m. n < m) ns ((last + 1) ∷ []) h.0 (omega (arith, less), tt), rise_push last ns low.1 h.1)

module _ (read : Env → Bool → List ℕ → Reading) (unit : Compiled) (i : Interface) (lib : Library) where
  abbrev added : Live
  added = record { number = lib.last + 1; unit = unit; after = after unit.packets i unit.core (lib.last + 1) }

  all_before : (ns : List ℕ) → AllByRecursion (λ n. n ≤ lib.last) ns → Same lib (installed unit i lib) ns
  all_before [] h = tt
  all_before (n ∷ ns) h = (find_other n lib.live added (above n lib.last h.0), all_before ns h.1)
    where
      above : (a b : ℕ) → a ≤ b → nat_eq (b + 1) a ≡ false
      above a b e = grind (arith, nat_tests)

  pub own_before : (o : Own) → OwnIsRead read lib o → OwnIsRead read (installed unit i lib) o
  own_before o h = own_same read lib (installed unit i lib) o (omega arith) (all_before o.packets (given_behind read lib nothing o.packets h.0)) h

  pub own_with : IsReading read → AreNumbered lib → (o : Own) (store : Store) → o.doing ≡ Idle store → IsRead read (env_of lib o.packets) unit → unit.shown ≡ Some i
      → OwnIsRead read lib o → OwnIsRead read (installed unit i lib) (with_packet (lib.last + 1) o)
  own_with good numbered o store idle reads shows h =
      let before = own_before o h in
      let same = env_same lib (installed unit i lib) o.packets nothing (all_before o.packets (given_behind read lib nothing o.packets h.0)) in
      let all = all_compiled read good lib nothing o.packets compiled.none h.0 in
      let is = (unit_of read good (env_of lib o.packets) unit i all reads shows).0 in (
        push_behind read (installed unit i lib) nothing o.packets (lib.last + 1) before.0 (
          added,
          find_new lib.last lib.live added numbered refl,
          is ∙ sym same,
          subst (λ (env : Env). IsRead read env unit) (sym same) reads,
          (omega arith, i, shows, refl),
          tt,
        ),
        subst (λ (d : Doing). DoesRead read (installed unit i lib) (with_packet (lib.last + 1) o) d) (sym idle) tt,
        rise_push lib.last o.packets (given_behind read lib nothing o.packets h.0) h.2,
      )

-- ---- some go

others : (x n k : ℕ) → nat_eq x n ≡ true → (k == n) ≡ false → nat_eq x k ≡ false
others x n k is free = grind (arith, nat_tests)

find_left : (n k : ℕ) (ls : List Live) → (k == n) ≡ false → find (has_number k) (filter (λ (l : Live). not (has_number n l)) ls) ≡ find (has_number k) ls
find_left n k [] free = refl
find_left n k (x ∷ xs) free = by (nat_eq x.number n) refl (find_left n k xs free)
  where
    by : (b : Bool) → nat_eq x.number n ≡ b → find (has_number k) (filter (λ (l : Live). not (has_number n l)) xs) ≡ find (has_number k) xs
        → find (has_number k) (cond (not b) (x ∷ filter (λ (l : Live). not (has_number n l)) xs) (filter (λ (l : Live). not (has_number n l)) xs))
        ≡ cond (nat_eq x.number k) (Some x) (find (has_number k) xs)
    by true is rest = rest ∙ sym (ap (λ (b : Bool). cond b (Some x) (find (has_number k) xs)) (others x.number n k is free))
    by false is rest = ap (λ (r : Option Live). cond (nat_eq x.number k) (Some x) r) rest

all_left : (n : ℕ) (lib : Library) (ns : List ℕ) → list_any (λ p. p == n) ns ≡ false → Same lib (released n lib) ns
all_left n lib [] free = tt
all_left n lib (k ∷ ns) free =
    let both = or_parts (k == n) (list_any (λ p. p == n) ns) free in (find_left n k lib.live both.0, all_left n lib ns both.1)

rising_filter : (p : Live → Bool) (ls : List Live) → AreRising ls → AreRising (filter p ls)
rising_filter p [] h = tt
rising_filter p (x ∷ xs) h = by (p x) (rising_filter p xs h.2)
  where
    by : (b : Bool) → AreRising (filter p xs) → AreRising (cond b (x ∷ filter p xs) (filter p xs))
    by true rest = (h.0, all_filter (λ (m : Live). x.number < m.number) p xs h.1, rest)
    by false rest = rest

-- had by those that are left, or one of these, which go
abbrev pub Had : List Own → List ℕ → Live → Type 0
Had left gone l = (list_any (has_packet l.number) left ≡ true) ⊎ (list_any (λ p. p == l.number) gone ≡ true)

pub record Kept (read : Env → Bool → List ℕ → Reading) (left : List Own) (gone : List ℕ) (lib : Library) : Type 0 where
  pub few : length lib.live ≤ PACKETS
  pub rising : AreRising lib.live
  pub had : AllByRecursion (Had left gone) lib.live
  pub behind : AllByRecursion (OwnIsRead read lib) left

had_on : (left : List Own) (n : ℕ) (gone : List ℕ) (l : Live) → list_any (has_packet n) left ≡ true → Had left (n ∷ gone) l → Had left gone l
had_on left n gone l has (inl e) = inl e
had_on left n gone l has (inr e) = by (n == l.number) refl e
  where
    same : (a b : ℕ) → (a == b) ≡ true → a ≡ b
    same a b e = grind (arith, nat_tests)

    by : (b : Bool) → (n == l.number) ≡ b → (b || list_any (λ p. p == l.number) gone) ≡ true → Had left gone l
    by true is e = inl (subst (λ k. list_any (has_packet k) left ≡ true) (same n l.number is) has)
    by false is e = inr e

had_left : (left : List Own) (n : ℕ) (gone : List ℕ) (ls : List Live) → AllByRecursion (Had left (n ∷ gone)) ls
    → AllByRecursion (Had left gone) (filter (λ (l : Live). not (has_number n l)) ls)
had_left left n gone [] h = tt
had_left left n gone (l ∷ ls) h = by (nat_eq l.number n) refl h.0 (had_left left n gone ls h.1)
  where
    other : (a b : ℕ) → nat_eq a b ≡ false → (b == a) ≡ false
    other a b e = grind (arith, nat_tests)

    one : nat_eq l.number n ≡ false → Had left (n ∷ gone) l → Had left gone l
    one is (inl e) = inl e
    one is (inr e) = inr (sym (ap (λ (b : Bool). b || list_any (λ p. p == l.number) gone) (other l.number n is)) ∙ e)

    by : (b : Bool) → nat_eq l.number n ≡ b → Had left (n ∷ gone) l → AllByRecursion (Had left gone) (filter (λ (l : Live). not (has_number n l)) ls)
        → AllByRecursion (Had left gone) (cond (not b) (l ∷ filter (λ (l : Live). not (has_number n l)) ls) (filter (λ (l : Live). not (has_number n l)) ls))
    by true is e rest = rest
    by false is e rest = (one is e, rest)

pub kept_without : (read : Env → Bool → List ℕ → Reading) (gone : List ℕ) (left : List Own) (lib : Library) → Kept read left gone lib
    → Kept read left [] (without_packets gone left lib)
kept_without read [] left lib h = h
kept_without read (n ∷ gone) left lib h =
    kept_without read gone left (released_unless (list_any (has_packet n) left) n lib) (by (list_any (has_packet n) left) refl)
  where
    by : (b : Bool) → list_any (has_packet n) left ≡ b → Kept read left gone (released_unless b n lib)
    by true has = record {
      few = h.few;
      rising = h.rising;
      had = all_map (Had left (n ∷ gone)) (Had left gone) (λ l e. had_on left n gone l has e) lib.live h.had;
      behind = h.behind;
    }
    by false none =
        let most = count_by-le-length (λ (l : Live). not (has_number n l)) lib.live in
        let long = length-filter (λ (l : Live). not (has_number n l)) lib.live in
        let few = h.few in
        record {
          few = omega (arith, most, long, few);
          rising = rising_filter (λ (l : Live). not (has_number n l)) lib.live h.rising;
          had = had_left left n gone lib.live h.had;
          behind =
              all_map (λ (o : Own). (has_packet n o ≡ false) × OwnIsRead read lib o) (OwnIsRead read (released n lib))
              (λ o both. own_same read lib (released n lib) o (omega arith) (all_left n lib o.packets both.0) both.1) left
              (all_both (λ (o : Own). has_packet n o ≡ false) (OwnIsRead read lib) left (none_all (has_packet n) left none) h.behind);
        }
