-- What kinds the variables of packets have, where a packet is installed and where one goes.
use Rattle.std.proofs.Common.{◌≡◌, ℕ, zero, suc, ◌+◌, ◌<◌, ◌≤◌, Bool, true, false, cond, not, List, [], ◌∷◌, ◌++◌, ◌==◌, length, take, get_or, find, filter, Option, Some, None, refl, sym, ap, ◌∙◌, subst, arith, append_assoc, append-nil}
use Rattle.std.specs.Prelude.{nat_eq, slice_get}
use Rattle.std.specs.List.{AllByRecursion, list_any}
use Rattle.std.specs.Option.{is_some, option_map}
use Rattle.std.proofs.lemmas.Bool.{false≢true, or_parts}
use Rattle.std.proofs.lemmas.Bool.Decides.{nat_tests}
use Rattle.std.proofs.lemmas.List.Sums.{fold_more}
use Rattle.std.proofs.lemmas.Option.{none-some, same_Some}
use Rattle.eu_base.specs.declared.value.Kind.{Kind}
use Rattle.cell_kinds.specs.declared.packet.Packet.{Packet as Shown}
use Rattle.cell_kinds.specs.Kinds.{packet_kinds}
use Rattle.live_packets.specs.Below.elan_names.specs.declared.interface.Interface.{Interface}
use Rattle.live_packets.specs.Below.elan_scope.specs.declared.env.Env.{Env}
use Rattle.elan_types.specs.declared.core_phrase.Core.{Core}
use Rattle.live_packets.specs.Below.units.specs.Packets.{nothing, after}
use Rattle.live_packets.specs.Below.units.specs.Starts.{is_start, start_core, start_unit_of}
use Rattle.live_packets.specs.Below.units.specs.Library.{Live as Packet}
use Rattle.live_packets.specs.Below.units.specs.declared.unit.Compiled.{Compiled}
use Rattle.live_packets.specs.Below.units.specs.Library.{Library, has_number, live_as, behind, env_behind, env_of, released, started_at}
use Rattle.live_packets.specs.Below.packet_store.specs.Meaning.{Means, means}
use Rattle.live_packets.specs.Below.system_meaning.specs.Tasks.{Own}
use Rattle.live_packets.specs.Below.system_meaning.specs.Ends.{has_packet, released_unless, without_packets}
use Rattle.live_packets.specs.Below.system_meaning.specs.Monitor.{installed}
use Rattle.live_tasks.specs.Tasks.{Live, Stand}
use Rattle.live_tasks.proofs.Standing.{same_kinds}
use Rattle.live_packets.specs.Below.system_meaning.specs.Whole.{AreGiven, AreNumbered}
use Rattle.live_packets.specs.Packets.{kinds_in}

-- ---- the same packets live under these numbers

env_same : (lib later : Library) (ns : List ℕ) (env : Env) → AllByRecursion (λ n. live_as n later ≡ live_as n lib) ns
    → env_behind later env ns ≡ env_behind lib env ns
env_same lib later [] env h = refl
env_same lib later (n ∷ ns) env h =
    env_same lib later ns (behind (live_as n later) env) h.1 ∙ ap (λ (l : Option Packet). env_behind lib (behind l env) ns) h.0

pub kinds_same : (lib later : Library) (ns : List ℕ) → AllByRecursion (λ n. live_as n later ≡ live_as n lib) ns → kinds_in later ns ≡ kinds_in lib ns
kinds_same lib later ns h = ap (λ (env : Env). packet_kinds env.packets) (env_same lib later ns nothing h)

-- what stands behind the last of them
env_push : (lib : Library) (env : Env) (ns : List ℕ) (n : ℕ) → env_behind lib env (ns ++ n ∷ []) ≡ behind (live_as n lib) (env_behind lib env ns)
env_push lib env [] n = refl
env_push lib env (m ∷ ns) n = env_push lib (behind (live_as m lib) env) ns n

kinds_push : (ps : List Shown) (p : Shown) → packet_kinds (ps ++ p ∷ []) ≡ packet_kinds ps ++ p.variables
kinds_push [] p = append-nil p.variables
kinds_push (q ∷ qs) p = ap (λ (ks : List Kind). q.variables ++ ks) (kinds_push qs p) ∙ sym (append_assoc q.variables (packet_kinds qs) p.variables)

-- ---- a packet is installed

pub apart : (a b : ℕ) → a < b → nat_eq b a ≡ false
apart a b less = grind (arith, nat_tests)

below : (a b : ℕ) → a < b → nat_eq a b ≡ false
below a b less = grind (arith, nat_tests)

find_other : (n : ℕ) (ls : List Packet) (l : Packet) → nat_eq l.number n ≡ false → find (has_number n) (ls ++ l ∷ []) ≡ find (has_number n) ls
find_other n [] l free = ap (λ (b : Bool). cond b (Some l) None) free
find_other n (x ∷ xs) l free = ap (λ (r : Option Packet). cond (has_number n x) (Some x) r) (find_other n xs l free)

find_new : (last : ℕ) (ls : List Packet) (l : Packet) → AllByRecursion (λ (x : Packet). x.number ≤ last) ls → nat_eq l.number (last + 1) ≡ true
    → find (has_number (last + 1)) (ls ++ l ∷ []) ≡ Some l
find_new last [] l h same = ap (λ (b : Bool). cond b (Some l) None) same
find_new last (x ∷ xs) l h same =
    let low = h.0 in
    ap (λ (b : Bool). cond b (Some x) (find (has_number (last + 1)) (xs ++ l ∷ []))) (below x.number (last + 1) (omega (arith, low)))
    ∙ find_new last xs l h.1 same

same_one : (n : ℕ) → nat_eq n n ≡ true
same_one n = grind (arith, nat_tests)

module _ (unit : Compiled) (i : Interface) (lib : Library) where
  abbrev added : Packet
  added = record { number = lib.last + 1; unit = unit; after = after unit.packets i unit.core (lib.last + 1) }

  live_before : (n : ℕ) → n ≤ lib.last → live_as n (installed unit i lib) ≡ live_as n lib
  live_before n low = find_other n lib.live added (apart n (lib.last + 1) (omega (arith, low)))

  all_before : (ns : List ℕ) → AreGiven lib.last ns → AllByRecursion (λ n. live_as n (installed unit i lib) ≡ live_as n lib) ns
  all_before [] h = tt
  all_before (n ∷ ns) h = (live_before n h.0, all_before ns h.1)

  pub kinds_before : (ns : List ℕ) → AreGiven lib.last ns → kinds_in (installed unit i lib) ns ≡ kinds_in lib ns
  kinds_before ns given = kinds_same lib (installed unit i lib) ns (all_before ns given)

  pub kinds_new : AreNumbered lib → (ns : List ℕ) → kinds_in (installed unit i lib) (ns ++ (lib.last + 1) ∷ []) ≡ packet_kinds unit.packets.packets ++ unit.core.inserted
  kinds_new numbered ns =
      ap (λ (env : Env). packet_kinds env.packets) (env_push (installed unit i lib) nothing ns (lib.last + 1))
      ∙ ap (λ (l : Option Packet). packet_kinds (behind l (env_of (installed unit i lib) ns)).packets) (find_new lib.last lib.live added numbered (same_one (lib.last + 1)))
      ∙ kinds_push unit.packets.packets _

  pushed : (ls : List Packet) → AllByRecursion (λ (l : Packet). l.number ≤ lib.last) ls → AllByRecursion (λ (l : Packet). l.number ≤ lib.last + 1) (ls ++ added ∷ [])
  pushed [] h = (omega arith, tt)
  pushed (l ∷ ls) h = let low = h.0 in (omega (arith, low), pushed ls h.1)

  pub installed_numbered : AreNumbered lib → AreNumbered (installed unit i lib)
  installed_numbered numbered = pushed lib.live numbered

from_start : (env : Env) (packet number n : ℕ) (b : Bool) (u : Compiled)
    → option_map (start_unit_of env packet number) (cond b (Some (start_core env n)) None) ≡ Some u → u.core.packets ≡ env.packets
from_start env packet number n true u h = sym (ap (λ (v : Compiled). v.core.packets) (same_Some _ u h))
from_start env packet number n false u h = absurd (none-some u h)

-- a start procedure has the packets behind which it stands
pub start_packets : (lib : Library) (ns : List ℕ) (n : ℕ) (u : Compiled) → started_at lib ns n ≡ Some u → u.core.packets ≡ (env_of lib ns).packets
start_packets lib ns n u h = from_start (env_of lib ns) _ _ n (is_start (slice_get (env_of lib ns).bodies n)) u h

pub core_packets : (env : Env) (packet : Bool) (text : List ℕ) (core : Core) → Means env packet text core → core.packets ≡ env.packets
core_packets env packet text core (means t h r m) = m.packets

-- ---- a packet goes

others : (x n k : ℕ) → nat_eq x n ≡ true → (k == n) ≡ false → nat_eq x k ≡ false
others x n k is free = grind (arith, nat_tests)

find_left : (n k : ℕ) (ls : List Packet) → (k == n) ≡ false → find (has_number k) (filter (λ (l : Packet). not (has_number n l)) ls) ≡ find (has_number k) ls
find_left n k [] free = refl
find_left n k (x ∷ xs) free = by (nat_eq x.number n) refl (find_left n k xs free)
  where
    by : (b : Bool) → nat_eq x.number n ≡ b → find (has_number k) (filter (λ (l : Packet). not (has_number n l)) xs) ≡ find (has_number k) xs
        → find (has_number k) (cond (not b) (x ∷ filter (λ (l : Packet). not (has_number n l)) xs) (filter (λ (l : Packet). not (has_number n l)) xs))
        ≡ cond (nat_eq x.number k) (Some x) (find (has_number k) xs)
    by true is rest = rest ∙ sym (ap (λ (b : Bool). cond b (Some x) (find (has_number k) xs)) (others x.number n k is free))
    by false is rest = ap (λ (r : Option Packet). cond (nat_eq x.number k) (Some x) r) rest

all_left : (n : ℕ) (lib : Library) (ns : List ℕ) → list_any (λ p. p == n) ns ≡ false → AllByRecursion (λ k. live_as k (released n lib) ≡ live_as k lib) ns
all_left n lib [] free = tt
all_left n lib (k ∷ ns) free =
    let both = or_parts (k == n) (list_any (λ p. p == n) ns) free in (find_left n k lib.live both.0, all_left n lib ns both.1)

any_at : (n : ℕ) (owns : List Own) (j : ℕ) (own : Own) → slice_get owns j ≡ Some own → list_any (has_packet n) owns ≡ false → has_packet n own ≡ false
any_at n [] j own at free = absurd (none-some own at)
any_at n (o ∷ owns) zero own at free =
    subst (λ (x : Own). has_packet n x ≡ false) (same_Some o own at) (or_parts (has_packet n o) (list_any (has_packet n) owns) free).0
any_at n (o ∷ owns) (suc j) own at free = any_at n owns j own at (or_parts (has_packet n o) (list_any (has_packet n) owns) free).1

pub stand_released : (n : ℕ) (lib : Library) (live : Live) (owns : List Own) → list_any (has_packet n) owns ≡ false → Stand (kinds_in lib) live owns
    → Stand (kinds_in (released n lib)) live owns
stand_released n lib live owns free h =
    same_kinds (kinds_in lib) (kinds_in (released n lib)) live owns
    (λ j own at. kinds_same lib (released n lib) own.packets (all_left n lib own.packets (any_at n owns j own at free))) h

none_left : (n : ℕ) (ls : List Packet) → is_some (find (has_number n) ls) ≡ false → filter (λ (l : Packet). not (has_number n l)) ls ≡ ls
none_left n [] none = refl
none_left n (x ∷ xs) none = by (nat_eq x.number n) none (none_left n xs)
  where
    by : (b : Bool) → is_some (cond b (Some x) (find (has_number n) xs)) ≡ false
        → (is_some (find (has_number n) xs) ≡ false → filter (λ (l : Packet). not (has_number n l)) xs ≡ xs)
        → cond (not b) (x ∷ filter (λ (l : Packet). not (has_number n l)) xs) (filter (λ (l : Packet). not (has_number n l)) xs) ≡ x ∷ xs
    by true h rest = absurd (false≢true (sym h))
    by false h rest = ap (λ (ls : List Packet). x ∷ ls) (rest h)

-- where it does not live, nothing changes
pub none_released : (n : ℕ) (lib : Library) → is_some (live_as n lib) ≡ false → released n lib ≡ lib
none_released n lib none = ap (λ (ls : List Packet). let same : Library = record { live = ls; last = lib.last } in same) (none_left n lib.live none)

all_numbered : (last n : ℕ) (ls : List Packet) → AllByRecursion (λ (l : Packet). l.number ≤ last) ls
    → AllByRecursion (λ (l : Packet). l.number ≤ last) (filter (λ (l : Packet). not (has_number n l)) ls)
all_numbered last n [] h = tt
all_numbered last n (x ∷ xs) h = by (nat_eq x.number n) h.0 (all_numbered last n xs h.1)
  where
    by : (b : Bool) → x.number ≤ last → AllByRecursion (λ (l : Packet). l.number ≤ last) (filter (λ (l : Packet). not (has_number n l)) xs)
        → AllByRecursion (λ (l : Packet). l.number ≤ last) (cond (not b) (x ∷ filter (λ (l : Packet). not (has_number n l)) xs) (filter (λ (l : Packet). not (has_number n l)) xs))
    by true low rest = rest
    by false low rest = (low, rest)

released_numbered : (n : ℕ) (lib : Library) → AreNumbered lib → AreNumbered (released n lib)
released_numbered n lib numbered = all_numbered lib.last n lib.live numbered

unless_numbered : (b : Bool) (n : ℕ) (lib : Library) → AreNumbered lib → AreNumbered (released_unless b n lib)
unless_numbered true n lib h = h
unless_numbered false n lib h = released_numbered n lib h

unless_last : (b : Bool) (n : ℕ) (lib : Library) → (released_unless b n lib).last ≡ lib.last
unless_last true n lib = refl
unless_last false n lib = refl

-- those of a task that ended go that free other has
pub without_numbered : (ps : List ℕ) (others : List Own) (lib : Library) → AreNumbered lib → AreNumbered (without_packets ps others lib)
without_numbered [] others lib h = h
without_numbered (n ∷ ps) others lib h = without_numbered ps others _ (unless_numbered (list_any (has_packet n) others) n lib h)

pub without_last : (ps : List ℕ) (others : List Own) (lib : Library) → (without_packets ps others lib).last ≡ lib.last
without_last [] others lib = refl
without_last (n ∷ ps) others lib =
    without_last ps others (released_unless (list_any (has_packet n) others) n lib) ∙ unless_last (list_any (has_packet n) others) n lib

-- a packet goes, unless a task has it
pub unless_stand : (has : Bool) (n : ℕ) (lib : Library) (live : Live) (owns : List Own) → has ≡ list_any (has_packet n) owns → Stand (kinds_in lib) live owns
    → Stand (kinds_in (released_unless has n lib)) live owns
unless_stand true n lib live owns is h = h
unless_stand false n lib live owns is h = stand_released n lib live owns (sym is) h

pub goes_unless : (has : Bool) (n : ℕ) (lib later : Library) (live : Live) → later ≡ released_unless has n lib
    → ((kinds_of : List ℕ → List Kind) (owns : List Own) → Stand kinds_of live owns → has ≡ list_any (has_packet n) owns)
    → (owns : List Own) → Stand (kinds_in lib) live owns
    → (later ≡ released_unless (list_any (has_packet n) owns) n lib) × Stand (kinds_in later) live owns
goes_unless has n lib later live is asked owns h =
    let same = asked (kinds_in lib) owns h in (
      is ∙ ap (λ (b : Bool). released_unless b n lib) same,
      subst (λ (l : Library). Stand (kinds_in l) live owns) (sym is) (unless_stand has n lib live owns same h),
    )

-- one number more
pub without_more : (ps : List ℕ) (i : ℕ) → i < length ps → (others : List Own) (lib : Library)
    → without_packets (take (i + 1) ps) others lib
    ≡ released_unless (list_any (has_packet (get_or ps i 0)) others) (get_or ps i 0) (without_packets (take i ps) others lib)
without_more ps i low others lib =
    fold_more (λ (l : Library) (n : ℕ). released_unless (list_any (has_packet n) others) n l) lib ps i 0 low

pub is_some_map : {A B : Type 0} (f : A → B) (o : Option A) → is_some (option_map f o) ≡ is_some o
is_some_map f None = refl
is_some_map f (Some x) = refl
