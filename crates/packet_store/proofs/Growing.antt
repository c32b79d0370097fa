-- What calls leave of a library is one.
use Rattle.std.proofs.Common.{◌≡◌, ◌≤◌, ◌<◌, ◌+◌, ℕ, suc, Bool, true, false, not, List, [], ◌∷◌, ◌++◌, length, Option, Some, None, if◌then◌else◌, refl, arith}
use Rattle.std.specs.Prelude.{filter, is_some}
use Rattle.std.proofs.lemmas.List.{length-append}
use Rattle.units.specs.Library.{Live}
use Rattle.units.specs.declared.library.TheConstants.{PACKETS}
use Rattle.units.specs.Library.{Library, IsLive, AllLive, IsLibrary, has_number, released}

pub some_of : {A : Type 0} (o : Option A) → is_some o ≡ true → (x : A) × (o ≡ Some x)
some_of None e = absurd cc
some_of (Some x) e = (x, refl)

more_live : (m n : ℕ) (ls : List Live) → m ≤ n → AllLive m ls → AllLive n ls
more_live m n [] le h = tt
more_live m n (l ∷ ls) le h = (((let a = h.0.0 in let z : l.number ≤ n = omega (arith, le, a) in z), h.0.1, h.0.2, h.0.3), more_live m n ls le h.1)

all_append : (n : ℕ) (ls : List Live) (l : Live) → AllLive n ls → IsLive n l → AllLive n (ls ++ l ∷ [])
all_append n [] l h k = (k, tt)
all_append n (x ∷ ls) l h k = (h.0, all_append n ls l h.1 k)

pub installed_is : (lib : Library) (l : Live) → IsLibrary lib → length lib.live < PACKETS → IsLive (lib.last + 1) l
    → IsLibrary (record { live = lib.live ++ l ∷ []; last = lib.last + 1 })
installed_is lib l is few live = record {
  few = (let a = length-append lib.live (l ∷ []) in let z : length (lib.live ++ l ∷ []) ≤ PACKETS = omega (arith, a, few) in z);
  all =
      all_append (lib.last + 1) lib.live l
      (more_live lib.last (lib.last + 1) lib.live (let z : lib.last ≤ lib.last + 1 = omega arith in z) is.all) live;
}

fewer : (test : Live → Bool) (ls : List Live) → length (filter test ls) ≤ length ls
fewer test [] = omega arith
fewer test (l ∷ ls) = by_test (fewer test ls) (test l)
  where
    by_test : length (filter test ls) ≤ length ls → (b : Bool) → length (if b then l ∷ filter test ls else filter test ls) ≤ suc (length ls)
    by_test h true = omega (arith, h)
    by_test h false = omega (arith, h)

all_kept : (n : ℕ) (test : Live → Bool) (ls : List Live) → AllLive n ls → AllLive n (filter test ls)
all_kept n test [] h = tt
all_kept n test (l ∷ ls) h = by_test (all_kept n test ls h.1) (test l)
  where
    by_test : AllLive n (filter test ls) → (b : Bool) → AllLive n (if b then l ∷ filter test ls else filter test ls)
    by_test k true = (h.0, k)
    by_test k false = k

pub released_is : (lib : Library) (n : ℕ) → IsLibrary lib → IsLibrary (released n lib)
released_is lib n is = record {
  few = (let a = fewer (λ l. not (has_number n l)) lib.live in let b = is.few in omega (arith, a, b));
  all = all_kept lib.last (λ l. not (has_number n l)) lib.live is.all;
}
