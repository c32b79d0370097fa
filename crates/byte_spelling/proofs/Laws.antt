-- What is read is spelled so, and what is spelled so is read again.
use Rattle.std.proofs.Common.{◌≡◌, ℕ, zero, suc, ◌+◌, ◌^◌, ◌<◌, ◌≤◌, ◌&&◌, Bool, true, false, cond, eqb, ltb, List, [], ◌∷◌, ◌++◌, length, get_or, take, drop, Option, Some, None, refl, sym, ap, subst, ◌∙◌, append_assoc, arith, inl, inr}
use Rattle.std.specs.Prelude.{nat_lt, nat_eq, slice_get}
use Rattle.std.specs.List.{flat_map}
use Rattle.std.specs.Prelude.{ℤ}
use Rattle.std.specs.Ordering.{int_eq}
use Rattle.std.proofs.lemmas.Int.{ints, of_z-to_z, to_z-of_z}
use Rattle.std.specs.Int.RustNames.{FitsSigned}
use Rattle.std.proofs.lemmas.Bool.Decides.{Decides-int_eq}
use Rattle.std.specs.Int.{Width, w8, w16, w32, w64, byte_len, from_le_bytes, to_le_bytes, cast_signed, cast_unsigned}
use Rattle.std.proofs.lemmas.Bool.{cases_lt, ltb-false, le-ltb, lt-ltb, ltb-true}
use Rattle.std.proofs.lemmas.List.{take_at, drop_at, take-append-drop, length-append, length-take, get_or-drop, get_or-take, get_or_past}
use Rattle.std.proofs.lemmas.List.Concat.{flat_map-cons}
use Rattle.std.proofs.lemmas.Nat.{le_bytes_2, le_bytes_4, le_bytes_8, from_le_bytes-to_le_bytes_2, from_le_bytes-to_le_bytes_4, from_le_bytes-to_le_bytes_8}
use Rattle.byte_spelling.specs.Spelling.{Spelling, ◌>>=◌, limit, number, both, nothing, spell_if, fine_if, spelled_as, if_passes, bits_of, signed, option_number, none_in, option_of, truth, truth_number, counted_bytes, bytes, items_at, all_fine, counted_list, list_of, numbered_by, one_of, spell_case, fine_case, read_case}

abbrev pub IsBytes : List ℕ → Type 0
IsBytes from = (i : ℕ) → get_or from i 0 < 256

IsBytes-drop : (n : ℕ) (from : List ℕ) → IsBytes from → IsBytes (drop n from)
IsBytes-drop n from h i = rw get_or-drop (h (n + i))

IsBytes-take : (n : ℕ) (from : List ℕ) → IsBytes from → IsBytes (take n from)
IsBytes-take n from h i =
    elim (cases_lt i n) [
      | inl lt ↦ rw (get_or-take n from i 0 lt) (h i)
      | inr le ↦ rw (get_or_past (take n from) i 0 (omega (arith, length-take n from))) (omega arith)
    ]

-- the value of a step that gave one
pub bind_some : {A B : Type 0} (r : Option A) (f : A → Option B) (y : B) → (r >>= f) ≡ Some y → (x : A) × (r ≡ Some x) × (f x ≡ Some y)
bind_some (Some x) f y e = (x, refl, e)
bind_some None f y e = absurd cc

pub guard_some : {A : Type 0} (b : Bool) (x y : A) → cond b None (Some x) ≡ Some y → (b ≡ false) × (x ≡ y)
guard_some true x y e = absurd cc
guard_some false x y e = (refl, cc)

pub pass_some : {A : Type 0} (b : Bool) (x y : A) → cond b (Some x) None ≡ Some y → (b ≡ true) × (x ≡ y)
pass_some true x y e = (refl, cc)
pass_some false x y e = absurd cc

abbrev some : {A : Type 0} → A → Option A
some x = Some x

pub some_is : {A : Type 0} (x y : A) → some x ≡ some y → x ≡ y
some_is x y e = cc

pub both_true : (a b : Bool) → (a && b) ≡ true → (a ≡ true) × (b ≡ true)
both_true true b e = (refl, e)
both_true false b e = absurd cc

pub true_both : (a b : Bool) → a ≡ true → b ≡ true → (a && b) ≡ true
true_both a b e f = rw (e, f) refl

-- what was read from the front
pub record Takes (from text rest : List ℕ) : Type 0 where
  pub parts : from ≡ text ++ rest
  pub rest_fits : IsBytes rest

pub Takes-then : (a x b y c : List ℕ) → Takes a x b → Takes b y c → Takes a (x ++ y) c
Takes-then a x b y c p q = record { parts = p.parts ∙ ap (λ (t : List ℕ). x ++ t) q.parts ∙ sym (append_assoc x y c); rest_fits = q.rest_fits }

-- one spelling for each of these values, which no other begins
pub record IsOneOn {A : Type 0} (on : A → Type 0) (s : Spelling A) : Type 0 where
  pub takes : (from : List ℕ) (x : A × List ℕ) → IsBytes from → s.read from ≡ Some x → Takes from (s.spell x.0) x.1 × (s.fine x.0 ≡ true) × on x.0
  pub again : (a : A) (rest : List ℕ) → on a → s.fine a ≡ true → s.read (s.spell a ++ rest) ≡ Some (a, rest)

abbrev pub all_of_them : {A : Type 0} → A → Type 0
all_of_them a = Unit {0}

abbrev pub IsOne : {A : Type 0} → Spelling A → Type 0
IsOne s = IsOneOn all_of_them s

-- ---- numbers

pub record IsWide (w : Width) : Type 0 where
  pub len : (n : ℕ) → length (to_le_bytes w n) ≡ byte_len w
  pub back : (from : List ℕ) → length from ≡ byte_len w → IsBytes from → to_le_bytes w (from_le_bytes w from) ≡ from
  pub again : (n : ℕ) → n < limit w → from_le_bytes w (to_le_bytes w n) ≡ n
  pub below : (from : List ℕ) → IsBytes from → from_le_bytes w from < limit w

one_back : (from : List ℕ) → length from ≡ 1 → IsBytes from → to_le_bytes w8 (from_le_bytes w8 from) ≡ from
one_back [] e h = absurd (omega arith)
one_back (b ∷ []) e h = let lt : b < 256 = h 0 in search (arith, lt)
one_back (b ∷ c ∷ from) e h = absurd (omega arith)

wide8 : IsWide w8
wide8 = record {
  len = λ n. refl;
  back = one_back;
  again = λ n lt. search arith;
  below = λ from fits. omega (arith, fits 0);
}

wide16 : IsWide w16
wide16 = record {
  len = λ n. refl;
  back = λ from len fits. le_bytes_2 from _ len fits refl;
  again = λ n lt. from_le_bytes-to_le_bytes_2 n lt;
  below = λ from fits. omega (arith, fits 0, fits 1);
}

wide32 : IsWide w32
wide32 = record {
  len = λ n. refl;
  back = λ from len fits. le_bytes_4 from _ len fits refl;
  again = λ n lt. from_le_bytes-to_le_bytes_4 n lt;
  below = λ from fits. omega (arith, fits 0, fits 1, fits 2, fits 3);
}

wide64 : IsWide w64
wide64 = record {
  len = λ n. refl;
  back = λ from len fits. le_bytes_8 from _ len fits refl;
  again = λ n lt. from_le_bytes-to_le_bytes_8 n lt;
  below = λ from fits. omega (arith, fits 0, fits 1, fits 2, fits 3, fits 4, fits 5, fits 6, fits 7);
}

number_takes : (w : Width) → IsWide w → (from : List ℕ) (x : ℕ × List ℕ) → IsBytes from → (number w).read from ≡ Some x
    → Takes from (to_le_bytes w x.0) x.1 × (nat_lt x.0 (limit w) ≡ true) × (Unit {0})
number_takes w wide from x fits e =
    let g = guard_some (ltb (length from) (byte_len w)) (from_le_bytes w (take (byte_len w) from), drop (byte_len w) from) x e in
    let long : byte_len w ≤ length from = ltb-false _ _ g.0 in
    let front : to_le_bytes w (from_le_bytes w (take (byte_len w) from)) ≡ take (byte_len w) from =
    wide.back (take (byte_len w) from) (omega (arith, length-take (byte_len w) from)) (IsBytes-take (byte_len w) from fits) in
    let parts : from ≡ to_le_bytes w (from_le_bytes w (take (byte_len w) from)) ++ drop (byte_len w) from = rw front (sym (take-append-drop (byte_len w) from)) in
    let small : nat_lt (from_le_bytes w (take (byte_len w) from)) (limit w) ≡ true =
    lt-ltb _ _ (wide.below (take (byte_len w) from) (IsBytes-take (byte_len w) from fits)) in
    subst (λ (y : ℕ × List ℕ). Takes from (to_le_bytes w y.0) y.1 × (nat_lt y.0 (limit w) ≡ true) × (Unit {0})) g.1
    (record { parts = parts; rest_fits = IsBytes-drop (byte_len w) from fits }, small, tt)

number_again : (w : Width) → IsWide w → (n : ℕ) (rest : List ℕ) → nat_lt n (limit w) ≡ true → (number w).read (to_le_bytes w n ++ rest) ≡ Some (n, rest)
number_again w wide n rest fine =
    let lt : n < limit w = ltb-true _ _ fine in
    let len : length (to_le_bytes w n) ≡ byte_len w = wide.len n in
    let enough : ltb (length (to_le_bytes w n ++ rest)) (byte_len w) ≡ false = le-ltb _ _ (omega (arith, len, length-append (to_le_bytes w n) rest)) in
    let front : take (byte_len w) (to_le_bytes w n ++ rest) ≡ to_le_bytes w n = take_at (to_le_bytes w n) rest (byte_len w) len in
    let behind : drop (byte_len w) (to_le_bytes w n ++ rest) ≡ rest = drop_at (to_le_bytes w n) rest (byte_len w) len in
    rw (enough, front, behind, wide.again n lt) refl

number_one : (w : Width) → IsWide w → IsOne (number w)
number_one w wide = record { takes = number_takes w wide; again = λ n rest u fine. number_again w wide n rest fine }

pub one_w8 : IsOne (number w8)
one_w8 = number_one w8 wide8

pub one_w16 : IsOne (number w16)
one_w16 = number_one w16 wide16

pub one_w32 : IsOne (number w32)
one_w32 = number_one w32 wide32

pub one_w64 : IsOne (number w64)
one_w64 = number_one w64 wide64

-- ---- parts

both_takes : {A B : Type 0} (s : Spelling A) (t : Spelling B) → IsOne s → IsOne t → (from : List ℕ) (x : (A × B) × List ℕ) → IsBytes from → (both s t).read from ≡ Some x
    → Takes from ((both s t).spell x.0) x.1 × ((both s t).fine x.0 ≡ true) × (Unit {0})
both_takes {A} {B} s t one two from x fits e =
    let a = bind_some (s.read from) (λ (a : A × List ℕ). t.read a.1 >>= λ (b : B × List ℕ). Some ((a.0, b.0), b.1)) x e in
    let b = bind_some (t.read a.0.1) (λ (b : B × List ℕ). Some ((a.0.0, b.0), b.1)) x a.2 in
    let p = one.takes from a.0 fits a.1 in
    let q = two.takes a.0.1 b.0 p.0.rest_fits b.1 in
    subst (λ (y : (A × B) × List ℕ). Takes from ((both s t).spell y.0) y.1 × ((both s t).fine y.0 ≡ true) × (Unit {0})) (some_is ((a.0.0, b.0.0), b.0.1) x b.2)
    (Takes-then from (s.spell a.0.0) a.0.1 (t.spell b.0.0) b.0.1 p.0 q.0, true_both _ _ p.1 q.1, tt)

both_again : {A B : Type 0} (s : Spelling A) (t : Spelling B) → IsOne s → IsOne t → (a : A × B) (rest : List ℕ) → (both s t).fine a ≡ true
    → (both s t).read ((both s t).spell a ++ rest) ≡ Some (a, rest)
both_again s t one two a rest fine =
    let f = both_true _ _ fine in
    rw (append_assoc (s.spell a.0) (t.spell a.1) rest, one.again a.0 (t.spell a.1 ++ rest) tt f.0, two.again a.1 rest tt f.1) refl

pub both_one : {A B : Type 0} (s : Spelling A) (t : Spelling B) → IsOne s → IsOne t → IsOne (both s t)
both_one s t one two = record { takes = both_takes s t one two; again = λ a rest u fine. both_again s t one two a rest fine }

-- ---- other names

spelled_again : {A B : Type 0} (to : A → B) (s : Spelling A) → IsOne s → (b : B) (rest : List ℕ) (o : Option A) → fine_if s o ≡ true → ((a : A) → o ≡ Some a → to a ≡ b)
    → ◌>>=◌ {A = A × List ℕ} {B = B × List ℕ} (s.read (spell_if s o ++ rest)) (λ (a : A × List ℕ). Some (to a.0, a.1)) ≡ Some (b, rest)
spelled_again to s one b rest None fine same = absurd cc
spelled_again to s one b rest (Some a) fine same = rw (one.again a rest tt fine, same a refl) refl

pub spelled_as_one : {A B : Type 0} (on : B → Type 0) (to : A → B) (from : B → Option A) (s : Spelling A) → IsOne s → ((a : A) → s.fine a ≡ true → from (to a) ≡ Some a) → ((a : A) → on (to a))
    → ((b : B) (a : A) → from b ≡ Some a → to a ≡ b) → IsOneOn on (spelled_as to from s)
spelled_as_one {A} {B} on to from s one back there same = record {
  takes = λ bs x fits e.
      let a = bind_some (s.read bs) (λ (a : A × List ℕ). Some (to a.0, a.1)) x e in
      let p = one.takes bs a.0 fits a.1 in
      subst (λ (y : B × List ℕ). Takes bs (spell_if s (from y.0)) y.1 × (fine_if s (from y.0) ≡ true) × on y.0) (some_is (to a.0.0, a.0.1) x a.2)
      (rw (back a.0.0 p.1) p.0, rw (back a.0.0 p.1) p.1, there a.0.0);
  again = λ b rest o fine. spelled_again to s one b rest (from b) fine (same b);
}

pub if_passes_one : {A : Type 0} (ok : A → Bool) (s : Spelling A) → IsOne s → IsOne (if_passes ok s)
if_passes_one {A} ok s one = record {
  takes = λ bs x fits e.
      let a = bind_some (s.read bs) (λ (a : A × List ℕ). cond (ok a.0) (Some a) None) x e in
      let p = one.takes bs a.0 fits a.1 in
      let g = pass_some (ok a.0.0) a.0 x a.2 in
      subst (λ (y : A × List ℕ). Takes bs (s.spell y.0) y.1 × ((s.fine y.0 && ok y.0) ≡ true) × (Unit {0})) g.1 (p.0, true_both _ _ p.1 g.0, tt);
  again = λ a rest u fine. let f = both_true _ _ fine in rw (one.again a rest tt f.0, f.1) refl;
}

truth_back : (n : ℕ) → (if_passes (λ n. nat_lt n 2) (number w8)).fine n ≡ true → truth_number (nat_eq n 1) ≡ n
truth_back zero f = refl
truth_back (suc zero) f = refl
truth_back (suc (suc n)) f = let g = both_true (nat_lt (suc (suc n)) 256) (nat_lt (suc (suc n)) 2) f in let lt : suc (suc n) < 2 = ltb-true _ _ g.1 in absurd (omega (arith, lt))

truth_same : (b : Bool) (n : ℕ) → some (truth_number b) ≡ Some n → nat_eq n 1 ≡ b
truth_same true n e = let k : 1 ≡ n = some_is 1 n e in rw (← k) refl
truth_same false n e = let k : 0 ≡ n = some_is 0 n e in rw (← k) refl

truth_found : (n : ℕ) → (if_passes (λ n. nat_lt n 2) (number w8)).fine n ≡ true → some (truth_number (nat_eq n 1)) ≡ Some n
truth_found n f = ap some (truth_back n f)

pub truth_one : IsOne truth
truth_one = spelled_as_one all_of_them (λ (n : ℕ). nat_eq n 1) (λ (b : Bool). Some (truth_number b)) (if_passes (λ (n : ℕ). nat_lt n 2) (number w8)) (if_passes_one (λ (n : ℕ). nat_lt n 2) (number w8) one_w8)
    truth_found (λ a. tt) truth_same

signed_found : (n : ℕ) → (number w16).fine n ≡ true → bits_of (cast_signed w16 n) ≡ Some n
signed_found n f =
    let lt : n < 65536 = ltb-true _ _ f in
    let e : cast_unsigned w16 (cast_signed w16 n) ≡ n = of_z-to_z w16 n lt in
    rw (e, (Decides-int_eq (cast_signed w16 n) (cast_signed w16 n)).1 refl) refl

signed_same : (z : ℤ) (n : ℕ) → bits_of z ≡ Some n → cast_signed w16 n ≡ z
signed_same z n e =
    let g = pass_some (int_eq (cast_signed w16 (cast_unsigned w16 z)) z) (cast_unsigned w16 z) n e in
    ap (cast_signed w16) (sym g.1) ∙ (Decides-int_eq (cast_signed w16 (cast_unsigned w16 z)) z).0 g.0

pub signed_bits : (z : ℤ) → FitsSigned w16 z → bits_of z ≡ Some (cast_unsigned w16 z)
signed_bits z f = rw (to_z-of_z w16 z f, (Decides-int_eq z z).1 refl) refl

pub signed_one : IsOne signed
signed_one = spelled_as_one all_of_them (cast_signed w16) bits_of (number w16) one_w16 signed_found (λ a. tt) signed_same

pub nothing_one : IsOne nothing
nothing_one = record {
  takes = λ from x fits e. subst (λ (y : Unit {0} × List ℕ). Takes from [] y.1 × (true ≡ true) × (Unit {0})) (some_is (tt, from) x e) (record { parts = refl; rest_fits = fits }, refl, tt);
  again = λ u rest v fine. refl;
}

-- ---- lists

counted_bytes_takes : (w : Width) → IsWide w → (from : List ℕ) (x : List ℕ × List ℕ) → IsBytes from → (counted_bytes w).read from ≡ Some x
    → Takes from ((counted_bytes w).spell x.0) x.1 × ((counted_bytes w).fine x.0 ≡ true) × (Unit {0})
counted_bytes_takes w wide from x fits e =
    let n = bind_some ((number w).read from) (λ (n : ℕ × List ℕ). cond (nat_lt (length n.1) n.0) None (Some (take n.0 n.1, drop n.0 n.1))) x e in
    let p = number_takes w wide from n.0 fits n.1 in
    let g = guard_some (ltb (length n.0.1) n.0.0) (take n.0.0 n.0.1, drop n.0.0 n.0.1) x n.2 in
    let long : n.0.0 ≤ length n.0.1 = ltb-false _ _ g.0 in
    let len : length (take n.0.0 n.0.1) ≡ n.0.0 = omega (arith, length-take n.0.0 n.0.1) in
    let second : Takes n.0.1 (take n.0.0 n.0.1) (drop n.0.0 n.0.1) = record { parts = sym (take-append-drop n.0.0 n.0.1); rest_fits = IsBytes-drop n.0.0 n.0.1 p.0.rest_fits } in
    let whole : Takes from (to_le_bytes w n.0.0 ++ take n.0.0 n.0.1) (drop n.0.0 n.0.1) = Takes-then from (to_le_bytes w n.0.0) n.0.1 (take n.0.0 n.0.1) (drop n.0.0 n.0.1) p.0 second in
    subst (λ (y : List ℕ × List ℕ). Takes from ((counted_bytes w).spell y.0) y.1 × ((counted_bytes w).fine y.0 ≡ true) × (Unit {0})) g.1 (rw len whole, rw len p.1, tt)

counted_bytes_again : (w : Width) → IsWide w → (t rest : List ℕ) → (counted_bytes w).fine t ≡ true → (counted_bytes w).read ((counted_bytes w).spell t ++ rest) ≡ Some (t, rest)
counted_bytes_again w wide t rest fine =
    let enough : ltb (length (t ++ rest)) (length t) ≡ false = le-ltb _ _ (omega (arith, length-append t rest)) in
    rw (append_assoc (to_le_bytes w (length t)) t rest, number_again w wide (length t) (t ++ rest) fine, enough, take_at t rest (length t) refl, drop_at t rest (length t) refl) refl

pub bytes_one : IsOne bytes
bytes_one = record { takes = counted_bytes_takes w32 wide32; again = λ t rest u fine. counted_bytes_again w32 wide32 t rest fine }

pub items_take : {A : Type 0} (s : Spelling A) → IsOne s → (n : ℕ) (from : List ℕ) (x : List A × List ℕ) → IsBytes from → items_at s n from ≡ Some x
    → Takes from (flat_map s.spell x.0) x.1 × (length x.0 ≡ n) × (all_fine s x.0 ≡ true)
unfolding items_at all_fine
items_take {A} s one zero from x fits e =
    subst (λ (y : List A × List ℕ). Takes from (flat_map s.spell y.0) y.1 × (length y.0 ≡ 0) × (all_fine s y.0 ≡ true)) (some_is ([], from) x e) (record { parts = refl; rest_fits = fits }, refl, refl)
items_take {A} s one (suc n) from x fits e =
    let a = bind_some (s.read from) (λ (a : A × List ℕ). items_at s n a.1 >>= λ (rest : List A × List ℕ). Some (a.0 ∷ rest.0, rest.1)) x e in
    let b = bind_some (items_at s n a.0.1) (λ (rest : List A × List ℕ). Some (a.0.0 ∷ rest.0, rest.1)) x a.2 in
    let first = one.takes from a.0 fits a.1 in
    let second = items_take s one n a.0.1 b.0 first.0.rest_fits b.1 in
    let whole : Takes from (s.spell a.0.0 ++ flat_map s.spell b.0.0) b.0.1 = Takes-then from (s.spell a.0.0) a.0.1 (flat_map s.spell b.0.0) b.0.1 first.0 second.0 in
    subst (λ (y : List A × List ℕ). Takes from (flat_map s.spell y.0) y.1 × (length y.0 ≡ suc n) × (all_fine s y.0 ≡ true)) (some_is (a.0.0 ∷ b.0.0, b.0.1) x b.2)
    (rw flat_map-cons whole, ap suc second.1, true_both _ _ first.1 second.2)

pub items_again : {A : Type 0} (s : Spelling A) → IsOne s → (as' : List A) (rest : List ℕ) → all_fine s as' ≡ true → items_at s (length as') (flat_map s.spell as' ++ rest) ≡ Some (as', rest)
unfolding items_at all_fine
items_again s one [] rest fine = refl
items_again s one (a ∷ as') rest fine =
    let f = both_true _ _ fine in
    let regrouped : flat_map s.spell (a ∷ as') ++ rest ≡ s.spell a ++ (flat_map s.spell as' ++ rest) =
    ap (λ (x : List ℕ). x ++ rest) (flat_map-cons s.spell a as') ∙ append_assoc (s.spell a) (flat_map s.spell as') rest in
    ap (items_at s (suc (length as'))) regrouped ∙ rw (one.again a (flat_map s.spell as' ++ rest) tt f.0, items_again s one as' rest f.1) refl

list_takes : {A : Type 0} (w : Width) → IsWide w → (s : Spelling A) → IsOne s → (from : List ℕ) (x : List A × List ℕ) → IsBytes from → (counted_list w s).read from ≡ Some x
    → Takes from ((counted_list w s).spell x.0) x.1 × ((counted_list w s).fine x.0 ≡ true) × (Unit {0})
list_takes w wide s one from x fits e =
    let n = bind_some ((number w).read from) (λ (n : ℕ × List ℕ). items_at s n.0 n.1) x e in
    let p = number_takes w wide from n.0 fits n.1 in
    let q = items_take s one n.0.0 n.0.1 x p.0.rest_fits n.2 in
    let whole : Takes from (to_le_bytes w n.0.0 ++ flat_map s.spell x.0) x.1 = Takes-then from (to_le_bytes w n.0.0) n.0.1 (flat_map s.spell x.0) x.1 p.0 q.0 in
    (rw q.1 whole, true_both _ _ (rw q.1 p.1) q.2, tt)

list_again : {A : Type 0} (w : Width) → IsWide w → (s : Spelling A) → IsOne s → (as' : List A) (rest : List ℕ) → (counted_list w s).fine as' ≡ true
    → (counted_list w s).read ((counted_list w s).spell as' ++ rest) ≡ Some (as', rest)
list_again w wide s one as' rest fine =
    let f = both_true _ _ fine in
    rw (append_assoc (to_le_bytes w (length as')) (flat_map s.spell as') rest, number_again w wide (length as') (flat_map s.spell as' ++ rest) f.0) (items_again s one as' rest f.1)

pub list_one : {A : Type 0} (s : Spelling A) → IsOne s → IsOne (list_of s)
list_one s one = record { takes = list_takes w32 wide32 s one; again = λ as' rest u fine. list_again w32 wide32 s one as' rest fine }

-- ---- variants: each case is that of the values with its number

pub record AreCases {A : Type 0} (which : A → ℕ) (cases : List (Spelling A)) : Type 0 where
  pub each : (k : ℕ) (s : Spelling A) → slice_get cases k ≡ Some s → IsOneOn (λ a. which a ≡ k) s

abbrev pub FromCase : {A : Type 0} → (A → ℕ) → ℕ → List (Spelling A) → Type 0
FromCase which k [] = Unit {0}
FromCase which k (s ∷ ss) = IsOneOn (λ a. which a ≡ k) s × FromCase which (suc k) ss

each_case : {A : Type 0} (which : A → ℕ) (n : ℕ) (cases : List (Spelling A)) → FromCase which n cases → (k : ℕ) (s : Spelling A) → slice_get cases k ≡ Some s → IsOneOn (λ a. which a ≡ n + k) s
each_case which n [] all k s e = absurd cc
each_case which n (c ∷ cs) all zero s e =
    let is : c ≡ s = some_is c s e in
    let at : n ≡ n + 0 = omega arith in
    subst (λ s. IsOneOn (λ a. which a ≡ n + 0) s) is (subst (λ (m : ℕ). IsOneOn (λ a. which a ≡ m) c) at all.0)
each_case which n (c ∷ cs) all (suc k) s e =
    let at : suc n + k ≡ n + suc k = omega arith in
    subst (λ (m : ℕ). IsOneOn (λ a. which a ≡ m) s) at (each_case which (suc n) cs all.1 k s e)

pub are_cases : {A : Type 0} (which : A → ℕ) (cases : List (Spelling A)) → FromCase which 0 cases → AreCases which cases
are_cases which cases all = record { each = λ k s e. subst (λ (m : ℕ). IsOneOn (λ a. which a ≡ m) s) (let z : 0 + k ≡ k = omega arith in z) (each_case which 0 cases all k s e) }

case_takes : {A : Type 0} (which : A → ℕ) (cases : List (Spelling A)) (k : ℕ) (o : Option (Spelling A)) → slice_get cases k ≡ o → AreCases which cases → (from : List ℕ) (x : A × List ℕ) → IsBytes from
    → read_case o from ≡ Some x → Takes from (spell_case o x.0) x.1 × (fine_case o x.0 ≡ true) × (which x.0 ≡ k)
case_takes which cases k None is are from x fits e = absurd cc
case_takes which cases k (Some s) is are from x fits e = (are.each k s is).takes from x fits e

case_again : {A : Type 0} (which : A → ℕ) (cases : List (Spelling A)) (o : Option (Spelling A)) → AreCases which cases → (a : A) → slice_get cases (which a) ≡ o → (rest : List ℕ)
    → fine_case o a ≡ true → read_case o (spell_case o a ++ rest) ≡ Some (a, rest)
case_again which cases None are a is rest fine = absurd cc
case_again which cases (Some s) are a is rest fine = (are.each (which a) s is).again a rest refl fine

numbered_takes : {A : Type 0} (w : Width) → IsWide w → (which : A → ℕ) (cases : List (Spelling A)) → AreCases which cases → (from : List ℕ) (x : A × List ℕ) → IsBytes from
    → (numbered_by w which cases).read from ≡ Some x → Takes from ((numbered_by w which cases).spell x.0) x.1 × ((numbered_by w which cases).fine x.0 ≡ true) × (Unit {0})
numbered_takes w wide which cases are from x fits e =
    let k = bind_some ((number w).read from) (λ (k : ℕ × List ℕ). read_case (slice_get cases k.0) k.1) x e in
    let p = number_takes w wide from k.0 fits k.1 in
    let q = case_takes which cases k.0.0 (slice_get cases k.0.0) refl are k.0.1 x p.0.rest_fits k.2 in
    let whole : Takes from (to_le_bytes w k.0.0 ++ spell_case (slice_get cases k.0.0) x.0) x.1 =
    Takes-then from (to_le_bytes w k.0.0) k.0.1 (spell_case (slice_get cases k.0.0) x.0) x.1 p.0 q.0 in
    (rw q.2 whole, rw q.2 (true_both _ _ p.1 q.1), tt)

numbered_again : {A : Type 0} (w : Width) → IsWide w → (which : A → ℕ) (cases : List (Spelling A)) → AreCases which cases → (a : A) (rest : List ℕ) → (numbered_by w which cases).fine a ≡ true
    → (numbered_by w which cases).read ((numbered_by w which cases).spell a ++ rest) ≡ Some (a, rest)
numbered_again w wide which cases are a rest fine =
    let f = both_true _ _ fine in
    rw (append_assoc (to_le_bytes w (which a)) (spell_case (slice_get cases (which a)) a) rest, number_again w wide (which a) (spell_case (slice_get cases (which a)) a ++ rest) f.0)
    (case_again which cases (slice_get cases (which a)) are a refl rest f.1)

pub one_of_one : {A : Type 0} (which : A → ℕ) (cases : List (Spelling A)) → AreCases which cases → IsOne (one_of which cases)
one_of_one which cases are = record { takes = numbered_takes w8 wide8 which cases are; again = λ a rest u fine. numbered_again w8 wide8 which cases are a rest fine }

none_same : {A : Type 0} (o : Option A) (u : Unit {0}) → none_in o ≡ Some u → None ≡ o
none_same None u e = refl
none_same (Some a) u e = absurd cc

unit_found : (u : Unit {0}) → some tt ≡ Some u
unit_found u = refl

abbrev no_value : {A : Type 0} → Unit {0} → Option A
no_value u = None

pub option_one : {A : Type 0} (s : Spelling A) → IsOne s → IsOne (option_of s)
option_one {A} s one = one_of_one option_number (spelled_as no_value none_in nothing ∷ spelled_as some (λ (o : Option A). o) s ∷ []) (are_cases option_number _ (
  spelled_as_one (λ (o : Option A). option_number o ≡ 0) no_value none_in nothing nothing_one (λ u f. unit_found u) (λ u. refl) none_same,
  (spelled_as_one (λ (o : Option A). option_number o ≡ 1) some (λ (o : Option A). o) s one (λ a f. refl) (λ a. refl) (λ o a e. sym e), tt),
))
