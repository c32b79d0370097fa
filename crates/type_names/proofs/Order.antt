-- Names that are read one after another, in whatever order, denote what they denote once what is open reads open again.
use Rattle.std.proofs.Common.{◌≡◌, ℕ, zero, suc, ◌+◌, Bool, true, false, if◌then◌else◌, List, [], ◌∷◌, ◌++◌, length, map, Option, Some, None}
use Rattle.std.proofs.Common.{refl, sym, ap, subst, ◌∙◌, arith}
use Rattle.std.specs.Prelude.{◌==◌, option_map, option_to_list, flat_map, slice_get}
use Rattle.std.specs.Str.{bytes_eq}
use Rattle.std.proofs.Math.Path.{fun_ext}
use Rattle.std.proofs.Math.Dec.{eqb-suc-zero}
use Rattle.elan_types.specs.declared.elan_type.ElanType.{ElanType}
use Rattle.elan_types.specs.declared.elan_type.ElanType.TheVariants as types
use Rattle.elan_types.specs.Types.{is_open}
use Rattle.elan_types.proofs.Shapes.{both}
use Rattle.elan_types.proofs.Types.{open_open, open_is}
use Rattle.elan_names.specs.declared.type_name.TypeName.{TypeName}
use Rattle.elan_names.specs.declared.type_name.Named.{Named}
use Rattle.elan_names.specs.declared.type_name.Named.TheVariants as named
use Rattle.elan_names.specs.Types.{first_type, is_open_named}
use Rattle.elan_names.specs.walks.Firsts.{first_at, type_names, denoting}
use Rattle.elan_walk.specs.declared.definition.Defined.{Defined}
use Rattle.elan_walk.specs.declared.definition.Defined.TheVariants as defined
use Rattle.elan_walk.specs.declared.definition.Definition.{Definition}
use Rattle.type_names.specs.Types.{look, first_from, as_defined, by_definition, denoted, names_of}
use Rattle.type_names.specs.Faults.{calls, number_named, numbers_named, names_in}
use Rattle.type_names.specs.walks.Further.{read, unread, all_unread, with_found, with_read, known_over, Follows, Reads, settled_from}
use Rattle.type_names.specs.walks.Further.{definition_names, numbers_at, calls_at, defined_at}
use Rattle.type_names.proofs.Meaning.{Looks, is_unknown, both_ways}
use Rattle.type_names.proofs.Rounds.{read_denotes, names_read}
use Rattle.type_names.proofs.Sound.{defined_kept, found_at, one, found_kept, one_more}

-- Where this look-up tells something, the other tells the same.
abbrev Less : Looks → Looks → Type 0
Less l m = (x : List ℕ) → is_unknown (l x) ≡ false → l x ≡ m x

unknown_open : (n : Named) → is_unknown (Some n) ≡ is_open_named n
unknown_open (named.Of t) = refl
unknown_open (named.Size k) = refl
unknown_open named.Other = refl

both_open : (a b : Named) → is_open_named a ≡ true → is_open_named b ≡ true → a ≡ b
both_open (named.Of t) (named.Of u) e h = ap (λ (v : ElanType). named.Of v) (open_is t e ∙ sym (open_is u h))
both_open (named.Of t) (named.Size k) e h = absurd cc
both_open (named.Of t) named.Other e h = absurd cc
both_open (named.Size k) b e h = absurd cc
both_open named.Other b e h = absurd cc

-- ---- what was read follows a look-up

module _ (first : ℕ) where
  starts : (l : Looks) (n : ℕ) (es : List Definition) → Follows first l n (all_unread es) es
  starts l n [] = tt
  starts l n (d ∷ es) = (refl, refl, by_what d.what, starts l (n + 1) es)
    where
      by_what : (w : Defined) → is_open_named (unread w) ≡ false → unread w ≡ as_defined first l n w
      by_what (defined.Abbreviation of) e = absurd (both_ways (is_open types.Open) e open_open)
      by_what (defined.New of) e = absurd (both_ways (is_open types.Open) e open_open)
      by_what (defined.Number k) e = refl
      by_what defined.Other e = refl

  follows_more : (l m : Looks) → Less l m → (n : ℕ) (ts : List TypeName) (es : List Definition) → Follows first l n ts es → Follows first m n ts es
  follows_more l m less n [] [] h = tt
  follows_more l m less n [] (d ∷ es) h = absurd h
  follows_more l m less n (t ∷ ts) [] h = absurd h
  follows_more l m less n (t ∷ ts) (d ∷ es) h = (h.0, h.1, (λ e. kept (h.2 e) e), follows_more l m less (n + 1) ts es h.3)
    where
      kept : t.of ≡ as_defined first l n d.what → is_open_named t.of ≡ false → t.of ≡ as_defined first m n d.what
      kept i e = i ∙ defined_kept first l m less n d.what (sym (ap (λ (o : Named). is_unknown (Some o)) i) ∙ unknown_open t.of ∙ e)

  follows_set : (m : Looks) (n i k : ℕ) (v : Named) (d : Definition) (ts : List TypeName) (es : List Definition) → Follows first m n ts es
      → slice_get es i ≡ Some d → k ≡ n + i → (is_open_named v ≡ false → v ≡ as_defined first m k d.what) → Follows first m n (denoting ts i v) es
  follows_set m n i k v d [] [] h g q w = absurd cc
  follows_set m n i k v d [] (e ∷ es) h g q w = absurd h
  follows_set m n i k v d (t ∷ ts) [] h g q w = absurd h
  follows_set m n zero k v d (t ∷ ts) (e ∷ es) h g q w =
      let s : e ≡ d = cc in
      let z : k ≡ n = omega (arith, q) in
      (h.0, h.1, (λ o. w o ∙ ap (λ (j : ℕ). as_defined first m j d.what) z ∙ ap (λ (f : Definition). as_defined first m n f.what) (sym s)), h.3)
  follows_set m n (suc i) k v d (t ∷ ts) (e ∷ es) h g q w =
      (h.0, h.1, h.2, follows_set m (n + 1) i k v d ts es h.3 g (let z : k ≡ (n + 1) + i = omega (arith, q) in z) w)

  -- ---- what is found among what was read

  abbrev told : Option TypeName → Option Named
  told o = option_map (λ t. t.of) o

  module _ (us : List TypeName) (l : Looks) where
    -- What was known stays where a definition is read with it.
    grows : (n i k : ℕ) (v : Named) (d : Definition) (ts : List TypeName) (es : List Definition) → Follows first l n ts es → slice_get es i ≡ Some d
        → k ≡ n + i → v ≡ as_defined first l k d.what → Less (look (ts ++ us)) (look (denoting ts i v ++ us))
    grows n i k v d [] [] h g q w x u = absurd cc
    grows n i k v d [] (e ∷ es) h g q w x u = absurd h
    grows n i k v d (t ∷ ts) [] h g q w x u = absurd h
    grows n zero k v d (t ∷ ts) (e ∷ es) h g q w x u = by_test (bytes_eq t.name x) u
      where
        same : is_unknown (Some t.of) ≡ false → t.of ≡ v
        same o =
            let s : e ≡ d = cc in
            let z : k ≡ n = omega (arith, q) in
            h.2 (sym (unknown_open t.of) ∙ o) ∙ ap (λ (f : Definition). as_defined first l n f.what) s
            ∙ ap (λ (j : ℕ). as_defined first l j d.what) (sym z) ∙ sym w

        by_test : (b : Bool) → is_unknown (told (if b then Some t else first_type x (ts ++ us))) ≡ false
            → told (if b then Some t else first_type x (ts ++ us))
            ≡ told (if b then Some (record { at = t.at; name = t.name; of = v }) else first_type x (ts ++ us))
        by_test true o = ap (λ (a : Named). Some a) (same o)
        by_test false o = refl
    grows n (suc i) k v d (t ∷ ts) (e ∷ es) h g q w x u =
        by_test (bytes_eq t.name x) (grows (n + 1) i k v d ts es h.3 g (let z : k ≡ (n + 1) + i = omega (arith, q) in z) w x) u
      where
        by_test : (b : Bool) → (is_unknown (look (ts ++ us) x) ≡ false → look (ts ++ us) x ≡ look (denoting ts i v ++ us) x)
            → is_unknown (told (if b then Some t else first_type x (ts ++ us))) ≡ false
            → told (if b then Some t else first_type x (ts ++ us)) ≡ told (if b then Some t else first_type x (denoting ts i v ++ us))
        by_test true rest o = refl
        by_test false rest o = rest o

    -- What is known is what its definition says.
    found : (n : ℕ) (ts : List TypeName) (es : List Definition) → Follows first l n ts es
        → Less (look (ts ++ us)) (λ x. by_definition first l (first_from n es x) (look us x))
    found n [] [] h x u = refl
    found n [] (e ∷ es) h x u = absurd h
    found n (t ∷ ts) [] h x u = absurd h
    found n (t ∷ ts) (d ∷ es) h x u =
        by_test (bytes_eq t.name x) (found (n + 1) ts es h.3 x) u
        ∙ ap (λ (y : List ℕ). by_definition first l (if bytes_eq y x then Some (n, d) else first_from (n + 1) es x) (look us x)) h.1
      where
        by_test : (b : Bool) → (is_unknown (look (ts ++ us) x) ≡ false → look (ts ++ us) x ≡ by_definition first l (first_from (n + 1) es x) (look us x))
            → is_unknown (told (if b then Some t else first_type x (ts ++ us))) ≡ false
            → told (if b then Some t else first_type x (ts ++ us)) ≡ by_definition first l (if b then Some (n, d) else first_from (n + 1) es x) (look us x)
        by_test true rest o = ap (λ (a : Named). Some a) (h.2 (sym (unknown_open t.of) ∙ o))
        by_test false rest o = rest o

  -- What is read again with itself is what was read.
  same_read : (l : Looks) (n : ℕ) (ts : List TypeName) (es : List Definition) → Follows first l n ts es → settled_from first l n ts es ≡ true → ts ≡ read first l n es
  same_read l n [] [] h e = refl
  same_read l n [] (d ∷ es) h e = absurd h
  same_read l n (t ∷ ts) [] h e = absurd h
  same_read l n (t ∷ ts) (d ∷ es) h e =
      let b = both (if is_open_named t.of then is_open_named (as_defined first l n d.what) else true) (settled_from first l (n + 1) ts es) e in
      ap (λ (k : ℕ). record { at = k; name = t.name; of = t.of } ∷ ts) h.0
      ∙ ap (λ (y : List ℕ). record { at = d.name_at; name = y; of = t.of } ∷ ts) h.1
      ∙ ap (λ (o : Named). record { at = d.name_at; name = d.name; of = o } ∷ ts) (by_open (is_open_named t.of) refl b.0)
      ∙ ap (λ (us : List TypeName). record { at = d.name_at; name = d.name; of = as_defined first l n d.what } ∷ us) (same_read l (n + 1) ts es h.3 b.1)
    where
      by_open : (b : Bool) → is_open_named t.of ≡ b → (if b then is_open_named (as_defined first l n d.what) else true) ≡ true → t.of ≡ as_defined first l n d.what
      by_open true i o = both_open t.of (as_defined first l n d.what) i o
      by_open false i o = h.2 i

  -- ---- in turn

  module _ (around : List TypeName) (ds : List Definition) where
    abbrev sees : List TypeName → Looks
    sees ts = look (ts ++ around)

    abbrev over : ℕ → Looks
    over n = known_over first around ds n

    pub begun : (names : List TypeName) → names ≡ all_unread ds → Reads first around ds 0 names
    begun names e =
        subst (λ (ts : List TypeName). Reads first around ds 0 ts) (sym e) (starts (over 0) 0 ds, starts (sees (all_unread ds)) 0 ds)

    -- What was read tells no more than the names denote.
    less_over : (n : ℕ) (ts : List TypeName) → Follows first (over n) 0 ts ds → Less (sees ts) (over (suc n))
    less_over n ts h x u = found around (over n) 0 ts ds h x u ∙ sym (one first around ds n x)

    over_more : (n : ℕ) (ts : List TypeName) → Follows first (over n) 0 ts ds → Follows first (over (suc n)) 0 ts ds
    over_more n ts h = follows_more (over n) (over (suc n)) (one_more first around ds n) 0 ts ds h

    one_read : (n i : ℕ) (d : Definition) (ts : List TypeName) → slice_get ds i ≡ Some d → Reads first around ds n ts
        → Reads first around ds (suc n) (denoting ts i (as_defined first (sees ts) i d.what))
    one_read n i d ts g r =
        let v = as_defined first (sees ts) i d.what in
        let z : i ≡ 0 + i = omega arith in
        let now : Less (sees ts) (sees (denoting ts i v)) = grows around (sees ts) 0 i i v d ts ds r.1 g z refl in (
          follows_set (over (suc n)) 0 i i v d ts ds (over_more n ts r.0) g z
              (λ o. defined_kept first (sees ts) (over (suc n)) (less_over n ts r.0) i d.what (unknown_open v ∙ o)),
          follows_set (sees (denoting ts i v)) 0 i i v d ts ds (follows_more (sees ts) (sees (denoting ts i v)) now 0 ts ds r.1) g z
              (λ o. defined_kept first (sees ts) (sees (denoting ts i v)) now i d.what (unknown_open v ∙ o)),
        )

    none_read : (n : ℕ) (ts : List TypeName) → Reads first around ds n ts → Reads first around ds (suc n) ts
    none_read n ts r = (over_more n ts r.0, r.1)

    next : (n : ℕ) → suc n ≡ n + 1
    next n = omega arith

    pub not_read : (n : ℕ) (ts : List TypeName) → Reads first around ds n ts → Reads first around ds (n + 1) ts
    not_read n ts r = subst (λ (m : ℕ). Reads first around ds m ts) (next n) (none_read n ts r)

    pub was_read : (n i : ℕ) (ts : List TypeName) → Reads first around ds n ts → Reads first around ds (n + 1) (with_read first around ds i ts)
    was_read n i ts r = subst (λ (m : ℕ). Reads first around ds m (with_read first around ds i ts)) (next n) (by_found (slice_get ds i) refl)
      where
        by_found : (o : Option Definition) → slice_get ds i ≡ o → Reads first around ds (suc n) (with_found first around i o ts)
        by_found None g = none_read n ts r
        by_found (Some d) g = one_read n i d ts g r

    -- ---- once nothing further is known

    module _ (ts : List TypeName) (r : Reads first around ds (length ds) ts) (e : settled_from first (look (ts ++ around)) 0 ts ds ≡ true) where
      abbrev fixed : Looks
      fixed = sees ts

      read_itself : ts ≡ read first fixed 0 ds
      read_itself = same_read fixed 0 ts ds r.1 e

      fixed_denotes : (x : List ℕ) → fixed x ≡ by_definition first fixed (first_from 0 ds x) (look around x)
      fixed_denotes x = ap (λ (us : List TypeName). look (us ++ around) x) read_itself ∙ read_denotes first around ds fixed x

      -- It tells all that the names denote.
      over_less : (n : ℕ) → Less (over n) fixed
      over_less zero x u = absurd cc
      over_less (suc n) x u =
          one first around ds n x
          ∙ found_kept first around ds (over n) fixed (over_less n) (first_from 0 ds x) (look around x) (sym (ap is_unknown (one first around ds n x)) ∙ u)
          ∙ sym (fixed_denotes x)

      abbrev all : ℕ
      all = length ds

      both_unknown : (x : List ℕ) → is_unknown (fixed x) ≡ true → is_unknown (over (suc all) x) ≡ true → fixed x ≡ over (suc all) x
      both_unknown x u v =
          fixed_denotes x
          ∙ by_found (first_from 0 ds x) (sym (ap is_unknown (fixed_denotes x)) ∙ u) (sym (ap is_unknown (one first around ds all x)) ∙ v)
          ∙ sym (one first around ds all x)
        where
          by_found : (o : Option (ℕ × Definition)) → is_unknown (by_definition first fixed o (look around x)) ≡ true
              → is_unknown (by_definition first (over all) o (look around x)) ≡ true
              → by_definition first fixed o (look around x) ≡ by_definition first (over all) o (look around x)
          by_found None h k = refl
          by_found (Some f) h k =
              let a = as_defined first fixed f.0 f.1.what in
              let b = as_defined first (over all) f.0 f.1.what in
              ap (λ (n : Named). Some n) (both_open a b (sym (unknown_open a) ∙ h) (sym (unknown_open b) ∙ k))

      is_denoted : (x : List ℕ) → fixed x ≡ denoted first around ds all x
      is_denoted x = by_fixed (is_unknown (fixed x)) (is_unknown (over (suc all) x)) refl refl
        where
          by_fixed : (b c : Bool) → is_unknown (fixed x) ≡ b → is_unknown (over (suc all) x) ≡ c → fixed x ≡ denoted first around ds all x
          by_fixed false c u v = less_over all ts r.0 x u
          by_fixed true false u v = sym (over_less (suc all) x v)
          by_fixed true true u v = both_unknown x u v

      pub is_settled : ts ≡ names_of first around ds
      is_settled = read_itself ∙ ap (λ (l : Looks). read first l 0 ds) (fun_ext is_denoted) ∙ sym (names_read first around ds 0 ds)

-- ---- definitions that are found by name

number_from : (n : ℕ) (ds : List Definition) (x : List ℕ) → first_at n (definition_names ds) x ≡ option_map (λ f. f.0) (first_from n ds x)
number_from n [] x = refl
number_from n (d ∷ ds) x = by_test (bytes_eq d.name x) (number_from (n + 1) ds x)
  where
    by_test : (b : Bool) → first_at (n + 1) (definition_names ds) x ≡ option_map (λ f. f.0) (first_from (n + 1) ds x)
        → (if b then Some n else first_at (n + 1) (definition_names ds) x)
        ≡ option_map (λ f. f.0) (if b then Some (n, d) else first_from (n + 1) ds x)
    by_test true h = refl
    by_test false h = h

pub unread_names : (ds : List Definition) → type_names (all_unread ds) ≡ definition_names ds
unread_names [] = refl
unread_names (d ∷ ds) = ap (λ (ns : List (List ℕ)). d.name ∷ ns) (unread_names ds)

pub read_names : (first : ℕ) (l : Looks) (n : ℕ) (ds : List Definition) → type_names (read first l n ds) ≡ definition_names ds
read_names first l n [] = refl
read_names first l n (d ∷ ds) = ap (λ (ns : List (List ℕ)). d.name ∷ ns) (read_names first l (n + 1) ds)

pub names_named : (first : ℕ) (around : List TypeName) (ds : List Definition) → type_names (names_of first around ds) ≡ definition_names ds
names_named first around ds = ap type_names (names_read first around ds 0 ds) ∙ read_names first (denoted first around ds (length ds)) 0 ds

module _ (ts : List TypeName) (ds : List Definition) (e : type_names ts ≡ definition_names ds) where
  number_is : (x : List ℕ) → first_at 0 (type_names ts) x ≡ number_named ds x
  number_is x = ap (λ (ns : List (List ℕ)). first_at 0 ns x) e ∙ number_from 0 ds x

  pub numbers_are : (xs : List (List ℕ)) → numbers_at ts xs ≡ numbers_named ds xs
  numbers_are xs = ap (λ (f : List ℕ → List ℕ). flat_map f xs) (fun_ext (λ x. ap option_to_list (number_is x)))

  pub calls_are : calls_at ts ds ≡ calls ds
  calls_are = ap (λ (f : Definition → List ℕ). map f ds) (fun_ext (λ d. numbers_are (names_in d.what)))

  pub defined_is : (x : List ℕ) → defined_at ds (first_at 0 (type_names ts) x) ≡ first_from 0 ds x
  defined_is x = ap (defined_at ds) (number_is x) ∙ by_found (first_from 0 ds x) refl
    where
      by_found : (o : Option (ℕ × Definition)) → first_from 0 ds x ≡ o → defined_at ds (option_map (λ f. f.0) o) ≡ o
      by_found None h = refl
      by_found (Some f) h = ap (option_map (λ (d : Definition). (f.0, d))) (found_at ds x f.0 f.1 h).0

-- ---- at the end of a list

pub settled_end : (first : ℕ) (l : Looks) (n : ℕ) (ts : List TypeName) → settled_from first l n ts [] ≡ (length ts == 0)
settled_end first l n [] = refl
settled_end first l n (t ∷ ts) = sym (eqb-suc-zero (length ts))
