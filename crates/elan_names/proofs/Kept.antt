-- What is kept by name is the first declaration of each.
use Rattle.std.proofs.Common.{◌≡◌, ℕ, zero, suc, ◌+◌, Bool, true, false, if◌then◌else◌, List, [], ◌∷◌, ◌++◌, length, Option, Some, None}
use Rattle.std.proofs.Common.{refl, sym, ap, subst, ◌∙◌, append_assoc}
use Rattle.std.specs.Prelude.{is_some, option_and_then, slice_get, slice_set}
use Rattle.std.specs.Str.{bytes_eq}
use Rattle.std.specs.Global.{Vec}
use Rattle.std.specs.HashMap.{HashMap, UpdatesBy}
use Rattle.std.specs.Map.{KeepsOthers, IsKeyTest, AreApart, lookup}
use Rattle.std.proofs.lemmas.Slice.Eq.{bytes_eq-Decides}
use Rattle.std.proofs.lemmas.Cmp.{nat_list_eq_equiv}
use Rattle.std.proofs.lemmas.List.{length-append}
use Rattle.elan_names.specs.declared.entry.Entry.{Entry}
use Rattle.elan_names.specs.declared.type_name.Named.{Named}
use Rattle.elan_names.specs.declared.type_name.TypeName.{TypeName}
use Rattle.elan_names.specs.Names.{cells_held, first_from}
use Rattle.elan_names.specs.Types.{first_type}
use Rattle.elan_names.specs.walks.Firsts.{cells_before, entry_names, type_names, first_at, numbered, entry_found, earlier, kept, HasFirsts, KeepsOne, denoting}

-- ---- one declaration

none_earlier : (o : Option ℕ) → earlier o None ≡ o
none_earlier None = refl
none_earlier (Some f) = refl

some_stays : (o : Option ℕ) (f : ℕ) → is_some o ≡ true → o ≡ earlier o (Some f)
some_stays None f e = absurd cc
some_stays (Some g) f e = refl

pub same : (x y : List ℕ) → bytes_eq x y ≡ true → x ≡ y
same x y e = (bytes_eq-Decides x y).0 e

pub apart : (x y k : List ℕ) → bytes_eq x y ≡ false → bytes_eq x k ≡ true → bytes_eq y k ≡ false
apart x y k n e = nat_list_eq_equiv.symm y k ∙ sym (nat_list_eq_equiv.congr x k y e) ∙ n

pub others_kept : {K X : Type 0} (eq : K → K → Bool) (test : K → Bool) (old new : List (K × X)) → KeepsOthers eq test old new → (other : K → Bool)
    → IsKeyTest eq other → AreApart test other → lookup other new ≡ lookup other old
unfolding KeepsOthers
others_kept eq test old new h = h

module _ {S : Type 0} (m n : HashMap (Vec ℕ) ℕ S) (name : List ℕ) (f : ℕ) where
  -- where one of the name is kept
  pub was_kept : is_some (kept m name) ≡ true → (x : List ℕ) → kept m x ≡ earlier (kept m x) (if bytes_eq name x then Some f else None)
  was_kept h x = by_test (bytes_eq name x) refl
    where
      by_test : (b : Bool) → bytes_eq name x ≡ b → kept m x ≡ earlier (kept m x) (if b then Some f else None)
      by_test true e = some_stays (kept m x) f (subst (λ (y : List ℕ). is_some (kept m y) ≡ true) (same name x e) h)
      by_test false e = sym (none_earlier (kept m x))

  -- where none was
  pub is_kept : is_some (kept m name) ≡ false → UpdatesBy (λ j k. bytes_eq j.items k.items) (λ k. bytes_eq name k.items) m n (Some f) → (x : List ℕ)
      → kept n x ≡ earlier (kept m x) (if bytes_eq name x then Some f else None)
  is_kept h u x = by_test (bytes_eq name x) refl
    where
      no_other : (o : Option ℕ) → is_some o ≡ false → Some f ≡ earlier o (Some f)
      no_other None e = refl
      no_other (Some g) e = absurd cc

      by_test : (b : Bool) → bytes_eq name x ≡ b → kept n x ≡ earlier (kept m x) (if b then Some f else None)
      by_test true e =
          subst (λ (y : List ℕ). kept n y ≡ earlier (kept m y) (Some f)) (same name x e) (u.1 ∙ no_other (kept m name) h)
      by_test false e =
          others_kept (λ j k. bytes_eq j.items k.items) (λ k. bytes_eq name k.items) m.entries n.entries u.3 (λ k. bytes_eq x k.items)
          (λ j k. nat_list_eq_equiv.congr x j.items k.items) (λ k. apart name x k.items e)
          ∙ sym (none_earlier (kept m x))

-- ---- all of them

-- what is kept, and what is found behind
abbrev pub FindsRest : {S : Type 0} → HashMap (Vec ℕ) ℕ S → ℕ → List (List ℕ) → List (List ℕ) → Type 0
FindsRest m i rest ns = (x : List ℕ) → earlier (kept m x) (first_at i rest x) ≡ first_at 0 ns x

module _ {S : Type 0} where
  pub at_start : (m : HashMap (Vec ℕ) ℕ S) (ns : List (List ℕ)) → m.entries ≡ [] → FindsRest m 0 ns ns
  at_start m ns e x = ap (λ (ps : List (Vec ℕ × ℕ)). earlier (lookup (λ k. bytes_eq x k.items) ps) (first_at 0 ns x)) e

  pub at_end : (m : HashMap (Vec ℕ) ℕ S) (i : ℕ) (ns : List (List ℕ)) → FindsRest m i [] ns → HasFirsts m ns
  at_end m i ns h x = sym (none_earlier (kept m x)) ∙ h x

  pub one_more : (m n : HashMap (Vec ℕ) ℕ S) (i : ℕ) (name : List ℕ) (rest ns : List (List ℕ)) → KeepsOne m n i name
      → FindsRest m i (name ∷ rest) ns → FindsRest n (i + 1) rest ns
  one_more m n i name rest ns one h x =
      ap (λ (o : Option ℕ). earlier o (first_at (i + 1) rest x)) (one x) ∙ by_kept (kept m x) (bytes_eq name x) ∙ h x
    where
      by_kept : (o : Option ℕ) (b : Bool)
          → earlier (earlier o (if b then Some i else None)) (first_at (i + 1) rest x) ≡ earlier o (if b then Some i else first_at (i + 1) rest x)
      by_kept None true = refl
      by_kept None false = refl
      by_kept (Some j) b = refl

-- ---- what stands there

at_seam : {A : Type 0} (before : List A) (e : A) (es : List A) → slice_get (before ++ e ∷ es) (length before) ≡ Some e
at_seam [] e es = refl
at_seam (d ∷ ds) e es = at_seam ds e es

-- a declaration, and its number
here : (ns : List ℕ) (before : List Entry) (i k : ℕ) (e : Entry) (ms : List ℕ) (es : List Entry) → length ns ≡ i → length before ≡ i
    → numbered (slice_get (ns ++ k ∷ ms) i) (slice_get (before ++ e ∷ es) i) ≡ Some (k, e)
here ns before i k e ms es l m =
    ap (λ (o : Option ℕ). numbered o (slice_get (before ++ e ∷ es) i)) (ap (slice_get (ns ++ k ∷ ms)) (sym l) ∙ at_seam ns k ms)
    ∙ ap (λ (o : Option Entry). numbered (Some k) o) (ap (slice_get (before ++ e ∷ es)) (sym m) ∙ at_seam before e es)

abbrev numbered_at : List ℕ → List Entry → Option ℕ → Option (ℕ × Entry)
numbered_at ns es found = option_and_then (λ i. numbered (slice_get ns i) (slice_get es i)) found

found_at : (ns : List ℕ) (before es : List Entry) (k i : ℕ) (x : List ℕ) → length ns ≡ i → length before ≡ i
    → numbered_at (ns ++ cells_before k es) (before ++ es) (first_at i (entry_names es) x) ≡ first_from k es x
found_at ns before [] k i x l m = refl
found_at ns before (e ∷ es) k i x l m =
    by_test
    (found_at (ns ++ k ∷ []) (before ++ e ∷ []) es (k + cells_held e.denotes) (i + 1) x (length-append ns (k ∷ []) ∙ ap (λ n. n + 1) l)
    (length-append before (e ∷ []) ∙ ap (λ n. n + 1) m))
    (bytes_eq e.name x)
  where
    by_test : numbered_at ((ns ++ k ∷ []) ++ cells_before (k + cells_held e.denotes) es) ((before ++ e ∷ []) ++ es) (first_at (i + 1) (entry_names es) x)
        ≡ first_from (k + cells_held e.denotes) es x
        → (b : Bool)
        → numbered_at (ns ++ k ∷ cells_before (k + cells_held e.denotes) es) (before ++ e ∷ es) (if b then Some i else first_at (i + 1) (entry_names es) x)
        ≡ (if b then Some (k, e) else first_from (k + cells_held e.denotes) es x)
    by_test rest true = here ns before i k e (cells_before (k + cells_held e.denotes) es) es l m
    by_test rest false =
        ap (λ (ms : List ℕ). numbered_at ms (before ++ e ∷ es) (first_at (i + 1) (entry_names es) x))
        (sym (append_assoc ns (k ∷ []) (cells_before (k + cells_held e.denotes) es)))
        ∙ ap (λ (ds : List Entry). numbered_at ((ns ++ k ∷ []) ++ cells_before (k + cells_held e.denotes) es) ds (first_at (i + 1) (entry_names es) x))
        (sym (append_assoc before (e ∷ []) es))
        ∙ rest

pub first_found : (es : List Entry) (x : List ℕ) → entry_found es (first_at 0 (entry_names es) x) ≡ first_from 0 es x
first_found es x = found_at [] [] es 0 0 x refl refl

-- ---- names of types

type_at : (before ts : List TypeName) (i : ℕ) (x : List ℕ) → length before ≡ i
    → option_and_then (slice_get (before ++ ts)) (first_at i (type_names ts) x) ≡ first_type x ts
type_at before [] i x l = refl
type_at before (t ∷ ts) i x l =
    by_test (bytes_eq t.name x) (type_at (before ++ t ∷ []) ts (i + 1) x (length-append before (t ∷ []) ∙ ap (λ n. n + 1) l))
  where
    by_test : (b : Bool) → option_and_then (slice_get ((before ++ t ∷ []) ++ ts)) (first_at (i + 1) (type_names ts) x) ≡ first_type x ts
        → option_and_then (slice_get (before ++ t ∷ ts)) (if b then Some i else first_at (i + 1) (type_names ts) x)
        ≡ (if b then Some t else first_type x ts)
    by_test true rest = ap (slice_get (before ++ t ∷ ts)) (sym l) ∙ at_seam before t ts
    by_test false rest =
        ap (λ (us : List TypeName). option_and_then (slice_get us) (first_at (i + 1) (type_names ts) x)) (sym (append_assoc before (t ∷ []) ts)) ∙ rest

pub type_found : (ts : List TypeName) (x : List ℕ) → option_and_then (slice_get ts) (first_at 0 (type_names ts) x) ≡ first_type x ts
type_found ts x = type_at [] ts 0 x refl

pub denoting_names : (ts : List TypeName) (i : ℕ) (of : Named) → type_names (denoting ts i of) ≡ type_names ts
denoting_names [] i of = refl
denoting_names (t ∷ ts) zero of = refl
denoting_names (t ∷ ts) (suc i) of = ap (λ (ns : List (List ℕ)). t.name ∷ ns) (denoting_names ts i of)

pub denoting_set : (ts : List TypeName) (i : ℕ) (t : TypeName) (of : Named) → slice_get ts i ≡ Some t
    → slice_set ts i (record { at = t.at; name = t.name; of = of }) ≡ denoting ts i of
denoting_set [] i t of e = absurd cc
denoting_set (u ∷ ts) zero t of e =
    let i : u ≡ t = cc in ap (λ (v : TypeName). record { at = v.at; name = v.name; of = of } ∷ ts) (sym i)
denoting_set (u ∷ ts) (suc i) t of e = ap (λ (us : List TypeName). u ∷ us) (denoting_set ts i t of e)

pub denoting_none : (ts : List TypeName) (i : ℕ) (of : Named) → slice_get ts i ≡ None → denoting ts i of ≡ ts
denoting_none [] i of e = refl
denoting_none (t ∷ ts) zero of e = absurd cc
denoting_none (t ∷ ts) (suc i) of e = ap (λ (us : List TypeName). t ∷ us) (denoting_none ts i of e)
