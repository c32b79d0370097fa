-- A type that breaks no rule has a meaning, where the names in it have one.
use Rattle.std.proofs.Common.{◌≡◌, ℕ, ℤ, Bool, true, false, ◌||◌, ◌&&◌, not, if◌then◌else◌, List, [], ◌∷◌, ◌++◌, map, Option, Some, None}
use Rattle.std.proofs.Common.{refl, sym, ap, subst, ◌∙◌, ◌⊎◌, inl, inr, append_assoc}
use Rattle.std.specs.Prelude.{flat_map}
use Rattle.std.specs.List.{list_any}
use Rattle.std.specs.Option.{is_some}
use Rattle.std.specs.Str.{bytes_eq}
use Rattle.std.proofs.lemmas.List.{append-nil, map-append}
use Rattle.std.proofs.lemmas.Slice.Eq.{bytes_eq-Decides}
use Rattle.elan_types.specs.declared.elan_type.ElanType.{ElanType}
use Rattle.elan_types.specs.declared.elan_type.ElanType.TheVariants as types
use Rattle.elan_types.specs.declared.elan_type.ElanType.TheOpen.{Row, Struct, Own}
use Rattle.elan_types.specs.declared.elan_type.ElanType.TheViews.{out-roll-ElanType}
use Rattle.elan_types.specs.declared.elan_type.FieldType.{FieldType}
use Rattle.elan_types.specs.Types.{open_here, is_open, is_too_large}
use Rattle.elan_types.proofs.Types.{int_closed, bool_closed, text_closed, task_closed, dataspace_closed, open_open}
use Rattle.elan_types.specs.declared.why.Why.TheVariants.{TooLarge}
use Rattle.elan_tree.specs.declared.tree.Refinement.{Refinement}
use Rattle.elan_tree.specs.declared.written_type.Name.{Name}
use Rattle.elan_tree.specs.declared.written_type.Size.{Size}
use Rattle.elan_tree.specs.declared.written_type.Size.TheVariants as size
use Rattle.elan_tree.specs.declared.written_type.TypePhrase.{TypePhrase}
use Rattle.elan_tree.specs.declared.written_type.TypePhrase.TheOpen as phrase
use Rattle.elan_tree.specs.declared.written_type.TypePhrase.TheOpen.{TypePhrase-F, Field-F}
use Rattle.elan_tree.specs.declared.written_type.TypePhrase.TheViews.{roll-TypePhrase, roll-Field}
use Rattle.elan_tree.specs.declared.written_type.TypePhrase.TheFolds.{ind-TypePhrase, map-TypePhrase, map-Field, fold-roll-TypePhrase, fold-roll-Field}
use Rattle.elan_tree.specs.declared.written_type.Field.{Field}
use Rattle.elan_names.specs.declared.type_name.TypeName.{TypeName}
use Rattle.elan_names.specs.declared.type_name.Named.{Named}
use Rattle.elan_names.specs.declared.type_name.Named.TheVariants as named
use Rattle.elan_scope.specs.Ruled.{Fault}
use Rattle.type_names.specs.Types.{size_in, size_named, size_of, or_open, row_of, any_doubled, is_broken, structure_of, type_named, meant, fields_meant}
use Rattle.type_names.specs.Types.{meant_step, fields_step, look}
use Rattle.type_names.specs.Faults.{named_step, field_named_step, named_in, named_in_field, Judged, JudgedFields, large_fault, row_fault, structure_fault}
use Rattle.type_names.specs.Faults.{doubled_name, doubled_names, fields_faults, size_faults, size_range, size_named_fault, name_faults, is_known}
use Rattle.type_names.specs.Faults.{judged, judged_fields, judged_step, judged_fields_step}
use Rattle.type_names.specs.walks.Judged.{texts, named_alike}
use Rattle.type_names.proofs.Judged.{judged_type, fields_are}
use Rattle.type_names.proofs.Told.{texts_alike, field_is}

-- ---- truth values and lists

pub neither : (p q : Bool) → (p || q) ≡ false → (p ≡ false) × (q ≡ false)
neither true q e = absurd cc
neither false q e = (refl, e)

pub or_false : (p q : Bool) → p ≡ false → q ≡ false → (p || q) ≡ false
or_false p q h k = cc

pub right_false : (p q : Bool) → p ≡ true → (p && q) ≡ false → q ≡ false
right_false true q e f = f
right_false false q e f = absurd cc

pub both_ways : (b : Bool) → b ≡ false → b ≡ true → ⊥
both_ways b h k = cc

pub no_fault : (b : Bool) (f : Fault) → (if b then f ∷ [] else []) ≡ [] → b ≡ false
no_fault true f e = absurd cc
no_fault false f e = refl

pub none_both : {A : Type 0} (xs ys : List A) → xs ++ ys ≡ [] → (xs ≡ []) × (ys ≡ [])
none_both [] ys e = (refl, e)
none_both (x ∷ xs) ys e = absurd cc

abbrev pub In : {A : Type 0} → A → List A → Type 0
In x [] = ⊥
In x (y ∷ ys) = (y ≡ x) ⊎ In x ys

pub in_first : {A : Type 0} (x : A) (xs ys : List A) → In x xs → In x (xs ++ ys)
in_first x [] ys h = absurd h
in_first x (y ∷ xs) ys h =
    elim h [
      | inl i ↦ inl i
      | inr i ↦ inr (in_first x xs ys i)
    ]

pub in_second : {A : Type 0} (x : A) (xs ys : List A) → In x ys → In x (xs ++ ys)
in_second x [] ys h = h
in_second x (y ∷ xs) ys h = inr (in_second x xs ys h)

-- ---- names of fields that differ

bytes_sym : (x y : List ℕ) → bytes_eq x y ≡ false → bytes_eq y x ≡ false
bytes_sym x y e = by_test (bytes_eq y x) refl
  where
    by_test : (b : Bool) → bytes_eq y x ≡ b → b ≡ false
    by_test false h = refl
    by_test true h = absurd (both_ways (bytes_eq x y) e ((bytes_eq-Decides x y).1 (sym ((bytes_eq-Decides y x).0 h))))

abbrev among : List (List ℕ) → List ℕ → Bool
among earlier x = list_any (λ y. bytes_eq y x) earlier

-- one of these names is among those earlier, or stands twice
abbrev doubled_from : List (List ℕ) → List (List ℕ) → Bool
doubled_from earlier [] = false
doubled_from earlier (x ∷ xs) = among earlier x || doubled_from (earlier ++ x ∷ []) xs

among_append : (earlier : List (List ℕ)) (x z : List ℕ) → among (earlier ++ x ∷ []) z ≡ false → (among earlier z ≡ false) × (bytes_eq x z ≡ false)
among_append [] x z e = let p = neither (bytes_eq x z) false e in (refl, p.0)
among_append (y ∷ earlier) x z e =
    let p = neither (bytes_eq y z) (among (earlier ++ x ∷ []) z) e in
    let q = among_append earlier x z p.1 in
    (or_false (bytes_eq y z) (among earlier z) p.0 q.0, q.1)

abbrev any_among : List (List ℕ) → List (List ℕ) → Bool
any_among earlier xs = list_any (λ z. among earlier z) xs

away_last : (earlier : List (List ℕ)) (x : List ℕ) (xs : List (List ℕ)) → any_among (earlier ++ x ∷ []) xs ≡ false
    → (any_among earlier xs ≡ false) × (list_any (λ y. bytes_eq y x) xs ≡ false)
away_last earlier x [] e = (refl, refl)
away_last earlier x (z ∷ xs) e =
    let p = neither (among (earlier ++ x ∷ []) z) (any_among (earlier ++ x ∷ []) xs) e in
    let q = among_append earlier x z p.0 in
    let r = away_last earlier x xs p.1 in
    (or_false (among earlier z) (any_among earlier xs) q.0 r.0, or_false (bytes_eq z x) (list_any (λ y. bytes_eq y x) xs) (bytes_sym x z q.1) r.1)

apart : (earlier xs : List (List ℕ)) → doubled_from earlier xs ≡ false → (any_doubled xs ≡ false) × (any_among earlier xs ≡ false)
apart earlier [] e = (refl, refl)
apart earlier (x ∷ xs) e =
    let p = neither (among earlier x) (doubled_from (earlier ++ x ∷ []) xs) e in
    let q = apart (earlier ++ x ∷ []) xs p.1 in
    let r = away_last earlier x xs q.1 in
    (or_false (list_any (λ y. bytes_eq y x) xs) (any_doubled xs) r.1 q.0, or_false (among earlier x) (any_among earlier xs) p.0 r.0)

doubled_append : (earlier xs ys : List (List ℕ)) → doubled_from earlier xs ≡ false → doubled_from (earlier ++ xs) ys ≡ false
    → doubled_from earlier (xs ++ ys) ≡ false
doubled_append earlier [] ys e h = ap (λ (l : List (List ℕ)). doubled_from l ys) (sym (append-nil earlier)) ∙ h
doubled_append earlier (x ∷ xs) ys e h =
    let p = neither (among earlier x) (doubled_from (earlier ++ x ∷ []) xs) e in
    or_false (among earlier x) (doubled_from (earlier ++ x ∷ []) (xs ++ ys)) p.0
    (doubled_append (earlier ++ x ∷ []) xs ys p.1 (ap (λ (l : List (List ℕ)). doubled_from l ys) (append_assoc earlier (x ∷ []) xs) ∙ h))

abbrev texts_of : List Name → List (List ℕ)
texts_of ns = map (λ n. n.text) ns

names_apart : (earlier : List (List ℕ)) (ns : List Name) → doubled_names earlier ns ≡ [] → doubled_from earlier (texts_of ns) ≡ false
names_apart earlier [] e = refl
names_apart earlier (n ∷ ns) e =
    let p = none_both (doubled_name earlier n) (doubled_names (earlier ++ n.text ∷ []) ns) e in
    or_false (among earlier n.text) (doubled_from (earlier ++ n.text ∷ []) (texts_of ns)) (no_fault (among earlier n.text) _ p.0)
    (names_apart (earlier ++ n.text ∷ []) ns p.1)

-- ---- rows and structures

pub row_closed : (n : ℕ) (t : ElanType) → is_open (types.Row n t) ≡ false
row_closed n t = ap is_open (sym (types.rolls-Row n t)) ∙ ap open_here (out-roll-ElanType (Row n t))

pub structure_closed : (fs : List FieldType) → is_open (types.Struct fs) ≡ false
structure_closed fs = ap is_open (sym (types.rolls-Struct fs)) ∙ ap open_here (out-roll-ElanType (Struct fs))

pub own_closed : (n : ℕ) (t : ElanType) → is_open (types.Own n t) ≡ false
own_closed n t = ap is_open (sym (types.rolls-Own n t)) ∙ ap open_here (out-roll-ElanType (Own n t))

fits : (at : ℕ) (sound : Bool) (t : ElanType) → sound ≡ true → large_fault at sound t ≡ [] → or_open t ≡ t
fits at sound t e h =
    ap (λ (b : Bool). if b then types.Open else t) (right_false sound (is_too_large t) e (no_fault (sound && is_too_large t) (at, TooLarge) h))

row_means : (at k : ℕ) (t : ElanType) → is_open t ≡ false → row_fault at (Some k) t ≡ [] → row_of (Some k) t ≡ types.Row k t
row_means at k t e h =
    ap (λ (b : Bool). if b then types.Open else or_open (types.Row k t)) e ∙ fits at (not (is_open t)) (types.Row k t) (ap not e) h

structure_means : (at : ℕ) (f : FieldType) (fs : List FieldType) → is_broken (f ∷ fs) ≡ false → structure_fault at (f ∷ fs) ≡ []
    → structure_of (f ∷ fs) ≡ types.Struct (f ∷ fs)
structure_means at f fs e h =
    ap (λ (b : Bool). if b then types.Open else or_open (types.Struct (f ∷ fs))) e
    ∙ fits at (not (is_broken (f ∷ fs))) (types.Struct (f ∷ fs)) (ap not e) h

abbrev any_open : List FieldType → Bool
any_open fs = list_any (λ f. is_open f.of) fs

opens_append : (fs gs : List FieldType) → any_open fs ≡ false → any_open gs ≡ false → any_open (fs ++ gs) ≡ false
opens_append [] gs h k = k
opens_append (f ∷ fs) gs h k =
    let p = neither (is_open f.of) (any_open fs) h in or_false (is_open f.of) (any_open (fs ++ gs)) p.0 (opens_append fs gs p.1 k)

opens_both : (fs gs : List FieldType) → any_open (fs ++ gs) ≡ false → (any_open fs ≡ false) × (any_open gs ≡ false)
opens_both [] gs h = (refl, h)
opens_both (f ∷ fs) gs h =
    let p = neither (is_open f.of) (any_open (fs ++ gs)) h in
    let q = opens_both fs gs p.1 in
    (or_false (is_open f.of) (any_open fs) p.0 q.0, q.1)

alike_closed : (t : ElanType) (ns : List Name) → is_open t ≡ false → any_open (named_alike t ns) ≡ false
alike_closed t [] e = refl
alike_closed t (n ∷ ns) e = or_false (is_open t) (any_open (named_alike t ns)) e (alike_closed t ns e)

-- ---- look-ups

abbrev pub Looks : Type 0
Looks = List ℕ → Option Named

-- It denotes nothing, or a type without meaning.
abbrev pub is_unknown : Option Named → Bool
is_unknown None = true
is_unknown (Some (named.Of t)) = is_open t
is_unknown (Some (named.Size k)) = false
is_unknown (Some named.Other) = false

-- ---- what has a meaning has the same where more is known

module _ (l m : Looks) (less : (x : List ℕ) → is_unknown (l x) ≡ false → l x ≡ m x) where
  abbrev Keeps : TypePhrase → Type 0
  Keeps of = (inside : Bool) → is_open (meant l of inside) ≡ false → meant l of inside ≡ meant m of inside

  abbrev FieldKeeps : Field → Type 0
  FieldKeeps f = any_open (fields_meant l f) ≡ false → fields_meant l f ≡ fields_meant m f

  abbrev Kept : Type 0
  Kept = (of : TypePhrase) × Keeps of

  abbrev FieldKept : Type 0
  FieldKept = (f : Field) × FieldKeeps f

  abbrev open_is_not : {A : Type 0} → is_open types.Open ≡ false → A
  open_is_not e = absurd (both_ways (is_open types.Open) e open_open)

  name_kept : (x : List ℕ) → is_open (type_named (l x)) ≡ false → type_named (l x) ≡ type_named (m x)
  name_kept x e = ap type_named (less x (by_found (l x) e))
    where
      by_found : (o : Option Named) → is_open (type_named o) ≡ false → is_unknown o ≡ false
      by_found None h = open_is_not h
      by_found (Some (named.Of t)) h = h
      by_found (Some (named.Size k)) h = refl
      by_found (Some named.Other) h = refl

  size_kept : (s : Size) (k : ℕ) → size_of l s ≡ Some k → size_of l s ≡ size_of m s
  size_kept (size.Number at n) k e = refl
  size_kept (size.Named n) k e = ap size_named (less n.text (by_found (l n.text) e))
    where
      by_found : (o : Option Named) → size_named o ≡ Some k → is_unknown o ≡ false
      by_found None h = absurd cc
      by_found (Some (named.Of t)) h = absurd cc
      by_found (Some (named.Size i)) h = refl
      by_found (Some named.Other) h = absurd cc

  row_parts : (s : Option ℕ) (t : ElanType) → is_open (row_of s t) ≡ false → (k : ℕ) × (s ≡ Some k) × (is_open t ≡ false)
  row_parts None t e = open_is_not e
  row_parts (Some k) t e = (k, refl, by_test (is_open t) e)
    where
      by_test : (b : Bool) → is_open (if b then types.Open else or_open (types.Row k t)) ≡ false → b ≡ false
      by_test true h = open_is_not h
      by_test false h = refl

  structure_parts : (fs : List FieldType) → is_open (structure_of fs) ≡ false → any_open fs ≡ false
  structure_parts [] e = refl
  structure_parts (f ∷ fs) e = (neither (any_open (f ∷ fs)) (any_doubled (texts (f ∷ fs))) (by_test (is_broken (f ∷ fs)) e)).0
    where
      by_test : (b : Bool) → is_open (if b then types.Open else or_open (types.Struct (f ∷ fs))) ≡ false → b ≡ false
      by_test true h = open_is_not h
      by_test false h = refl

  abbrev meant_all : Looks → List FieldKept → List FieldType
  meant_all k fs = flat_map (λ xs. xs) (map (fields_meant k) (map (λ e. e.0) fs))

  fields_kept : (fs : List FieldKept) → any_open (meant_all l fs) ≡ false → meant_all l fs ≡ meant_all m fs
  fields_kept [] e = refl
  fields_kept (f ∷ fs) e =
      let p = opens_both (fields_meant l f.0) (meant_all l fs) e in
      ap (λ (gs : List FieldType). gs ++ meant_all l fs) (f.1 p.0) ∙ ap (λ (gs : List FieldType). fields_meant m f.0 ++ gs) (fields_kept fs p.1)

  kept_here : (y : TypePhrase-F Kept FieldKept) (inside : Bool)
      → is_open (meant_step l (map-TypePhrase _ _ _ _ (meant l) (fields_meant l) (map-TypePhrase _ _ _ _ (λ e. e.0) (λ e. e.0) y)) inside) ≡ false
      → meant_step l (map-TypePhrase _ _ _ _ (meant l) (fields_meant l) (map-TypePhrase _ _ _ _ (λ e. e.0) (λ e. e.0) y)) inside
      ≡ meant_step m (map-TypePhrase _ _ _ _ (meant m) (fields_meant m) (map-TypePhrase _ _ _ _ (λ e. e.0) (λ e. e.0) y)) inside
  kept_here (phrase.Int at) inside e = refl
  kept_here (phrase.Bool at) inside e = refl
  kept_here (phrase.Text at) inside e = refl
  kept_here (phrase.Task at) inside e = refl
  kept_here (phrase.Dataspace at) inside e = refl
  kept_here (phrase.Named n) inside e = name_kept n.text e
  kept_here (phrase.Row at size of) inside e =
      let p = row_parts (size_of l size) (meant l of.0 true) e in
      ap (λ (s : Option ℕ). row_of s (meant l of.0 true)) (size_kept size p.0 p.1) ∙ ap (row_of (size_of m size)) (of.1 true p.2)
  kept_here (phrase.Struct at fs) inside e = ap structure_of (fields_kept fs (structure_parts (meant_all l fs) e))

  field_kept_here : (of : Kept) (ns : List Name) → any_open (named_alike (meant l of.0 true) ns) ≡ false
      → named_alike (meant l of.0 true) ns ≡ named_alike (meant m of.0 true) ns
  field_kept_here of [] e = refl
  field_kept_here of (n ∷ ns) e =
      let p = neither (is_open (meant l of.0 true)) (any_open (named_alike (meant l of.0 true) ns)) e in
      ap (λ (u : ElanType). named_alike u (n ∷ ns)) (of.1 true p.0)

  abbrev KeepsAs : ElanType → ElanType → Type 0
  KeepsAs t u = is_open t ≡ false → t ≡ u

  abbrev FieldKeepsAs : List FieldType → List FieldType → Type 0
  FieldKeepsAs fs gs = any_open fs ≡ false → fs ≡ gs

  pub meant_kept : (of : TypePhrase) (inside : Bool) → is_open (meant l of inside) ≡ false → meant l of inside ≡ meant m of inside
  meant_kept =
      ind-TypePhrase Keeps FieldKeeps
      (λ x y is.
      let z = map-TypePhrase _ _ _ _ (λ e. e.0) (λ e. e.0) y in
      rw (← is) (λ inside.
      subst (λ (t : Bool → ElanType). KeepsAs (t inside) (meant m (roll-TypePhrase z) inside))
      (sym (fold-roll-TypePhrase (Bool → ElanType) (List FieldType) (meant_step l) (fields_step l) z))
      (subst (λ (t : Bool → ElanType). KeepsAs (meant_step l (map-TypePhrase _ _ _ _ (meant l) (fields_meant l) z) inside) (t inside))
      (sym (fold-roll-TypePhrase (Bool → ElanType) (List FieldType) (meant_step m) (fields_step m) z)) (kept_here y inside))))
      (λ x y is.
      let z = map-Field _ _ _ _ (λ e. e.0) (λ e. e.0) y in
      rw (← is) (subst (λ (fs : List FieldType). FieldKeepsAs fs (fields_meant m (roll-Field z)))
      (sym (fold-roll-Field (Bool → ElanType) (List FieldType) (meant_step l) (fields_step l) z))
      (subst (λ (gs : List FieldType). FieldKeepsAs (named_alike (meant l y.of.0 true) y.names) gs)
      (sym (fold-roll-Field (Bool → ElanType) (List FieldType) (meant_step m) (fields_step m) z)) (field_kept_here y.of y.names))))

-- ---- what breaks no rule has a meaning, or a name in it has none

-- both are the same type, which has a meaning
pub record Means (t u : ElanType) : Type 0 where
  pub same : t ≡ u
  pub closed : is_open t ≡ false

record FieldsMean (fs gs : List FieldType) : Type 0 where
  same : fs ≡ gs
  closed : any_open fs ≡ false

fields_mean_append : (fs gs hs is : List FieldType) → FieldsMean fs gs → FieldsMean hs is → FieldsMean (fs ++ hs) (gs ++ is)
fields_mean_append fs gs hs is p q =
    record {
      same = ap (λ (l : List FieldType). l ++ hs) p.same ∙ ap (λ (l : List FieldType). gs ++ l) q.same;
      closed = opens_append fs hs p.closed q.closed;
    }

-- One of these names is that of a type, as those that are seen tell, and l does not know it.
pub record Found (seen : List TypeName) (l : Looks) (xs : List (List ℕ)) : Type 0 where
  pub name : List ℕ
  pub within : In name xs
  pub unknown : is_unknown (l name) ≡ true
  pub of : ElanType
  pub seen_as : look seen name ≡ Some (named.Of of)

-- Here l knows of names no more than those that are seen tell, and all numbers.
module _ (seen : List TypeName) (rs : List Refinement) (l : Looks) (less : (x : List ℕ) → is_unknown (l x) ≡ false → l x ≡ look seen x)
    (sizes : (x : List ℕ) (k : ℤ) → look seen x ≡ Some (named.Size k) → l x ≡ Some (named.Size k)) where
  abbrev all : Looks
  all = look seen

  found_first : (xs ys : List (List ℕ)) → Found seen l xs → Found seen l (xs ++ ys)
  found_first xs ys f = record { name = f.name; within = in_first f.name xs ys f.within; unknown = f.unknown; of = f.of; seen_as = f.seen_as }

  found_second : (xs ys : List (List ℕ)) → Found seen l ys → Found seen l (xs ++ ys)
  found_second xs ys f = record { name = f.name; within = in_second f.name xs ys f.within; unknown = f.unknown; of = f.of; seen_as = f.seen_as }

  name_means : (n : Name) → name_faults seen rs n (all n.text) ≡ [] → Means (type_named (l n.text)) (type_named (all n.text)) ⊎ Found seen l (n.text ∷ [])
  name_means n e = by_found (all n.text) refl e
    where
      known : (t : ElanType) → all n.text ≡ Some (named.Of t) → is_unknown (l n.text) ≡ false → Means (type_named (l n.text)) (type_named (all n.text))
      known t i h =
          let same = less n.text h in
          record {
            same = ap type_named same;
            closed = ap (λ (o : Option Named). is_open (type_named o)) (same ∙ i) ∙ sym (ap is_unknown (same ∙ i)) ∙ h;
          }

      by_test : (t : ElanType) → all n.text ≡ Some (named.Of t) → (b : Bool) → is_unknown (l n.text) ≡ b
          → Means (type_named (l n.text)) (type_named (all n.text)) ⊎ Found seen l (n.text ∷ [])
      by_test t i false h = inl (known t i h)
      by_test t i true h = inr (record { name = n.text; within = inl refl; unknown = h; of = t; seen_as = i })

      by_found : (o : Option Named) → all n.text ≡ o → name_faults seen rs n o ≡ []
          → Means (type_named (l n.text)) (type_named (all n.text)) ⊎ Found seen l (n.text ∷ [])
      by_found None i h = absurd cc
      by_found (Some (named.Of t)) i h = by_test t i (is_unknown (l n.text)) refl
      by_found (Some (named.Size k)) i h = absurd cc
      by_found (Some named.Other) i h = absurd cc

  abbrev range_of : ℕ → Option ℕ → List Fault
  range_of at o = if is_some o then [] else (at, TooLarge) ∷ []

  in_range : (at : ℕ) (n : ℤ) → size_range at n ≡ [] → (k : ℕ) × (size_in n ≡ Some k)
  in_range at n e = by_size (size_in n) refl e
    where
      by_size : (o : Option ℕ) → size_in n ≡ o → range_of at o ≡ [] → (k : ℕ) × (size_in n ≡ Some k)
      by_size None i h = absurd cc
      by_size (Some k) i h = (k, i)

  abbrev IsSize : Size → Type 0
  IsSize s = (k : ℕ) × (size_of l s ≡ Some k) × (size_of all s ≡ Some k)

  size_means : (s : Size) → size_faults seen rs s ≡ [] → IsSize s
  size_means (size.Number at n) e = let p = in_range at n e in (p.0, p.1, p.1)
  size_means (size.Named n) e = by_found (all n.text) refl e
    where
      by_known : (b : Bool) (p q : Fault) → (if b then p ∷ [] else q ∷ []) ≡ [] → IsSize (size.Named n)
      by_known true p q h = absurd cc
      by_known false p q h = absurd cc

      by_found : (o : Option Named) → all n.text ≡ o → size_named_fault seen rs n o ≡ [] → IsSize (size.Named n)
      by_found None i h = by_known (is_known seen rs n.text) _ _ h
      by_found (Some (named.Of t)) i h = absurd cc
      by_found (Some (named.Size k)) i h =
          let p = in_range n.at k h in (p.0, ap size_named (sizes n.text k i) ∙ p.1, ap size_named i ∙ p.1)
      by_found (Some named.Other) i h = absurd cc

  -- ---- the whole type

  abbrev judge : List Field → List JudgedFields
  judge fs = map (judged_fields seen rs) fs

  abbrev all_fields : List JudgedFields → List FieldType
  all_fields js = flat_map (λ j. j.fields) js

  judged_texts : (f : Field) → texts (judged_fields seen rs f).fields ≡ texts_of (judged_fields seen rs f).names
  judged_texts f =
      let Alike : JudgedFields → Type 0 = λ j. texts j.fields ≡ texts_of j.names in
      subst Alike (sym (field_is seen rs f)) (texts_alike (judged seen rs f.of true).of f.names)

  fields_apart : (earlier : List (List ℕ)) (fs : List Field) → fields_faults earlier (judge fs) ≡ []
      → doubled_from earlier (texts (all_fields (judge fs))) ≡ false
  fields_apart earlier [] e = refl
  fields_apart earlier (f ∷ fs) e =
      let j = judged_fields seen rs f in
      let rest = fields_faults (earlier ++ texts_of j.names) (judge fs) in
      let p = none_both (j.faults ++ doubled_names earlier j.names) rest e in
      let q = none_both j.faults (doubled_names earlier j.names) p.0 in
      let same = judged_texts f in
      ap (doubled_from earlier) (map-append (λ (g : FieldType). g.name) j.fields (all_fields (judge fs)))
      ∙ doubled_append earlier (texts j.fields) (texts (all_fields (judge fs))) (ap (doubled_from earlier) same ∙ names_apart earlier j.names q.1)
      (ap (λ (xs : List (List ℕ)). doubled_from (earlier ++ xs) (texts (all_fields (judge fs)))) same
      ∙ fields_apart (earlier ++ texts_of j.names) fs p.1)

  abbrev MeansAs : Judged → ElanType → ElanType → List (List ℕ) → Type 0
  MeansAs j t u xs = j.faults ≡ [] → Means t u ⊎ Found seen l xs

  abbrev FieldsMeanAs : JudgedFields → List FieldType → List FieldType → List (List ℕ) → Type 0
  FieldsMeanAs j fs gs xs = j.faults ≡ [] → FieldsMean fs gs ⊎ Found seen l xs

  abbrev IsMeant : TypePhrase → Type 0
  IsMeant of = (inside : Bool) → MeansAs (judged seen rs of inside) (meant l of inside) (meant all of inside) (named_in of)

  abbrev AreMeant : Field → Type 0
  AreMeant f = FieldsMeanAs (judged_fields seen rs f) (fields_meant l f) (fields_meant all f) (named_in_field f)

  abbrev Is : Type 0
  Is = (of : TypePhrase) × IsMeant of

  abbrev Are : Type 0
  Are = (f : Field) × AreMeant f

  row_is_meant : (at : ℕ) (s : Size) (of : Is)
      → (row_fault at (size_of all s) (judged seen rs of.0 true).of ++ size_faults seen rs s) ++ (judged seen rs of.0 true).faults ≡ []
      → Means (row_of (size_of l s) (meant l of.0 true)) (row_of (size_of all s) (meant all of.0 true)) ⊎ Found seen l (named_in of.0)
  row_is_meant at s of e =
      let p = none_both (row_fault at (size_of all s) (judged seen rs of.0 true).of ++ size_faults seen rs s) (judged seen rs of.0 true).faults e in
      let q = none_both (row_fault at (size_of all s) (judged seen rs of.0 true).of) (size_faults seen rs s) p.0 in
      let k = size_means s q.1 in
      let fault : row_fault at (Some k.0) (meant all of.0 true) ≡ [] =
      sym (ap (λ (n : Option ℕ). row_fault at n (meant all of.0 true)) k.2) ∙ sym (ap (row_fault at (size_of all s)) (judged_type seen rs of.0 true)) ∙ q.0 in
      elim (of.1 true p.1) [
        | inl m ↦
            (let shut : is_open (meant all of.0 true) ≡ false = sym (ap is_open m.same) ∙ m.closed in
            let row : row_of (Some k.0) (meant all of.0 true) ≡ types.Row k.0 (meant all of.0 true) = row_means at k.0 (meant all of.0 true) shut fault in
            let same : row_of (size_of l s) (meant l of.0 true) ≡ row_of (Some k.0) (meant all of.0 true) =
            ap (λ (n : Option ℕ). row_of n (meant l of.0 true)) k.1 ∙ ap (row_of (Some k.0)) m.same in
            inl (record {
              same = same ∙ sym (ap (λ (n : Option ℕ). row_of n (meant all of.0 true)) k.2);
              closed = ap is_open (same ∙ row) ∙ row_closed k.0 (meant all of.0 true);
            }))
        | inr f ↦ inr f
      ]

  abbrev meant_all_of : Looks → List Are → List FieldType
  meant_all_of k fs = flat_map (λ xs. xs) (map (fields_meant k) (map (λ e. e.0) fs))

  abbrev named_all : List Are → List (List ℕ)
  named_all fs = flat_map (λ xs. xs) (map named_in_field (map (λ e. e.0) fs))

  fields_mean : (earlier : List (List ℕ)) (fs : List Are) → fields_faults earlier (judge (map (λ e. e.0) fs)) ≡ []
      → FieldsMean (meant_all_of l fs) (meant_all_of all fs) ⊎ Found seen l (named_all fs)
  fields_mean earlier [] e = inl (record { same = refl; closed = refl })
  fields_mean earlier (f ∷ fs) e =
      let j = judged_fields seen rs f.0 in
      let p = none_both (j.faults ++ doubled_names earlier j.names) (fields_faults (earlier ++ texts_of j.names) (judge (map (λ e. e.0) fs))) e in
      let q = none_both j.faults (doubled_names earlier j.names) p.0 in
      elim (f.1 q.0) [
        | inl m ↦
            elim (fields_mean (earlier ++ texts_of j.names) fs p.1) [
              | inl n ↦ inl (fields_mean_append (fields_meant l f.0) (fields_meant all f.0) (meant_all_of l fs) (meant_all_of all fs) m n)
              | inr g ↦ inr (found_second (named_in_field f.0) (named_all fs) g)
            ]
        | inr g ↦ inr (found_first (named_in_field f.0) (named_all fs) g)
      ]

  structure_closes : (at : ℕ) (fs : List FieldType) → structure_fault at fs ≡ [] → any_open fs ≡ false → any_doubled (texts fs) ≡ false
      → is_open (structure_of fs) ≡ false
  structure_closes at [] e h k = absurd cc
  structure_closes at (f ∷ fs) e h k =
      ap is_open (structure_means at f fs (or_false (any_open (f ∷ fs)) (any_doubled (texts (f ∷ fs))) h k) e) ∙ structure_closed (f ∷ fs)

  structure_is_meant : (at : ℕ) (fs : List Are)
      → structure_fault at (all_fields (judge (map (λ e. e.0) fs))) ++ fields_faults [] (judge (map (λ e. e.0) fs)) ≡ []
      → Means (structure_of (meant_all_of l fs)) (structure_of (meant_all_of all fs)) ⊎ Found seen l (named_all fs)
  structure_is_meant at fs e =
      let gs = map (λ (a : Are). a.0) fs in
      let p = none_both (structure_fault at (all_fields (judge gs))) (fields_faults [] (judge gs)) e in
      let are = fields_are seen rs gs in
      elim (fields_mean [] fs p.1) [
        | inl m ↦
            inl (record {
              same = ap structure_of m.same;
              closed = structure_closes at (meant_all_of l fs) (ap (structure_fault at) (m.same ∙ sym are) ∙ p.0) m.closed
                  (ap (λ (hs : List FieldType). any_doubled (texts hs)) (m.same ∙ sym are)
                  ∙ (apart [] (texts (all_fields (judge gs))) (fields_apart [] gs p.1)).0);
            })
        | inr g ↦ inr g
      ]

  is_meant_here : (y : TypePhrase-F Is Are) (inside : Bool)
      → MeansAs (judged_step seen rs (map-TypePhrase _ _ _ _ (judged seen rs) (judged_fields seen rs) (map-TypePhrase _ _ _ _ (λ e. e.0) (λ e. e.0) y)) inside)
      (meant_step l (map-TypePhrase _ _ _ _ (meant l) (fields_meant l) (map-TypePhrase _ _ _ _ (λ e. e.0) (λ e. e.0) y)) inside)
      (meant_step all (map-TypePhrase _ _ _ _ (meant all) (fields_meant all) (map-TypePhrase _ _ _ _ (λ e. e.0) (λ e. e.0) y)) inside)
      (named_step (map-TypePhrase _ _ _ _ named_in named_in_field (map-TypePhrase _ _ _ _ (λ e. e.0) (λ e. e.0) y)))
  is_meant_here (phrase.Int at) inside e = inl (record { same = refl; closed = int_closed })
  is_meant_here (phrase.Bool at) inside e = inl (record { same = refl; closed = bool_closed })
  is_meant_here (phrase.Text at) inside e = inl (record { same = refl; closed = text_closed })
  is_meant_here (phrase.Task at) inside e = inl (record { same = refl; closed = task_closed })
  is_meant_here (phrase.Dataspace at) true e = absurd cc
  is_meant_here (phrase.Dataspace at) false e = inl (record { same = refl; closed = dataspace_closed })
  is_meant_here (phrase.Named n) inside e = name_means n e
  is_meant_here (phrase.Row at s of) inside e = row_is_meant at s of e
  is_meant_here (phrase.Struct at fs) inside e = structure_is_meant at fs e

  are_meant_here : (of : Is) (ns : List Name) → (judged seen rs of.0 true).faults ≡ []
      → FieldsMean (named_alike (meant l of.0 true) ns) (named_alike (meant all of.0 true) ns) ⊎ Found seen l (named_in of.0)
  are_meant_here of ns e =
      elim (of.1 true e) [
        | inl m ↦ inl (record { same = ap (λ (t : ElanType). named_alike t ns) m.same; closed = alike_closed (meant l of.0 true) ns m.closed })
        | inr g ↦ inr g
      ]

  moved : (i j : Judged) (t u v w : ElanType) (xs ys : List (List ℕ)) → i ≡ j → t ≡ u → v ≡ w → xs ≡ ys → MeansAs j u w ys → MeansAs i t v xs
  moved i j t u v w xs ys e f g h k =
      subst (λ (a : Judged). MeansAs a t v xs) (sym e) (subst (λ (a : ElanType). MeansAs j a v xs) (sym f)
      (subst (λ (a : ElanType). MeansAs j u a xs) (sym g) (subst (λ (a : List (List ℕ)). MeansAs j u w a) (sym h) k)))

  fields_moved : (i j : JudgedFields) (t u v w : List FieldType) (xs ys : List (List ℕ)) → i ≡ j → t ≡ u → v ≡ w → xs ≡ ys
      → FieldsMeanAs j u w ys → FieldsMeanAs i t v xs
  fields_moved i j t u v w xs ys e f g h k =
      subst (λ (a : JudgedFields). FieldsMeanAs a t v xs) (sym e) (subst (λ (a : List FieldType). FieldsMeanAs j a v xs) (sym f)
      (subst (λ (a : List FieldType). FieldsMeanAs j u a xs) (sym g) (subst (λ (a : List (List ℕ)). FieldsMeanAs j u w a) (sym h) k)))

  pub is_meant : (of : TypePhrase) (inside : Bool) → (judged seen rs of inside).faults ≡ []
      → Means (meant l of inside) (meant (look seen) of inside) ⊎ Found seen l (named_in of)
  is_meant =
      ind-TypePhrase IsMeant AreMeant
      (λ x y is.
      let z = map-TypePhrase _ _ _ _ (λ e. e.0) (λ e. e.0) y in
      rw (← is) (λ inside.
      moved _ _ _ _ _ _ _ _
      (ap (λ (j : Bool → Judged). j inside) (fold-roll-TypePhrase (Bool → Judged) JudgedFields (judged_step seen rs) (judged_fields_step seen rs) z))
      (ap (λ (t : Bool → ElanType). t inside) (fold-roll-TypePhrase (Bool → ElanType) (List FieldType) (meant_step l) (fields_step l) z))
      (ap (λ (t : Bool → ElanType). t inside) (fold-roll-TypePhrase (Bool → ElanType) (List FieldType) (meant_step all) (fields_step all) z))
      (fold-roll-TypePhrase (List (List ℕ)) (List (List ℕ)) named_step field_named_step z) (is_meant_here y inside)))
      (λ x y is.
      let z = map-Field _ _ _ _ (λ e. e.0) (λ e. e.0) y in
      rw (← is) (fields_moved _ _ _ _ _ _ _ _ (fold-roll-Field (Bool → Judged) JudgedFields (judged_step seen rs) (judged_fields_step seen rs) z)
      (fold-roll-Field (Bool → ElanType) (List FieldType) (meant_step l) (fields_step l) z)
      (fold-roll-Field (Bool → ElanType) (List FieldType) (meant_step all) (fields_step all) z)
      (fold-roll-Field (List (List ℕ)) (List (List ℕ)) named_step field_named_step z) (are_meant_here y.of y.names)))
