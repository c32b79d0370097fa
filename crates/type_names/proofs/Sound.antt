-- Where no type breaks a rule, each name of a type denotes one.
use Rattle.std.proofs.Common.{◌≡◌, ℕ, ℤ, zero, suc, ◌+◌, ◌-◌, ◌≤◌, Bool, true, false, ◌&&◌, ◌==◌, if◌then◌else◌, List, [], ◌∷◌, ◌++◌, length}
use Rattle.std.proofs.Common.{Option, Some, None, refl, sym, ap, subst, ◌∙◌, inl, inr, arith, eq-eqb}
use Rattle.std.specs.Prelude.{map, option_to_list, option_map, slice_get, slice_index_or}
use Rattle.std.specs.List.{list_any}
use Rattle.std.specs.Option.{option_or}
use Rattle.std.specs.Str.{bytes_eq}
use Rattle.std.proofs.lemmas.Slice.Eq.{bytes_eq-Decides}
use Rattle.call_graph.specs.Chains.{leads}
use Rattle.call_graph.proofs.Walks as walks
use Rattle.call_graph.proofs.Walks.{Call, no_walk}
use Rattle.elan_types.specs.declared.elan_type.ElanType.{ElanType}
use Rattle.elan_types.specs.declared.elan_type.ElanType.TheVariants as types
use Rattle.elan_types.specs.Types.{is_open}
use Rattle.elan_types.proofs.Types.{open_open}
use Rattle.elan_types.specs.declared.why.Why.TheVariants.{WrongPlace}
use Rattle.elan_tree.specs.declared.tree.Refinement.{Refinement}
use Rattle.elan_tree.specs.declared.written_type.TypePhrase.{TypePhrase}
use Rattle.elan_names.specs.declared.type_name.TypeName.{TypeName}
use Rattle.elan_names.specs.declared.type_name.Named.{Named}
use Rattle.elan_names.specs.declared.type_name.Named.TheVariants as named
use Rattle.elan_walk.specs.declared.definition.Defined.{Defined}
use Rattle.elan_walk.specs.declared.definition.Defined.TheVariants as defined
use Rattle.elan_walk.specs.declared.definition.Definition.{Definition}
use Rattle.type_names.specs.Types.{meant, look, first_from, made, as_defined, by_definition, denoted, names_of}
use Rattle.type_names.specs.Faults.{Here, here, calls, comes_back, named_in, names_in, number_named, numbers_named, named_faults, written_faults}
use Rattle.type_names.specs.walks.Further.{known_over}
use Rattle.type_names.proofs.Looked.{look_both}
use Rattle.type_names.proofs.Meaning.{In, Looks, is_unknown, Found, no_fault, neither, right_false, both_ways, own_closed, meant_kept, is_meant}
use Rattle.type_names.proofs.Rounds.{names_denote, seen_denotes}

-- each of these names that denotes a type denotes one with meaning
abbrev pub Mean : List TypeName → Type 0
Mean ts = (x : List ℕ) (t : ElanType) → look ts x ≡ Some (named.Of t) → is_open t ≡ false

-- What is written at a place under a name breaks no rule.
abbrev pub SoundAs : Here → ℕ → List ℕ → Defined → Type 0
SoundAs h at x (defined.Abbreviation of) = (named_faults h at of (first_from 0 h.definitions x) ≡ []) × (written_faults h of true ≡ [])
SoundAs h at x (defined.New of) = (named_faults h at of (first_from 0 h.definitions x) ≡ []) × (written_faults h of true ≡ [])
SoundAs h at x (defined.Number k) = Unit {0}
SoundAs h at x defined.Other = Unit {0}

abbrev pub Sound : Here → Definition → Type 0
Sound h d = SoundAs h d.at d.name d.what

-- ---- definitions that are found

found_from : (k : ℕ) (ds : List Definition) (x : List ℕ) (f : ℕ × Definition) → first_from k ds x ≡ Some f
    → (i : ℕ) × (f.0 ≡ k + i) × (slice_get ds i ≡ Some f.1) × (bytes_eq f.1.name x ≡ true)
found_from k [] x f e = absurd cc
found_from k (d ∷ ds) x f e = by_test (bytes_eq d.name x) refl (found_from (k + 1) ds x f) e
  where
    by_test : (b : Bool) → bytes_eq d.name x ≡ b
        → (first_from (k + 1) ds x ≡ Some f → (i : ℕ) × (f.0 ≡ (k + 1) + i) × (slice_get ds i ≡ Some f.1) × (bytes_eq f.1.name x ≡ true))
        → (if b then Some (k, d) else first_from (k + 1) ds x) ≡ Some f
        → (i : ℕ) × (f.0 ≡ k + i) × (slice_get (d ∷ ds) i ≡ Some f.1) × (bytes_eq f.1.name x ≡ true)
    by_test true h rest g =
        let q : (k, d) ≡ f = cc in
        let z : k ≡ k + 0 = omega arith in
        (0, sym (ap (λ (p : ℕ × Definition). p.0) q) ∙ z, ap (λ (p : ℕ × Definition). Some p.1) q, ap (λ (p : ℕ × Definition). bytes_eq p.1.name x) (sym q) ∙ h)
    by_test false h rest g =
        let r = rest g in
        let j : f.0 ≡ (k + 1) + r.0 = r.1 in
        let z : f.0 ≡ k + suc r.0 = omega (arith, j) in
        (suc r.0, z, r.2, r.3)

pub found_at : (ds : List Definition) (x : List ℕ) (j : ℕ) (e : Definition) → first_from 0 ds x ≡ Some (j, e)
    → (slice_get ds j ≡ Some e) × (first_from 0 ds e.name ≡ Some (j, e))
found_at ds x j e h =
    let r = found_from 0 ds x (j, e) h in
    let i : j ≡ 0 + r.0 = r.1 in
    let z : r.0 ≡ j = omega (arith, i) in
    let n : e.name ≡ x = (bytes_eq-Decides e.name x).0 r.3 in
    (ap (slice_get ds) (sym z) ∙ r.2, ap (first_from 0 ds) n ∙ h)

number_in : (ds : List Definition) (x : List ℕ) (xs : List (List ℕ)) (j : ℕ) → In x xs → number_named ds x ≡ Some j → walks.In j (numbers_named ds xs)
number_in ds x [] j h e = absurd h
number_in ds x (y ∷ xs) j h e =
    elim h [
      | inl i ↦ added_first (number_named ds y) (ap (number_named ds) i ∙ e)
      | inr i ↦ added_second (number_named ds y) (number_in ds x xs j i e)
    ]
  where
    added_first : (o : Option ℕ) → o ≡ Some j → walks.In j (option_to_list o ++ numbers_named ds xs)
    added_first None k = absurd cc
    added_first (Some n) k = let q : n ≡ j = cc in inl q

    added_second : (o : Option ℕ) → walks.In j (numbers_named ds xs) → walks.In j (option_to_list o ++ numbers_named ds xs)
    added_second None k = k
    added_second (Some n) k = inr k

none_back : (f : ℕ → Bool) (ns : List ℕ) (n : ℕ) → walks.In n ns → list_any f ns ≡ false → f n ≡ false
none_back f [] n h e = absurd h
none_back f (m ∷ ns) n h e =
    let p = neither (f m) (list_any f ns) e in
    elim h [
      | inl i ↦ ap f (sym i) ∙ p.0
      | inr i ↦ none_back f ns n i p.1
    ]

-- ---- what is denoted over more names

made_known : (n : ℕ) (t : ElanType) → is_open (made n t) ≡ false → is_open t ≡ false
made_known n t e = by_test (is_open t) e
  where
    by_test : (b : Bool) → is_open (if b then types.Open else types.Own n t) ≡ false → b ≡ false
    by_test true h = absurd (both_ways (is_open types.Open) h open_open)
    by_test false h = refl

made_closed : (n : ℕ) (t : ElanType) → is_open t ≡ false → is_open (made n t) ≡ false
made_closed n t e = ap (λ (b : Bool). is_open (if b then types.Open else types.Own n t)) e ∙ own_closed n t

made_open : (n : ℕ) (t : ElanType) → is_open (made n t) ≡ true → is_open t ≡ true
made_open n t e = by_test (is_open t) refl
  where
    by_test : (b : Bool) → is_open t ≡ b → b ≡ true
    by_test true h = refl
    by_test false h = absurd (both_ways (is_open (made n t)) (made_closed n t h) e)

module _ (first : ℕ) where
  pub defined_kept : (l m : Looks) → ((x : List ℕ) → is_unknown (l x) ≡ false → l x ≡ m x) → (n : ℕ) (w : Defined)
      → is_unknown (Some (as_defined first l n w)) ≡ false → as_defined first l n w ≡ as_defined first m n w
  defined_kept l m less n (defined.Abbreviation of) e = ap (λ (t : ElanType). named.Of t) (meant_kept l m less of true e)
  defined_kept l m less n (defined.New of) e = ap (λ (t : ElanType). named.Of (made (first + n) t)) (meant_kept l m less of true (made_known (first + n) (meant l of true) e))
  defined_kept l m less n (defined.Number k) e = refl
  defined_kept l m less n defined.Other e = refl

  module _ (around : List TypeName) (ds : List Definition) where
    -- what is known of names where so many may follow
    abbrev look_at : ℕ → Looks
    look_at f = known_over first around ds f

    abbrev pub one : (f : ℕ) (x : List ℕ) → denoted first around ds f x ≡ by_definition first (look_at f) (first_from 0 ds x) (look around x)
    one zero x = refl
    one (suc f) x = refl

    abbrev by_name : ℕ → List ℕ → Option (ℕ × Definition) → Option Named
    by_name f x o = by_definition first (look_at f) o (look around x)

    abbrev Less : Looks → Looks → Type 0
    Less l m = (x : List ℕ) → is_unknown (l x) ≡ false → l x ≡ m x

    pub found_kept : (l m : Looks) → Less l m → (o : Option (ℕ × Definition)) (q : Option Named) → is_unknown (by_definition first l o q) ≡ false
        → by_definition first l o q ≡ by_definition first m o q
    found_kept l m less None q e = refl
    found_kept l m less (Some f) q e = ap (λ (n : Named). Some n) (defined_kept l m less f.0 f.1.what e)

    pub one_more : (f : ℕ) → Less (look_at f) (look_at (suc f))
    one_more zero x e = absurd cc
    one_more (suc f) x e =
        one f x
        ∙ found_kept (look_at f) (look_at (suc f)) (one_more f) (first_from 0 ds x) (look around x) (sym (ap is_unknown (one f x)) ∙ e)
        ∙ sym (one (suc f) x)

    some_more : (k f : ℕ) → Less (look_at f) (look_at (k + f))
    some_more zero f x e = let z : 0 + f ≡ f = omega arith in ap (λ (n : ℕ). look_at n x) (sym z)
    some_more (suc k) f x e =
        let z : suc k + f ≡ suc (k + f) = omega arith in
        let h = some_more k f x e in
        h ∙ one_more (k + f) x (sym (ap is_unknown h) ∙ e) ∙ ap (λ (n : ℕ). look_at n x) (sym z)

    abbrev last : ℕ
    last = suc (length ds)

    at_last : (f : ℕ) → f ≤ suc last → Less (look_at f) (denoted first around ds last)
    at_last f le x e =
        let z : (suc last - f) + f ≡ suc last = omega (arith, le) in
        some_more (suc last - f) f x e ∙ ap (λ (n : ℕ). look_at n x) z

    -- a number is known at once
    number_known : (f : ℕ) (x : List ℕ) (k : ℤ) → denoted first around ds last x ≡ Some (named.Size k) → denoted first around ds f x ≡ Some (named.Size k)
    number_known f x k e = one f x ∙ by_found (first_from 0 ds x) (sym (one last x) ∙ e)
      where
        by_what : (l m : Looks) (n : ℕ) (w : Defined) → as_defined first m n w ≡ named.Size k → as_defined first l n w ≡ named.Size k
        by_what l m n (defined.Abbreviation of) h = absurd cc
        by_what l m n (defined.New of) h = absurd cc
        by_what l m n (defined.Number i) h = h
        by_what l m n defined.Other h = absurd cc

        by_found : (o : Option (ℕ × Definition)) → by_definition first (look_at last) o (look around x) ≡ Some (named.Size k)
            → by_definition first (look_at f) o (look around x) ≡ Some (named.Size k)
        by_found None h = h
        by_found (Some g) h =
            let i : as_defined first (look_at last) g.0 g.1.what ≡ named.Size k = cc in
            ap (λ (n : Named). Some n) (by_what (look_at f) (look_at last) g.0 g.1.what i)

    module _ (rs : List Refinement) where
      abbrev h : Here
      h = here first around ds rs

      abbrev seen : List TypeName
      seen = names_of first around ds ++ around

      seen_is : (x : List ℕ) → look seen x ≡ denoted first around ds last x
      seen_is x = ap (λ (l : Looks). l x) (seen_denotes first around ds)

      less_seen : (f : ℕ) → f ≤ suc last → Less (look_at f) (look seen)
      less_seen f le x e = at_last f le x e ∙ sym (seen_is x)

      numbers_seen : (f : ℕ) (x : List ℕ) (k : ℤ) → look seen x ≡ Some (named.Size k) → denoted first around ds f x ≡ Some (named.Size k)
      numbers_seen f x k e = number_known f x k (sym (seen_is x) ∙ e)

      module _ (means : Mean around) (sound : (i : ℕ) (d : Definition) → slice_get ds i ≡ Some d → Sound h d) where
        -- the first definition of a name, whose type is not known over so many further names
        record Goes (f c : ℕ) : Type 0 where
          d : Definition
          stands : slice_get ds c ≡ Some d
          is_first : first_from 0 ds d.name ≡ Some (c, d)
          unknown : is_unknown (Some (as_defined first (look_at f) c d.what)) ≡ true
          few : f ≤ suc last

        abbrev n : ℕ
        n = length (calls ds)

        -- what is written breaks no rule, and yet its type is not known: a definition whose name is written goes on
        record Next (f c : ℕ) (of : TypePhrase) : Type 0 where
          to : ℕ
          called : walks.In to (numbers_named ds (named_in of))
          goes : Goes f to

        next_named : (f c : ℕ) (of : TypePhrase) → suc f ≤ suc last → Found seen (denoted first around ds f) (named_in of) → Next f c of
        next_named f c of few g = by_found (first_from 0 ds g.name) refl
          where
            around_known : first_from 0 ds g.name ≡ None → ⊥
            around_known i =
                let here : (m : ℕ) → denoted first around ds m g.name ≡ look around g.name = λ m. one m g.name ∙ ap (by_name m g.name) i in
                let e : look around g.name ≡ Some (named.Of g.of) = sym (here last) ∙ sym (seen_is g.name) ∙ g.seen_as in
                both_ways (is_open g.of) (means g.name g.of e) (sym (ap is_unknown (here f ∙ e)) ∙ g.unknown)

            by_found : (o : Option (ℕ × Definition)) → first_from 0 ds g.name ≡ o → Next f c of
            by_found None i = absurd (around_known i)
            by_found (Some (j, e)) i =
                let at = found_at ds g.name j e i in
                record {
                  to = j;
                  called = number_in ds g.name (named_in of) j g.within (ap (option_map (λ k. k.0)) i);
                  goes =
                      record {
                        d = e;
                        stands = at.0;
                        is_first = at.1;
                        unknown =
                            sym (ap is_unknown (one f g.name ∙ ap (by_name f g.name) i)) ∙ g.unknown;
                        few = (let z : f ≤ suc last = omega (arith, few) in z);
                      };
                }

        -- what is written breaks no rule, and its type is not known
        next : (f c : ℕ) (of : TypePhrase) → suc f ≤ suc last → written_faults h of true ≡ [] → is_open (meant (denoted first around ds f) of true) ≡ true → Next f c of
        next f c of few e o =
            elim (is_meant seen rs (denoted first around ds f) (less_seen (suc f) few) (numbers_seen f) of true e) [
              | inl m ↦ absurd (both_ways (is_open (meant (denoted first around ds f) of true)) m.closed o)
              | inr g ↦ next_named f c of few g
            ]

        calls_at : (es : List Definition) (c : ℕ) (d : Definition) → slice_get es c ≡ Some d
            → slice_index_or (map (λ (e : Definition). numbers_named ds (names_in e.what)) es) c [] ≡ numbers_named ds (names_in d.what)
        calls_at [] c d e = absurd cc
        calls_at (a ∷ es) zero d e = let i : a ≡ d = cc in ap (λ (q : Definition). numbers_named ds (names_in q.what)) i
        calls_at (a ∷ es) (suc c) d e = calls_at es c d e

        not_back : (c : ℕ) (d : Definition) (of : TypePhrase) (to : ℕ) → first_from 0 ds d.name ≡ Some (c, d)
            → named_faults h d.at of (first_from 0 ds d.name) ≡ [] → walks.In to (numbers_named ds (named_in of)) → leads n (calls ds) to c ≡ false
        not_back c d of to i e w =
            let back : (if (d.at == d.at) && comes_back (calls ds) (numbers_named ds (named_in of)) c then (d.at, WrongPlace) ∷ [] else []) ≡ [] =
            sym (ap (named_faults h d.at of) i) ∙ e in
            none_back (λ m. leads n (calls ds) m c) (numbers_named ds (named_in of)) to w
            (right_false (d.at == d.at) (comes_back (calls ds) (numbers_named ds (named_in of)) c) (eq-eqb d.at d.at refl)
            (no_fault ((d.at == d.at) && comes_back (calls ds) (numbers_named ds (named_in of)) c) (d.at, WrongPlace) back))

        step : (f c : ℕ) → Goes (suc f) c → Call (calls ds) n (Goes f) c
        step f c g = by_what g.d.what refl (sound c g.d g.stands) g.unknown
          where
            called : (of : TypePhrase) → names_in g.d.what ≡ named_in of → named_faults h g.d.at of (first_from 0 ds g.d.name) ≡ []
                → Next f c of → Call (calls ds) n (Goes f) c
            called of i e q =
                record {
                  to = q.to;
                  called = subst (walks.In q.to) (sym (calls_at ds c g.d g.stands ∙ ap (numbers_named ds) i)) q.called;
                  away = not_back c g.d of q.to g.is_first e q.called;
                  goes = q.goes;
                }

            by_what : (w : Defined) → g.d.what ≡ w → SoundAs h g.d.at g.d.name w → is_unknown (Some (as_defined first (denoted first around ds f) c w)) ≡ true
                → Call (calls ds) n (Goes f) c
            by_what (defined.Abbreviation of) i s u = called of (ap names_in i) s.0 (next f c of g.few s.1 u)
            by_what (defined.New of) i s u = called of (ap names_in i) s.0 (next f c of g.few s.1 (made_open (first + c) (meant (denoted first around ds f) of true) u))
            by_what (defined.Number k) i s u = absurd cc
            by_what defined.Other i s u = absurd cc

        as_long : {A : Type 0} (xs : List A) (ys : List Bool) (c : ℕ) (x : A) → slice_get xs c ≡ Some x → length ys ≡ length xs
            → (b : Bool) × (slice_get ys c ≡ Some b)
        as_long [] ys c x e l = absurd cc
        as_long (a ∷ xs) [] c x e l = absurd (let z : 0 ≡ suc (length xs) = l in omega (arith, z))
        as_long (a ∷ xs) (y ∷ ys) zero x e l = (y, refl)
        as_long (a ∷ xs) (y ∷ ys) (suc c) x e l = as_long xs ys c x e (let z : suc (length ys) ≡ suc (length xs) = l in omega (arith, z))

        map_length : (es : List Definition) → length (map (λ (e : Definition). numbers_named ds (names_in e.what)) es) ≡ length es
        map_length [] = refl
        map_length (e ∷ es) = ap suc (map_length es)

        small : (f c : ℕ) → Goes f c → (marks : List Bool) → length marks ≡ n → (b : Bool) × (slice_get marks c ≡ Some b)
        small f c g marks l = as_long ds marks c g.d g.stands (l ∙ map_length ds)

        none_goes : (c : ℕ) → Goes (length ds) c → ⊥
        none_goes c g = no_walk (calls ds) n Goes step small ds (sym (map_length ds)) c (subst (λ (m : ℕ). Goes m c) (sym (map_length ds)) g)

        pub names_mean : Mean (names_of first around ds)
        names_mean x t e = by_found (first_from 0 ds x) refl (sym (names_denote first around ds x) ∙ e)
          where
            by_found : (o : Option (ℕ × Definition)) → first_from 0 ds x ≡ o → by_definition first (denoted first around ds (length ds)) o None ≡ Some (named.Of t)
                → is_open t ≡ false
            by_found None i k = absurd cc
            by_found (Some (c, d)) i k = by_test (is_open t) refl
              where
                goes : is_open t ≡ true → Goes last c
                goes u =
                    let at = found_at ds x c d i in
                    record { d = d; stands = at.0; is_first = at.1; unknown = ap is_unknown k ∙ u; few = (let z : last ≤ suc last = omega arith in z) }

                by_test : (b : Bool) → is_open t ≡ b → b ≡ false
                by_test false u = refl
                by_test true u = let r = step (length ds) c (goes u) in absurd (none_goes r.to r.goes)

        pub seen_mean : Mean (names_of first around ds ++ around)
        seen_mean x t e = by_own (look (names_of first around ds) x) refl (sym (look_both x (names_of first around ds) around) ∙ e)
          where
            by_own : (o : Option Named) → look (names_of first around ds) x ≡ o → option_or o (look around x) ≡ Some (named.Of t) → is_open t ≡ false
            by_own None i k = means x t k
            by_own (Some m) i k = names_mean x t (i ∙ k)

-- ---- types

pub written_means : (h : Here) → Mean h.seen → (of : TypePhrase) (inside : Bool) → written_faults h of inside ≡ []
    → is_open (meant (look h.seen) of inside) ≡ false
written_means h means of inside e =
    elim (is_meant h.seen h.refinements (look h.seen) (λ x k. refl) (λ x k i. i) of inside e) [
      | inl m ↦ m.closed
      | inr g ↦ absurd (both_ways (is_open g.of) (means g.name g.of g.seen_as) (sym (ap is_unknown g.seen_as) ∙ g.unknown))
    ]
