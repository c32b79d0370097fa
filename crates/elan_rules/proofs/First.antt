-- Going from left to right gives the meaning, or the first phrase that breaks a rule, or finds that a part hangs.
use Rattle.std.proofs.Common.{◌≡◌, List, [], ◌∷◌, ◌++◌, refl, sym, ap, subst, ◌∙◌, ◌⊎◌, inl, inr}
use Rattle.elan_meant.specs.declared.meant.Meant.{Meant}
use Rattle.elan_scope.specs.Phrase.{Phrase, phrase, Parts, none, part}
use Rattle.elan_scope.specs.Ruled.{Fault, Ruled, gives, breaks, hangs, ◌>>=◌, before}
use Rattle.elan_scope.specs.declared.known.Known.{Known}
use Rattle.elan_rules.specs.Rules.{ruled}
use Rattle.elan_rules.specs.Meaning.{Means, Breaks, phrases, phrases_of, IsFirst, judged, judged_all}

-- ---- one step

abbrev faulty : {A : Type 0} → Fault → Ruled A
faulty f = breaks f

pub bind_gives : {A B : Type 0} (r : Ruled A) (f : A → Ruled B) (y : B) → (r >>= f) ≡ gives y → (x : A) × (r ≡ gives x) × (f x ≡ gives y)
bind_gives (gives x) f y e = (x, refl, e)
bind_gives (breaks d) f y e = absurd cc
bind_gives hangs f y e = absurd cc

breaks_is : {A B : Type 0} (c d : Fault) → faulty {A = B} c ≡ faulty d → faulty {A = A} c ≡ breaks d
breaks_is c d e = let h : c ≡ d = cc in ap (λ (z : Fault). breaks z) h

bind_breaks : {A B : Type 0} (r : Ruled A) (f : A → Ruled B) (d : Fault) → (r >>= f) ≡ breaks d → (r ≡ breaks d) ⊎ ((x : A) × (r ≡ gives x) × (f x ≡ breaks d))
bind_breaks (gives x) f d e = inr (x, refl, e)
bind_breaks (breaks c) f d e = inl (breaks_is c d e)
bind_breaks hangs f d e = absurd cc

pub gives_is : {A : Type 0} (x y : A) → gives x ≡ gives y → x ≡ y
gives_is x y e = cc

pub before_gives : {A : Type 0} (r : Ruled A) (rs : Ruled (List A)) (ys : List A) → before r rs ≡ gives ys
    → (x : A) × (xs : List A) × (r ≡ gives x) × (rs ≡ gives xs) × (ys ≡ x ∷ xs)
before_gives (gives x) rs ys e =
    let b = bind_gives rs (λ xs. gives (x ∷ xs)) ys e in
    (x, b.0, refl, b.1, sym (gives_is (x ∷ b.0) ys b.2))
before_gives (breaks d) rs ys e = absurd cc
before_gives hangs (gives xs) ys e = absurd cc
before_gives hangs (breaks d) ys e = absurd cc
before_gives hangs hangs ys e = absurd cc

-- A fault of a row is that of its first part, or the first part is whole, or hangs, and the fault is that of the rest.
pub data First_of {A : Type 0} (r : Ruled A) (rs : Ruled (List A)) (d : Fault) : Type 0 where
  here : r ≡ breaks d → First_of r rs d
  after_it : (x : A) → r ≡ gives x → rs ≡ breaks d → First_of r rs d
  after_hanging : r ≡ hangs → rs ≡ breaks d → First_of r rs d

before_breaks : {A : Type 0} (r : Ruled A) (rs : Ruled (List A)) (d : Fault) → before r rs ≡ breaks d → First_of r rs d
before_breaks (gives x) (gives xs) d e = absurd cc
before_breaks (gives x) (breaks c) d e = after_it x refl (breaks_is c d e)
before_breaks (gives x) hangs d e = absurd cc
before_breaks (breaks c) rs d e = here (breaks_is c d e)
before_breaks hangs (gives xs) d e = absurd cc
before_breaks hangs (breaks c) d e = after_hanging refl (breaks_is c d e)
before_breaks hangs hangs d e = absurd cc

pub data Faultless {A : Type 0} : Ruled A → Type 0 where
  whole : (x : A) → Faultless (gives x)
  open_one : Faultless hangs

pub breaks_has_fault : {A : Type 0} (f : Fault) → Faultless (faulty {A = A} f) → ⊥
breaks_has_fault f h = elim h [ ]

module _ (kn : Known) where
  -- a phrase has at most one meaning
  pub one_meaning : (p : Phrase) (m n : Meant) → Means kn p m → Means kn p n → m ≡ n
  one_meaning p m n h k = gives_is m n (sym h ∙ k)

  pub judged_breaks : (p : Phrase) (f : Fault) → Breaks kn p f → judged kn p ≡ breaks f
  judged_breaks (phrase at form ps) f h = ap (λ (r : Ruled (List Meant)). r >>= ruled kn at form) h.1 ∙ h.2

  -- ---- phrases of which none breaks a rule

  abbrev pub NoneBreaks : List Phrase → Type 0
  NoneBreaks [] = Unit {0}
  NoneBreaks (p ∷ ps) = ((f : Fault) → Breaks kn p f → ⊥) × NoneBreaks ps

  none_append : (xs ys : List Phrase) → NoneBreaks xs → NoneBreaks ys → NoneBreaks (xs ++ ys)
  none_append [] ys h k = k
  none_append (x ∷ xs) ys h k = (h.0, none_append xs ys h.1 k)

  does_not_break : (p : Phrase) (f : Fault) → Faultless (judged kn p) → Breaks kn p f → ⊥
  does_not_break p f e h = breaks_has_fault f (subst (λ (r : Ruled Meant). Faultless r) (judged_breaks p f h) e)

  pub bind_faultless : {A B : Type 0} (r : Ruled A) (f : A → Ruled B) → Faultless (r >>= f) → Faultless r
  bind_faultless (gives x) f h = whole x
  bind_faultless (breaks d) f h = absurd (breaks_has_fault d h)
  bind_faultless hangs f h = open_one

  pub before_faultless : {A : Type 0} (r : Ruled A) (rs : Ruled (List A)) → Faultless (before r rs) → Faultless r × Faultless rs
  before_faultless (gives x) (gives xs) h = (whole x, whole xs)
  before_faultless (gives x) (breaks d) h = absurd (breaks_has_fault d h)
  before_faultless (gives x) hangs h = (whole x, open_one)
  before_faultless (breaks d) rs h = absurd (breaks_has_fault d h)
  before_faultless hangs (gives xs) h = (open_one, whole xs)
  before_faultless hangs (breaks d) h = absurd (breaks_has_fault d h)
  before_faultless hangs hangs h = (open_one, open_one)

  mutual
    pub none_breaks : (p : Phrase) → Faultless (judged kn p) → NoneBreaks (phrases p)
    none_breaks (phrase at form ps) e =
        none_append (phrases_of ps) (phrase at form ps ∷ []) (none_breaks_of ps (bind_faultless (judged_all kn ps) (ruled kn at form) e))
        (λ f h. does_not_break (phrase at form ps) f e h, tt)

    pub none_breaks_of : (ps : Parts) → Faultless (judged_all kn ps) → NoneBreaks (phrases_of ps)
    none_breaks_of none e = tt
    none_breaks_of (part p ps) e =
        let b = before_faultless (judged kn p) (judged_all kn ps) e in
        none_append (phrases p) (phrases_of ps) (none_breaks p b.0) (none_breaks_of ps b.1)

  faultless : {A : Type 0} (r : Ruled A) (x : A) → r ≡ gives x → Faultless r
  faultless r x e = subst Faultless (sym e) (whole x)

  faultless_hanging : {A : Type 0} (r : Ruled A) → r ≡ hangs → Faultless r
  faultless_hanging r e = subst Faultless (sym e) open_one

  -- ---- the first fault

  first_left : (xs ys : List Phrase) (f : Fault) → IsFirst kn xs f → IsFirst kn (xs ++ ys) f
  first_left [] ys f h = absurd h
  first_left (x ∷ xs) ys f h =
      elim h [
        | inl b ↦ inl b
        | inr r ↦ inr (r.0, first_left xs ys f r.1)
      ]

  first_right : (xs ys : List Phrase) (f : Fault) → NoneBreaks xs → IsFirst kn ys f → IsFirst kn (xs ++ ys) f
  first_right [] ys f n h = h
  first_right (x ∷ xs) ys f n h = inr (n.0, first_right xs ys f n.1 h)

  mutual
    pub refused_of : (p : Phrase) (f : Fault) → judged kn p ≡ breaks f → IsFirst kn (phrases p) f
    refused_of (phrase at form ps) f e =
        elim (bind_breaks (judged_all kn ps) (ruled kn at form) f e) [
          | inl h ↦ first_left (phrases_of ps) (phrase at form ps ∷ []) f (refused_all_of ps f h)
          | inr h ↦ first_right (phrases_of ps) (phrase at form ps ∷ []) f (none_breaks_of ps (faultless (judged_all kn ps) h.0 h.1))
              (inl (h.0, h.1, h.2))
        ]

    pub refused_all_of : (ps : Parts) (f : Fault) → judged_all kn ps ≡ breaks f → IsFirst kn (phrases_of ps) f
    refused_all_of none f e = absurd cc
    refused_all_of (part p ps) f e =
        elim (before_breaks (judged kn p) (judged_all kn ps) f e) [
          | here h ↦ first_left (phrases p) (phrases_of ps) f (refused_of p f h)
          | after_it x h k ↦ first_right (phrases p) (phrases_of ps) f (none_breaks p (faultless (judged kn p) x h)) (refused_all_of ps f k)
          | after_hanging h k ↦ first_right (phrases p) (phrases_of ps) f (none_breaks p (faultless_hanging (judged kn p) h)) (refused_all_of ps f k)
        ]

  -- ---- there is one first fault

  fault_is : (f g : Fault) → faulty {A = Meant} f ≡ breaks g → f ≡ g
  fault_is f g e = cc

  same_fault : (p : Phrase) (f g : Fault) → Breaks kn p f → Breaks kn p g → f ≡ g
  same_fault p f g h k = fault_is f g (sym (judged_breaks p f h) ∙ judged_breaks p g k)

  pub one_first : (ps : List Phrase) (f g : Fault) → IsFirst kn ps f → IsFirst kn ps g → f ≡ g
  one_first [] f g h k = absurd h
  one_first (p ∷ ps) f g h k =
      elim h [
        | inl a ↦ elim k [
          | inl b ↦ same_fault p f g a b
          | inr b ↦ absurd (b.0 f a)
        ]
        | inr a ↦ elim k [
          | inl b ↦ absurd (a.0 g b)
          | inr b ↦ one_first ps f g a.1 b.1
        ]
      ]

  pub none_first : (ps : List Phrase) (f : Fault) → NoneBreaks ps → IsFirst kn ps f → ⊥
  none_first [] f n h = h
  none_first (p ∷ ps) f n h =
      elim h [
        | inl b ↦ n.0 f b
        | inr r ↦ none_first ps f n.1 r.1
      ]

  -- a phrase that has meaning is not refused
  pub meant_is_not_refused : (p : Phrase) (m : Meant) (f : Fault) → Means kn p m → IsFirst kn (phrases p) f → ⊥
  meant_is_not_refused p m f h r = none_first (phrases p) f (none_breaks p (faultless (judged kn p) m h)) r
