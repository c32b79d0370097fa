-- What holds of each rule of a grammar.
use Rattle.std.proofs.Common.{◌≡◌, ◌<◌, ◌≤◌, ◌⊎◌, inl, inr, Bool, true, false, cond, [], ◌∷◌, ◌++◌, length, Option, Some, None, Result, Ok, Err, refl, sym}
use Rattle.std.proofs.Common.{ap, subst, ◌∙◌, arith, append_assoc}
use Rattle.std.proofs.lemmas.List.{length-append}
use Rattle.elan_tree.specs.declared.token.Token.{Token}
use Rattle.elan_grammar.specs.declared.kind.Kind.{Kind}
use Rattle.elan_grammar.specs.declared.error.ParseError.{ParseError}
use Rattle.elan_grammar.specs.Kinds.{ahead}
use Rattle.elan_grammar.proofs.Looks.{next, SameAhead, LooksSame}
use Rattle.elan_grammar.specs.Rule.{Tokens, Outcome, and_then, refusal, Rule, pure, fail, ◌>>=◌, taken, terminal_run, is_some, accepts, terminal, only}

abbrev pub Set : Type 0
Set = Kind → Bool

abbrev pub Within : Set → Set → Type 0
Within p q = (k : Kind) → p k ≡ true → q k ≡ true

abbrev pub Apart : Set → Set → Type 0
Apart p q = (k : Kind) → p k ≡ true → q k ≡ false

-- A reading is one of its own tokens, whatever comes after them.
pub record Splits {A : Type 0} (r : Rule A) (xs ys : Tokens) (a : A) : Type 0 where
  pub front : Tokens
  pub whole : xs ≡ front ++ ys
  pub free : (zs : Tokens) → r.reads a (front ++ zs) zs

-- These tokens go on to a reading, whatever comes after it.
pub record Completes {A : Type 0} (r : Rule A) (front : Tokens) : Type 0 where
  pub more : Tokens
  pub value : A
  pub reads : (zs : Tokens) → r.reads value (front ++ (more ++ zs)) zs

-- Where the parser is stuck: what it read goes on to a reading. Of a rule that reads nothing yet this is not said: a depth may be missing.
pub record Stuck {A : Type 0} (r : Rule A) (xs : Tokens) (e : ParseError) : Type 0 where
  pub front : Tokens
  pub rest : Tokens
  pub whole : xs ≡ front ++ rest
  pub place : e ≡ refusal rest
  pub viable : 0 < length front → Completes r front

pub record Laws {A : Type 0} (r : Rule A) (first stop : Kind → Bool) : Type 0 where
  -- the parser reads what the rule reads, where the token after it is one that may follow
  pub sound : (xs ys : Tokens) (a : A) → r.run xs ≡ Ok (a, ys) → r.reads a xs ys
  pub whole : (xs ys : Tokens) (a : A) → r.reads a xs ys → stop (ahead ys) ≡ true → r.run xs ≡ Ok (a, ys)
  pub starts : (xs ys : Tokens) (a : A) → r.reads a xs ys → stop (ahead ys) ≡ true → first (ahead xs) ≡ true
  pub splits : (xs ys : Tokens) (a : A) → r.reads a xs ys → Splits r xs ys a
  -- the parser names the place where it is stuck
  pub stuck : (xs : Tokens) (e : ParseError) → r.run xs ≡ Err e → Stuck r xs e
  -- what comes behind the place where the parser stops doesn't matter to it
  pub reads_on : (front us vs : Tokens) (a : A) → r.run (front ++ us) ≡ Ok (a, us) → LooksSame front us vs → r.run (front ++ vs) ≡ Ok (a, vs)
  pub stops : (front us vs : Tokens) (t : Token) → r.run (front ++ (t ∷ us)) ≡ Err (refusal (t ∷ us)) → LooksSame front (t ∷ us) (t ∷ vs)
      → r.run (front ++ (t ∷ vs)) ≡ Err (refusal (t ∷ vs))
  -- the parser chooses it where it reads something, and by the next token and what it sees ahead alone
  pub shows : (xs ys : Tokens) (a : A) → r.reads a xs ys → stop (ahead ys) ≡ true → r.starts xs ≡ true
  pub same : (us vs : Tokens) → SameAhead us vs → r.starts us ≡ r.starts vs

-- the laws of a rule that reads something
pub record Full {A : Type 0} (r : Rule A) (first stop : Kind → Bool) : Type 0 where
  pub laws : Laws r first stop
  pub sample : Completes r []

pub some_or_none : (xs : Tokens) → (xs ≡ []) ⊎ (0 < length xs)
some_or_none [] = inl refl
some_or_none (x ∷ xs) = inr (omega arith)

-- where nothing was read
abbrev pub stuck_here : {A : Type 0} (r : Rule A) (xs : Tokens) (e : ParseError) → e ≡ refusal xs → Stuck r xs e
stuck_here r xs e h = record { front = []; rest = xs; whole = refl; place = h; viable = λ some. absurd (omega arith) }

-- What r completes to, and a reading of what follows.
pub bind_completes : {A B : Type 0} (r : Rule A) (f : A → Rule B) (front : Tokens) → Completes r front → ((a : A) → Completes (f a) [])
    → Completes (r >>= f) front
bind_completes r f front c sf =
    let s = sf c.value in
    record {
      more = c.more ++ s.more;
      value = s.value;
      reads =
          λ zs. (
            c.value,
            s.more ++ zs,
            subst (λ (z : Tokens). r.reads c.value z (s.more ++ zs)) (ap (λ (z : Tokens). front ++ z) (sym (append_assoc c.more s.more zs)))
                (c.reads (s.more ++ zs)),
            s.reads zs,
          );
    }

-- What r read, and what completes the rest.
pub after_completes : {A B : Type 0} (r : Rule A) (f : A → Rule B) (first front : Tokens) (a : A) → ((zs : Tokens) → r.reads a (first ++ zs) zs)
    → Completes (f a) front → Completes (r >>= f) (first ++ front)
after_completes r f first front a free c = record {
  more = c.more;
  value = c.value;
  reads =
      λ zs. (
        a,
        front ++ (c.more ++ zs),
        subst (λ (z : Tokens). r.reads a z (front ++ (c.more ++ zs))) (sym (append_assoc first front (c.more ++ zs))) (free (front ++ (c.more ++ zs))),
        c.reads zs,
      );
}

-- ---- outcomes

pub and_then_ok : {A B : Type 0} (o : Outcome A) (g : A → Tokens → Outcome B) (y : B × Tokens) → and_then o g ≡ Ok y
    → (p : A × Tokens) × (o ≡ Ok p) × (g p.0 p.1 ≡ Ok y)
and_then_ok (Ok p) g y e = (p, refl, e)
and_then_ok (Err d) g y e = absurd cc

abbrev pub failed : {X : Type 0} → ParseError → Result X ParseError
failed e = Err e

pub left_is : {X : Type 0} (d e : ParseError) → failed {X = X} d ≡ failed {X = X} e → d ≡ e
left_is d e h = cc

pub and_then_err : {A B : Type 0} (o : Outcome A) (g : A → Tokens → Outcome B) (e : ParseError) → and_then o g ≡ Err e
    → (o ≡ Err e) ⊎ ((p : A × Tokens) × (o ≡ Ok p) × (g p.0 p.1 ≡ Err e))
and_then_err (Ok p) g e h = inr (p, refl, h)
and_then_err (Err d) g e h = inl (ap (λ (x : ParseError). Err x) (left_is d e h))

abbrev pub done : {A : Type 0} → A → Tokens → Outcome A
done a ys = Ok (a, ys)

okay : {X : Type 0} → X → Result X ParseError
okay x = Ok x

ok_is : {X : Type 0} (x y : X) → okay x ≡ okay y → x ≡ y
unfolding okay
ok_is x y e = cc

pub same_value : {A : Type 0} (a b : A) (xs ys : Tokens) → done a xs ≡ done b ys → (b ≡ a) × (xs ≡ ys)
unfolding okay
same_value {A = A} a b xs ys e =
    let p = ok_is (a, xs) (b, ys) e in
    (sym (ap (λ (q : A × Tokens). q.0) p), ap (λ (q : A × Tokens). q.1) p)

-- which way a test went
pub chosen : {X : Type 0} (b : Bool) (x y z : X) → cond b x y ≡ z → ((b ≡ true) × (x ≡ z)) ⊎ ((b ≡ false) × (y ≡ z))
chosen true x y z e = inl (refl, e)
chosen false x y z e = inr (refl, e)

pub refused_length : (x y : Tokens) → refusal x ≡ refusal y → length x ≡ length y
refused_length x y e = cc

-- ---- fronts

pub no_front : (front us : Tokens) → front ++ us ≡ us → front ≡ []
no_front [] us e = refl
no_front (x ∷ front) us e = absurd (omega (arith, length-append front us, ap length e))

pub no_front_by : (front us vs : Tokens) → length (front ++ us) ≡ length us → front ≡ []
no_front_by [] us vs e = refl
no_front_by (x ∷ front) us vs e = absurd (omega (arith, length-append front us))

pub same_here : (front us vs : Tokens) → LooksSame front us vs → ahead (front ++ us) ≡ ahead (front ++ vs)
same_here [] us vs h = h.0
same_here (x ∷ front) us vs h = h.0

pub same_ahead : (front us vs : Tokens) → LooksSame front us vs → SameAhead (front ++ us) (front ++ vs)
same_ahead [] us vs h = h
same_ahead (x ∷ front) us vs h = (h.0, refl)

pub same_first : (a b us vs : Tokens) → LooksSame (a ++ b) us vs → LooksSame a (b ++ us) (b ++ vs)
same_first [] b us vs h = same_ahead b us vs h
same_first (x ∷ a) b us vs h =
    (ap (λ (z : Tokens). ahead (x ∷ z)) (sym (append_assoc a b us)) ∙ h.0 ∙ ap (λ (z : Tokens). ahead (x ∷ z)) (append_assoc a b vs), same_first a b us vs h.1)

pub same_second : (a b us vs : Tokens) → LooksSame (a ++ b) us vs → LooksSame b us vs
same_second [] b us vs h = h
same_second (x ∷ a) b us vs h = same_second a b us vs h.1

pub keeps : {A : Type 0} (r : Rule A) (first stop : Set) → Laws r first stop → (xs ys : Tokens) (a : A) → r.reads a xs ys → length ys ≤ length xs
keeps r first stop l xs ys a h =
    let s = l.splits xs ys a h in
    omega (arith, length-append s.front ys, ap length s.whole)

-- ---- nothing is read

stays_on : {A : Type 0} (r : Rule A) (a : A) → ((xs : Tokens) → r.run xs ≡ Ok (a, xs)) → (front us vs : Tokens) (b : A) → r.run (front ++ us) ≡ Ok (b, us)
    → r.run (front ++ vs) ≡ Ok (b, vs)
stays_on r a now front us vs b e =
    let p = same_value a b (front ++ us) us (sym (now (front ++ us)) ∙ e) in
    rw (no_front front us p.1, p.0) (now vs)

pure_laws : {A : Type 0} (a : A) (p : Set) → Laws (pure a) p p
pure_laws a p = record {
  sound = λ xs ys b e. same_value a b xs ys e;
  whole = λ xs ys b h s. cc (h.0, h.1);
  starts = λ xs ys b h s. subst (λ (z : Tokens). p (ahead z) ≡ true) (sym h.1) s;
  splits = λ xs ys b h. record { front = []; whole = h.1; free = λ zs. (h.0, refl) };
  stuck = λ xs e h. absurd cc;
  reads_on = λ front us vs b e h. stays_on (pure a) a (λ xs. refl) front us vs b e;
  stops = λ front us vs t e h. absurd cc;
  shows = λ xs ys b h s. refl;
  same = λ us vs h. refl;
}

pub pure_law : {A : Type 0} (a : A) (p : Set) → Full (pure a) p p
pure_law a p = record { laws = pure_laws a p; sample = record { more = []; value = a; reads = λ zs. (refl, refl) } }

pub refuses_on : {A : Type 0} (r : Rule A) → ((xs : Tokens) → r.run xs ≡ Err (refusal xs)) → (front us vs : Tokens) (t : Token)
    → r.run (front ++ (t ∷ us)) ≡ Err (refusal (t ∷ us)) → r.run (front ++ (t ∷ vs)) ≡ Err (refusal (t ∷ vs))
refuses_on r now front us vs t e =
    let l = refused_length (front ++ (t ∷ us)) (t ∷ us) (left_is (refusal (front ++ (t ∷ us))) (refusal (t ∷ us)) (sym (now (front ++ (t ∷ us))) ∙ e)) in
    rw (no_front_by front (t ∷ us) vs l) (now (t ∷ vs))

pub refuses_ok : {A : Type 0} (xs ys : Tokens) (a : A) → failed {X = A × Tokens} (refusal xs) ≡ Ok (a, ys) → ⊥
refuses_ok xs ys a e = absurd cc

pub fail_law : {A : Type 0} (first stop : Set) → Laws (fail {A = A}) first stop
fail_law {A = A} first stop = record {
  sound = λ xs ys a e. absurd (refuses_ok xs ys a e);
  whole = λ xs ys a h s. absurd h;
  starts = λ xs ys a h s. absurd h;
  splits = λ xs ys a h. absurd h;
  stuck = λ xs e h. stuck_here fail xs e (sym (left_is (refusal xs) e h));
  reads_on = λ front us vs a e h. absurd (refuses_ok (front ++ us) us a e);
  stops = λ front us vs t e h. refuses_on (fail {A = A}) (λ xs. refl) front us vs t e;
  shows = λ xs ys a h s. absurd h;
  same = λ us vs h. refl;
}

only_sound : (c : Bool) (xs ys : Tokens) (u : Unit {0}) → (only c).run xs ≡ Ok (u, ys) → (c ≡ true) × (xs ≡ ys)
only_sound true xs ys u e = (refl, (same_value u u xs ys e).1)
only_sound false xs ys u e = absurd cc

only_stuck : (c : Bool) (xs : Tokens) (e : ParseError) → (only c).run xs ≡ Err e → Stuck (only c) xs e
only_stuck true xs e h = absurd cc
only_stuck false xs e h = stuck_here (only false) xs e (sym (left_is (refusal xs) e h))

only_on : (c : Bool) (front us vs : Tokens) (u : Unit {0}) → (only c).run (front ++ us) ≡ Ok (u, us) → (only c).run (front ++ vs) ≡ Ok (u, vs)
only_on true front us vs u e = stays_on (only true) tt (λ xs. refl) front us vs u e
only_on false front us vs u e = absurd cc

only_stops : (c : Bool) (front us vs : Tokens) (t : Token) → (only c).run (front ++ (t ∷ us)) ≡ Err (refusal (t ∷ us))
    → (only c).run (front ++ (t ∷ vs)) ≡ Err (refusal (t ∷ vs))
only_stops true front us vs t e = absurd cc
only_stops false front us vs t e = refuses_on (only false) (λ xs. refl) front us vs t e

pub only_law : (c : Bool) (p : Set) → Laws (only c) p p
only_law c p = record {
  sound = λ xs ys u e. only_sound c xs ys u e;
  whole = λ xs ys u h s. rw (h.0, h.1) refl;
  starts = λ xs ys u h s. subst (λ (z : Tokens). p (ahead z) ≡ true) (sym h.1) s;
  splits = λ xs ys u h. record { front = []; whole = h.1; free = λ zs. (h.0, refl) };
  stuck = λ xs e h. only_stuck c xs e h;
  reads_on = λ front us vs u e h. only_on c front us vs u e;
  stops = λ front us vs t e h. only_stops c front us vs t e;
  shows = λ xs ys u h s. refl;
  same = λ us vs h. refl;
}

-- ---- one token

taken_sound : {A : Type 0} (f : Token → Option A) (t : Token) (ts ys : Tokens) (a : A) (o : Option A) → f t ≡ o → taken o (t ∷ ts) ts ≡ Ok (a, ys)
    → (u : Token) × (t ∷ ts ≡ u ∷ ys) × (f u ≡ Some a)
taken_sound f t ts ys a None h e = absurd cc
taken_sound f t ts ys a (Some x) h e =
    let p = same_value x a ts ys e in
    (t, ap (λ (z : Tokens). t ∷ z) p.1, h ∙ ap Some (sym p.0))

terminal_sound : {A : Type 0} (f : Token → Option A) (xs ys : Tokens) (a : A) → terminal_run f xs ≡ Ok (a, ys) → (t : Token) × (xs ≡ t ∷ ys) × (f t ≡ Some a)
terminal_sound f [] ys a e = absurd cc
terminal_sound f (t ∷ ts) ys a e = taken_sound f t ts ys a (f t) refl e

taken_place : {A : Type 0} (o : Option A) (all rest : Tokens) (e : ParseError) → taken o all rest ≡ Err e → e ≡ refusal all
taken_place (Some a) all rest e h = absurd cc
taken_place None all rest e h = sym (left_is (refusal all) e h)

terminal_place : {A : Type 0} (f : Token → Option A) (xs : Tokens) (e : ParseError) → terminal_run f xs ≡ Err e → e ≡ refusal xs
terminal_place f [] e h = sym (left_is (refusal []) e h)
terminal_place f (t ∷ ts) e h = taken_place (f t) (t ∷ ts) ts e h

terminal_on : {A : Type 0} (f : Token → Option A) (front us vs : Tokens) (a : A) → terminal_run f (front ++ us) ≡ Ok (a, us)
    → terminal_run f (front ++ vs) ≡ Ok (a, vs)
terminal_on f [] us vs a e =
    let h = terminal_sound f us us a e in
    absurd (omega (arith, ap length h.1))
terminal_on f (x ∷ front) us vs a e =
    let h = terminal_sound f (x ∷ (front ++ us)) us a e in
    let none : front ≡ [] = no_front_by front us vs (omega (arith, ap length h.1)) in
    let here : x ∷ us ≡ h.0 ∷ us = ap (λ (z : Tokens). x ∷ (z ++ us)) (sym none) ∙ h.1 in
    let is : f x ≡ Some a = first_of (cc (here, h.2)) in
    rw (none, is) refl

taken_stops : {A : Type 0} (o : Option A) (all others rest more : Tokens) (e : ParseError) → taken o all rest ≡ Err e
    → taken o others more ≡ Err (refusal others)
taken_stops (Some a) all others rest more e h = absurd cc
taken_stops None all others rest more e h = refl

terminal_stops : {A : Type 0} (f : Token → Option A) (front us vs : Tokens) (t : Token) → terminal_run f (front ++ (t ∷ us)) ≡ Err (refusal (t ∷ us))
    → terminal_run f (front ++ (t ∷ vs)) ≡ Err (refusal (t ∷ vs))
terminal_stops f [] us vs t e = taken_stops (f t) (t ∷ us) (t ∷ vs) us vs (refusal (t ∷ us)) e
terminal_stops f (x ∷ front) us vs t e =
    let p = refused_length (t ∷ us) (x ∷ (front ++ (t ∷ us))) (terminal_place f (x ∷ (front ++ (t ∷ us))) (refusal (t ∷ us)) e) in
    absurd (omega (arith, p, length-append front (t ∷ us)))

some_is : {A : Type 0} (o : Option A) (a : A) → o ≡ Some a → is_some o ≡ true
some_is o a h = rw h refl

pub accepts_by : {A : Type 0} (f : Token → Option A) (t : Token) (ts : Tokens) (o : Option A) → f t ≡ o → is_some o ≡ accepts f (t ∷ ts)
accepts_by f t ts o h = rw h refl

accepts_next : {A : Type 0} (f : Token → Option A) (us vs : Tokens) → next us ≡ next vs → accepts f us ≡ accepts f vs
accepts_next f [] [] h = refl
accepts_next f [] (v ∷ vs) h = absurd cc
accepts_next f (u ∷ us) [] h = absurd cc
accepts_next f (u ∷ us) (v ∷ vs) h =
    let e : u ≡ v = cc in
    rw e refl

pub terminal_same : {A : Type 0} (f : Token → Option A) (us vs : Tokens) → SameAhead us vs → accepts f us ≡ accepts f vs
terminal_same f us vs h = accepts_next f us vs h.1

pub terminal_law : {A : Type 0} (f : Token → Option A) (first stop : Set)
    → ((t : Token) (ts : Tokens) (a : A) → f t ≡ Some a → stop (ahead ts) ≡ true → first (ahead (t ∷ ts)) ≡ true) → Laws (terminal f) first stop
terminal_law f first stop begins = record {
  sound = λ xs ys a e. terminal_sound f xs ys a e;
  whole = λ xs ys a h s. rw (h.1, h.2) refl;
  starts = λ xs ys a h s. rw h.1 (begins h.0 ys a h.2 s);
  splits = λ xs ys a h. record { front = h.0 ∷ []; whole = h.1; free = λ zs. (h.0, refl, h.2) };
  stuck = λ xs e h. stuck_here (terminal f) xs e (terminal_place f xs e h);
  reads_on = λ front us vs a e h. terminal_on f front us vs a e;
  stops = λ front us vs t e h. terminal_stops f front us vs t e;
  shows = λ xs ys a h s. rw h.1 (some_is (f h.0) a h.2);
  same = λ us vs h. terminal_same f us vs h;
}

-- where the rule takes no token
no_one : {A : Type 0} (f : Token → Option A) (p q : Set) → ((t : Token) (ts : Tokens) (a : A) → f t ≡ Some a → q (ahead (t ∷ ts)) ≡ true) → Apart p q
    → (t : Token) (ts : Tokens) (o : Option A) → f t ≡ o → p (ahead (t ∷ ts)) ≡ true → is_some o ≡ false
no_one f p q takes ap t ts None h e = refl
no_one f p q takes ap t ts (Some a) h e =
    let c = ap (ahead (t ∷ ts)) e in
    let d = takes t ts a h in
    absurd cc

pub misses : {A : Type 0} (f : Token → Option A) (p q : Set) → ((t : Token) (ts : Tokens) (a : A) → f t ≡ Some a → q (ahead (t ∷ ts)) ≡ true) → Apart p q
    → (xs : Tokens) → p (ahead xs) ≡ true → accepts f xs ≡ false
misses f p q takes ap [] e = refl
misses f p q takes ap (t ∷ ts) e = no_one f p q takes ap t ts (f t) refl e

-- a token that the rule takes
pub taking : {A : Type 0} (f : Token → Option A) (t : Token) (a : A) → f t ≡ Some a → Completes (terminal f) []
taking f t a h = record { more = t ∷ []; value = a; reads = λ zs. (t, refl, h) }

pub terminal_eats : {A : Type 0} (f : Token → Option A) (xs ys : Tokens) (a : A) → (terminal f).reads a xs ys → length ys < length xs
terminal_eats f xs ys a h = omega (arith, ap length h.1)
