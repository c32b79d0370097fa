-- What holds of one rule after another, and of one or the other.
use Rattle.std.specs.Prelude.{◌||◌}
use Rattle.std.proofs.Common.{◌≡◌, ℕ, inl, inr, Bool, true, false, cond, [], ◌∷◌, ◌++◌, length, drop, Ok, Err, refl, sym, ap, subst, ◌∙◌, arith, append_assoc}
use Rattle.std.proofs.lemmas.List.{append_cancel_right, length-append}
use Rattle.std.proofs.Math.Seq.{drop-append_seam}
use Rattle.elan_tree.specs.declared.token.Token.{Token}
use Rattle.elan_grammar.specs.declared.error.ParseError.{ParseError}
use Rattle.elan_grammar.specs.Kinds.{ahead}
use Rattle.elan_grammar.proofs.Looks.{SameAhead, LooksSame}
use Rattle.elan_grammar.specs.Rule.{Tokens, refusal, Rule, ◌>>=◌, only, starting, seen, guard, choose}
use Rattle.elan_grammar.proofs.Laws.{Completes, Full, Laws, Set, Splits, Stuck, Within, after_completes, and_then_err, and_then_ok, bind_completes}
use Rattle.elan_grammar.proofs.Laws.{chosen, left_is, only_law, refused_length, refuses_ok, refuses_on, same_first, same_ahead, same_second, some_or_none}
use Rattle.elan_grammar.proofs.Laws.{stuck_here}

-- ---- one rule after another

pub bind_splits : {A B : Type 0} (r : Rule A) (f : A → Rule B) (xs ys : Tokens) (b : B)
    → ((xs ys : Tokens) (a : A) → r.reads a xs ys → Splits r xs ys a) → ((a : A) (xs ys : Tokens) (b : B) → (f a).reads b xs ys → Splits (f a) xs ys b)
    → (r >>= f).reads b xs ys → Splits (r >>= f) xs ys b
bind_splits r f xs ys b sr sf h =
    let s = sr xs h.1 h.0 h.2 in
    let t = sf h.0 h.1 ys b h.3 in
    record {
      front = s.front ++ t.front;
      whole = s.whole ∙ ap (λ (z : Tokens). s.front ++ z) t.whole ∙ sym (append_assoc s.front t.front ys);
      free =
          λ zs. (
            h.0,
            t.front ++ zs,
            subst (λ (z : Tokens). r.reads h.0 z (t.front ++ zs)) (sym (append_assoc s.front t.front zs)) (s.free (t.front ++ zs)),
            t.free zs,
          );
    }

pub same_end : (a b x y : Tokens) → a ++ x ≡ b ++ y → length x ≡ length y → x ≡ y
same_end a b x y e l =
    let k : length a ≡ length b = omega (arith, length-append a x, length-append b y, ap length e) in
    sym (drop-append_seam a x) ∙ ap (λ (z : Tokens). drop (length a) z) e ∙ ap (λ (m : ℕ). drop m (b ++ y)) k ∙ drop-append_seam b y

-- A first part reads on before another second part.
pub first_part : {A : Type 0} (r : Rule A) (first stop : Set) → Laws r first stop → (front second us vs mid : Tokens) (a : A)
    → r.run (front ++ us) ≡ Ok (a, mid) → mid ≡ second ++ us → LooksSame front us vs
    → (r.run (front ++ vs) ≡ Ok (a, second ++ vs)) × LooksSame second us vs
first_part r first stop l front second us vs mid a run is h =
    let s = l.splits (front ++ us) mid a (l.sound (front ++ us) mid a run) in
    let eq : front ≡ s.front ++ second =
    append_cancel_right front (s.front ++ second) us (s.whole ∙ ap (λ (z : Tokens). s.front ++ z) is ∙ sym (append_assoc s.front second us)) in
    let k : LooksSame (s.front ++ second) us vs = subst (λ (z : Tokens). LooksSame z us vs) eq h in
    let here : r.run (s.front ++ (second ++ us)) ≡ Ok (a, second ++ us) =
    ap (λ (z : Tokens). r.run (s.front ++ z)) (sym is) ∙ ap (λ (z : Tokens). r.run z) (sym s.whole) ∙ run ∙ ap (λ (z : Tokens). Ok (a, z)) is in
    let there = l.reads_on s.front (second ++ us) (second ++ vs) a here (same_first s.front second us vs k) in
    (ap (λ (z : Tokens). r.run z) (ap (λ (z : Tokens). z ++ vs) eq ∙ append_assoc s.front second vs) ∙ there, same_second s.front second us vs k)

-- The place where the second part is stuck lies behind the first part.
pub place_behind : {A B : Type 0} (r : Rule A) (q : Rule B) (first stop : Set) → Laws r first stop → (front us mid : Tokens) (a : A)
    → r.run (front ++ us) ≡ Ok (a, mid) → Stuck q mid (refusal us) → (second : Tokens) × (mid ≡ second ++ us)
place_behind r other first stop l front us mid a run q =
    let s = l.splits (front ++ us) mid a (l.sound (front ++ us) mid a run) in
    let whole : front ++ us ≡ (s.front ++ q.front) ++ q.rest =
    s.whole ∙ ap (λ (z : Tokens). s.front ++ z) q.whole ∙ sym (append_assoc s.front q.front q.rest) in
    let rest : us ≡ q.rest = same_end front (s.front ++ q.front) us q.rest whole (refused_length us q.rest q.place) in
    (q.front, q.whole ∙ ap (λ (z : Tokens). q.front ++ z) (sym rest))

module _ {A B : Type 0} (r : Rule A) (f : A → Rule B) (r1 r2 f1 f2 : Set) (lr : Laws r r1 r2) (lf : (a : A) → Laws (f a) f1 f2) where
  bind_stuck : ((a : A) → Completes (f a) []) → (xs : Tokens) (e : ParseError) → (r >>= f).run xs ≡ Err e → Stuck (r >>= f) xs e
  bind_stuck sf xs e h = elim (and_then_err (r.run xs) (λ a zs. (f a).run zs) e h) [
    | inl x ↦
        let s = lr.stuck xs e x in
        record { front = s.front; rest = s.rest; whole = s.whole; place = s.place; viable = λ some. bind_completes r f s.front (s.viable some) sf }
    | inr x ↦
        let a = x.0.0 in
        let p = lr.splits xs x.0.1 a (lr.sound xs x.0.1 a x.1) in
        let s = (lf a).stuck x.0.1 e x.2 in
        record {
          front = p.front ++ s.front;
          rest = s.rest;
          whole = p.whole ∙ ap (λ (z : Tokens). p.front ++ z) s.whole ∙ sym (append_assoc p.front s.front s.rest);
          place = s.place;
          viable = λ some. after_completes r f p.front s.front a p.free (elim (some_or_none s.front) [
            | inl none ↦ subst (λ (z : Tokens). Completes (f a) z) (sym none) (sf a)
            | inr more ↦ s.viable more
          ]);
        }
  ]

  bind_reads_on : (front us vs : Tokens) (b : B) → (r >>= f).run (front ++ us) ≡ Ok (b, us) → LooksSame front us vs → (r >>= f).run (front ++ vs) ≡ Ok (b, vs)
  bind_reads_on front us vs b e h =
      let o = and_then_ok (r.run (front ++ us)) (λ a zs. (f a).run zs) (b, us) e in
      let a = o.0.0 in
      let mid = o.0.1 in
      let t = (lf a).splits mid us b ((lf a).sound mid us b o.2) in
      let p = first_part r r1 r2 lr front t.front us vs mid a o.1 t.whole h in
      let later = (lf a).reads_on t.front us vs b (ap (λ (z : Tokens). (f a).run z) (sym t.whole) ∙ o.2) p.1 in
      rw p.0 later

  bind_stops : (front us vs : Tokens) (t : Token) → (r >>= f).run (front ++ (t ∷ us)) ≡ Err (refusal (t ∷ us)) → LooksSame front (t ∷ us) (t ∷ vs)
      → (r >>= f).run (front ++ (t ∷ vs)) ≡ Err (refusal (t ∷ vs))
  bind_stops front us vs t e h =
      elim (and_then_err (r.run (front ++ (t ∷ us))) (λ a zs. (f a).run zs) (refusal (t ∷ us)) e) [
        | inl x ↦ rw (lr.stops front us vs t x h) refl
        | inr x ↦
            let a = x.0.0 in
            let mid = x.0.1 in
            let q = place_behind r (f a) r1 r2 lr front (t ∷ us) mid a x.1 ((lf a).stuck mid (refusal (t ∷ us)) x.2) in
            let p = first_part r r1 r2 lr front q.0 (t ∷ us) (t ∷ vs) mid a x.1 q.1 h in
            let later = (lf a).stops q.0 us vs t (ap (λ (z : Tokens). (f a).run z) (sym q.1) ∙ x.2) p.1 in
            rw p.0 later
      ]

  pub bind_by : ((xs : Tokens) (e : ParseError) → (r >>= f).run xs ≡ Err e → Stuck (r >>= f) xs e) → Within f1 r2 → Laws (r >>= f) r1 f2
  bind_by stuck w = record {
    sound = λ xs ys b e.
        let o = and_then_ok (r.run xs) (λ a zs. (f a).run zs) (b, ys) e in
        (o.0.0, o.0.1, lr.sound xs o.0.1 o.0.0 o.1, (lf o.0.0).sound o.0.1 ys b o.2);
    whole = λ xs ys b h s.
        let first = lr.whole xs h.1 h.0 h.2 (w (ahead h.1) ((lf h.0).starts h.1 ys b h.3 s)) in
        rw first ((lf h.0).whole h.1 ys b h.3 s);
    starts = λ xs ys b h s. lr.starts xs h.1 h.0 h.2 (w (ahead h.1) ((lf h.0).starts h.1 ys b h.3 s));
    splits = λ xs ys b h. bind_splits r f xs ys b lr.splits (λ a. (lf a).splits) h;
    stuck = stuck;
    reads_on = bind_reads_on;
    stops = bind_stops;
    shows = λ xs ys b h s. lr.shows xs h.1 h.0 h.2 (w (ahead h.1) ((lf h.0).starts h.1 ys b h.3 s));
    same = lr.same;
  }

-- a rule and one that reads something behind it
pub bind_part : {A B : Type 0} (r : Rule A) (f : A → Rule B) (r1 r2 f1 f2 : Set) → Laws r r1 r2 → ((a : A) → Full (f a) f1 f2) → Within f1 r2
    → Laws (r >>= f) r1 f2
bind_part r f r1 r2 f1 f2 lr lf w = bind_by r f r1 r2 f1 f2 lr (λ a. (lf a).laws) (bind_stuck r f r1 r2 f1 f2 lr (λ a. (lf a).laws) (λ a. (lf a).sample)) w

pub bind_law : {A B : Type 0} (r : Rule A) (f : A → Rule B) (r1 r2 f1 f2 : Set) → Full r r1 r2 → ((a : A) → Full (f a) f1 f2) → Within f1 r2
    → Full (r >>= f) r1 f2
bind_law r f r1 r2 f1 f2 lr lf w = record { laws = bind_part r f r1 r2 f1 f2 lr.laws lf w; sample = bind_completes r f [] lr.sample (λ a. (lf a).sample) }

-- A guard is asked before any token is read, so what follows may rest on it.
guarded_stuck : {B : Type 0} (r : Rule B) (first stop : Set) → Laws r first stop → (xs : Tokens) (e : ParseError) → (only true >>= (λ _. r)).run xs ≡ Err e
    → Stuck (only true >>= (λ _. r)) xs e
guarded_stuck r first stop l xs e h =
    let s = l.stuck xs e h in
    record {
      front = s.front;
      rest = s.rest;
      whole = s.whole;
      place = s.place;
      viable = λ some.
          let c = s.viable some in
          record { more = c.more; value = c.value; reads = λ zs. (tt, s.front ++ (c.more ++ zs), (refl, refl), c.reads zs) };
    }

pub no_guard : {X : Type 0} → false ≡ true → X
no_guard e = absurd cc

pub only_then : {B : Type 0} (c : Bool) (r : Rule B) (first stop : Set) → (c ≡ true → Laws r first stop) → Laws (only c >>= (λ _. r)) first stop
only_then true r first stop l =
    bind_by (only true) (λ _. r) first first first stop (only_law true first) (λ _. l refl) (guarded_stuck r first stop (l refl)) (λ x h. h)
only_then false r first stop l = record {
  sound = λ xs ys b e. absurd (refuses_ok xs ys b e);
  whole = λ xs ys b h s. no_guard h.2.0;
  starts = λ xs ys b h s. no_guard h.2.0;
  splits = λ xs ys b h. no_guard h.2.0;
  stuck = λ xs e h. stuck_here (only false >>= (λ _. r)) xs e (sym (left_is (refusal xs) e h));
  reads_on = λ front us vs b e h. absurd (refuses_ok (front ++ us) us b e);
  stops = λ front us vs t e h. refuses_on (only false >>= (λ _. r)) (λ xs. refl) front us vs t e;
  shows = λ xs ys b h s. no_guard h.2.0;
  same = λ us vs h. refl;
}

-- the same rule, chosen by another look
restarted : {A : Type 0} (r : Rule A) (b : Tokens → Bool) (front : Tokens) → Completes r front → Completes (starting b r) front
restarted r b front c = record { more = c.more; value = c.value; reads = c.reads }

pub starting_law : {A : Type 0} (r : Rule A) (b : Tokens → Bool) (first stop : Set) → Laws r first stop
    → ((xs ys : Tokens) (a : A) → r.reads a xs ys → stop (ahead ys) ≡ true → b xs ≡ true) → ((us vs : Tokens) → SameAhead us vs → b us ≡ b vs)
    → Laws (starting b r) first stop
starting_law r b first stop l shows same = record {
  sound = l.sound;
  whole = l.whole;
  starts = l.starts;
  splits = λ xs ys a h. let s = l.splits xs ys a h in record { front = s.front; whole = s.whole; free = s.free };
  stuck = λ xs e h.
      let s = l.stuck xs e h in
      record { front = s.front; rest = s.rest; whole = s.whole; place = s.place; viable = λ some. restarted r b s.front (s.viable some) };
  reads_on = l.reads_on;
  stops = l.stops;
  shows = shows;
  same = same;
}

pub seen_law : {A : Type 0} (b : Set) (r : Rule A) (first stop : Set) → Laws r first stop → Within first b → Laws (seen b r) first stop
seen_law b r first stop l w = starting_law r (λ xs. b (ahead xs)) first stop l (λ xs ys a h s. w (ahead xs) (l.starts xs ys a h s)) (λ us vs h. ap b h.0)

pub seen_full : {A : Type 0} (b : Set) (r : Rule A) (first stop : Set) → Full r first stop → Within first b → Full (seen b r) first stop
seen_full b r first stop l w =
    record { laws = seen_law b r first stop l.laws w; sample = restarted r (λ xs. b (ahead xs)) [] l.sample }

pub guard_law : {B : Type 0} (c : Bool) (r : Rule B) (first stop : Set) → ((us vs : Tokens) → SameAhead us vs → r.starts us ≡ r.starts vs)
    → (c ≡ true → Laws r first stop) → Laws (guard c r) first stop
guard_law c r first stop same l =
    starting_law (only c >>= (λ _. r)) r.starts first stop (only_then c r first stop l)
    (λ xs ys b h s. subst (λ (z : Tokens). r.starts z ≡ true) (sym h.2.1) ((l h.2.0).shows h.1 ys b h.3 s)) same

-- ---- one or the other

on_test : {X : Type 0} (b c : Bool) (x y u v z w : X) → b ≡ c → (x ≡ z → u ≡ w) → (y ≡ z → v ≡ w) → cond b x y ≡ z → cond c u v ≡ w
on_test true true x y u v z w e f g h = f h
on_test false false x y u v z w e f g h = g h
on_test true false x y u v z w e f g h = absurd cc
on_test false true x y u v z w e f g h = absurd cc

first_completes : {A : Type 0} (r s : Rule A) (front : Tokens) → Completes r front → Completes (choose r s) front
first_completes r s front c = record { more = c.more; value = c.value; reads = λ zs. inl (c.reads zs) }

second_completes : {A : Type 0} (r s : Rule A) (front : Tokens) → Completes s front → Completes (choose r s) front
second_completes r s front c = record { more = c.more; value = c.value; reads = λ zs. inr (c.reads zs) }

pub or_false : (a b : Bool) → a ≡ false → b ≡ false → (a || b) ≡ false
or_false a b e h = rw (e, h) refl

or_true : (a b : Bool) → b ≡ true → (a || b) ≡ true
or_true true b h = refl
or_true false b h = h

-- The second begins with what the first does not.
abbrev pub Others : {A : Type 0} → Set → Rule A → Type 0
Others p r = (xs : Tokens) → p (ahead xs) ≡ true → r.starts xs ≡ false

pub choose_part : {A : Type 0} (r s : Rule A) (r1 s1 first stop : Set) → Laws r r1 stop → Laws s s1 stop
    → Others s1 r → Within r1 first → Within s1 first → Laws (choose r s) first stop
choose_part r s r1 s1 first stop lr ls others fr fs = record {
  sound = λ xs ys a e. elim (chosen (r.starts xs) (r.run xs) (s.run xs) (Ok (a, ys)) e) [
    | inl h ↦ inl (lr.sound xs ys a h.1)
    | inr h ↦ inr (ls.sound xs ys a h.1)
  ];
  whole = λ xs ys a h t. elim h [
    | inl x ↦ rw (lr.shows xs ys a x t) (lr.whole xs ys a x t)
    | inr x ↦ rw (others xs (ls.starts xs ys a x t)) (ls.whole xs ys a x t)
  ];
  starts = λ xs ys a h t. elim h [
    | inl x ↦ fr (ahead xs) (lr.starts xs ys a x t)
    | inr x ↦ fs (ahead xs) (ls.starts xs ys a x t)
  ];
  splits = λ xs ys a h. elim h [
    | inl x ↦ let p = lr.splits xs ys a x in record { front = p.front; whole = p.whole; free = λ zs. inl (p.free zs) }
    | inr x ↦ let p = ls.splits xs ys a x in record { front = p.front; whole = p.whole; free = λ zs. inr (p.free zs) }
  ];
  stuck = λ xs e h. elim (chosen (r.starts xs) (r.run xs) (s.run xs) (Err e) h) [
    | inl x ↦
        let p = lr.stuck xs e x.1 in
        record { front = p.front; rest = p.rest; whole = p.whole; place = p.place; viable = λ some. first_completes r s p.front (p.viable some) }
    | inr x ↦
        let p = ls.stuck xs e x.1 in
        record { front = p.front; rest = p.rest; whole = p.whole; place = p.place; viable = λ some. second_completes r s p.front (p.viable some) }
  ];
  reads_on =
      λ front us vs a e h. on_test (r.starts (front ++ us)) (r.starts (front ++ vs)) (r.run (front ++ us)) (s.run (front ++ us)) (r.run (front ++ vs))
      (s.run (front ++ vs)) (Ok (a, us)) (Ok (a, vs))
      (lr.same (front ++ us) (front ++ vs) (same_ahead front us vs h)) (λ x. lr.reads_on front us vs a x h) (λ x. ls.reads_on front us vs a x h) e;
  stops =
      λ front us vs t e h. on_test (r.starts (front ++ (t ∷ us))) (r.starts (front ++ (t ∷ vs))) (r.run (front ++ (t ∷ us))) (s.run (front ++ (t ∷ us)))
      (r.run (front ++ (t ∷ vs))) (s.run (front ++ (t ∷ vs))) (Err (refusal (t ∷ us))) (Err (refusal (t ∷ vs)))
      (lr.same (front ++ (t ∷ us)) (front ++ (t ∷ vs)) (same_ahead front (t ∷ us) (t ∷ vs) h)) (λ x. lr.stops front us vs t x h)
      (λ x. ls.stops front us vs t x h) e;
  shows = λ xs ys a h t. elim h [
    | inl x ↦ rw (lr.shows xs ys a x t) refl
    | inr x ↦ or_true (r.starts xs) (s.starts xs) (ls.shows xs ys a x t)
  ];
  same = λ us vs h. rw (lr.same us vs h, ls.same us vs h) refl;
}

-- Where the second reads something, so does the choice.
pub choose_law : {A : Type 0} (r s : Rule A) (r1 s1 first stop : Set) → Laws r r1 stop → Full s s1 stop
    → Others s1 r → Within r1 first → Within s1 first → Full (choose r s) first stop
choose_law r s r1 s1 first stop lr ls others fr fs =
    record { laws = choose_part r s r1 s1 first stop lr ls.laws others fr fs; sample = second_completes r s [] ls.sample }

-- the same where the first does
pub choose_first : {A : Type 0} (r s : Rule A) (r1 s1 first stop : Set) → Full r r1 stop → Laws s s1 stop
    → Others s1 r → Within r1 first → Within s1 first → Full (choose r s) first stop
choose_first r s r1 s1 first stop lr ls others fr fs =
    record { laws = choose_part r s r1 s1 first stop lr.laws ls others fr fs; sample = first_completes r s [] lr.sample }
