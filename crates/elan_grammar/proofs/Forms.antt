-- What holds of the forms that productions are made of.
use Rattle.std.proofs.Common.{◌≡◌, ◌<◌, Bool, true, false, List, [], ◌∷◌, ◌++◌, length, Option, Some, inl, inr, ap, refl, arith}
use Rattle.elan_tree.specs.declared.token.Token.{Token}
use Rattle.elan_grammar.specs.declared.kind.Kind.{Kind}
use Rattle.elan_grammar.specs.declared.kind.Kind.TheVariants as k
use Rattle.elan_grammar.specs.Kinds.{ahead}
use Rattle.elan_grammar.specs.Rule.{Tokens, Rule, pure, ◌>>=◌, terminal, seen, guard, choose, optional, one_more, in_row, further, listed}
use Rattle.elan_grammar.proofs.Laws.{Set, Within, Apart, Laws, Full, keeps, pure_law, terminal_eats}
use Rattle.elan_grammar.proofs.Looks.{SameAhead}
use Rattle.elan_grammar.proofs.Sequences.{Others, bind_part, bind_law, seen_law, guard_law, choose_part, choose_law}
use Rattle.elan_grammar.proofs.Repeats.{iterate_law}

pub bind_same : {A B : Type 0} (r : Rule A) (f : A → Rule B) (r1 f1 f2 : Set) → Full r r1 f1 → ((a : A) → Full (f a) f1 f2) → Full (r >>= f) r1 f2
bind_same r f r1 f1 f2 lr lf = bind_law r f r1 f1 f1 f2 lr lf (λ x h. h)

-- the same where the first rule may read nothing, as at a depth that is too small
pub part_same : {A B : Type 0} (r : Rule A) (f : A → Rule B) (r1 f1 f2 : Set) → Laws r r1 f1 → ((a : A) → Full (f a) f1 f2) → Laws (r >>= f) r1 f2
part_same r f r1 f1 f2 lr lf = bind_part r f r1 f1 f1 f2 lr lf (λ x h. h)

-- what may begin with more kinds
pub wider_part : {A : Type 0} (r : Rule A) (p q stop : Set) → Laws r p stop → Within p q → Laws r q stop
wider_part r p q stop l w =
    record {
      sound = l.sound;
      whole = l.whole;
      starts =
          λ xs ys a h s. w (ahead xs) (l.starts xs ys a h s);
      splits = l.splits;
      stuck = l.stuck;
      reads_on = l.reads_on;
      stops = l.stops;
      shows = l.shows;
      same = l.same;
    }

-- what may be followed by fewer kinds
narrower_part : {A : Type 0} (r : Rule A) (first p q : Set) → Laws r first p → Within q p → Laws r first q
narrower_part r first p q l w = record {
  sound = l.sound;
  whole = λ xs ys a h s. l.whole xs ys a h (w (ahead ys) s);
  starts = λ xs ys a h s. l.starts xs ys a h (w (ahead ys) s);
  splits = l.splits;
  stuck = l.stuck;
  reads_on = l.reads_on;
  stops = l.stops;
  shows = λ xs ys a h s. l.shows xs ys a h (w (ahead ys) s);
  same = l.same;
}

pub narrower : {A : Type 0} (r : Rule A) (first p q : Set) → Full r first p → Within q p → Full r first q
narrower r first p q l w = record { laws = narrower_part r first p q l.laws w; sample = l.sample }

-- by another look at where it begins
refirst_part : {A : Type 0} (r : Rule A) (p q stop : Set) → Laws r p stop
    → ((xs ys : Tokens) (a : A) → r.reads a xs ys → stop (ahead ys) ≡ true → q (ahead xs) ≡ true) → Laws r q stop
refirst_part r p q stop l starts =
    record {
      sound = l.sound;
      whole = l.whole;
      starts = starts;
      splits = l.splits;
      stuck = l.stuck;
      reads_on = l.reads_on;
      stops = l.stops;
      shows = l.shows;
      same = l.same;
    }

pub refirst : {A : Type 0} (r : Rule A) (p q stop : Set) → Full r p stop
    → ((xs ys : Tokens) (a : A) → r.reads a xs ys → stop (ahead ys) ≡ true → q (ahead xs) ≡ true) → Full r q stop
refirst r p q stop l starts = record { laws = refirst_part r p q stop l.laws starts; sample = l.sample }

-- ---- rules that read at least one token

pub record Eats {A : Type 0} (r : Rule A) (first stop : Kind → Bool) : Type 0 where
  pub laws : Laws r first stop
  pub eats : (xs ys : Tokens) (a : A) → r.reads a xs ys → length ys < length xs

pub eats_terminal : {A B : Type 0} (f : Token → Option A) (then : A → Rule B) (r1 f1 f2 : Set) → Laws (terminal f) r1 f1 → ((a : A) → Full (then a) f1 f2)
    → Eats (terminal f >>= then) r1 f2
eats_terminal f then r1 f1 f2 lr lf = record {
  laws = part_same (terminal f) then r1 f1 f2 lr lf;
  eats = λ xs ys b h. omega (arith, terminal_eats f xs h.1 h.0 h.2, keeps (then h.0) f1 f2 (lf h.0).laws h.1 ys b h.3);
}

-- the same with a mark that the parser takes by what it sees ahead
pub eats_marked : {A B : Type 0} (b : Set) (f : Token → Option A) (then : A → Rule B) (r1 f1 f2 : Set) → Laws (terminal f) r1 f1 → Within r1 b
    → ((a : A) → Full (then a) f1 f2) → Eats (seen b (terminal f) >>= then) r1 f2
eats_marked b f then r1 f1 f2 lr w lf = record {
  laws = part_same (seen b (terminal f)) then r1 f1 f2 (seen_law b (terminal f) r1 f1 lr w) lf;
  eats = λ xs ys c h. omega (arith, terminal_eats f xs h.1 h.0 h.2, keeps (then h.0) f1 f2 (lf h.0).laws h.1 ys c h.3);
}

pub eats_guard : {B : Type 0} (c : Bool) (r : Rule B) (first stop : Set) → ((us vs : Tokens) → SameAhead us vs → r.starts us ≡ r.starts vs)
    → (c ≡ true → Eats r first stop) → Eats (guard c r) first stop
eats_guard c r first stop same e = record {
  laws = guard_law c r first stop same (λ ok. (e ok).laws);
  eats = λ xs ys b h. omega (arith, ap length h.2.1, (e h.2.0).eats h.1 ys b h.3);
}

-- what reads a token, and something behind it
pub eats_then : {A B : Type 0} (r : Rule A) (then : A → Rule B) (r1 f1 f2 : Set) → Eats r r1 f1 → ((a : A) → Full (then a) f1 f2) → Eats (r >>= then) r1 f2
eats_then r then r1 f1 f2 e lf = record {
  laws = part_same r then r1 f1 f2 e.laws lf;
  eats = λ xs ys b h. omega (arith, e.eats xs h.1 h.0 h.2, keeps (then h.0) f1 f2 (lf h.0).laws h.1 ys b h.3);
}

pub eats_seen : {A : Type 0} (b : Set) (r : Rule A) (first stop : Set) → Eats r first stop → Within first b → Eats (seen b r) first stop
eats_seen b r first stop e w = record { laws = seen_law b r first stop e.laws w; eats = e.eats }

pub eats_choose : {A : Type 0} (r s : Rule A) (r1 s1 first stop : Set) → Eats r r1 stop → Eats s s1 stop
    → Others s1 r → Within r1 first → Within s1 first → Eats (choose r s) first stop
eats_choose r s r1 s1 first stop lr ls others fr fs = record {
  laws = choose_part r s r1 s1 first stop lr.laws ls.laws others fr fs;
  eats = λ xs ys a h. elim h [ inl x ↦ lr.eats xs ys a x | inr x ↦ ls.eats xs ys a x ];
}

pub eats_refirst : {A : Type 0} (r : Rule A) (p q stop : Set) → Eats r p stop
    → ((xs ys : Tokens) (a : A) → r.reads a xs ys → stop (ahead ys) ≡ true → q (ahead xs) ≡ true) → Eats r q stop
eats_refirst r p q stop e starts = record { laws = refirst_part r p q stop e.laws starts; eats = e.eats }

-- ---- what may be left out

pub optional_law : {A : Type 0} (r : Rule A) (r1 stop first : Set) → Laws r r1 stop → Others stop r → Within r1 first → Within stop first
    → Full (optional r) first stop
optional_law r r1 stop first l others fr fs =
    choose_law _ _ r1 stop first stop (part_same r (λ a. pure (Some a)) r1 stop stop l (λ a. pure_law _ stop)) (pure_law _ stop) others fr fs

-- ---- lists

-- item { item }
pub row_law : {A : Type 0} (item : Rule A) (i1 i2 stop : Set) → Full item i1 i2 → Eats item i1 i2 → Within i1 i2 → Within stop i2 → Others stop item
    → item.starts [] ≡ false → Full (in_row item) i1 stop
row_law item i1 i2 stop li eats wi ws others nothing =
    bind_same _ _ i1 i2 stop li (λ a.
    iterate_law (one_more item) i1 i2 stop (λ xs. (eats_then item (λ x. pure (xs ++ x ∷ [])) i1 i2 i2 eats (λ x. pure_law _ i2)).laws) wi ws (λ xs. others)
    (λ xs. nothing) (λ s t xs ys h. (eats_then item (λ x. pure (s ++ x ∷ [])) i1 i2 i2 eats (λ x. pure_law _ i2)).eats xs ys t h) _ i2 wi ws)

pub further_law : {X A : Type 0} (f : Token → Option X) (item : Rule A) (m1 i1 i2 : Set) → Laws (terminal f) m1 i1 → Full item i1 i2 → (xs : List A)
    → Eats (further (terminal f) item xs) m1 i2
further_law f item m1 i1 i2 lm li xs = eats_terminal f (λ _. one_more item xs) m1 i1 i2 lm (λ _. bind_same _ _ _ _ _ li (λ a. pure_law _ i2))

pub listed_by : {X A : Type 0} (mark : Rule X) (item : Rule A) (m1 i1 i2 stop : Set) → Full item i1 i2 → ((xs : List A) → Eats (further mark item xs) m1 i2)
    → Within m1 i2 → Within stop i2 → Others stop mark → mark.starts [] ≡ false → Full (listed mark item) i1 stop
listed_by mark item m1 i1 i2 stop li lf wi ws others nothing =
    bind_same _ _ i1 i2 stop li (λ a.
    iterate_law (further mark item) m1 i2 stop (λ xs. (lf xs).laws) wi ws (λ xs. others) (λ xs. nothing) (λ s t xs ys h. (lf s).eats xs ys t h) _ i2 wi ws)

pub listed_law : {X A : Type 0} (f : Token → Option X) (item : Rule A) (m1 i1 i2 stop : Set) → Full (terminal f) m1 i1 → Full item i1 i2
    → Within m1 i2 → Within stop i2 → Others stop (terminal f) → Full (listed (terminal f) item) i1 stop
listed_law f item m1 i1 i2 stop lm li wi ws others =
    listed_by (terminal f) item m1 i1 i2 stop li (further_law f item m1 i1 i2 lm.laws li) wi ws others refl

-- with a mark that the parser takes by what it sees ahead
pub seen_listed : {X A : Type 0} (b : Set) (f : Token → Option X) (item : Rule A) (m1 i1 i2 stop : Set) → Full (terminal f) m1 i1 → Full item i1 i2
    → Within m1 b → Within m1 i2 → Within stop i2 → Apart stop b → b k.Nothing ≡ false → Full (listed (seen b (terminal f)) item) i1 stop
unfolding ahead
seen_listed b f item m1 i1 i2 stop lm li wb wi ws ap nothing =
    listed_by (seen b (terminal f)) item m1 i1 i2 stop li (λ xs. eats_marked b f (λ _. one_more item xs) m1 i1 i2 lm.laws wb (λ _. bind_same _ _ _ _ _ li
    (λ a. pure_law _ i2)))
    wi ws (λ xs h. ap (ahead xs) h) nothing
