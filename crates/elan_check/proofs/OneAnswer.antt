-- A text has one answer: a core, or a refusal.
use Rattle.std.proofs.Common.{◌≡◌, ℕ, ◌<◌, ◌≤◌, Bool, List, [], ◌∷◌, true, false, if◌then◌else◌, Option, Some, None, refl, sym, ap, ◌∙◌, subst, arith, inl, inr}
use Rattle.elan_scope.specs.declared.env.Env.{Env}
use Rattle.elan_types.specs.declared.core_phrase.Core.{Core}
use Rattle.elan_types.specs.declared.core_phrase.Body.{Body}
use Rattle.elan_types.specs.declared.core_phrase.Action.{Action}
use Rattle.elan_tree.specs.declared.tree.Tree.{Tree}
use Rattle.elan_meant.specs.declared.meant.Meant.{Meant}
use Rattle.elan_meant.specs.declared.meant.Meant.TheVariants.{Level}
use Rattle.elan_scope.specs.Ruled.{Fault, Ruled, gives, breaks, hangs}
use Rattle.elan_scope.specs.Phrase as form
use Rattle.elan_scope.specs.Phrase.{plain, Phrase, phrase, all_of}
use Rattle.elan_scope.specs.declared.known.Known.{Known}
use Rattle.elan_meant.specs.Parts.{actions_of}
use Rattle.elan_check.specs.Below.elan_rules.specs.Units.{bodies_of}
use Rattle.elan_check.specs.Below.elan_rules.specs.Rules.{ruled}
use Rattle.elan_check.specs.Below.elan_rules.specs.Meaning.{judged, judged_all}
use Rattle.elan_check.proofs.Bodies.{known_is}
use Rattle.elan_check.proofs.Spots.{never_hangs}
use Rattle.elan_judge.specs.Level.{text, text_parts}
use Rattle.elan_check.specs.Below.elan_rules.specs.Meaning as phrase
use Rattle.elan_check.specs.Text.{Means, Refused, IsEarliest, earliest, known, faults, core_of, HasAnswer, meaning, refusal, HasOneAnswer}
use Rattle.type_names.specs.Faults.{first_fault}
use Rattle.elan_check.specs.Packets.{AreCompiled}
use Rattle.elan_check.proofs.Inserted.{is_sound}
use Rattle.std.proofs.lemmas.Bool.{ltb-true, ltb-false}
use Rattle.std.specs.Prelude.{nat_lt}
use Rattle.elan_check.specs.Below.elan_rules.proofs.First as first
use Rattle.elan_check.proofs.SameCore.{core_made}

units_are : (as' bs : List Action) (ps qs : List Body) → Level as' ps ≡ Level bs qs → as' ≡ bs
units_are as' bs ps qs e = cc

bodies_are : (as' bs : List Action) (ps qs : List Body) → Level as' ps ≡ Level bs qs → ps ≡ qs
bodies_are as' bs ps qs e = cc

pub one_core : (env : Env) (t : Tree) (c d : Core) → Means env t c → Means env t d → c ≡ d
one_core env t c d h k =
    let e = first.one_meaning (known env t) (text env t) (Level c.units h.own) (Level d.units k.own) h.phrases k.phrases in
    sym (core_made env t c h.own h.packets h.inserted h.variables h.bodies h.start)
    ∙ ap (λ (b : List Body). core_of env t c.units b) (bodies_are c.units d.units h.own k.own e)
    ∙ ap (λ (u : List Action). core_of env t u k.own) (units_are c.units d.units h.own k.own e)
    ∙ core_made env t d k.own k.packets k.inserted k.variables k.bodies k.start

-- a place is not before itself, nor before one that is before it
not_both : (m n : ℕ) → m ≤ n → n < m → ⊥
not_both m n h k = omega (arith, h, k)

one_earliest : (o : Option Fault) (First : Fault → Type 0) → ((f g : Fault) → First f → First g → f ≡ g) → (f g : Fault) → IsEarliest o First f
    → IsEarliest o First g → f ≡ g
one_earliest None First one f g h k = one f g h k
one_earliest (Some e) First one f g h k =
    elim h [
      | inl i ↦ elim k [
        | inl j ↦ i.0 ∙ sym j.0
        | inr j ↦ absurd (not_both e.0 g.0 (i.1 g j.0) j.1)
      ]
      | inr i ↦ elim k [
        | inl j ↦ absurd (not_both e.0 f.0 (j.1 f i.0) i.1)
        | inr j ↦ one f g i.0 j.0
      ]
    ]

pub one_refusal : (env : Env) (t : Tree) (f g : Fault) → Refused env t f → Refused env t g → f ≡ g
one_refusal env t f g h k =
    one_earliest (first_fault (faults env t)) (phrase.IsFirst (known env t) (phrase.phrases (text env t)))
    (first.one_first (known env t) (phrase.phrases (text env t))) f g h.first k.first

pub meant_is_not_refused : (env : Env) (t : Tree) (c : Core) (f : Fault) → Means env t c → Refused env t f → ⊥
meant_is_not_refused env t c f h r =
    first.meant_is_not_refused (known env t) (text env t) (Level c.units h.own) f h.phrases
    (subst (λ (fs : List Fault). IsEarliest (first_fault fs) (phrase.IsFirst (known env t) (phrase.phrases (text env t))) f) h.types r.first)

-- ---- there is an answer

level_gives : (k : Known) (ps : List Phrase) (m : Meant) → judged k (phrase 0 (plain form.level) (all_of ps)) ≡ gives m
    → (us : List Action) × (bs : List Body) × (m ≡ Level us bs)
level_gives k ps m e =
    let q = first.bind_gives (judged_all k (all_of ps)) (ruled k 0 (plain form.level)) m e in
    (actions_of q.0, bodies_of q.0, sym (first.gives_is (Level (actions_of q.0) (bodies_of q.0)) m q.2))

abbrev silent : Ruled Meant
silent = hangs

abbrev broken : Fault → Ruled Meant
broken g = breaks g

-- the first of two faults
earliest_is : (o : Option Fault) (q : Ruled Meant) (First : Fault → Type 0) → ((g : Fault) → First g → q ≡ breaks g) → ((g : Fault) → q ≡ breaks g → First g)
    → (f : Fault) → earliest o q ≡ Some f → IsEarliest o First f
earliest_is None (breaks g) First to of f e = let i : g ≡ f = cc in of f (ap breaks i)
earliest_is None (gives m) First to of f e = absurd cc
earliest_is None hangs First to of f e = absurd cc
earliest_is (Some d) (gives m) First to of f e = let i : d ≡ f = cc in inl (sym i, λ g h. absurd (gives_not m g (to g h)))
  where
    gives_not : (m : Meant) (g : Fault) → gives m ≡ breaks g → ⊥
    gives_not m g h = cc
earliest_is (Some d) hangs First to of f e = let i : d ≡ f = cc in inl (sym i, λ g h. absurd (hangs_not g (to g h)))
  where
    hangs_not : (g : Fault) → silent ≡ breaks g → ⊥
    hangs_not g h = cc
earliest_is (Some d) (breaks g) First to of f e = by_test (nat_lt g.0 d.0) refl e
  where
    breaks_is : (x y : Fault) → broken x ≡ broken y → x ≡ y
    breaks_is x y h = cc

    by_test : (b : Bool) → nat_lt g.0 d.0 ≡ b → (if b then Some g else Some d) ≡ Some f → IsEarliest (Some d) First f
    by_test true h k = let i : g ≡ f = cc in inr (of f (ap breaks i), subst (λ (x : Fault). x.0 < d.0) i (ltb-true g.0 d.0 h))
    by_test false h k =
        let i : d ≡ f = cc in
        inl (sym i, λ x q. subst (λ (y : Fault). d.0 ≤ y.0) (breaks_is g x (to x q)) (ltb-false g.0 d.0 h))

-- the first fault is what is said of a phrase
pub judged_first : (k : Known) (p : Phrase) (f : Fault) → phrase.IsFirst k (phrase.phrases p) f → judged k p ≡ breaks f
judged_first k p f h = by_outcome (judged k p) refl
  where
    by_outcome : (q : Ruled Meant) → judged k p ≡ q → judged k p ≡ breaks f
    by_outcome (gives m) e = absurd (first.meant_is_not_refused k p m f e h)
    by_outcome (breaks g) e = e ∙ ap (λ (d : Fault). breaks d) (first.one_first k (phrase.phrases p) g f (first.refused_of k p g e) h)
    by_outcome hangs e =
        absurd (first.none_first k (phrase.phrases p) f (first.none_breaks k p (subst (λ (q : Ruled Meant). first.Faultless q) (sym e) first.open_one)) h)

pub is_earliest : (k : Known) (p : Phrase) (o : Option Fault) (f : Fault) → earliest o (judged k p) ≡ Some f
    → IsEarliest o (phrase.IsFirst k (phrase.phrases p)) f
is_earliest k p o f e =
    earliest_is o (judged k p) (phrase.IsFirst k (phrase.phrases p)) (λ g h. judged_first k p g h) (λ g h. first.refused_of k p g h) f e

module _ (env : Env) (compiled : AreCompiled env) (t : Tree) where
  meant_answer : faults env t ≡ [] → (q : Ruled Meant) → judged (known env t) (text env t) ≡ q → HasAnswer env t
  meant_answer n (gives m) e =
      let d = level_gives (known env t) (text_parts env t) m e in
      meaning (core_of env t d.0 d.1) (record {
        types = n;
        packets = refl;
        inserted = refl;
        variables = refl;
        start = refl;
        own = d.1;
        bodies = refl;
        phrases = e ∙ ap (λ (k : Meant). gives k) d.2;
      })
  meant_answer n (breaks f) e =
      refusal f (record {
        first = subst (λ (fs : List Fault). IsEarliest (first_fault fs) (phrase.IsFirst (known env t) (phrase.phrases (text env t))) f) (sym n)
            (first.refused_of (known env t) (text env t) f e);
      })
  meant_answer n hangs e = let s = is_sound env compiled in
      absurd (never_hangs env t s.closed s.means n (subst (λ (k : Known). judged k (text env t) ≡ hangs) (known_is env t) e))

  some_fault : (d : Fault) (q : Ruled Meant) → (f : Fault) × (earliest (Some d) q ≡ Some f)
  some_fault d (gives m) = (d, refl)
  some_fault d hangs = (d, refl)
  some_fault d (breaks g) = by_test (nat_lt g.0 d.0)
    where
      by_test : (b : Bool) → (f : Fault) × ((if b then Some g else Some d) ≡ Some f)
      by_test true = (g, refl)
      by_test false = (d, refl)

  judged_answer : (fs : List Fault) → faults env t ≡ fs → HasAnswer env t
  judged_answer [] n = meant_answer n (judged (known env t) (text env t)) refl
  judged_answer (d ∷ fs) n =
      let f = some_fault d (judged (known env t) (text env t)) in
      refusal f.0 (record {
        first = subst (λ (gs : List Fault). IsEarliest (first_fault gs) (phrase.IsFirst (known env t) (phrase.phrases (text env t))) f.0) (sym n)
            (is_earliest (known env t) (text env t) (Some d) f.0 f.1);
      })

  pub one_answer : HasOneAnswer env t
  one_answer = record {
    answer = judged_answer (faults env t) refl;
    no_core_and_refusal = meant_is_not_refused env t;
  }
