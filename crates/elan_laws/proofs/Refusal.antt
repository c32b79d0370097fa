-- A refusal is at a place of the text.
use Rattle.std.proofs.Common.{◌≡◌, ℕ, suc, List, [], ◌∷◌, ◌++◌, Option, Some, None, refl, sym, ap, subst, ◌∙◌, arith, inl, inr}
use Rattle.std.specs.List.{Contains}
use Rattle.elan_tree.specs.declared.tree.Tree.{Tree}
use Rattle.elan_laws.specs.Below.elan_meant.specs.declared.meant.Meant.{Meant}
use Rattle.elan_laws.specs.Below.elan_scope.specs.declared.env.Env.{Env}
use Rattle.elan_laws.specs.Below.elan_scope.specs.declared.known.Known.{Known}
use Rattle.elan_laws.specs.Below.elan_scope.specs.Phrase.{Phrase, phrase, Parts, none, part}
use Rattle.elan_laws.specs.Below.elan_scope.specs.Ruled.{Fault, Ruled, gives, breaks, hangs, ◌>>=◌, before}
use Rattle.elan_laws.specs.Below.elan_rules.specs.Rules.{ruled}
use Rattle.elan_laws.specs.Below.elan_rules.specs.Meaning.{phrases, IsFirst, judged, judged_all}
use Rattle.elan_laws.specs.Below.elan_rules.proofs.First as first
use Rattle.elan_laws.specs.Below.type_names.specs.Faults.{first_fault}
use Rattle.elan_laws.specs.Below.elan_judge.specs.Level.{text}
use Rattle.elan_check.specs.Text.{IsEarliest, Refused, faults, known}
use Rattle.elan_laws.specs.Places.{places, type_places}
use Rattle.elan_laws.specs.Order.{Follows, ends, stays, goes_on, own, in_phrase, in_parts}
use Rattle.elan_laws.proofs.Through as thr
use Rattle.elan_laws.proofs.Placed.{In, Placed, AllPlaced, MayTell, ruled_placed}
use Rattle.elan_laws.proofs.WholeOrder.{text_same}
use Rattle.elan_laws.proofs.TypePlaces.{told_at, faults_follow}

-- ---- phrases

module _ (k : Known) (ns : List ℕ) where
  bind_placed : {A B : Type 0} (P : A → Type 0) (Q : B → Type 0) (r : Ruled A) (f : A → Ruled B) → MayTell ns P r → ((x : A) → P x → MayTell ns Q (f x))
      → MayTell ns Q (r >>= f)
  bind_placed P Q (gives x) f h g = g x h
  bind_placed P Q (breaks d) f h g = h
  bind_placed P Q hangs f h g = tt

  before_placed : (r : Ruled Meant) (rs : Ruled (List Meant)) → MayTell ns (Placed ns) r → MayTell ns (AllPlaced ns) rs
      → MayTell ns (AllPlaced ns) (before r rs)
  before_placed (gives m) (gives ms) h g = (h, g)
  before_placed (gives m) (breaks f) h g = g
  before_placed (gives m) hangs h g = tt
  before_placed (breaks f) rs h g = h
  before_placed hangs (gives ms) h g = tt
  before_placed hangs (breaks f) h g = g
  before_placed hangs hangs h g = tt

  mutual
    judged_placed : (p : Phrase) → Follows (in_phrase p) ns → MayTell ns (Placed ns) (judged k p)
    judged_placed (phrase at form ps) h =
        bind_placed (AllPlaced ns) (Placed ns) (judged_all k ps) (ruled k at form)
        (all_placed ps (thr.through (thr.behind (own at form) (thr.all_of_it (in_parts ps))) h))
        (λ ms g. ruled_placed ns k at form ms (thr.through (thr.before (in_parts ps) (thr.all_of_it (own at form))) h) g)

    all_placed : (ps : Parts) → Follows (in_parts ps) ns → MayTell ns (AllPlaced ns) (judged_all k ps)
    all_placed none h = tt
    all_placed (part p ps) h =
        before_placed (judged k p) (judged_all k ps)
        (judged_placed p (thr.through (thr.before (in_parts ps) (thr.all_of_it (in_phrase p))) h))
        (all_placed ps (thr.through (thr.behind (in_phrase p) (thr.all_of_it (in_parts ps))) h))

  -- ---- the first fault

  fault_placed : (p : Phrase) (f : Fault) → IsFirst k (phrases p) f → (r : Ruled Meant) → judged k p ≡ r → MayTell ns (Placed ns) r → In ns f.0
  fault_placed p f h (gives m) e g = absurd (first.meant_is_not_refused k p m f e h)
  fault_placed p f h (breaks d) e g = subst (λ (q : Fault). In ns q.0) (first.one_first k (phrases p) d f (first.refused_of k p d e) h) g
  fault_placed p f h hangs e g =
      absurd (first.none_first k (phrases p) f (first.none_breaks k p (subst first.Faultless (sym e) first.open_one)) h)

-- ---- the text

contains : (x : ℕ) (ns : List ℕ) → In ns x → Contains ns x
contains _ _ (stays x _ ns h) = (0, omega arith, refl)
contains x _ (goes_on n _ ns h) = let c = contains x ns h in (suc c.0, omega (arith, c.1), c.2)

-- the first fault of a type
first_in : (ns : List ℕ) (fs : List Fault) (e : Fault) → Follows (told_at fs) ns → first_fault fs ≡ Some e → In ns e.0
first_in ns [] e h i = absurd cc
first_in ns (g ∷ fs) e h i =
    let j : g ≡ e = cc in subst (λ (q : Fault). In ns q.0) j (thr.through (thr.begun g.0 (ends (told_at fs))) h)

module _ (env : Env) (t : Tree) where
  abbrev first_phrase : Fault → Type 0
  first_phrase f = IsFirst (known env t) (phrases (text env t)) f

  phrase_in : (f : Fault) → first_phrase f → In (places t) f.0
  phrase_in f h =
      let same = text_same env t in
      let placed = judged_placed (known env t) (places t) (text env t) same.to in
      fault_placed (known env t) (places t) (text env t) f h (judged (known env t) (text env t)) refl placed

  pub phrase_at_place : (f : Fault) → first_phrase f → Contains (places t) f.0
  phrase_at_place f h = contains f.0 (places t) (phrase_in f h)

  -- ---- phrases and types

  abbrev all : List ℕ
  all = places t ++ type_places t

  type_in : (f : Fault) → first_fault (faults env t) ≡ Some f → In all f.0
  type_in f e = thr.behind (places t) (first_in (type_places t) (faults env t) f (faults_follow env t) e)

  earliest_in : (f : Fault) (o : Option Fault) → first_fault (faults env t) ≡ o → IsEarliest o first_phrase f → In all f.0
  earliest_in f None e h = thr.before (type_places t) (phrase_in f h)
  earliest_in f (Some g) e h =
      elim h [
        | inl i ↦ type_in f (e ∙ ap (λ (q : Fault). Some q) (sym i.0))
        | inr i ↦ thr.before (type_places t) (phrase_in f i.0)
      ]

  pub refused_at_place : (f : Fault) → Refused env t f → Contains (places t ++ type_places t) f.0
  refused_at_place f h = contains f.0 (places t ++ type_places t) (earliest_in f (first_fault (faults env t)) refl h.first)
