-- A phrase that calls a refinement of which nothing is known has no meaning.
use Rattle.std.proofs.Common.{◌≡◌, ℕ, ◌+◌, Bool, true, false, ◌||◌, if◌then◌else◌, List, [], ◌∷◌, ◌++◌, Option, Some, None, refl, ap, subst, ◌⊎◌, inl, inr}
use Rattle.std.specs.Prelude.{flat_map, option_to_list}
use Rattle.elan_types.specs.declared.why.Why.TheVariants.{WrongPlace}
use Rattle.elan_scope.specs.declared.delivery.Delivery.{Delivery}
use Rattle.elan_scope.specs.declared.delivery.Delivery.TheVariants.{Open, Nothing, Of}
use Rattle.elan_scope.specs.declared.known.Known.{Known}
use Rattle.elan_scope.specs.declared.scope.Scope.{Scope}
use Rattle.elan_scope.specs.Scope.{Found}
use Rattle.elan_judge.specs.Below.elan_names.specs.declared.entry.Denotes.{Denotes}
use Rattle.elan_judge.specs.Below.elan_names.specs.declared.entry.Denotes.TheVariants as denotes
use Rattle.elan_scope.specs.declared.scope.Usage.TheVariants.{Expression, Counter}
use Rattle.elan_scope.specs.Known.{delivery_at, leads_back}
use Rattle.elan_scope.specs.Scope as scope
use Rattle.elan_scope.specs.Phrase as form
use Rattle.elan_scope.specs.Phrase.{Form, plain, Phrase, phrase, Parts, none, part}
use Rattle.elan_scope.specs.declared.scope.Home.{Home}
use Rattle.elan_scope.specs.Ruled.{Ruled, gives, breaks, hangs}
use Rattle.elan_meant.specs.declared.meant.Meant.{Meant}
use Rattle.elan_judge.specs.Below.value_rules.specs.Calls as c
use Rattle.elan_rules.specs.Rules.{ruled}
use Rattle.elan_rules.specs.Meaning.{judged, judged_all, phrases, phrases_of}
use Rattle.elan_rules.proofs.First.{bind_gives, before_gives}
use Rattle.elan_judge.specs.Refinements.{called_by, called_in, outcome, unit_delivery}
use Rattle.elan_judge.specs.walks.Rounds.{called_if, is_open, any_open}
use Rattle.elan_judge.proofs.Calls.{called_append}
use Rattle.elan_judge.proofs.Inferred.{unless_gives}
use Rattle.call_graph.proofs.Walks.{In}

in_either : (n : ℕ) (xs ys : List ℕ) → In n (xs ++ ys) → In n xs ⊎ In n ys
in_either n [] ys h = inr h
in_either n (x ∷ xs) ys h =
    elim h [
      | inl e ↦ inl (inl e)
      | inr e ↦ (elim (in_either n xs ys e) [
        | inl i ↦ inl (inr i)
        | inr i ↦ inr i
      ])
    ]

in_first : (n : ℕ) (xs : List ℕ) → In n (xs ++ []) → In n xs
in_first n xs h =
    elim (in_either n xs [] h) [
      | inl e ↦ e
      | inr e ↦ absurd e
    ]

in_one : (n : ℕ) (o : Option ℕ) → In n (option_to_list o) → o ≡ Some n
in_one n None h = absurd h
in_one n (Some m) h =
    elim h [
      | inl e ↦ ap (λ (i : ℕ). Some i) e
      | inr e ↦ absurd e
    ]

module _ (k : Known) (n : ℕ) (untold : delivery_at k n ≡ Open) where
  referred_open : (at i : ℕ) (b : Bool) (d : Delivery) (m : Meant) → d ≡ Open → (if b then breaks (at, WrongPlace) else c.referred at i d) ≡ gives m → ⊥
  referred_open at i true d m e h = absurd cc
  referred_open at i false Open m e h = absurd cc
  referred_open at i false Nothing m e h = absurd cc
  referred_open at i false (Of t) m e h = absurd cc

  refined_open : (at : ℕ) (s : Scope) (o : Option ℕ) (m : Meant) → o ≡ Some n → c.refined k at s o ≡ gives m → ⊥
  refined_open at s o m e h =
      referred_open at (s.bodies_before + n) (leads_back k n s.refinement) (delivery_at k n) m untold (subst (λ (q : Option ℕ). c.refined k at s q ≡ gives m) e h)

  denoted_open : (at : ℕ) (s : Scope) (x : List ℕ) (home : Home) (i : ℕ) (d : Denotes) (o : Option ℕ) (m : Meant)
      → (if scope.is_refinement d then o else None) ≡ Some n → scope.refinement_named s x ≡ Some n → c.denoted k Expression at s x home i d ≡ gives m → ⊥
  denoted_open at s x home i (denotes.Variable t) o m g r h = absurd cc
  denoted_open at s x home i (denotes.Constant t) o m g r h = absurd cc
  denoted_open at s x home i (denotes.Bound t) o m g r h = absurd cc
  denoted_open at s x home i (denotes.Parameter p) o m g r h = absurd cc
  denoted_open at s x home i denotes.Procedure o m g r h = absurd cc
  denoted_open at s x home i (denotes.Denoter q) o m g r h = absurd cc
  denoted_open at s x home i denotes.Refinement o m g r h = refined_open at s (scope.refinement_named s x) m r h

  named_open : (at : ℕ) (s : Scope) (x : List ℕ) (o : Option Found) (m : Meant) → scope.refinement_in s x o ≡ Some n → scope.refinement_named s x ≡ Some n
      → c.named k Expression at s x o ≡ gives m → ⊥
  named_open at s x None m g r h = absurd cc
  named_open at s x (Some f) m g r h = denoted_open at s x f.home f.number f.denotes _ m g r h

  form_open : (at : ℕ) (f : Form) (ps : Parts) (ms : List Meant) (m : Meant) → In n (called_by (phrase at f ps)) → ruled k at f ms ≡ gives m → ⊥
  form_open at (form.named Expression s x) ps ms m h e =
      let r = in_one n (scope.refinement_named s x) h in
      named_open at s x (scope.find s x) m r r (unless_gives (c.is_open_name s x (scope.find s x)) (c.named k Expression at s x (scope.find s x)) m e)
  form_open at (form.named Counter s x) ps ms m h e = absurd h
  form_open at (form.leave s x) ps ms m h e = absurd h
  form_open at (plain f) ps ms m h e = absurd h

  mutual
    phrase_open : (p : Phrase) (m : Meant) → In n (called_in p) → judged k p ≡ gives m → ⊥
    phrase_open (phrase at f ps) m h e =
        let b = bind_gives (judged_all k ps) (ruled k at f) m e in
        elim (in_either n (flat_map called_by (phrases_of ps)) (flat_map called_by (phrase at f ps ∷ []))
        (subst (In n) (called_append (phrases_of ps) (phrase at f ps ∷ [])) h)) [
          | inl i ↦ parts_open ps b.0 i b.1
          | inr i ↦ form_open at f ps b.0 m (in_first n (called_by (phrase at f ps)) i) b.2
        ]

    parts_open : (ps : Parts) (ms : List Meant) → In n (flat_map called_by (phrases_of ps)) → judged_all k ps ≡ gives ms → ⊥
    parts_open none ms h e = absurd h
    parts_open (part p ps) ms h e =
        let b = before_gives (judged k p) (judged_all k ps) ms e in
        elim (in_either n (called_in p) (flat_map called_by (phrases_of ps)) (subst (In n) (called_append (phrases p) (phrases_of ps)) h)) [
          | inl i ↦ phrase_open p b.0 i b.2
          | inr i ↦ parts_open ps b.1 i b.3
        ]

untold_in : (k : Known) (cs : List ℕ) → any_open k cs ≡ true → (n : ℕ) × In n cs × (delivery_at k n ≡ Open)
untold_in k [] e = absurd cc
untold_in k (x ∷ cs) e = by_first (untold_in k cs) (delivery_at k x) refl e
  where
    by_first : (any_open k cs ≡ true → (n : ℕ) × In n cs × (delivery_at k n ≡ Open)) → (d : Delivery) → delivery_at k x ≡ d
        → (is_open d || any_open k cs) ≡ true → (n : ℕ) × In n (x ∷ cs) × (delivery_at k n ≡ Open)
    by_first rest Open i f = (x, inl refl, i)
    by_first rest Nothing i f = let r = rest f in (r.0, inr r.1, r.2)
    by_first rest (Of t) i f = let r = rest f in (r.0, inr r.1, r.2)

-- A unit that waits for a refinement tells nothing.
pub waiting : (k : Known) (o : Option Phrase) → any_open k (called_if o) ≡ true → unit_delivery k o ≡ Open
waiting k None e = absurd cc
waiting k (Some p) e = by_outcome (judged k p) refl
  where
    by_outcome : (q : Ruled Meant) → judged k p ≡ q → unit_delivery k (Some p) ≡ Open
    by_outcome (gives m) i = let r = untold_in k (called_in p) e in absurd (phrase_open k r.0 r.2 p m r.1 i)
    by_outcome (breaks f) i = ap outcome i
    by_outcome hangs i = ap outcome i
