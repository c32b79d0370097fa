-- Where the same is known of what a phrase calls and of what it leaves, it is judged alike.
use Rattle.std.proofs.Common.{◌≡◌, ℕ, ◌+◌, Bool, if◌then◌else◌, List, [], ◌∷◌, ◌++◌, length, Option, Some, None, refl, sym, ap, subst, ◌∙◌, inl, inr}
use Rattle.std.specs.Prelude.{flat_map, option_to_list}
use Rattle.elan_types.specs.declared.core_phrase.Exit.{Exit}
use Rattle.elan_types.specs.declared.why.Why.TheVariants.{WrongPlace}
use Rattle.elan_scope.specs.declared.delivery.Delivery.{Delivery}
use Rattle.elan_scope.specs.declared.known.Known.{Known}
use Rattle.elan_scope.specs.declared.scope.Scope.{Scope}
use Rattle.elan_scope.specs.Scope.{Found}
use Rattle.elan_scope.specs.declared.scope.Home.{Home}
use Rattle.elan_judge.specs.Below.elan_names.specs.declared.entry.Denotes.{Denotes}
use Rattle.elan_judge.specs.Below.elan_names.specs.declared.entry.Denotes.TheVariants as denotes
use Rattle.elan_scope.specs.declared.scope.Usage.TheVariants.{Expression, Counter}
use Rattle.elan_scope.specs.Known.{delivery_at, leads_back}
use Rattle.elan_scope.specs.Scope.{find, left, refinement_named}
use Rattle.elan_scope.specs.Phrase as form
use Rattle.elan_scope.specs.Phrase.{Form, plain, Phrase, phrase, Parts, none, part}
use Rattle.elan_scope.specs.Ruled.{Ruled, gives, breaks, hangs, ◌>>=◌, before}
use Rattle.call_graph.specs.Chains.{leads}
use Rattle.elan_meant.specs.declared.meant.Meant.{Meant}
use Rattle.elan_meant.specs.Parts.{nth}
use Rattle.elan_meant.specs.Verdict as verdict
use Rattle.elan_meant.specs.Verdict.{Verdict, told, unless}
use Rattle.elan_judge.specs.Below.value_rules.specs.Calls as r
use Rattle.elan_judge.specs.Below.value_rules.specs.walks.Steps as walk
use Rattle.elan_rules.specs.Rules.{ruled}
use Rattle.elan_rules.specs.Meaning.{judged, judged_all, phrases, phrases_of}
use Rattle.elan_judge.proofs.InScope.{Names, InScope, AllIn}
use Rattle.elan_judge.specs.Refinements.{called_by, called_in}
use Rattle.elan_judge.proofs.Calls.{called_append}
use Rattle.call_graph.proofs.Walks.{In}

bind_alike : {A B : Type 0} (p q : Ruled A) (f g : A → Ruled B) → p ≡ q → ((x : A) → f x ≡ g x) → (p >>= f) ≡ (q >>= g)
bind_alike p q f g e h = ap (λ (s : Ruled _). s >>= f) e ∙ by_outcome q
  where
    by_outcome : (s : Ruled _) → (s >>= f) ≡ (s >>= g)
    by_outcome (gives x) = h x
    by_outcome (breaks d) = refl
    by_outcome hangs = refl

pub in_first : (n : ℕ) (xs ys : List ℕ) → In n xs → In n (xs ++ ys)
in_first n [] ys h = absurd h
in_first n (x ∷ xs) ys h =
    elim h [
      | inl e ↦ inl e
      | inr e ↦ inr (in_first n xs ys e)
    ]

pub in_rest : (n : ℕ) (xs ys : List ℕ) → In n ys → In n (xs ++ ys)
in_rest n [] ys h = h
in_rest n (x ∷ xs) ys h = inr (in_rest n xs ys h)

in_one : (n : ℕ) (o : Option ℕ) → o ≡ Some n → In n (option_to_list o)
in_one n None e = absurd cc
in_one n (Some m) e = inl (let f : m ≡ n = cc in f)

module _ (j k : Known) (z : Scope) (calls : j.calls ≡ k.calls) where
  abbrev pub Same : ℕ → Type 0
  Same n = delivery_at j n ≡ delivery_at k n

  abbrev pub AllSame : List ℕ → Type 0
  AllSame ns = (n : ℕ) → In n ns → Same n

  -- what a LEAVE in this scope leaves
  abbrev pub LeftSame : Type 0
  LeftSame = (x : List ℕ) (e : Exit × ℕ) → left z x ≡ Some e → Same e.1

  back_alike : (n : ℕ) (o : Option ℕ) → leads_back j n o ≡ leads_back k n o
  back_alike n None = refl
  back_alike n (Some r) = ap (λ (cs : List (List ℕ)). leads (length cs) cs n r) calls

  refined_alike : (at : ℕ) (s : Scope) (o : Option ℕ) → ((n : ℕ) → o ≡ Some n → Same n) → r.refined j at s o ≡ r.refined k at s o
  refined_alike at s None h = refl
  refined_alike at s (Some n) h =
      ap (λ (b : Bool). if b then told (verdict.breaks (at, WrongPlace)) else r.referred at (s.bodies_before + n) (delivery_at j n)) (back_alike n s.refinement)
      ∙ ap (λ (d : Delivery). if leads_back k n s.refinement then told (verdict.breaks (at, WrongPlace)) else r.referred at (s.bodies_before + n) d) (h n refl)

  denoted_alike : (at : ℕ) (s : Scope) (x : List ℕ) (home : Home) (i : ℕ) (d : Denotes) → ((n : ℕ) → refinement_named s x ≡ Some n → Same n)
      → r.denoted j Expression at s x home i d ≡ r.denoted k Expression at s x home i d
  denoted_alike at s x home i (denotes.Variable t) h = refl
  denoted_alike at s x home i (denotes.Constant t) h = refl
  denoted_alike at s x home i (denotes.Bound t) h = refl
  denoted_alike at s x home i (denotes.Parameter p) h = refl
  denoted_alike at s x home i denotes.Procedure h = refl
  denoted_alike at s x home i (denotes.Denoter q) h = refl
  denoted_alike at s x home i denotes.Refinement h = refined_alike at s (refinement_named s x) h

  named_alike : (at : ℕ) (s : Scope) (x : List ℕ) (o : Option Found) → ((n : ℕ) → refinement_named s x ≡ Some n → Same n)
      → r.named j Expression at s x o ≡ r.named k Expression at s x o
  named_alike at s x None h = refl
  named_alike at s x (Some f) h = denoted_alike at s x f.home f.number f.denotes h

  counted_alike : (at : ℕ) (s : Scope) (x : List ℕ) (home : Home) (i : ℕ) (d : Denotes)
      → r.denoted j Counter at s x home i d ≡ r.denoted k Counter at s x home i d
  counted_alike at s x home i (denotes.Variable t) = refl
  counted_alike at s x home i (denotes.Constant t) = refl
  counted_alike at s x home i (denotes.Bound t) = refl
  counted_alike at s x home i (denotes.Parameter p) = refl
  counted_alike at s x home i denotes.Procedure = refl
  counted_alike at s x home i denotes.Refinement = refl
  counted_alike at s x home i (denotes.Denoter q) = refl

  counter_alike : (at : ℕ) (s : Scope) (x : List ℕ) (o : Option Found) → r.named j Counter at s x o ≡ r.named k Counter at s x o
  counter_alike at s x None = refl
  counter_alike at s x (Some f) = counted_alike at s x f.home f.number f.denotes

  leaving_alike : (at : ℕ) (o : Option (Exit × ℕ)) (m : Meant) → ((e : Exit × ℕ) → o ≡ Some e → Same e.1) → r.leaving j at o m ≡ r.leaving k at o m
  leaving_alike at None m h = refl
  leaving_alike at (Some e) m h = ap (λ (d : Delivery). walk.leave_as at e.0 d m) (h e refl)

  form_alike : LeftSame → (at : ℕ) (f : Form) (ps : Parts) (ms : List Meant) → Names z f → AllSame (called_by (phrase at f ps)) → ruled j at f ms ≡ ruled k at f ms
  form_alike l at (form.named Expression s x) ps ms e h =
      ap (λ (q : Ruled Meant). unless (r.is_open_name s x (find s x)) q) (named_alike at s x (find s x) (λ n i. h n (in_one n (refinement_named s x) i)))
  form_alike l at (form.named Counter s x) ps ms e h =
      ap (λ (q : Ruled Meant). unless (r.is_open_name s x (find s x)) q) (counter_alike at s x (find s x))
  form_alike l at (form.leave s x) ps ms e h =
      ap (λ (v : Verdict Meant). unless (r.leaves_open s (left s x)) (told v))
      (leaving_alike at (left s x) (nth ms 0) (λ q i. l x q (ap (λ (y : Scope). left y x) (sym e) ∙ i)))
  form_alike l at (plain f) ps ms e h = refl

  mutual
    pub phrase_alike : LeftSame → (p : Phrase) → InScope z p → AllSame (called_in p) → judged j p ≡ judged k p
    phrase_alike l (phrase at f ps) i h =
        bind_alike (judged_all j ps) (judged_all k ps) (ruled j at f) (ruled k at f) (parts_alike l ps i.1 (λ n g. h n (first n g)))
        (λ ms. form_alike l at f ps ms i.0 (λ n g. h n (last n g)))
      where
        split : called_in (phrase at f ps) ≡ flat_map called_by (phrases_of ps) ++ flat_map called_by (phrase at f ps ∷ [])
        split = called_append (phrases_of ps) (phrase at f ps ∷ [])

        first : (n : ℕ) → In n (flat_map called_by (phrases_of ps)) → In n (called_in (phrase at f ps))
        first n g = subst (In n) (sym split) (in_first n (flat_map called_by (phrases_of ps)) (flat_map called_by (phrase at f ps ∷ [])) g)

        last : (n : ℕ) → In n (called_by (phrase at f ps)) → In n (called_in (phrase at f ps))
        last n g =
            subst (In n) (sym split) (in_rest n (flat_map called_by (phrases_of ps)) (flat_map called_by (phrase at f ps ∷ [])) (in_first n (called_by (phrase at f ps)) [] g))

    parts_alike : LeftSame → (ps : Parts) → AllIn z ps → AllSame (flat_map called_by (phrases_of ps)) → judged_all j ps ≡ judged_all k ps
    parts_alike l none i h = refl
    parts_alike l (part p ps) i h =
        ap (λ (q : Ruled Meant). before q (judged_all j ps)) (phrase_alike l p i.0 (λ n g. h n (first n g)))
        ∙ ap (λ (q : Ruled (List Meant)). before (judged k p) q) (parts_alike l ps i.1 (λ n g. h n (rest n g)))
      where
        split : flat_map called_by (phrases_of (part p ps)) ≡ called_in p ++ flat_map called_by (phrases_of ps)
        split = called_append (phrases p) (phrases_of ps)

        first : (n : ℕ) → In n (called_in p) → In n (flat_map called_by (phrases_of (part p ps)))
        first n g = subst (In n) (sym split) (in_first n (called_in p) (flat_map called_by (phrases_of ps)) g)

        rest : (n : ℕ) → In n (flat_map called_by (phrases_of ps)) → In n (flat_map called_by (phrases_of (part p ps)))
        rest n g = subst (In n) (sym split) (in_rest n (called_in p) (flat_map called_by (phrases_of ps)) g)
