-- What is found out about refinements: it is what their last units deliver, and in the end nothing more can be found.
use Rattle.std.proofs.Common.{◌≡◌, ℕ, ◌+◌, Bool, true, false, if◌then◌else◌, List, [], ◌∷◌, Option, Some, None, refl, sym, ap, subst, ◌∙◌, ◌⊎◌, inl, inr}
use Rattle.elan_types.specs.declared.core_phrase.Exit.{Exit}
use Rattle.elan_types.specs.declared.why.Why.TheVariants.{WrongType, WrongPlace}
use Rattle.elan_types.specs.declared.core_phrase.Action.{Action}
use Rattle.elan_types.specs.declared.core_phrase.Action.TheVariants as action
use Rattle.elan_scope.specs.declared.delivery.Delivery.{Delivery}
use Rattle.elan_scope.specs.declared.delivery.Delivery.TheVariants.{Open, Nothing, Of}
use Rattle.elan_judge.specs.Below.elan_names.specs.declared.entry.Denotes.{Denotes}
use Rattle.elan_judge.specs.Below.elan_names.specs.declared.entry.Denotes.TheVariants as denotes
use Rattle.elan_meant.specs.declared.meant.Meant.{Meant}
use Rattle.elan_meant.specs.Parts.{nth, actions_of}
use Rattle.elan_meant.specs.declared.meant.Meant.TheVariants.{Absent, Variable, Value, Done, Left, Labels, Bodies, Level, Start}
use Rattle.elan_scope.specs.declared.scope.Usage.{Usage}
use Rattle.elan_scope.specs.declared.scope.Usage.TheVariants as usage
use Rattle.elan_scope.specs.Scope.{find, left, refinement_named}
use Rattle.elan_scope.specs.declared.scope.Scope.{Scope}
use Rattle.elan_scope.specs.declared.scope.Home.{Home}
use Rattle.elan_scope.specs.Scope.{Found}
use Rattle.elan_scope.specs.Phrase as form
use Rattle.elan_scope.specs.Phrase.{Form, plain, Phrase, phrase, Parts, none, part, all_of, around}
use Rattle.elan_scope.specs.Ruled.{Ruled, gives, breaks, before}
use Rattle.elan_meant.specs.Verdict as verdict
use Rattle.elan_meant.specs.Verdict.{told, unless}
use Rattle.elan_scope.specs.Known.{delivery_at, leads_back}
use Rattle.elan_scope.specs.declared.known.Known.{Known}
use Rattle.elan_judge.specs.Below.value_rules.specs.Calls as r
use Rattle.elan_judge.specs.Below.value_rules.specs.walks.Steps as walk
use Rattle.elan_rules.specs.Units.{or_last, last_value, ended, without_value}
use Rattle.elan_rules.specs.Rules.{ruled}
use Rattle.elan_judge.specs.Shape.{roles, filled, units}
use Rattle.elan_rules.specs.Meaning.{judged, judged_all}
use Rattle.elan_judge.specs.Refinements.{last_unit, last_part, delivery_of}
use Rattle.elan_judge.proofs.Lasts.{behind}
use Rattle.elan_rules.proofs.First.{bind_gives, before_gives, gives_is}

-- what has a meaning hangs on no type
pub unless_gives : {A : Type 0} (b : Bool) (q : Ruled A) (x : A) → unless b q ≡ gives x → q ≡ gives x
unless_gives true q x e = absurd cc
unless_gives false q x e = e

-- ---- the last unit

module _ (kn : Known) where
  kept : (k m : Meant) → told (without_value k) ≡ gives m → or_last Absent m ≡ Absent
  kept Absent m e = ap (or_last Absent) (sym (gives_is (Done []) m e))
  kept (Variable at t x) m e = absurd cc
  kept (Value at t v) m e = absurd cc
  kept (Done as') m e = ap (or_last Absent) (sym (gives_is (Done as') m e))
  kept (Left as') m e = ap (or_last Absent) (sym (gives_is (Done as') m e))
  kept (Labels ns) m e = ap (or_last Absent) (sym (gives_is (Done []) m e))
  kept (Start k) m e = ap (or_last Absent) (sym (gives_is (Done []) m e))
  kept (Bodies bs) m e = ap (or_last Absent) (sym (gives_is (Done []) m e))
  kept (Level us bs) m e = ap (or_last Absent) (sym (gives_is (Done []) m e))

  kept_row : (at : ℕ) (ms : List Meant) (m : Meant) → ruled kn at (plain form.without_value) ms ≡ gives m → or_last Absent m ≡ Absent
  kept_row at ms m e = kept (nth ms 0) m e

  no_value : (p : Phrase) (m : Meant) → judged kn (around (form.place p) form.without_value p) ≡ gives m → or_last Absent m ≡ Absent
  no_value p m e = let b = bind_gives (before (judged kn p) (gives [])) (ruled kn (form.place p) (plain form.without_value)) m e in kept_row (form.place p) b.0 m b.2

  -- the last unit is this one, or there is none, and delivers what is delivered
  abbrev pub Last : Option Phrase → Meant → Type 0
  Last None n = Nothing ≡ delivery_of n
  Last (Some p) n = (m : Meant) × (judged kn p ≡ gives m) × (delivery_of m ≡ delivery_of n)

  first_delivers : (m : Meant) → delivery_of m ≡ delivery_of (or_last Absent m)
  first_delivers Absent = refl
  first_delivers (Variable at t x) = refl
  first_delivers (Value at t v) = refl
  first_delivers (Done as') = refl
  first_delivers (Left as') = refl
  first_delivers (Labels ns) = refl
  first_delivers (Start k) = refl
  first_delivers (Bodies bs) = refl
  first_delivers (Level us bs) = refl

  -- The last unit of a list that may deliver what it will delivers what the list delivers.
  last_of_all : (ps : List Phrase) (ms : List Meant) → judged_all kn (all_of (roles Open ps)) ≡ gives ms
      → Last (last_part (all_of (roles Open ps))) (last_value Absent ms)
  last_of_all [] ms h = subst (λ (ks : List Meant). Last None (last_value Absent ks)) (gives_is [] ms h) refl
  last_of_all (p ∷ []) ms h =
      let q = before_gives (judged kn p) (judged_all kn none) ms h in
      subst (λ (ks : List Meant). Last (Some p) (last_value Absent ks)) (sym q.4)
      (subst (λ (ks : List Meant). Last (Some p) (last_value (or_last Absent q.0) ks)) (gives_is [] q.1 q.3) (q.0, q.2, first_delivers q.0))
  last_of_all (p ∷ r ∷ ps) ms h =
      let q = before_gives (judged kn (around (form.place p) form.without_value p)) (judged_all kn (all_of (roles Open (r ∷ ps)))) ms h in
      subst (λ (o : Option Phrase). Last o (last_value Absent ms)) (sym (behind Open (around (form.place p) form.without_value p) r ps))
      (subst (λ (ks : List Meant). Last (last_part (all_of (roles Open (r ∷ ps)))) (last_value Absent ks)) (sym q.4)
      (subst (λ (w : Meant). Last (last_part (all_of (roles Open (r ∷ ps)))) (last_value w q.1)) (sym (no_value p q.0 q.2))
      (last_of_all (r ∷ ps) q.1 q.3)))

  ended_delivers : (as' : List Action) (n : Meant) → delivery_of (ended as' n) ≡ delivery_of n
  ended_delivers as' Absent = refl
  ended_delivers as' (Variable at t x) = refl
  ended_delivers as' (Value at t v) = refl
  ended_delivers as' (Done bs) = refl
  ended_delivers as' (Left bs) = refl
  ended_delivers as' (Labels ns) = refl
  ended_delivers as' (Start k) = refl
  ended_delivers as' (Bodies bs) = refl
  ended_delivers as' (Level us bs) = refl

  last_as : (o : Option Phrase) (n m : Meant) → delivery_of m ≡ delivery_of n → Last o n → Last o m
  last_as None n m e h = h ∙ sym e
  last_as (Some p) n m e h = (h.0, h.1, h.2 ∙ sym e)

  -- the units of a refinement deliver what the last of them delivers
  pub last_delivers : (us : List (Option Phrase)) (m : Meant) → judged kn (units Open us) ≡ gives m → Last (last_unit (units Open us)) m
  last_delivers us m e =
      let b = bind_gives (judged_all kn (all_of (roles Open (filled us)))) (ruled kn 0 (plain form.units)) m e in
      last_as (last_unit (units Open us)) (last_value Absent b.0) m
      (ap delivery_of (sym (gives_is (ended (actions_of b.0) (last_value Absent b.0)) m b.2)) ∙ ended_delivers (actions_of b.0) (last_value Absent b.0))
      (last_of_all (filled us) b.0 b.1)

-- ---- what is known of more

abbrev pub Below : Known → Known → Type 0
Below j k = (j.calls ≡ k.calls) × ((n : ℕ) → (delivery_at j n ≡ Open) ⊎ (delivery_at j n ≡ delivery_at k n))

-- A phrase that has a meaning keeps it where more is known, if it has one.
module _ (j k : Known) (below : Below j k) where
  open_hangs : (at n : ℕ) (d : Delivery) (m : Meant) → d ≡ Open → r.referred at n d ≡ gives m → ⊥
  open_hangs at n Open m e h = absurd cc
  open_hangs at n Nothing m e h = absurd cc
  open_hangs at n (Of t) m e h = absurd cc

  referred_same : (at b i : ℕ) (m n : Meant) → r.referred at b (delivery_at j i) ≡ gives m → r.referred at b (delivery_at k i) ≡ gives n → m ≡ n
  referred_same at b i m n h g =
      elim (below.1 i) [
        | inl e ↦ absurd (open_hangs at b (delivery_at j i) m e h)
        | inr e ↦ gives_is m n (sym h ∙ ap (r.referred at b) e ∙ g)
      ]

  as_referred : (at i : ℕ) (d : Delivery) (a : Bool) (m : Meant) → (if a then breaks (at, WrongPlace) else r.referred at i d) ≡ gives m
      → r.referred at i d ≡ gives m
  as_referred at i d true m h = absurd cc
  as_referred at i d false m h = h

  refined_same : (at : ℕ) (s : Scope) (o : Option ℕ) (m n : Meant) → r.refined j at s o ≡ gives m → r.refined k at s o ≡ gives n → m ≡ n
  refined_same at s None m n h g = absurd cc
  refined_same at s (Some i) m n h g =
      let b = s.bodies_before + i in
      referred_same at b i m n (as_referred at b (delivery_at j i) (leads_back j i s.refinement) m h)
      (as_referred at b (delivery_at k i) (leads_back k i s.refinement) n g)

  used_same : (u : Usage) (at : ℕ) (s : Scope) (o : Option ℕ) (m n : Meant) → r.refined_as j u at s o ≡ gives m → r.refined_as k u at s o ≡ gives n → m ≡ n
  used_same usage.Expression at s o m n h g = refined_same at s o m n h g
  used_same usage.Counter at s o m n h g = absurd cc

  denoted_same : (u : Usage) (at : ℕ) (s : Scope) (x : List ℕ) (home : Home) (i : ℕ) (d : Denotes) (m n : Meant) → r.denoted j u at s x home i d ≡ gives m
      → r.denoted k u at s x home i d ≡ gives n → m ≡ n
  denoted_same u at s x home i (denotes.Variable t) m n h g = gives_is m n (sym h ∙ g)
  denoted_same u at s x home i (denotes.Constant t) m n h g = gives_is m n (sym h ∙ g)
  denoted_same u at s x home i (denotes.Bound t) m n h g = gives_is m n (sym h ∙ g)
  denoted_same u at s x home i (denotes.Parameter p) m n h g = gives_is m n (sym h ∙ g)
  denoted_same u at s x home i denotes.Procedure m n h g = gives_is m n (sym h ∙ g)
  denoted_same u at s x home i (denotes.Denoter q) m n h g = gives_is m n (sym h ∙ g)
  denoted_same u at s x home i denotes.Refinement m n h g = used_same u at s (refinement_named s x) m n h g

  named_same : (u : Usage) (at : ℕ) (s : Scope) (x : List ℕ) (o : Option Found) (m n : Meant) → r.named j u at s x o ≡ gives m → r.named k u at s x o ≡ gives n
      → m ≡ n
  named_same u at s x None m n h g = gives_is m n (sym h ∙ g)
  named_same u at s x (Some f) m n h g = denoted_same u at s x f.home f.number f.denotes m n h g

  left_by : (at : ℕ) (e : Exit) (v : Meant) (a b : Bool) (m n : Meant)
      → told (if a then verdict.gives (Left (action.Unit (walk.leave_of e v ∷ []) ∷ [])) else verdict.breaks (at, WrongType)) ≡ gives m
      → told (if b then verdict.gives (Left (action.Unit (walk.leave_of e v ∷ []) ∷ [])) else verdict.breaks (at, WrongType)) ≡ gives n → m ≡ n
  left_by at e v true true m n h g = gives_is m n (sym h ∙ g)
  left_by at e v true false m n h g = absurd cc
  left_by at e v false b m n h g = absurd cc

  leaving_same : (at : ℕ) (o : Option (Exit × ℕ)) (v m n : Meant) → told (r.leaving j at o v) ≡ gives m → told (r.leaving k at o v) ≡ gives n → m ≡ n
  leaving_same at None v m n h g = absurd cc
  leaving_same at (Some e) v m n h g = left_by at e.0 v (r.agrees (delivery_at j e.1) v) (r.agrees (delivery_at k e.1) v) m n h g

  rule_same : (at : ℕ) (f : Form) (ms : List Meant) (m n : Meant) → ruled j at f ms ≡ gives m → ruled k at f ms ≡ gives n → m ≡ n
  rule_same at (form.named u s x) ms m n h i =
      let b = r.is_open_name s x (find s x) in
      named_same u at s x (find s x) m n (unless_gives b (r.named j u at s x (find s x)) m h) (unless_gives b (r.named k u at s x (find s x)) n i)
  rule_same at (form.leave s x) ms m n h i =
      let b = r.leaves_open s (left s x) in
      leaving_same at (left s x) (nth ms 0) m n (unless_gives b (told (r.leaving j at (left s x) (nth ms 0))) m h)
      (unless_gives b (told (r.leaving k at (left s x) (nth ms 0))) n i)
  rule_same at (plain f) ms m n h i = gives_is m n (sym h ∙ i)

  mutual
    pub same_meaning : (p : Phrase) (m n : Meant) → judged j p ≡ gives m → judged k p ≡ gives n → m ≡ n
    same_meaning (phrase at f ps) m n h g =
        let a = bind_gives (judged_all j ps) (ruled j at f) m h in
        let b = bind_gives (judged_all k ps) (ruled k at f) n g in
        rule_same at f b.0 m n (subst (λ (ms : List Meant). ruled j at f ms ≡ gives m) (same_all ps a.0 b.0 a.1 b.1) a.2) b.2

    same_all : (ps : Parts) (ms ns : List Meant) → judged_all j ps ≡ gives ms → judged_all k ps ≡ gives ns → ms ≡ ns
    same_all none ms ns h g = gives_is ms ns (sym h ∙ g)
    same_all (part p ps) ms ns h g =
        let a = before_gives (judged j p) (judged_all j ps) ms h in
        let b = before_gives (judged k p) (judged_all k ps) ns g in
        a.4 ∙ ap (λ (x : Meant). x ∷ a.1) (same_meaning p a.0 b.0 a.2 b.2) ∙ ap (λ (xs : List Meant). b.0 ∷ xs) (same_all ps a.1 b.1 a.3 b.3) ∙ sym b.4
