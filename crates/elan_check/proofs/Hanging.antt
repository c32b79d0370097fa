-- A text of which no phrase breaks a rule has a meaning: no phrase hangs on another one.
use Rattle.std.proofs.Common.{◌≡◌, ℕ, Bool, true, false, ◌&&◌, if◌then◌else◌, List, [], ◌∷◌, ◌++◌, Option, Some, None, refl, sym, ap, subst, ◌∙◌, ◌⊎◌, inl, inr}
use Rattle.std.specs.Prelude.{flat_map, option_to_list}
use Rattle.std.specs.Prelude.{slice_get}
use Rattle.elan_scope.specs.declared.delivery.Delivery.TheVariants.{Open}
use Rattle.elan_names.specs.declared.heading.What.{What}
use Rattle.elan_names.specs.declared.heading.What.TheVariants.{Routine, Refinement}
use Rattle.elan_names.specs.declared.heading.Heading.{Heading}
use Rattle.elan_meant.specs.declared.meant.Meant.{Meant}
use Rattle.elan_meant.specs.Parts.{nth}
use Rattle.elan_scope.specs.declared.scope.Usage.{Usage}
use Rattle.elan_scope.specs.declared.scope.Usage.TheVariants as usage
use Rattle.elan_scope.specs.Scope as scope
use Rattle.elan_scope.specs.Scope.{number_of, refinement_named}
use Rattle.elan_scope.specs.declared.scope.Scope.{Scope}
use Rattle.elan_scope.specs.Scope.{Found}
use Rattle.elan_scope.specs.Phrase as form
use Rattle.elan_scope.specs.Phrase.{Form, plain, Phrase, phrase, Parts, none, part, all_of, around, leaf}
use Rattle.elan_scope.specs.Ruled.{Ruled, gives, breaks, hangs, ◌>>=◌, before}
use Rattle.elan_scope.specs.Known.{delivery_at, leads_back}
use Rattle.elan_scope.specs.declared.known.Known.{Known}
use Rattle.elan_check.specs.Below.value_rules.specs.Calls as c
use Rattle.elan_meant.specs.Verdict.{told, unless}
use Rattle.elan_check.specs.Below.elan_rules.specs.Rules.{rule, ruled, hangs_on}
use Rattle.elan_check.specs.Below.elan_rules.specs.Meaning.{judged, judged_all, phrases, phrases_of}
use Rattle.elan_judge.specs.Refinements.{stated, last_unit, last_part, unit_delivery, outcome, called_by, called_in}
use Rattle.elan_check.specs.Below.elan_rules.proofs.First.{Faultless, whole, open_one, bind_faultless, before_faultless, breaks_has_fault}
use Rattle.elan_judge.proofs.Alike.{in_first, in_rest}
use Rattle.elan_judge.proofs.Calls.{called_append}
use Rattle.elan_judge.proofs.InScope.{Names, InScope, AllIn}
use Rattle.elan_check.specs.Below.elan_rules.proofs.Hung.{named_open}
use Rattle.elan_meant.proofs.Told.{told_never_hangs}
use Rattle.elan_check.specs.Below.call_graph.proofs.Walks.{In}
use Rattle.elan_judge.proofs.Settled.{not_open}
use Rattle.elan_check.proofs.Closed.{ScopeClosed, nothing_hangs, name_closed, leave_closed}
use Rattle.elan_check.specs.Below.elan_rules.proofs.TypedCalls.{first_at}

-- ---- what hangs

pub bind_hangs : {A B : Type 0} (q : Ruled A) (f : A → Ruled B) → (q >>= f) ≡ hangs → (q ≡ hangs) ⊎ ((x : A) × (f x ≡ hangs))
bind_hangs (gives x) f e = inr (x, e)
bind_hangs (breaks d) f e = absurd cc
bind_hangs hangs f e = inl refl

pub before_hangs : {A : Type 0} (q : Ruled A) (qs : Ruled (List A)) → before q qs ≡ hangs → (q ≡ hangs) ⊎ (qs ≡ hangs)
before_hangs (gives x) (gives xs) e = absurd cc
before_hangs (gives x) (breaks d) e = absurd cc
before_hangs (gives x) hangs e = inr refl
before_hangs (breaks d) qs e = absurd cc
before_hangs hangs qs e = inl refl

pub before_both : {A : Type 0} (q : Ruled A) (qs : Ruled (List A)) → Faultless q → Faultless qs → Faultless (before q qs)
before_both (gives x) (gives xs) h k = whole (x ∷ xs)
before_both (gives x) (breaks d) h k = absurd (breaks_has_fault d k)
before_both (gives x) hangs h k = open_one
before_both (breaks d) qs h k = absurd (breaks_has_fault d h)
before_both hangs (gives xs) h k = open_one
before_both hangs (breaks d) h k = absurd (breaks_has_fault d k)
before_both hangs hangs h k = open_one

-- what is not open hangs on its rule alone
pub clear : {A : Type 0} (b : Bool) (q : Ruled A) → b ≡ false → unless b q ≡ hangs → q ≡ hangs
clear true q h e = absurd cc
clear false q h e = e

in_left : (n : ℕ) (ps qs : List Phrase) → In n (flat_map called_by ps) → In n (flat_map called_by (ps ++ qs))
in_left n ps qs h = subst (In n) (sym (called_append ps qs)) (in_first n (flat_map called_by ps) (flat_map called_by qs) h)

in_right : (n : ℕ) (ps qs : List Phrase) → In n (flat_map called_by qs) → In n (flat_map called_by (ps ++ qs))
in_right n ps qs h = subst (In n) (sym (called_append ps qs)) (in_rest n (flat_map called_by ps) (flat_map called_by qs) h)

-- the number of a refinement in a scope
abbrev pub IsHeaded : List Heading → ℕ → Type 0
IsHeaded hs n = (h : Heading) × (slice_get hs n ≡ Some h) × (stated h.what ≡ Open)

told_refinement : (home : Option ℕ) (w : What) → scope.is_refinement_of home w ≡ true → stated w ≡ Open
told_refinement home (Routine sort ps r) e = absurd cc
told_refinement home (Refinement other) e = refl

and_right : (a b : Bool) → (a && b) ≡ true → b ≡ true
and_right true b e = e
and_right false b e = absurd cc

number_headed : (z : Scope) (x : List ℕ) (o : Option (ℕ × Heading)) (n : ℕ) → scope.first_heading (scope.is_refined (number_of z.routine) x) z.headings ≡ o
    → scope.number_in o ≡ Some n → IsHeaded z.headings n
number_headed z x None n e f = absurd cc
number_headed z x (Some m) n e f =
    let h = first_at (scope.is_refined (number_of z.routine) x) z.headings m e in
    let i : m.0 ≡ n = cc in
    (m.1, ap (slice_get z.headings) (sym i) ∙ h.0, told_refinement (number_of z.routine) m.1.what (and_right _ _ h.1))

named_headed : (z : Scope) (x : List ℕ) (o : Option Found) (n : ℕ) → scope.refinement_in z x o ≡ Some n → IsHeaded z.headings n
named_headed z x None n e = absurd cc
named_headed z x (Some f) n e = by_test (scope.is_refinement f.denotes) e
  where
    by_test : (d : Bool) → (if d then scope.number_in (scope.first_heading (scope.is_refined (number_of z.routine) x) z.headings) else None) ≡ Some n
        → IsHeaded z.headings n
    by_test true g = number_headed z x (scope.first_heading (scope.is_refined (number_of z.routine) x) z.headings) n refl g
    by_test false g = absurd cc

module _ (kn : Known) where
  -- a phrase in it calls a refinement of which nothing is known
  abbrev pub Leaf : Scope → List ℕ → Type 0
  Leaf z ns = (n : ℕ) × In n ns × (delivery_at kn n ≡ Open) × (leads_back kn n z.refinement ≡ false) × IsHeaded z.headings n

  named_leaf : (z : Scope) (u : Usage) (at : ℕ) (s : Scope) (x : List ℕ) (ps : Parts) → s ≡ z → c.named kn u at s x (scope.find s x) ≡ hangs
      → Leaf z (flat_map called_by (phrase at (form.named u s x) ps ∷ []))
  named_leaf z u at s x ps i e =
      let w = named_open kn at s x u (scope.find s x) e in
      let o = w.1 in
      let here : In o.0 (called_by (phrase at (form.named usage.Expression s x) ps)) =
      subst (λ (q : Option ℕ). In o.0 (option_to_list q)) (sym o.1) (inl refl) in
      subst (λ (v : Usage). Leaf z (flat_map called_by (phrase at (form.named v s x) ps ∷ []))) (sym w.0)
      (subst (λ (y : Scope). Leaf y (flat_map called_by (phrase at (form.named usage.Expression s x) ps ∷ []))) i
      (o.0, in_first o.0 (called_by (phrase at (form.named usage.Expression s x) ps)) [] here, o.2, o.3, named_headed s x (scope.find s x) o.0 o.1))

  form_leaf : (z : Scope) → ScopeClosed z → (at : ℕ) (f : Form) (ps : Parts) → Names z f → (ms : List Meant) → ruled kn at f ms ≡ hangs
      → Leaf z (flat_map called_by (phrase at f ps ∷ []))
  form_leaf z cl at (form.named u s x) ps i ms e =
      named_leaf z u at s x ps i
      (clear (c.is_open_name s x (scope.find s x)) (c.named kn u at s x (scope.find s x))
      (ap (λ (y : Scope). c.is_open_name y x (scope.find y x)) i ∙ name_closed z cl x) e)
  form_leaf z cl at (form.leave s x) ps i ms e =
      absurd (told_never_hangs (c.leaving kn at (scope.left s x) (nth ms 0))
      (clear (c.leaves_open s (scope.left s x)) (told (c.leaving kn at (scope.left s x) (nth ms 0)))
      (ap (λ (y : Scope). c.leaves_open y (scope.left y x)) i ∙ leave_closed z cl (scope.left z x)) e))
  form_leaf z cl at (plain f) ps i ms e =
      absurd (told_never_hangs (rule at f ms) (clear (hangs_on at f ms) (told (rule at f ms)) (nothing_hangs z cl at f i ms) e))

  wider : (z : Scope) (ns ms : List ℕ) → ((n : ℕ) → In n ns → In n ms) → Leaf z ns → Leaf z ms
  wider z ns ms h g = (g.0, h g.0 g.1, g.2, g.3, g.4)

  mutual
    pub leaf_of : (z : Scope) → ScopeClosed z → (p : Phrase) → InScope z p → judged kn p ≡ hangs → Leaf z (called_in p)
    leaf_of z cl (phrase at f ps) i e =
        elim (bind_hangs (judged_all kn ps) (ruled kn at f) e) [
          | inl h ↦ wider z (flat_map called_by (phrases_of ps)) (called_in (phrase at f ps)) (λ n g. in_left n (phrases_of ps) (phrase at f ps ∷ []) g)
              (leaf_all z cl ps i.1 h)
          | inr h ↦ wider z (flat_map called_by (phrase at f ps ∷ [])) (called_in (phrase at f ps)) (λ n g. in_right n (phrases_of ps) (phrase at f ps ∷ []) g)
              (form_leaf z cl at f ps i.0 h.0 h.1)
        ]

    leaf_all : (z : Scope) → ScopeClosed z → (ps : Parts) → AllIn z ps → judged_all kn ps ≡ hangs → Leaf z (flat_map called_by (phrases_of ps))
    leaf_all z cl none i e = absurd cc
    leaf_all z cl (part p ps) i e =
        elim (before_hangs (judged kn p) (judged_all kn ps) e) [
          | inl h ↦ wider z (called_in p) (flat_map called_by (phrases_of (part p ps))) (λ n g. in_left n (phrases p) (phrases_of ps) g) (leaf_of z cl p i.0 h)
          | inr h ↦ wider z (flat_map called_by (phrases_of ps)) (flat_map called_by (phrases_of (part p ps))) (λ n g. in_right n (phrases p) (phrases_of ps) g)
              (leaf_all z cl ps i.1 h)
        ]

  -- ---- the last unit

  -- a phrase without fault in a scope, whose calls are among these
  abbrev Fine : Scope → List ℕ → Phrase → Type 0
  Fine z ns p = InScope z p × Faultless (judged kn p) × ((n : ℕ) → In n (called_in p) → In n ns)

  abbrev MayFine : Scope → List ℕ → Option Phrase → Type 0
  MayFine z ns None = Unit {0}
  MayFine z ns (Some p) = Fine z ns p

  last_fine : (z : Scope) (ns : List ℕ) (ps : Parts) → AllIn z ps → Faultless (judged_all kn ps) → ((n : ℕ) → In n (flat_map called_by (phrases_of ps)) → In n ns)
      → MayFine z ns (last_part ps)
  last_fine z ns none i f h = tt
  last_fine z ns (part p none) i f h =
      let g = before_faultless kn (judged kn p) (judged_all kn none) f in
      (i.0, g.0, λ n k. h n (in_left n (phrases p) [] k))
  last_fine z ns (part p (part q ps)) i f h =
      let g = before_faultless kn (judged kn p) (judged_all kn (part q ps)) f in
      last_fine z ns (part q ps) i.1 g.1 (λ n k. h n (in_right n (phrases p) (phrases_of (part q ps)) k))

  unit_leaf : (z : Scope) → ScopeClosed z → (ns : List ℕ) (o : Option Phrase) → MayFine z ns o → unit_delivery kn o ≡ Open → Leaf z ns
  unit_leaf z cl ns None m e = absurd cc
  unit_leaf z cl ns (Some p) m e = by_outcome (judged kn p) refl
    where
      by_outcome : (q : Ruled Meant) → judged kn p ≡ q → Leaf z ns
      by_outcome (gives x) i = absurd (not_open x (sym (ap outcome i) ∙ e))
      by_outcome (breaks d) i = absurd (breaks_has_fault d (subst (λ (r : Ruled Meant). Faultless r) i m.1))
      by_outcome hangs i = wider z (called_in p) ns m.2 (leaf_of z cl p m.0 i)

  pub body_leaf : (z : Scope) → ScopeClosed z → (p : Phrase) → InScope z p → Faultless (judged kn p) → unit_delivery kn (last_unit p) ≡ Open → Leaf z (called_in p)
  body_leaf z cl (phrase at f ps) i g e =
      unit_leaf z cl (called_in (phrase at f ps)) (last_unit (phrase at f ps))
      (last_fine z (called_in (phrase at f ps)) ps i.1 (bind_faultless kn (judged_all kn ps) (ruled kn at f) g)
      (λ n k. in_left n (phrases_of ps) (phrase at f ps ∷ []) k)) e
