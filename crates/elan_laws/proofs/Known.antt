-- What is known of bodies is what they deliver.
use Rattle.std.proofs.Common.{◌≡◌, ℕ, zero, suc, List, [], ◌∷◌, length, Option, Some, None, refl, sym, ap, subst, ◌∙◌, inl, inr}
use Rattle.std.specs.Prelude.{slice_get, slice_index_or}
use Rattle.elan_types.specs.declared.elan_type.ElanType.{ElanType}
use Rattle.elan_tree.specs.declared.tree.Tree.{Tree}
use Rattle.elan_laws.specs.Below.elan_scope.specs.declared.delivery.Delivery.{Delivery}
use Rattle.elan_laws.specs.Below.elan_scope.specs.declared.delivery.Delivery.TheVariants.{Open, Nothing, Of}
use Rattle.elan_laws.specs.Below.elan_names.specs.declared.heading.What.{What}
use Rattle.elan_laws.specs.Below.elan_names.specs.declared.heading.What.TheVariants.{Routine, Refinement}
use Rattle.elan_laws.specs.Below.elan_names.specs.declared.heading.Heading.{Heading}
use Rattle.elan_laws.specs.Below.elan_scope.specs.declared.env.Env.{Env}
use Rattle.elan_laws.specs.Below.elan_scope.specs.declared.known.Known.{Known}
use Rattle.elan_laws.specs.Below.elan_scope.specs.Known.{delivered, delivery_at}
use Rattle.elan_laws.specs.Below.elan_scope.specs.Phrase.{Phrase}
use Rattle.elan_laws.specs.Below.elan_scope.specs.Ruled.{Ruled, gives, breaks, hangs}
use Rattle.elan_laws.specs.Below.elan_meant.specs.declared.meant.Meant.{Meant}
use Rattle.elan_laws.specs.Below.elan_rules.specs.Meaning.{judged}
use Rattle.elan_laws.specs.Below.type_names.specs.Bodies.{headings}
use Rattle.elan_laws.specs.Below.elan_judge.specs.Level.{level_in, text}
use Rattle.elan_laws.specs.Below.elan_judge.specs.Refinements.{bodies_within, delivery_of, last_unit, outcome, unit_delivery, known_after}
use Rattle.elan_laws.specs.Below.elan_judge.proofs.Inferred.{Below, same_meaning}
use Rattle.elan_laws.specs.Below.elan_judge.proofs.Settled.{not_open, from, told_found, open_last}
use Rattle.elan_laws.specs.Settled.{Delivers, Settles, IsSettled}

-- what a heading says
abbrev says : What → Delivery
says (Routine sort ps r) = delivered r
says (Refinement home) = Open

never_open : (r : Option ElanType) → delivered r ≡ Open → ⊥
never_open None e = absurd cc
never_open (Some t) e = absurd cc

at_index : (ds : List Delivery) (i : ℕ) (d : Delivery) → slice_get ds i ≡ Some d → slice_index_or ds i Open ≡ d
at_index [] i d e = absurd cc
at_index (c ∷ ds) zero d e = cc
at_index (c ∷ ds) (suc i) d e = at_index ds i d e

module _ (hs : List Heading) (us : List Phrase) (i : ℕ) (h : Heading) (u : Phrase) (has : slice_get hs i ≡ Some h) (does : slice_get us i ≡ Some u) where
  abbrev k : Known
  k = known_after (length hs) hs us

  -- what was found with less is what is found with all that is known
  same_outcome : (j : Known) (p : Phrase) (m : Meant) (q : Ruled Meant) → Below j k → judged j p ≡ q → judged k p ≡ gives m → (outcome q ≡ Open → ⊥)
      → outcome q ≡ delivery_of m
  same_outcome j p m (gives n) b g e f = ap delivery_of (same_meaning j k b p n m g e)
  same_outcome j p m (breaks d) b g e f = absurd (f refl)
  same_outcome j p m hangs b g e f = absurd (f refl)

  -- what is found out in some round, as far as anything is
  found : (j : Known) (o : Option Phrase) (d : Delivery) → Below j k → d ≡ unit_delivery j o → (d ≡ Open → ⊥) → Delivers k o d
  found j None d b e f = e
  found j (Some p) d b e f = λ m g. e ∙ same_outcome j p m (judged j p) b refl g (λ q. f (e ∙ q))

  unknown : (o : Option Phrase) (d : Delivery) → d ≡ Open → unit_delivery k o ≡ Open → Delivers k o d
  unknown None d e g = e ∙ sym g
  unknown (Some p) d e g = λ m w. absurd (not_open m (sym (ap outcome w) ∙ g))

  refinement_settles : says h.what ≡ Open → Delivers k (last_unit u) (delivery_at k i)
  refinement_settles untold =
      let f = from hs us i h u has does (length hs) in
      let e = at_index k.deliveries i f.0 f.1 in
      let in_some_round : (f.0 ≡ Open → ⊥) → Delivers k (last_unit u) f.0 =
      λ n. elim f.2 [
        | inl g ↦ absurd (n (g ∙ untold))
        | inr g ↦ found (known_after g.0 hs us) (last_unit u) f.0 g.1 g.2 n
      ] in
      subst (Delivers k (last_unit u)) (sym e) (by_delivery f.0 e in_some_round)
    where
      nothing_known : Nothing ≡ Open → ⊥
      nothing_known e = absurd cc

      of_known : (t : ElanType) → Of t ≡ Open → ⊥
      of_known t e = absurd cc

      by_delivery : (d : Delivery) → delivery_at k i ≡ d → ((d ≡ Open → ⊥) → Delivers k (last_unit u) d) → Delivers k (last_unit u) d
      by_delivery Open e f = unknown (last_unit u) Open refl (open_last hs us i h u has does e)
      by_delivery Nothing e f = f nothing_known
      by_delivery (Of t) e f = f (of_known t)

  settles : (w : What) → h.what ≡ w → Settles k w u (delivery_at k i)
  settles (Routine sort ps r) e =
      let said = ap says e in
      told_found hs us i h u has does (λ q. never_open r (sym said ∙ q)) ∙ said
  settles (Refinement home) e = refinement_settles (ap says e)

pub settled : (env : Env) (t : Tree) → IsSettled env t
settled env t = λ n h u has does. settles (headings env (level_in t)) (bodies_within (text env t)) n h u has does h.what refl
