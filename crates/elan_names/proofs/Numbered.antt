-- The numbers that are kept by names are those of the headings.
use Rattle.std.proofs.Common.{◌≡◌, ℕ, ◌+◌, Bool, true, false, if◌then◌else◌, List, [], ◌∷◌, ◌++◌, Option, refl, sym, ap, subst, ◌∙◌}
use Rattle.std.proofs.Common.{append_assoc}
use Rattle.std.proofs.lemmas.List.{append-nil}
use Rattle.std.specs.Str.{bytes_eq}
use Rattle.std.specs.Global.{Vec}
use Rattle.std.specs.HashMap.{HashMap, UpdatesBy}
use Rattle.std.specs.Map.{lookup}
use Rattle.std.proofs.lemmas.Cmp.{nat_list_eq_equiv}
use Rattle.elan_names.specs.declared.heading.Heading.{Heading}
use Rattle.elan_names.specs.walks.Numbers.{numbers_from, numbers_named, or_empty, if_named, numbers, HasNumbers, KeepsOtherNames, AddsNumber}
use Rattle.elan_names.proofs.Kept.{same, apart, others_kept}

module _ {S : Type 0} where
  pub other_names : (m n : HashMap (Vec ℕ) (List ℕ) S) (name : List ℕ) (w : Option (List ℕ))
      → UpdatesBy (λ j k. bytes_eq j.items k.items) (λ k. bytes_eq name k.items) m n w → KeepsOtherNames m n name
  other_names m n name w u x e =
      ap or_empty (others_kept (λ j k. bytes_eq j.items k.items) (λ k. bytes_eq name k.items) m.entries n.entries u.3 (λ k. bytes_eq x k.items)
      (λ j k. nat_list_eq_equiv.congr x j.items k.items) (λ k. apart name x k.items e))

  -- taken out, and put back with one more
  pub added : (m l n : HashMap (Vec ℕ) (List ℕ) S) (number : ℕ) (name ns : List ℕ) → KeepsOtherNames m l name → KeepsOtherNames l n name
      → ns ≡ numbers m name ++ number ∷ [] → numbers n name ≡ ns → AddsNumber m n number name
  added m l n number name ns h g e f x = by_test (bytes_eq name x) refl
    where
      by_test : (b : Bool) → bytes_eq name x ≡ b → numbers n x ≡ numbers m x ++ if_named b number
      by_test true t = subst (λ (y : List ℕ). numbers n y ≡ numbers m y ++ number ∷ []) (same name x t) (f ∙ e)
      by_test false t = g x t ∙ h x t ∙ sym (append-nil (numbers m x))

  -- what is kept, and what is behind
  abbrev pub NumbersRest : HashMap (Vec ℕ) (List ℕ) S → ℕ → List Heading → List Heading → Type 0
  NumbersRest m k rest hs = (x : List ℕ) → numbers m x ++ numbers_from k rest x ≡ numbers_named hs x

  pub at_start : (m : HashMap (Vec ℕ) (List ℕ) S) (hs : List Heading) → m.entries ≡ [] → NumbersRest m 0 hs hs
  at_start m hs e x = ap (λ (ps : List (Vec ℕ × List ℕ)). or_empty (lookup (λ k. bytes_eq x k.items) ps) ++ numbers_from 0 hs x) e

  pub at_end : (m : HashMap (Vec ℕ) (List ℕ) S) (k : ℕ) (hs : List Heading) → NumbersRest m k [] hs → HasNumbers m hs
  at_end m k hs h x = sym (append-nil (numbers m x)) ∙ h x

  pub one_more : (m n : HashMap (Vec ℕ) (List ℕ) S) (k : ℕ) (h : Heading) (rest hs : List Heading) → AddsNumber m n k h.name → NumbersRest m k (h ∷ rest) hs
      → NumbersRest n (k + 1) rest hs
  one_more m n k h rest hs a r x =
      ap (λ (ns : List ℕ). ns ++ numbers_from (k + 1) rest x) (a x) ∙ append_assoc (numbers m x) (if_named (bytes_eq h.name x) k) (numbers_from (k + 1) rest x)
      ∙ by_test (bytes_eq h.name x) ∙ r x
    where
      by_test : (b : Bool) → numbers m x ++ (if_named b k ++ numbers_from (k + 1) rest x)
          ≡ numbers m x ++ (if b then k ∷ numbers_from (k + 1) rest x else numbers_from (k + 1) rest x)
      by_test true = refl
      by_test false = refl
