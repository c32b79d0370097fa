-- Writing items one after the other, as a loop does.
use Rattle.std.proofs.Common.{◌≡◌, ℕ, ◌+◌, ◌<◌, ◌≤◌, true, List, [], ◌∷◌, ◌++◌, length, get_or, take, refl, sym, ap, ◌∙◌, append_assoc, append-nil}
use Rattle.std.specs.List.{flat_map}
use Rattle.std.proofs.lemmas.List.{take_more, take_all}
use Rattle.std.proofs.lemmas.List.Concat.{flat_map-cons}
use Rattle.std.proofs.lemmas.Grind.{flat_map-append}
use Rattle.byte_spelling.specs.Spelling.{Spelling, all_fine}
use Rattle.byte_spelling.proofs.Laws.{both_true}

pub record HasItems {A : Type 0} (s : Spelling A) (old : List ℕ) (all : List A) (n : ℕ) (out : List ℕ) : Type 0 where
  pub spelled : out ≡ old ++ flat_map s.spell (take n all)
  pub fine : all_fine s (take n all) ≡ true

pub no_items : {A : Type 0} (s : Spelling A) (old : List ℕ) (all : List A) → HasItems s old all 0 old
unfolding all_fine
no_items s old all = record { spelled = sym (append-nil old); fine = refl }

fine_more : {A : Type 0} (s : Spelling A) (as' : List A) (a : A) → all_fine s as' ≡ true → s.fine a ≡ true → all_fine s (as' ++ a ∷ []) ≡ true
unfolding all_fine
fine_more s [] a e f = rw f refl
fine_more s (b ∷ bs) a e f = let g = both_true (s.fine b) (all_fine s bs) e in rw g.0 (fine_more s bs a g.1 f)

one_item : {A : Type 0} (s : Spelling A) (a : A) → flat_map s.spell (a ∷ []) ≡ s.spell a
one_item s a = flat_map-cons s.spell a [] ∙ append-nil (s.spell a)

pub item_more : {A : Type 0} (s : Spelling A) (old : List ℕ) (all : List A) (n : ℕ) (out : List ℕ) (d : A) (new : List ℕ) → HasItems s old all n out → n < length all
    → new ≡ out ++ s.spell (get_or all n d) → s.fine (get_or all n d) ≡ true → HasItems s old all (n + 1) new
item_more {A} s old all n out d new has lt e f =
    let t : take (n + 1) all ≡ take n all ++ get_or all n d ∷ [] = take_more all n d lt in
    record {
      spelled =
          rw (t, flat_map-append s.spell (take n all) (get_or all n d ∷ []), one_item s (get_or all n d))
          (e ∙ ap (λ (x : List ℕ). x ++ s.spell (get_or all n d)) has.spelled ∙ append_assoc old (flat_map s.spell (take n all)) (s.spell (get_or all n d)));
      fine = rw t (fine_more s (take n all) (get_or all n d) has.fine f);
    }

pub all_items : {A : Type 0} (s : Spelling A) (old : List ℕ) (all : List A) (n : ℕ) (out : List ℕ) → HasItems s old all n out → length all ≤ n
    → (out ≡ old ++ flat_map s.spell all) × (all_fine s all ≡ true)
all_items s old all n out has le = let t : take n all ≡ all = take_all n all le in (rw t at has.spelled, rw t at has.fine)
