-- How long the entries of the tables are.
use Rattle.std.proofs.Common.{◌≡◌, ℕ, ◌<◌, inl, inr, Bool, true, List, [], ◌∷◌, length, Some, None, refl, ap, arith}
use Rattle.std.specs.Prelude.{nat_le, nat_lt}
use Rattle.std.specs.List.{list_all}
use Rattle.std.specs.Str.{bytes_eq}
use Rattle.std.proofs.lemmas.Bool.{cases_Bool, and_parts, leb-true, ltb-true}
use Rattle.std.proofs.lemmas.Slice.Eq.{bytes_eq-Decides}
use Rattle.elan_tree.specs.declared.token.Key.{Key}
use Rattle.elan_lexer.specs.Tables.{Text, lookup, signs, end_words, closed_by_end}

abbrev all_short : {X : Type 0} → ℕ → List (Text × X) → Bool
all_short n table = list_all (λ entry. nat_le (length entry.0) n) table

abbrev all_long : {X : Type 0} → ℕ → List (Text × X) → Bool
all_long n table = list_all (λ entry. nat_lt n (length entry.0)) table

past_all : {X : Type 0} (n : ℕ) (table : List (Text × X)) (spelling : Text) → all_short n table ≡ true → n < length spelling → lookup table spelling ≡ None
past_all n [] spelling short lt = refl
past_all n (entry ∷ table) spelling short lt =
    let parts = and_parts (nat_le (length entry.0) n) (all_short n table) short in
    elim (cases_Bool (bytes_eq entry.0 spelling)) [
      | inl e ↦
          let same = (bytes_eq-Decides entry.0 spelling).0 e in
          let long : length entry.0 ≡ length spelling = ap (λ (s : Text). length s) same in
          let le = leb-true (length entry.0) n parts.0 in
          absurd (omega arith)
      | inr e ↦ rw e (past_all n table spelling parts.1 lt)
    ]

found_long : {X : Type 0} (n : ℕ) (table : List (Text × X)) (spelling : Text) (x : X) → all_long n table ≡ true → lookup table spelling ≡ Some x
    → n < length spelling
found_long n [] spelling x long found = absurd (cc)
found_long n (entry ∷ table) spelling x long found =
    let parts = and_parts (nat_lt n (length entry.0)) (all_long n table) long in
    elim (cases_Bool (bytes_eq entry.0 spelling)) [
      | inl e ↦
          let same = (bytes_eq-Decides entry.0 spelling).0 e in
          let as_long : length entry.0 ≡ length spelling = ap (λ (s : Text). length s) same in
          let lt = ltb-true n (length entry.0) parts.0 in
          omega arith
      | inr e ↦ found_long n table spelling x parts.1 (rw e at found)
    ]

pub no_sign : (spelling : Text) → 2 < length spelling → lookup signs spelling ≡ None
unfolding signs
no_sign spelling lt = past_all 2 signs spelling refl lt

pub end_word_long : (spelling : Text) (k : Key) → lookup end_words spelling ≡ Some k → 3 < length spelling
unfolding end_words closed_by_end
end_word_long spelling k found = found_long 3 end_words spelling k refl found
