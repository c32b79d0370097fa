-- A text has one meaning or one refusal, so a line writes one output.
use Rattle.std.proofs.Common.{◌≡◌, ℕ, List, refl, sym, ap, subst, ◌∙◌, arith}
use Rattle.elan_types.specs.declared.core_phrase.Core.{Core}
use Rattle.line_command.specs.Below.units.specs.declared.error.Refusal.{Refusal}
use Rattle.line_command.specs.Program.{Shows}
use Rattle.line_command.specs.Meaning.{Means, IsRefused, TextWrites, runs, refused, refusal_line}
use Rattle.line_command.specs.Line.{LineWrites, program, too_long}

one_screen : (core : Core) {a b : List ℕ} → Shows core a → Shows core b → a ≡ b
one_screen core a b = a ∙ sym b

-- what holds of each text
pub record Laws : Type 0 where
  pub one_meaning : (text : List ℕ) (c d : Core) → Means text c → Means text d → c ≡ d
  pub not_both : (text : List ℕ) (c : Core) (r : Refusal) → Means text c → IsRefused text r → ⊥
  pub one_refusal : (text : List ℕ) (q r : Refusal) → IsRefused text q → IsRefused text r → q ≡ r

module _ (laws : Laws) (text : List ℕ) where
  one_writing : {a b : List ℕ} → TextWrites text a → TextWrites text b → a ≡ b
  one_writing (runs {core = c} m s) (runs {out = out} n t) = one_screen c s (subst (λ core. Shows core out) (sym (laws.one_meaning text _ _ m n)) t)
  one_writing (runs m s) (refused f) = absurd (laws.not_both text _ _ m f)
  one_writing (refused f) (runs m s) = absurd (laws.not_both text _ _ m f)
  one_writing (refused f) (refused g) = ap (λ r. refusal_line r text) (laws.one_refusal text _ _ f g)

-- a line writes one output
pub one_output : Laws → (bytes a b : List ℕ) → LineWrites bytes a → LineWrites bytes b → a ≡ b
one_output laws bytes a b (program short w) (program brief v) = one_writing laws _ w v
one_output laws bytes a b (program short w) (too_long long) = absurd (omega (arith, short, long))
one_output laws bytes a b (too_long long) (program short w) = absurd (omega (arith, short, long))
one_output laws bytes a b (too_long long) (too_long far) = refl
