-- The values of a source text: their kinds, and what they are by their kinds.
use Rattle.std.proofs.Common.{◌≡◌, ℕ, zero, suc, ◌+◌, ◌-◌, ◌<◌, ◌≤◌, List, [], ◌∷◌, ◌++◌, map, length, replicate, ℤ, refl, sym, subst, arith}
use Rattle.std.proofs.Common.{Some}
use Rattle.std.specs.List.{All, slice_get}
use Rattle.std.specs.Int.{w16}
use Rattle.std.specs.Int.RustNames.{FitsSigned}
use Rattle.std.proofs.lemmas.Int.{ints}
use Rattle.eu_base.specs.declared.value.Kind.{Kind}
use Rattle.eu_base.specs.declared.value.Kind.TheVariants as kinds
use Rattle.eu_base.specs.declared.value.Value.{Value}
use Rattle.eu_base.specs.declared.value.Value.TheVariants as values
use Rattle.eu_base.specs.Shapes.{cell_kinds}
use Rattle.source_texts.specs.Spaces.{AreOf, none, one}
use Rattle.units.specs.Sources.{most_lines, source_shape}
use Rattle.source_texts.proofs.Shapes.{kinds_source}
use Rattle.source_texts.proofs.Cells.{filled, empty_text}

-- ---- a source text has values of its kinds

blanks_typed : (m : ℕ) → AreOf (replicate m kinds.Text) (replicate m empty_text)
blanks_typed zero = none
blanks_typed (suc m) = one (omega arith) (blanks_typed m)

row_typed : (lines : List (List ℕ)) (m n : ℕ) → n ≡ length lines + m → All (λ line. length line ≤ 250) lines
    → AreOf (replicate n kinds.Text) (map values.Text lines ++ replicate m empty_text)
row_typed [] m n is short =
    let e : m ≡ n = omega (arith, is) in subst (λ k. AreOf (replicate k kinds.Text) (replicate m empty_text)) e (blanks_typed m)
row_typed (l ∷ lines) m zero is short = absurd (omega (arith, is))
row_typed (l ∷ lines) m (suc n) is short =
    let small : length l ≤ 250 = short 0 [] (omega arith) in
    one (omega (arith, small)) (row_typed lines m n (omega (arith, is)) (λ k d low. short (suc k) d (omega (arith, low))))

pub source_typed : (lines : List (List ℕ)) → length lines ≤ most_lines → All (λ line. length line ≤ 250) lines
    → AreOf (cell_kinds source_shape) (filled (length lines) lines)
source_typed lines few short =
    subst (λ ks. AreOf ks (filled (length lines) lines)) (sym kinds_source)
    (one (omega (arith, ints, few)) (row_typed lines (most_lines - length lines) most_lines (omega (arith, few)) short))

-- ---- values of those kinds are a number and texts

-- a value of a row of texts is a text
pub record IsText (row : List Value) (k : ℕ) : Type 0 where
  pub text : List ℕ
  pub is : slice_get row k ≡ Some (values.Text text)

pub text_there : (n : ℕ) (row : List Value) → AreOf (replicate n kinds.Text) row → (k : ℕ) → k < n → IsText row k
text_there zero row h k low = absurd (omega (arith, low))
text_there (suc n) [] h k low = elim h [ ]
text_there (suc n) (values.Int z ∷ row) (one is rest) k low = absurd is
text_there (suc n) (values.Truth b ∷ row) (one is rest) k low = absurd is
text_there (suc n) (values.Task m ∷ row) (one is rest) k low = absurd is
text_there (suc n) (values.Space s ∷ row) (one is rest) k low = absurd is
text_there (suc n) (values.Text t ∷ row) (one is rest) zero low = record { text = t; is = refl }
text_there (suc n) (values.Text t ∷ row) (one is rest) (suc k) low =
    let h = text_there n row rest k (omega (arith, low)) in record { text = h.text; is = h.is }

-- the values of a source text: a number, and the row
pub record Parts (vs : List Value) : Type 0 where
  pub number : ℤ
  pub row : List Value
  pub is : vs ≡ values.Int number ∷ row
  pub fits : FitsSigned w16 number
  pub texts : AreOf (replicate most_lines kinds.Text) row

two_parts : (ks : List Kind) (vs : List Value) → ks ≡ replicate most_lines kinds.Text → AreOf (kinds.Int ∷ ks) vs → Parts vs
two_parts ks [] same h = elim h [ ]
two_parts ks (values.Int z ∷ row) same (one is rest) = record { number = z; row = row; is = refl; fits = is; texts = subst (λ ks. AreOf ks row) same rest }
two_parts ks (values.Truth b ∷ row) same (one is rest) = absurd is
two_parts ks (values.Text t ∷ row) same (one is rest) = absurd is
two_parts ks (values.Task m ∷ row) same (one is rest) = absurd is
two_parts ks (values.Space s ∷ row) same (one is rest) = absurd is

pub parts_of : (vs : List Value) → AreOf (cell_kinds source_shape) vs → Parts vs
parts_of vs h = two_parts (replicate most_lines kinds.Text) vs refl (subst (λ ks. AreOf ks vs) kinds_source h)
