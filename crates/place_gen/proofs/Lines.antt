-- Lines that stand in code.
use Rattle.std.proofs.Common.{◌≡◌, ℕ, ◌+◌, ◌<◌, List, [], ◌∷◌, ◌++◌, length, Some, ap, ◌∙◌, subst, arith, append_assoc, length-append}
use Rattle.std.specs.Prelude.{slice_get}
use Rattle.std.proofs.lemmas.Option.{slice_get-get_or}
use Rattle.std.proofs.Math.Seq.{get_or-append_seam}
use Rattle.code_form.specs.declared.operand.OperandKind.{OperandKind}
use Rattle.code_form.specs.declared.code.Line.{Line}
use Rattle.code_form.specs.declared.code.Spot.{Spot}
use Rattle.place_gen.specs.Stretch.{Stretch, join}

-- these lines stand in the code at this place
abbrev pub HasAt : List Line → ℕ → List Line → Type 0
HasAt code pc [] = Unit {0}
HasAt code pc (l ∷ ls) = (slice_get code pc ≡ Some l) × HasAt code (pc + 1) ls

pub has_front : (code : List Line) (pc : ℕ) (a b : List Line) → HasAt code pc (a ++ b) → HasAt code pc a
has_front code pc [] b h = tt
has_front code pc (l ∷ a) b h = (h.0, has_front code (pc + 1) a b h.1)

has_back : (code : List Line) (pc : ℕ) (a b : List Line) → HasAt code pc (a ++ b) → HasAt code (pc + length a) b
has_back code pc [] b h = let e : pc ≡ pc + 0 = omega arith in subst (λ n. HasAt code n b) e h
has_back code pc (l ∷ a) b h =
    let e : pc + 1 + length a ≡ pc + length (l ∷ a) = omega arith in
    subst (λ n. HasAt code n b) e (has_back code (pc + 1) a b h.1)

-- what stands behind so many lines
pub has_rest : (code : List Line) (pc n : ℕ) (a b : List Line) → length a ≡ n → HasAt code pc (a ++ b) → HasAt code (pc + n) b
has_rest code pc n a b e h = subst (λ n. HasAt code (pc + n) b) e (has_back code pc a b h)

pub has_all : (is pre : List Line) → HasAt (pre ++ is) (length pre) is
has_all [] pre = tt
has_all (i ∷ is) pre =
    let within : length pre < length (pre ++ i ∷ is) = omega (arith, length-append pre (i ∷ is)) in
    let here = slice_get-get_or (pre ++ i ∷ is) (length pre) i within ∙ ap Some (get_or-append_seam pre i is i) in
    let n : length (pre ++ i ∷ []) ≡ length pre + 1 = omega (arith, length-append pre (i ∷ [])) in
    let rest = has_all is (pre ++ i ∷ []) in
    let rest' = subst (λ l. HasAt l (length (pre ++ i ∷ [])) is) (append_assoc pre (i ∷ []) is) rest in
    (here, subst (λ m. HasAt (pre ++ i ∷ is) m is) n rest')

-- so many lines, wherever they stand
abbrev pub IsSized : Stretch → Type 0
IsSized f = (ks : List OperandKind) (m : Spot) (pc : ℕ) → length (f.lines ks m pc) ≡ f.size

pub join_sized : (f g : Stretch) → IsSized f → IsSized g → IsSized (join f g)
join_sized f g x y ks m pc = omega (arith, length-append (f.lines ks m pc) (g.lines (f.leaves ks) m (pc + f.size)), x ks m pc, y (f.leaves ks) m (pc + f.size))
