-- Operands of the kinds that tables give.
use Rattle.std.proofs.Common.{◌≡◌, ℕ, zero, suc, ◌+◌, ◌<◌, ◌≤◌, ◌&&◌, Bool, true, false, not, cond, ltb, List, [], ◌∷◌, ◌++◌, map, Option, Some, None, refl, sym, ap, subst, ◌∙◌, append_assoc, arith}
use Rattle.std.specs.Prelude.{reverse, nat_lt, take, min, length}
use Rattle.std.proofs.lemmas.Bool.{lt-ltb, ltb-true}
use Rattle.std.proofs.lemmas.List.{reverse-append, length-take, take_all}
use Rattle.eu_base.specs.declared.value.Kind.{Kind}
use Rattle.eu_base.specs.declared.value.Kind.TheVariants.{Int, Truth, Text, Task, Space}
use Rattle.eu_base.specs.declared.value.Value.{Value as Item}
use Rattle.eu_base.specs.declared.address.TheConstants.{CELLS}
use Rattle.eu_base.specs.Values.{kind_of, same_kind}
use Rattle.eu_base.specs.Shapes.{cell_kinds}
use Rattle.eu_base.specs.Room.{bytes_fit}
use Rattle.code_form.specs.declared.operand.Operand.{Operand}
use Rattle.code_form.specs.declared.operand.Operand.TheVariants.{Value as Of, Place as At, Aggregate}
use Rattle.code_form.specs.declared.operand.OperandKind.{OperandKind}
use Rattle.code_form.specs.declared.operand.OperandKind.TheVariants.{Value, Place}
use Rattle.code_form.specs.Machine.{operand_of, operand_bytes, bytes_on}
use Rattle.code_form.specs.Valid.{HasKinds, FitsKind, FitsKinds}
use Rattle.code_form.proofs.Frames.{bytes_fewer, bytes_below}
use Rattle.byte_spelling.specs.Spelling.{◌>>=◌}
use Rattle.byte_spelling.proofs.Laws.{bind_some, pass_some, some_is, both_true, true_both}
use Rattle.state_spelling.specs.Revived.{same_kinds, is_single, has_kinds, is_place, fits_kind, next_operand, taken}

kind_is : (k j : Kind) → same_kind k j ≡ true → k ≡ j
kind_is Int Int e = refl
kind_is Truth Truth e = refl
kind_is Text Text e = refl
kind_is Task Task e = refl
kind_is Space Space e = refl
kind_is _ _ e = absurd cc

kind_same : (k : Kind) → same_kind k k ≡ true
kind_same Int = refl
kind_same Truth = refl
kind_same Text = refl
kind_same Task = refl
kind_same Space = refl

kinds_are : (ks js : List Kind) → same_kinds ks js ≡ true → ks ≡ js
kinds_are [] [] e = refl
kinds_are [] (j ∷ js) e = absurd cc
kinds_are (k ∷ ks) [] e = absurd cc
kinds_are (k ∷ ks) (j ∷ js) e = let f = both_true (same_kind k j) (same_kinds ks js) e in let a = kind_is k j f.0 in let b = kinds_are ks js f.1 in cc

kinds_same : (ks : List Kind) → same_kinds ks ks ≡ true
kinds_same [] = refl
kinds_same (k ∷ ks) = rw (kind_same k) (kinds_same ks)

aggregate_is : (vs : List Item) → not (is_single vs) ≡ true → Aggregate vs ≡ operand_of vs
aggregate_is [] e = refl
aggregate_is (v ∷ []) e = absurd cc
aggregate_is (v ∷ w ∷ vs) e = refl

has_is : (o : Operand) (ks : List Kind) → has_kinds o ks ≡ true → HasKinds o ks
has_is (Of v) ks e = record { values = v ∷ []; is = refl; kinds = kinds_are (kind_of v ∷ []) ks e }
has_is (At a) ks e = absurd cc
has_is (Aggregate vs) ks e = let f = both_true (not (is_single vs)) (same_kinds (map kind_of vs) ks) e in record { values = vs; is = aggregate_is vs f.0; kinds = kinds_are (map kind_of vs) ks f.1 }

made_has : (vs : List Item) → has_kinds (operand_of vs) (map kind_of vs) ≡ true
made_has [] = refl
made_has (v ∷ []) = rw (kind_same (kind_of v)) refl
made_has (v ∷ w ∷ vs) = rw (kind_same (kind_of v), kind_same (kind_of w)) (kinds_same (map kind_of vs))

is_has : (o : Operand) (ks : List Kind) → HasKinds o ks → has_kinds o ks ≡ true
is_has o ks h = rw (h.is, ← h.kinds) (made_has h.values)

pub fits_is : (o : Operand) (k : OperandKind) → fits_kind o k ≡ true → FitsKind o k
fits_is o (Value s) e = has_is o (cell_kinds s) e
fits_is (At a) (Place s) e = ltb-true _ _ e
fits_is (Of v) (Place s) e = absurd cc
fits_is (Aggregate vs) (Place s) e = absurd cc

pub is_fits : (o : Operand) (k : OperandKind) → FitsKind o k → fits_kind o k ≡ true
is_fits o (Value s) f = is_has o (cell_kinds s) f
is_fits (At a) (Place s) f = lt-ltb _ _ f
is_fits (Of v) (Place s) f = absurd f
is_fits (Aggregate vs) (Place s) f = absurd f

-- ---- operands that are taken

pub reverse-cons : {A : Type 0} (a : A) (as' : List A) → reverse (a ∷ as') ≡ reverse as' ++ a ∷ []
reverse-cons a as' = reverse-append (a ∷ []) as'

abbrev pub Parts : Type 0
Parts = List Operand × List Operand

pub record Takes (ks : List OperandKind) (held : ℕ) (left : List Operand) (r : Parts) : Type 0 where
  pub fits : FitsKinds r.0 ks
  pub parts : left ≡ reverse r.0 ++ r.1
  pub room : bytes_fit held ≡ true → bytes_fit (bytes_on r.0 held) ≡ true

pub taken_takes : (ks : List OperandKind) (held : ℕ) (left : List Operand) (r : Parts) → taken ks held left ≡ Some r → Takes ks held left r
unfolding taken
taken_takes [] held left r e = subst (Takes [] held left) (some_is {A = Parts} ([], left) r e) (record { fits = tt; parts = refl; room = λ f. f })
taken_takes (k ∷ ks) held left r e = let a = bind_some (taken ks held left) (next_operand k held) r e in by a.0 (taken_takes ks held left a.0 a.1) a.2
  where
    by : (q : Parts) → Takes ks held left q → next_operand k held q ≡ Some r → Takes (k ∷ ks) held left r
    by (ops, []) t e' = absurd cc
    by (ops, o ∷ more) t e' =
        let g = pass_some {A = Parts} (fits_kind o k && bytes_fit (bytes_on (o ∷ ops) held)) (o ∷ ops, more) r e' in
        let f = both_true (fits_kind o k) (bytes_fit (bytes_on (o ∷ ops) held)) g.0 in
        subst (Takes (k ∷ ks) held left) g.1 (record {
          fits = (fits_is o k f.0, t.fits);
          parts = t.parts ∙ sym (ap (λ (x : List Operand). x ++ more) (reverse-cons o ops) ∙ append_assoc (reverse ops) (o ∷ []) more);
          room = λ _. f.1;
        })

pub taken_again : (ks : List OperandKind) (held : ℕ) (ops left : List Operand) → FitsKinds ops ks → bytes_fit (bytes_on ops held) ≡ true → taken ks held (reverse ops ++ left) ≡ Some (ops, left)
unfolding taken
taken_again [] held [] left f room = refl
taken_again [] held (o ∷ ops) left f room = absurd f
taken_again (k ∷ ks) held [] left f room = absurd f
taken_again (k ∷ ks) held (o ∷ ops) left f room =
    let e : reverse (o ∷ ops) ++ left ≡ reverse ops ++ (o ∷ left) = ap (λ (x : List Operand). x ++ left) (reverse-cons o ops) ∙ append_assoc (reverse ops) (o ∷ []) left in
    let less : bytes_fit (bytes_on ops held) ≡ true = bytes_fewer (bytes_on ops held) (operand_bytes o + bytes_on ops held) (omega arith) room in
    ap (taken (k ∷ ks) held) e ∙ rw (taken_again ks held ops (o ∷ left) f.1 less, is_fits o k f.0, room) refl

pub all_listed : (most : ℕ) (listed ks : List Kind) → listed ≡ take most ks → length listed < most → listed ≡ ks
all_listed most listed ks is few =
    let cut : length listed ≡ min most (length ks) = ap length is ∙ length-take most ks in
    is ∙ take_all most ks (omega (arith, cut, few))
