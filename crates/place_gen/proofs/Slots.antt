-- The operands of what parameters are given, and what takes them.
use Rattle.std.proofs.Common.{◌≡◌, ℕ, suc, ◌+◌, List, [], ◌∷◌, ◌++◌, map, length, drop, refl, ap, ◌∙◌, arith}
use Rattle.std.proofs.lemmas.List.{append-nil}
use Rattle.code_form.specs.declared.operand.Operand.{Operand}
use Rattle.code_form.specs.declared.operand.OperandKind.{OperandKind}
use Rattle.code_form.specs.Program.{Program}
use Rattle.code_form.specs.Machine.{Move, on_operands, value_in}
use Rattle.elan_types.specs.Eval.{Passed, AsValue, AsPlace, value_given}
use Rattle.place_gen.proofs.Cells.{Uses}
use Rattle.place_gen.proofs.Carry.{TakeAll, passed_operand, pushed_passed}

-- the values of operands are those that are given
value_same : (a : Passed) → value_in (passed_operand a) ≡ value_given a
value_same (AsValue []) = refl
value_same (AsValue (v ∷ [])) = refl
value_same (AsValue (v ∷ u ∷ vs)) = refl
value_same (AsPlace x) = refl

pub values_same : (as' : List Passed) → map value_in (map passed_operand as') ≡ map value_given as'
values_same [] = refl
values_same (a ∷ as') = ap (λ v. v ∷ map value_in (map passed_operand as')) (value_same a) ∙ ap (λ vs. value_given a ∷ vs) (values_same as')

module _ (p : Program) (L : Uses) where
  taken : (ks : List OperandKind) (as' : List Passed) (n : ℕ) (acc ops : List Operand) (go : List Operand → List Operand → Move) → TakeAll p ks L as'
      → on_operands (length ks + n) acc (pushed_passed p as' ops) go ≡ on_operands n (map passed_operand as' ++ acc) ops go
  taken [] [] n acc ops go t = let e : 0 + n ≡ n = omega arith in ap (λ n. on_operands n acc ops go) e
  taken [] (a ∷ as') n acc ops go t = absurd t
  taken (k ∷ ks) [] n acc ops go t = absurd t
  taken (k ∷ ks) (a ∷ as') n acc ops go t =
      let e : suc (length ks) + n ≡ length ks + suc n = omega arith in
      ap (λ n. on_operands n acc (pushed_passed p as' (passed_operand a ∷ ops)) go) e ∙ taken ks as' (suc n) acc (passed_operand a ∷ ops) go t.1

  -- a call or a request takes what was pushed for it
  pub all_taken : (ks : List OperandKind) (n : ℕ) (as' : List Passed) (ops : List Operand) (go : List Operand → List Operand → Move) → n ≡ length ks
      → TakeAll p ks L as' → on_operands n [] (pushed_passed p as' ops) go ≡ go (map passed_operand as') ops
  all_taken ks n as' ops go many t =
      let e : n ≡ length ks + 0 = omega (arith, many) in
      ap (λ n. on_operands n [] (pushed_passed p as' ops) go) e ∙ taken ks as' 0 [] ops go t ∙ ap (λ l. go l ops) (append-nil (map passed_operand as'))

  -- what is given behind the first
  pub behind : (ks ls : List OperandKind) (as' : List Passed) → TakeAll p (ks ++ ls) L as' → TakeAll p ls L (drop (length ks) as')
  behind [] ls as' t = t
  behind (k ∷ ks) ls [] t = absurd t
  behind (k ∷ ks) ls (a ∷ as') t = behind ks ls as' t.1
