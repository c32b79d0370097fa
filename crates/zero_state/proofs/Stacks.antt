-- Operands on a stack.
use Rattle.std.proofs.Common.{◌≡◌, ℕ, zero, suc, ◌-◌, ◌≤◌, List, [], ◌∷◌, ◌++◌, length, take, drop, refl, sym, ap, ◌∙◌, arith, append_assoc, append-nil}
use Rattle.std.proofs.Common.{length-drop}
use Rattle.std.specs.Prelude.{reverse}
use Rattle.std.proofs.lemmas.List.{reverse-append, length-reverse, take-append-drop, take_at, drop_at}
use Rattle.code_form.specs.declared.operand.Operand.{Operand}
use Rattle.code_form.specs.Machine.{Move, on_operands}

-- the newest of a list come first when it is turned round
module _ {X : Type 0} (xs : List X) (n : ℕ) (le : n ≤ length xs) where
  abbrev kept : ℕ
  kept = length xs - n

  halves : reverse xs ≡ reverse (drop kept xs) ++ reverse (take kept xs)
  halves = ap reverse (sym (take-append-drop kept xs)) ∙ reverse-append (take kept xs) (drop kept xs)

  many : length (reverse (drop kept xs)) ≡ n
  many =
      let e = length-reverse (drop kept xs) in
      let f = length-drop kept xs in
      omega (arith, e, f)

  pub newest : take n (reverse xs) ≡ reverse (drop kept xs)
  newest = ap (take n) halves ∙ take_at (reverse (drop kept xs)) (reverse (take kept xs)) n many

  pub older : drop n (reverse xs) ≡ reverse (take kept xs)
  older = ap (drop n) halves ∙ drop_at (reverse (drop kept xs)) (reverse (take kept xs)) n many

-- the newest operands are taken, the oldest of them first
pub taken : (n : ℕ) (acc ops : List Operand) (go : List Operand → List Operand → Move) → n ≤ length ops
    → on_operands n acc ops go ≡ go (reverse (take n ops) ++ acc) (drop n ops)
taken zero acc ops go le = refl
taken (suc n) acc [] go le = absurd (omega arith)
taken (suc n) acc (o ∷ ops) go le =
    let e : reverse (o ∷ take n ops) ++ acc ≡ reverse (take n ops) ++ (o ∷ acc) =
    ap (λ l. l ++ acc) (reverse-append (o ∷ []) (take n ops)) ∙ append_assoc (reverse (take n ops)) (o ∷ []) acc in
    taken n (o ∷ acc) ops go (omega arith) ∙ ap (λ l. go l (drop n ops)) (sym e)

pub taken_all : (n : ℕ) (ops : List Operand) (go : List Operand → List Operand → Move) → n ≤ length ops
    → on_operands n [] ops go ≡ go (reverse (take n ops)) (drop n ops)
taken_all n ops go le = taken n [] ops go le ∙ ap (λ l. go l (drop n ops)) (append-nil (reverse (take n ops)))
