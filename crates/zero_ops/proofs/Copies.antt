-- Copies of a text behind one another.
use Rattle.std.proofs.Common.{ℕ, zero, suc, ◌+◌, ◌*◌, ◌≡◌, ◌∙◌, ap, sym, List, ◌++◌, length, arith}
use Rattle.std.specs.Prelude.{replicate}
use Rattle.std.specs.List.{concat}
use Rattle.std.proofs.lemmas.List.{append-nil, append_assoc, length-append}

pub length-copies : (n : ℕ) (t : List ℕ) → length (concat (replicate n t)) ≡ n * length t
length-copies zero t = omega arith
length-copies (suc n) t = omega (arith, length-append t (concat (replicate n t)), length-copies n t)

pub copies_more : (n : ℕ) (t : List ℕ) → concat (replicate (n + 1) t) ≡ concat (replicate n t) ++ t
copies_more zero t = append-nil t
copies_more (suc n) t =
    let e : suc n + 1 ≡ suc (n + 1) = omega arith in
    rw e (ap (λ s. t ++ s) (copies_more n t) ∙ sym (append_assoc t (concat (replicate n t)) t))
