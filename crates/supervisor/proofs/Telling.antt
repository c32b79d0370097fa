-- Lines that are put together.
use Rattle.std.proofs.Common.{◌≡◌, ℕ, ◌+◌, ◌*◌, List, [], ◌∷◌, ◌++◌, replicate, append_assoc, ap, ◌∙◌, arith}
use Rattle.std.proofs.lemmas.List.{replicate-append-replicate}

-- two blanks more
pub two_more : (n : ℕ) → replicate {A = ℕ} (n * 2) 32 ++ (32 ∷ (32 ∷ [])) ≡ replicate {A = ℕ} ((n + 1) * 2) 32
two_more n =
    let more : n * 2 + 2 ≡ (n + 1) * 2 = omega arith in
    replicate-append-replicate {A = ℕ} (n * 2) 2 32 ∙ ap (λ (k : ℕ). replicate {A = ℕ} k 32) more

regroup : (a b c d e f : List ℕ) → ((((a ++ b) ++ c) ++ d) ++ e) ++ f ≡ a ++ (b ++ (c ++ (d ++ (e ++ f))))
regroup a b c d e f = simp append_assoc

-- six pieces, one after another
pub joined : (a b c d e f l0 l1 l2 l3 l4 l5 : List ℕ) → l0 ≡ a → l1 ≡ l0 ++ b → l2 ≡ l1 ++ c → l3 ≡ l2 ++ d → l4 ≡ l3 ++ e → l5 ≡ l4 ++ f
    → l5 ≡ a ++ (b ++ (c ++ (d ++ (e ++ f))))
joined a b c d e f l0 l1 l2 l3 l4 l5 h0 h1 h2 h3 h4 h5 = let r = regroup a b c d e f in cc
