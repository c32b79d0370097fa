-- What a task and its sons add.
use Rattle.std.proofs.Common.{◌≡◌, ℕ, zero, suc, ◌+◌, ◌-◌, ◌≤◌, List, [], ◌∷◌, ◌++◌, length, drop, refl, sym, ap, subst, ◌∙◌, append_assoc, append-nil, arith}
use Rattle.std.specs.List.{flat_map}
use Rattle.std.proofs.lemmas.List.{drop_all}
use Rattle.task_numbers.specs.declared.number.TaskNo.{TaskNo}
use Rattle.task_tree.specs.Tree.{Tree, sons}
use Rattle.task_tree.specs.declared.walks.Entry.{Entry}
use Rattle.task_tree.specs.Families as spec

-- nothing is left to add
all_added : {A : Type 0} (below : TaskNo → List A) (xs : List TaskNo) (k : ℕ) (out all : List A) → length xs ≤ k → out ++ flat_map below (drop k xs) ≡ all → out ≡ all
all_added below xs k out all past added =
    let none : flat_map below (drop k xs) ≡ [] = ap (flat_map below) (drop_all k xs past) in sym (append-nil out) ∙ ap (λ l. out ++ l) (sym none) ∙ added

-- a tree of one level more
descent_more : (n : ℕ) (t : TaskNo) (s : Tree) → (n ≡ 0 → ⊥) → spec.descent n t s ≡ flat_map (λ u. spec.descent (n - 1) u s) (sons t s) ++ t ∷ []
descent_more zero t s some = absurd (some refl)
descent_more (suc n) t s some =
    let less : suc n - 1 ≡ n = omega arith in
    subst (λ m. spec.descent (suc n) t s ≡ flat_map (λ u. spec.descent m u s) (sons t s) ++ t ∷ []) (sym less) refl

entries_more : (n level : ℕ) (t : TaskNo) (s : Tree) → (n ≡ 0 → ⊥)
    → spec.entries n level t s ≡ record { task = t; level = level } ∷ flat_map (λ u. spec.entries (n - 1) (level + 1) u s) (sons t s)
entries_more zero level t s some = absurd (some refl)
entries_more (suc n) level t s some =
    let less : suc n - 1 ≡ n = omega arith in
    subst (λ m. spec.entries (suc n) level t s ≡ record { task = t; level = level } ∷ flat_map (λ u. spec.entries m (level + 1) u s) (sons t s)) (sym less) refl

pub descended : (n : ℕ) (t : TaskNo) (s : Tree) (xs old out new : List TaskNo) (k : ℕ) → (n ≡ 0 → ⊥) → xs ≡ sons t s → length xs ≤ k
    → out ++ flat_map (λ u. spec.descent (n - 1) u s) (drop k xs) ≡ old ++ flat_map (λ u. spec.descent (n - 1) u s) xs → new ≡ out ++ t ∷ []
    → new ≡ old ++ spec.descent n t s
descended n t s xs old out new k some sons_are past added last =
    let below : TaskNo → List TaskNo = λ u. spec.descent (n - 1) u s in
    last
    ∙ ap (λ l. l ++ t ∷ []) (all_added below xs k out (old ++ flat_map below xs) past added)
    ∙ append_assoc old (flat_map below xs) (t ∷ [])
    ∙ ap (λ l. old ++ (flat_map below l ++ t ∷ [])) sons_are
    ∙ ap (λ l. old ++ l) (sym (descent_more n t s some))

pub entered : (n level : ℕ) (t : TaskNo) (s : Tree) (xs : List TaskNo) (old out : List Entry) (k : ℕ) → (n ≡ 0 → ⊥) → xs ≡ sons t s → length xs ≤ k
    → out ++ flat_map (λ u. spec.entries (n - 1) (level + 1) u s) (drop k xs)
    ≡ old ++ (record { task = t; level = level } ∷ flat_map (λ u. spec.entries (n - 1) (level + 1) u s) xs)
    → out ≡ old ++ spec.entries n level t s
entered n level t s xs old out k some sons_are past added =
    let below : TaskNo → List Entry = λ u. spec.entries (n - 1) (level + 1) u s in
    let first : Entry = record { task = t; level = level } in
    all_added below xs k out (old ++ (first ∷ flat_map below xs)) past added
    ∙ ap (λ l. old ++ (first ∷ flat_map below l)) sons_are
    ∙ ap (λ l. old ++ l) (sym (entries_more n level t s some))
