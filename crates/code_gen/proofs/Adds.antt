-- Names that are added one after another.
use Rattle.std.proofs.Common.{◌≡◌, ℕ, ◌+◌, ◌<◌, false, List, [], ◌∷◌, ◌++◌, length, drop, get_or, refl, sym, ap, ◌∙◌, add-one, drop-cons, append_assoc}
use Rattle.std.specs.Prelude.{suc}
use Rattle.std.proofs.lemmas.List.{append-nil}
use Rattle.code_gen.specs.Names.{Names}
use Rattle.code_gen.specs.walks.Found.{Adds}
use Rattle.code_gen.specs.declared.names.Found.{Found}

-- What was found, and behind it what is left, is what was found at first, and behind it all.
abbrev pub Rest : Names → Names → Found → Found → Type 0
Rest left whole begun now = now.wanted ≡ false → (begun.wanted ≡ false) × (now.numbers ++ left ≡ begun.numbers ++ whole)

-- what is left of a list, from one of its items on
pub rest_of : {A : Type 0} (xs : List A) (i : ℕ) (x : A) → i < length xs → x ≡ get_or xs i x → drop i xs ≡ x ∷ drop (i + 1) xs
rest_of xs i x within e = rw (add-one, drop-cons xs i x within) (ap (λ y. y ∷ drop (suc i) xs) (sym e))

pub none : {whole : Names} (s : Found) → [] ≡ whole → Adds whole s s
none s e h = (h, sym (append-nil s.numbers) ∙ ap (λ l. s.numbers ++ l) e)

pub one : (ms : Names) {whole : Names} (s t : Found) → ms ≡ whole → Adds ms s t → Adds whole s t
one ms s t e x h = let p = x h in (p.0, p.1 ∙ ap (λ l. s.numbers ++ l) e)

pub two : (ms ns : Names) {whole : Names} (s t u : Found) → ms ++ ns ≡ whole → Adds ms s t → Adds ns t u → Adds whole s u
two ms ns s t u e x y h =
    let q = y h in let p = x q.0 in (p.0, q.1 ∙ ap (λ l. l ++ ns) p.1 ∙ append_assoc s.numbers ms ns ∙ ap (λ l. s.numbers ++ l) e)

pub three : (ms ns os : Names) {whole : Names} (s t u v : Found) → ms ++ (ns ++ os) ≡ whole → Adds ms s t → Adds ns t u → Adds os u v → Adds whole s v
three ms ns os s t u v e x y z = two ms (ns ++ os) s t v e x (two ns os t u v refl y z)

-- a turn of a loop
pub turn : (ms next whole : Names) {left : Names} (begun s t : Found) → left ≡ ms ++ next → Rest left whole begun s → Adds ms s t
    → Rest next whole begun t
turn ms next whole begun s t e r x h =
    let q = x h in let p = r q.0 in
    (p.0, ap (λ l. l ++ next) q.1 ∙ append_assoc s.numbers ms next ∙ sym (ap (λ l. s.numbers ++ l) e) ∙ p.1)

-- the end of a loop
pub ends : (whole : Names) {left : Names} (begun now : Found) → left ≡ [] → Rest left whole begun now → Adds whole begun now
ends whole begun now e r h = let p = r h in (p.0, sym (append-nil now.numbers) ∙ sym (ap (λ l. now.numbers ++ l) e) ∙ p.1)
