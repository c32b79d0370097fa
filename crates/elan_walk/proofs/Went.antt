-- Walks over the nodes of lists, one list after the other.
use Rattle.std.proofs.Common.{◌≡◌, ℕ, ◌+◌, ◌<◌, Bool, false, List, [], ◌∷◌, ◌++◌, length, drop, get_or, refl, sym, ap, ◌∙◌, add-one, drop-cons}
use Rattle.std.specs.Prelude.{suc}
use Rattle.elan_walk.specs.Nodes.{Node}
use Rattle.elan_walk.specs.Walk.{went, Seen}

pub went_append : {S : Type 0} (after : S → Node → S) (s : S) (ms ns : List Node) → went after s (ms ++ ns) ≡ went after (went after s ms) ns
went_append after s [] ns = refl
went_append after s (m ∷ ms) ns = went_append after (after s m) ms ns

-- Behind the nodes that are left stands what a walk over all of them leads to.
abbrev pub Rest : {S : Type 0} → (S → Bool) → (S → Node → S) → List Node → List Node → S → S → Type 0
Rest wanted after left all begun now = wanted now ≡ false → (wanted begun ≡ false) × (went after now left ≡ went after begun all)

-- what is left of a list, from one of its items on
pub rest_of : {A : Type 0} (xs : List A) (i : ℕ) (x : A) → i < length xs → x ≡ get_or xs i x → drop i xs ≡ x ∷ drop (i + 1) xs
rest_of xs i x within e = rw (add-one, drop-cons xs i x within) (ap (λ y. y ∷ drop (suc i) xs) (sym e))

module _ {S : Type 0} (wanted : S → Bool) (after : S → Node → S) where
  pub two : (ms ns : List Node) {all : List Node} {s t u : S} → ms ++ ns ≡ all → Seen wanted after ms s t → Seen wanted after ns t u
      → Seen wanted after all s u
  two ms ns {all} {s} e x y h =
      let q = y h in let p = x q.0 in (p.0, q.1 ∙ ap (λ v. went after v ns) p.1 ∙ sym (went_append after s ms ns) ∙ ap (went after s) e)

  pub three : (ms ns os : List Node) {all : List Node} {s t u v : S} → ms ++ ns ++ os ≡ all → Seen wanted after ms s t → Seen wanted after ns t u
      → Seen wanted after os u v → Seen wanted after all s v
  three ms ns os {all} {s} {t} {u} {v} e x y z =
      two (ms ++ ns) os {all = all} {s = s} {t = u} {u = v} e (two ms ns {all = ms ++ ns} {s = s} {t = t} {u = u} refl x y) z

  pub four : (ms ns os ps : List Node) {all : List Node} {s t u v w : S} → ms ++ ns ++ os ++ ps ≡ all → Seen wanted after ms s t
      → Seen wanted after ns t u → Seen wanted after os u v → Seen wanted after ps v w → Seen wanted after all s w
  four ms ns os ps {all} {s} {t} {u} {v} {w} e x y z a =
      two (ms ++ ns ++ os) ps {all = all} {s = s} {t = v} {u = w} e (three ms ns os {all = ms ++ ns ++ os} {s = s} {t = t} {u = u} {v = v} refl x y z) a

  -- a turn of a loop
  pub turn : (ms next all : List Node) {left : List Node} {begun s t : S} → left ≡ ms ++ next → Rest wanted after left all begun s
      → Seen wanted after ms s t → Rest wanted after next all begun t
  turn ms next all {left} {begun} {s} e r x h =
      let q = x h in let p = r q.0 in
      (p.0, ap (λ v. went after v next) q.1 ∙ sym (went_append after s ms next) ∙ sym (ap (went after s) e) ∙ p.1)

  -- the end of a loop
  pub ends : (all : List Node) {left : List Node} {begun now : S} → left ≡ [] → Rest wanted after left all begun now → Seen wanted after all begun now
  ends all {left} {begun} {now} e r h = let p = r h in (p.0, ap (went after now) (sym e) ∙ p.1)
