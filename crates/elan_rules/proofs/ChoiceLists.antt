-- One more branch.
use Rattle.std.proofs.Common.{◌≡◌, ℕ, List, [], ◌∷◌, ◌++◌, refl, sym, ap, subst, ◌∙◌}
use Rattle.elan_meant.specs.declared.meant.Meant.{Meant}
use Rattle.elan_scope.specs.declared.trouble.Trouble.{Trouble}
use Rattle.elan_scope.specs.Answer.{Fails}
use Rattle.elan_scope.specs.Ruled as ruled
use Rattle.elan_meant.specs.Verdict.{Verdict, gives, ◌>>=◌, told}
use Rattle.elan_meant.proofs.Told.{told_gives, fails_on}
use Rattle.elan_rules.specs.Choices.{Guard, chain, branched}

chain_push : (at : ℕ) (gs : List Guard) (g : Guard) (r : Verdict Meant) → chain at (gs ++ g ∷ []) r ≡ chain at gs (r >>= branched at g)
chain_push at [] g r = refl
chain_push at (h ∷ gs) g r = ap (λ (q : Verdict Meant). q >>= branched at h) (chain_push at gs g r)

pub chain_next : (at : ℕ) (gs : List Guard) (g : Guard) (m n : Meant) → told (branched at g m) ≡ ruled.gives n
    → chain at (gs ++ g ∷ []) (gives m) ≡ chain at gs (gives n)
chain_next at gs g m n h = chain_push at gs g (gives m) ∙ ap (chain at gs) (told_gives (branched at g m) n h)

all_fail : (at : ℕ) (gs : List Guard) (r : Verdict Meant) (e : Trouble) → Fails e (told r) → Fails e (told (chain at gs r))
all_fail at [] r e h = h
all_fail at (g ∷ gs) r e h = fails_on (chain at gs r) (branched at g) e (all_fail at gs r e h)

pub chain_fails : (at : ℕ) (gs : List Guard) (g : Guard) (m : Meant) (e : Trouble) → Fails e (told (branched at g m))
    → Fails e (told (chain at (gs ++ g ∷ []) (gives m)))
chain_fails at gs g m e h = subst (λ (v : Verdict Meant). Fails e (told v)) (sym (chain_push at gs g (gives m))) (all_fail at gs (branched at g m) e h)
