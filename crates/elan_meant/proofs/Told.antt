-- What a rule says, and what follows from it.
use Rattle.std.proofs.Common.{◌≡◌, Result, ap, sym, subst}
use Rattle.elan_scope.specs.declared.trouble.Trouble.{Trouble}
use Rattle.elan_scope.specs.declared.trouble.Trouble.TheVariants.{NoMemory, Breaks, Hangs}
use Rattle.elan_scope.specs.Ruled as ruled
use Rattle.elan_scope.specs.Ruled.{Fault, hangs}
use Rattle.elan_scope.specs.Answer.{Fails}
use Rattle.elan_meant.specs.Verdict.{Verdict, gives, breaks, ◌>>=◌, told, Tells}

pub told_gives : {A : Type 0} (v : Verdict A) (x : A) → told v ≡ ruled.gives x → v ≡ gives x
told_gives {A = A} (gives y) x e = let h : y ≡ x = cc in ap (λ (z : A). gives z) h
told_gives (breaks d) x e = absurd cc

told_breaks : {A : Type 0} (v : Verdict A) (f : Fault) → told v ≡ ruled.breaks f → v ≡ breaks f
told_breaks (gives y) f e = absurd cc
told_breaks (breaks d) f e = let h : d ≡ f = cc in ap (λ (z : Fault). breaks z) h

pub told_never_hangs : {A : Type 0} (v : Verdict A) → told v ≡ hangs → ⊥
told_never_hangs (gives y) e = cc
told_never_hangs (breaks d) e = cc

pub goes_on : {A B : Type 0} (out : Result B Trouble) (v : Verdict A) (f : A → Verdict B) (x : A) → told v ≡ ruled.gives x → Tells out (f x)
    → Tells out (v >>= f)
goes_on {A = A} out v f x e h = subst (λ (w : Verdict A). Tells out (w >>= f)) (sym (told_gives v x e)) h

pub fails_on : {A B : Type 0} (v : Verdict A) (f : A → Verdict B) (e : Trouble) → Fails e (told v) → Fails e (told (v >>= f))
fails_on v f NoMemory h = tt
fails_on {A = A} v f (Breaks at why) h = ap (λ (w : Verdict A). told (w >>= f)) (told_breaks v (at, why) h)
fails_on v f Hangs h = absurd (told_never_hangs v h)
