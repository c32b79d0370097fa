-- Stores, by what both sides deliver and the variable at the left.
use Rattle.std.proofs.Common.{◌≡◌, ℕ, Bool, true, false, [], ◌∷◌, Option, Some, None, is_some, refl, sym, ap, subst, ◌∙◌}
use Rattle.eu_base.specs.declared.shape.Shape.{Shape}
use Rattle.elan_types.specs.declared.elan_type.ElanType.{ElanType}
use Rattle.elan_types.specs.declared.elan_type.ElanType.TheVariants.{Dataspace}
use Rattle.elan_types.specs.Types.{shape_in, same_type}
use Rattle.elan_types.specs.declared.core_phrase.PlacePhrase.{PlacePhrase}
use Rattle.elan_types.specs.declared.core_phrase.Action.{Action}
use Rattle.elan_scope.specs.declared.trouble.Trouble.{Trouble}
use Rattle.elan_scope.specs.declared.trouble.Trouble.TheVariants.{NoMemory, Breaks, Hangs}
use Rattle.elan_scope.specs.Answer.{Fails}
use Rattle.elan_scope.specs.Ruled as ruled
use Rattle.elan_scope.specs.Ruled.{Fault}
use Rattle.elan_meant.specs.declared.meant.Meant.{Meant}
use Rattle.elan_meant.specs.declared.meant.Meant.TheVariants.{Done}
use Rattle.elan_meant.specs.Parts.{value_of, variable}
use Rattle.elan_meant.specs.Verdict.{Verdict, gives, breaks, ◌>>=◌, told}
use Rattle.elan_meant.proofs.Told.{told_gives, fails_on}
use Rattle.elan_rules.specs.Units.{agreed, given_to, binding, stored, stored_or, initial}
use Rattle.elan_rules.specs.walks.UnitSteps.{agreed_shape}

shape_fails : (q : Verdict ElanType) (e : Trouble) → Fails e (told (agreed_shape q)) → Fails e (told q)
shape_fails q NoMemory h = tt
shape_fails (gives t) (Breaks a w) h = absurd cc
shape_fails (breaks d) (Breaks a w) h = let k : d ≡ (a, w) = cc in ap (λ (f : Fault). ruled.breaks f) k
shape_fails (gives t) Hangs h = absurd cc
shape_fails (breaks d) Hangs h = absurd cc

pub stored_fails : (at : ℕ) (l r : Meant) (e : Trouble) → Fails e (told (agreed_shape (agreed at l r))) → Fails e (told (stored at l r))
stored_fails at l r e h =
    fails_on (agreed at l r) (λ t. variable at l >>= (λ x. gives (given_to (same_type Dataspace t) x (shape_in t) (value_of r)))) e
    (shape_fails (agreed at l r) e h)

shape_stored : (at : ℕ) (l r : Meant) (q : Verdict ElanType) (s : Bool × Shape) → told (agreed_shape q) ≡ ruled.gives s
    → told (q >>= (λ t. variable at l >>= (λ x. gives (given_to (same_type Dataspace t) x (shape_in t) (value_of r)))))
    ≡ told (variable at l >>= (λ x. gives (given_to s.0 x s.1 (value_of r))))
shape_stored at l r (gives t) s h =
    let e : (same_type Dataspace t, shape_in t) ≡ s = cc in
    ap (λ (z : Bool × Shape). told (variable at l >>= (λ x. gives (given_to z.0 x z.1 (value_of r))))) e
shape_stored at l r (breaks d) s h = absurd cc

pub stored_is : (at : ℕ) (l r : Meant) (s : Bool × Shape) (x : PlacePhrase) → told (agreed_shape (agreed at l r)) ≡ ruled.gives s
    → told (variable at l) ≡ ruled.gives x → told (stored at l r) ≡ ruled.gives (given_to s.0 x s.1 (value_of r))
stored_is at l r s x h k =
    shape_stored at l r (agreed at l r) s h
    ∙ ap (λ (q : Verdict PlacePhrase). told (q >>= (λ y. gives (given_to s.0 y s.1 (value_of r))))) (told_gives (variable at l) x k)

-- ---- a name in its declaration, and its initial value

abbrev initial_with : Option Action → ℕ → Meant → Meant → Verdict Meant
initial_with o at n m = stored_or at n m o >>= (λ a. gives (Done (a ∷ [])))

no_binding : (o : Option Action) → is_some o ≡ false → o ≡ None
no_binding None e = refl
no_binding (Some a) e = absurd cc

-- where no BOUND variable is bound
pub initial_stores : (at : ℕ) (n m : Meant) → is_some (binding n m) ≡ false → initial at n m ≡ (stored at n m >>= (λ a. gives (Done (a ∷ []))))
initial_stores at n m e = ap (λ (o : Option Action). initial_with o at n m) (no_binding (binding n m) e)

pub initial_fails : (at : ℕ) (n m : Meant) (e : Trouble) → is_some (binding n m) ≡ false → Fails e (told (stored at n m)) → Fails e (told (initial at n m))
initial_fails at n m e b h =
    subst (λ (v : Verdict Meant). Fails e (told v)) (sym (initial_stores at n m b)) (fails_on (stored at n m) (λ a. gives (Done (a ∷ []))) e h)

-- where one is
pub initial_binds : (at : ℕ) (n m : Meant) (a : Action) → binding n m ≡ Some a → initial at n m ≡ gives (Done (a ∷ []))
initial_binds at n m a e = ap (λ (o : Option Action). initial_with o at n m) e
