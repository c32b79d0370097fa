-- Only an identifier hangs on a phrase elsewhere: one that denotes a refinement of which nothing is known.
use Rattle.std.proofs.Common.{◌≡◌, ℕ, ◌+◌, Bool, true, false, if◌then◌else◌, List, [], Option, Some, None, refl}
use Rattle.elan_types.specs.declared.why.Why.TheVariants.{WrongPlace}
use Rattle.elan_scope.specs.declared.delivery.Delivery.{Delivery}
use Rattle.elan_scope.specs.declared.delivery.Delivery.TheVariants.{Open, Nothing, Of}
use Rattle.elan_names.specs.declared.entry.Denotes.{Denotes}
use Rattle.elan_names.specs.declared.entry.Denotes.TheVariants as denotes
use Rattle.elan_names.specs.declared.heading.Sort.TheVariants.{Procedure}
use Rattle.elan_scope.specs.declared.scope.Usage.{Usage}
use Rattle.elan_scope.specs.declared.scope.Usage.TheVariants as usage
use Rattle.elan_scope.specs.declared.scope.Scope.{Scope}
use Rattle.elan_scope.specs.declared.scope.Home.{Home}
use Rattle.elan_scope.specs.Scope.{Found}
use Rattle.elan_scope.specs.declared.known.Known.{Known}
use Rattle.elan_scope.specs.Scope.{refinement_named}
use Rattle.elan_scope.specs.Known.{delivery_at, leads_back}
use Rattle.elan_scope.specs.Ruled.{hangs}
use Rattle.elan_meant.specs.Verdict.{breaks, told}
use Rattle.elan_meant.proofs.Told.{told_never_hangs}
use Rattle.value_rules.specs.Calls as c
use Rattle.value_rules.specs.Values.{denoter}

abbrev pub IsOpen : Known → Scope → List ℕ → Type 0
IsOpen kn s x = (n : ℕ) × (refinement_named s x ≡ Some n) × (delivery_at kn n ≡ Open) × (leads_back kn n s.refinement ≡ false)

module _ (kn : Known) (at : ℕ) (s : Scope) (x : List ℕ) where
  referred_open : (n : ℕ) (d : Delivery) → c.referred at n d ≡ hangs → d ≡ Open
  referred_open n Open e = refl
  referred_open n Nothing e = absurd cc
  referred_open n (Of t) e = absurd cc

  refined_open : (o : Option ℕ) → refinement_named s x ≡ o → c.refined kn at s o ≡ hangs → IsOpen kn s x
  refined_open None i e = absurd cc
  refined_open (Some n) i e = by_test (leads_back kn n s.refinement) refl e
    where
      by_test : (b : Bool) → leads_back kn n s.refinement ≡ b → (if b then told (breaks (at, WrongPlace)) else c.referred at (s.bodies_before + n) (delivery_at kn n)) ≡ hangs
          → IsOpen kn s x
      by_test true j g = absurd cc
      by_test false j g = (n, i, referred_open (s.bodies_before + n) (delivery_at kn n) g, j)

  -- An identifier that hangs is an expression.
  abbrev pub OpenUse : Usage → Type 0
  OpenUse v = (v ≡ usage.Expression) × IsOpen kn s x

  used_open : (v : Usage) → c.refined_as kn v at s (refinement_named s x) ≡ hangs → OpenUse v
  used_open usage.Expression e = (refl, refined_open (refinement_named s x) refl e)
  used_open usage.Counter e = absurd cc

  denoted_open : (v : Usage) (home : Home) (n : ℕ) (d : Denotes) → c.denoted kn v at s x home n d ≡ hangs → OpenUse v
  denoted_open v home n (denotes.Variable t) e = absurd cc
  denoted_open v home n (denotes.Constant t) e = absurd cc
  denoted_open v home n (denotes.Bound t) e = absurd cc
  denoted_open v home n (denotes.Parameter q) e = absurd cc
  denoted_open v home n denotes.Procedure e = absurd (told_never_hangs (c.applied at s Procedure x []) e)
  denoted_open v home n denotes.Refinement e = used_open v e
  denoted_open v home n (denotes.Denoter q) e = absurd (told_never_hangs (denoter at q) e)

  pub named_open : (v : Usage) (o : Option Found) → c.named kn v at s x o ≡ hangs → OpenUse v
  named_open v None e = absurd (told_never_hangs (c.applied at s Procedure x []) e)
  named_open v (Some f) e = denoted_open v f.home f.number f.denotes e
