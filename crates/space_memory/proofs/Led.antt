-- A directory whose names lead to live spaces, after spaces and names came and went.
use Rattle.std.proofs.Common.{◌≡◌, ◌≤◌, length, ℕ, Bool, true, false, not, cond, nat_eq, bytes_eq, List, [], ◌∷◌, ◌++◌, Option, None, Some, true≢false, refl, sym, ap, ◌∙◌, subst, arith}
use Rattle.std.proofs.lemmas.Option.{none-some}
use Rattle.std.specs.List.{AllByRecursion}
use Rattle.std.specs.Option.{is_some, IfSome}
use Rattle.std.proofs.lemmas.Map.{length-set_value}
use Rattle.task_numbers.specs.declared.number.SpaceNo.{SpaceNo}
use Rattle.data_space.specs.Data.{SpaceData}
use Rattle.space_memory.specs.Live.{space_at, IsLive, without, with_space}
use Rattle.space_names.specs.Directory as directory
use Rattle.space_memory.specs.Memories.{LeadToSpaces}

-- a space stays live where others come, go or change
live_new : (n : ℕ) (es more : List (ℕ × SpaceData)) → IsLive n es → IsLive n (es ++ more)
live_new n [] more live = absurd (true≢false (sym live))
live_new n (e ∷ es) more live = by (nat_eq n e.0) live (live_new n es more)
  where
    by : (b : Bool) → is_some (cond b (Some e.1) (space_at n es)) ≡ true → (IsLive n es → IsLive n (es ++ more))
        → is_some (cond b (Some e.1) (space_at n (es ++ more))) ≡ true
    by true live rest = refl
    by false live rest = rest live

live_with : (n k : ℕ) (w : SpaceData) (es : List (ℕ × SpaceData)) → IsLive n es → IsLive n (with_space k w es)
live_with n k w [] live = live
live_with n k w (e ∷ es) live = by (nat_eq k e.0) (nat_eq n e.0) refl live (live_with n k w es)
  where
    by : (c b : Bool) → nat_eq n e.0 ≡ b → is_some (cond b (Some e.1) (space_at n es)) ≡ true → (IsLive n es → IsLive n (with_space k w es))
        → IsLive n (cond c ((e.0, w) ∷ es) (e ∷ with_space k w es))
    by true true same live rest = ap (λ (b : Bool). is_some (cond b (Some w) (space_at n es))) same
    by true false same live rest = ap (λ (b : Bool). is_some (cond b (Some w) (space_at n es))) same ∙ live
    by false true same live rest = ap (λ (b : Bool). is_some (cond b (Some e.1) (space_at n (with_space k w es)))) same
    by false false same live rest = ap (λ (b : Bool). is_some (cond b (Some e.1) (space_at n (with_space k w es)))) same ∙ rest live

live_without : (n k : ℕ) (es : List (ℕ × SpaceData)) → nat_eq k n ≡ false → IsLive n es → IsLive n (without k es)
live_without n k [] other live = live
live_without n k (e ∷ es) other live = by (nat_eq k e.0) (nat_eq n e.0) refl refl live (live_without n k es other)
  where
    by : (c b : Bool) → nat_eq k e.0 ≡ c → nat_eq n e.0 ≡ b → is_some (cond b (Some e.1) (space_at n es)) ≡ true → (IsLive n es → IsLive n (without k es))
        → IsLive n (cond c es (e ∷ without k es))
    by true true here same live rest = absurd (grind (arith, here, same, other))
    by true false here same live rest = live
    by false true here same live rest = ap (λ (b : Bool). is_some (cond b (Some e.1) (space_at n (without k es)))) same
    by false false here same live rest = ap (λ (b : Bool). is_some (cond b (Some e.1) (space_at n (without k es)))) same ∙ rest live

-- names that lead to spaces of the one list lead to spaces of the other
lead_on : (names : List (List ℕ × SpaceNo)) (es fs : List (ℕ × SpaceData)) → ((n : ℕ) → IsLive n es → IsLive n fs) → LeadToSpaces names es → LeadToSpaces names fs
lead_on names es fs on led = record { each = by names led.each }
  where
    by : (names : List (List ℕ × SpaceNo)) → AllByRecursion (λ entry. IsLive entry.1.0 es) names → AllByRecursion (λ entry. IsLive entry.1.0 fs) names
    by [] l = tt
    by (e ∷ names) l = (on e.1.0 l.0, by names l.1)

pub led_new : (names : List (List ℕ × SpaceNo)) (es more : List (ℕ × SpaceData)) → LeadToSpaces names es → LeadToSpaces names (es ++ more)
led_new names es more led = lead_on names es (es ++ more) (λ n. live_new n es more) led

pub led_with : (names : List (List ℕ × SpaceNo)) (es : List (ℕ × SpaceData)) (k : ℕ) (w : SpaceData) → LeadToSpaces names es
    → LeadToSpaces names (with_space k w es)
led_with names es k w led = lead_on names es (with_space k w es) (λ n. live_with n k w es) led

pub led_without : (k : ℕ) (names : List (List ℕ × SpaceNo)) (es : List (ℕ × SpaceData)) → LeadToSpaces names es
    → LeadToSpaces (directory.without_space k names) (without k es)
led_without k names es led = record { each = by names led.each }
  where
    one : (b : Bool) (e : List ℕ × SpaceNo) (names : List (List ℕ × SpaceNo)) → nat_eq k e.1.0 ≡ b → IsLive e.1.0 es
        → AllByRecursion (λ entry. IsLive entry.1.0 (without k es)) names → AllByRecursion (λ entry. IsLive entry.1.0 (without k es)) (cond (not b) (e ∷ names) names)
    one true e names is live rest = rest
    one false e names is live rest = (live_without e.1.0 k es is live, rest)

    by : (names : List (List ℕ × SpaceNo)) → AllByRecursion (λ entry. IsLive entry.1.0 es) names
        → AllByRecursion (λ entry. IsLive entry.1.0 (without k es)) (directory.without_space k names)
    by [] l = tt
    by (e ∷ names) l = one (nat_eq k e.1.0) e (directory.without_space k names) refl l.0 (by names l.1)

module _ (es : List (ℕ × SpaceData)) where
  pub led_put : (names : List (List ℕ × SpaceNo)) (name : List ℕ) (s : SpaceNo) → IsLive s.0 es → LeadToSpaces names es
      → LeadToSpaces (directory.put name s names) es
  led_put names name s live led = record { each = by names led.each }
    where
      by : (names : List (List ℕ × SpaceNo)) → AllByRecursion (λ entry. IsLive entry.1.0 es) names
          → AllByRecursion (λ entry. IsLive entry.1.0 es) (names ++ (name, s) ∷ [])
      by [] l = (live, tt)
      by (e ∷ names) l = (l.0, by names l.1)

  pub led_unnamed : (names : List (List ℕ × SpaceNo)) (name : List ℕ) → LeadToSpaces names es → LeadToSpaces (directory.without name names) es
  led_unnamed names name led = record { each = by names led.each }
    where
      one : (b : Bool) (e : List ℕ × SpaceNo) (names less : List (List ℕ × SpaceNo)) → IsLive e.1.0 es → AllByRecursion (λ entry. IsLive entry.1.0 es) names
          → AllByRecursion (λ entry. IsLive entry.1.0 es) less → AllByRecursion (λ entry. IsLive entry.1.0 es) (cond b names (e ∷ less))
      one true e names less live l k = l
      one false e names less live l k = (live, k)

      by : (names : List (List ℕ × SpaceNo)) → AllByRecursion (λ entry. IsLive entry.1.0 es) names
          → AllByRecursion (λ entry. IsLive entry.1.0 es) (directory.without name names)
      by [] l = tt
      by (e ∷ names) l = one (bytes_eq name e.0) e names (directory.without name names) l.0 l.1 (by names l.1)

  pub led_named : (names : List (List ℕ × SpaceNo)) (name : List ℕ) (s : SpaceNo) → directory.get name names ≡ Some s → LeadToSpaces names es → IsLive s.0 es
  led_named names name s is led = by names is led.each
    where
      by : (names : List (List ℕ × SpaceNo)) → directory.get name names ≡ Some s → AllByRecursion (λ entry. IsLive entry.1.0 es) names → IsLive s.0 es
      by [] is l = absurd (none-some s is)
      by (e ∷ names) is l = one (bytes_eq name e.0) is (λ there. by names there l.1)
        where
          one : (b : Bool) → cond b (Some e.1) (directory.get name names) ≡ Some s → (directory.get name names ≡ Some s → IsLive s.0 es) → IsLive s.0 es
          one true is rest = let same : e.1 ≡ s = cc in subst (λ (t : SpaceNo). IsLive t.0 es) same l.0
          one false is rest = rest is

  pub led_found : (names : List (List ℕ × SpaceNo)) (name : List ℕ) (o : Option SpaceNo) → o ≡ directory.get name names → LeadToSpaces names es
      → IfSome o (λ s. IsLive s.0 es)
  led_found names name None is led = tt
  led_found names name (Some s) is led = led_named names name s (sym is) led

-- how many are left
pub without_long : (n : ℕ) (es : List (ℕ × SpaceData)) → length (without n es) ≤ length es
without_long n [] = omega arith
without_long n (e ∷ es) = by (nat_eq n e.0) (without_long n es)
  where
    by : (b : Bool) → length (without n es) ≤ length es → length (cond b es (e ∷ without n es)) ≤ length (e ∷ es)
    by true rest = omega arith
    by false rest = omega (arith, rest)

pub with_long : (n : ℕ) (w : SpaceData) (es : List (ℕ × SpaceData)) → length (with_space n w es) ≡ length es
with_long n w es = length-set_value (nat_eq n) es w
