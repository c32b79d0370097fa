-- Numbers of live spaces, after spaces came and went.
use Rattle.std.proofs.Common.{◌≡◌, ◌<◌, ◌≤◌, ◌+◌, ℕ, Bool, true, false, cond, List, [], ◌∷◌, ◌++◌, length, Option, None, Some, refl, ap, sym, ◌∙◌, arith, nat_eq, eqb-true, true≢false}
use Rattle.std.proofs.lemmas.List.{length-append}
use Rattle.std.proofs.lemmas.Map.{length-set_value}
use Rattle.std.proofs.lemmas.Option.{none-some}
use Rattle.std.specs.Option.{is_some, unwrap_or}
use Rattle.std.specs.Map.{remove_entry, set_value}
use Rattle.data_space.specs.Data.{SpaceData}
use Rattle.space_memory.specs.Live.{no_space, space_at, IsLive, the_space, without, with_space, Rises, IsNumbered}

lower : (low below : ℕ) (es : List (ℕ × SpaceData)) (last : ℕ) → below ≤ low → Rises low es last → Rises below es last
lower low below [] last b r = omega arith
lower low below (e ∷ es) last b r = (omega (arith, b, r.0), r.1)

most : (low : ℕ) (es : List (ℕ × SpaceData)) (last : ℕ) → Rises low es last → low ≤ last
most low [] last r = r
most low (e ∷ es) last r = omega (arith, r.0, most e.0 es last r.1)

-- a number past the last is free
pub past_free : (low : ℕ) (es : List (ℕ × SpaceData)) (last n : ℕ) → Rises low es last → last < n → space_at n es ≡ None
past_free low [] last n r past = refl
past_free low (e ∷ es) last n r past =
    let up = most e.0 es last r.1 in
    let rest = past_free e.0 es last n r.1 past in
    let other : nat_eq n e.0 ≡ false = grind (arith, up, past) in
    ap (λ (b : Bool). cond b (Some e.1) (space_at n es)) other ∙ rest

rises_new : (low : ℕ) (es : List (ℕ × SpaceData)) (last : ℕ) (d : SpaceData) → Rises low es last → Rises low (es ++ (last + 1, d) ∷ []) (last + 1)
rises_new low [] last d r = (omega (arith, r), omega arith)
rises_new low (e ∷ es) last d r = (r.0, rises_new e.0 es last d r.1)

module _ (test : ℕ → Bool) (last : ℕ) where
  rises_without : (low : ℕ) (es : List (ℕ × SpaceData)) → Rises low es last → Rises low (remove_entry test es) last
  rises_without low [] r = r
  rises_without low (e ∷ es) r = by (test e.0) (rises_without e.0 es r.1)
    where
      by : (b : Bool) → Rises e.0 (remove_entry test es) last → Rises low (cond b es (e ∷ remove_entry test es)) last
      by true rest = lower e.0 low es last (omega (arith, r.0)) r.1
      by false rest = (r.0, rest)

  rises_with : (low : ℕ) (es : List (ℕ × SpaceData)) (w : SpaceData) → Rises low es last → Rises low (set_value test es w) last
  rises_with low [] w r = r
  rises_with low (e ∷ es) w r = by (test e.0) (rises_with e.0 es w r.1)
    where
      by : (b : Bool) → Rises e.0 (set_value test es w) last → Rises low (cond b ((e.0, w) ∷ es) (e ∷ set_value test es w)) last
      by true rest = (r.0, r.1)
      by false rest = (r.0, rest)

  fewer : (es : List (ℕ × SpaceData)) → length (remove_entry test es) ≤ length es
  fewer [] = omega arith
  fewer (e ∷ es) = by (test e.0) (fewer es)
    where
      by : (b : Bool) → length (remove_entry test es) ≤ length es → length (cond b es (e ∷ remove_entry test es)) ≤ length (e ∷ es)
      by true rest = omega arith
      by false rest = omega (arith, rest)

pub numbered_new : (es : List (ℕ × SpaceData)) (last : ℕ) (d : SpaceData) → length es < 16 → IsNumbered es last → IsNumbered (es ++ (last + 1, d) ∷ []) (last + 1)
numbered_new es last d few is = record { rise = rises_new 0 es last d is.rise; few = omega (arith, few, length-append es ((last + 1, d) ∷ [])) }

pub numbered_without : (n : ℕ) (es : List (ℕ × SpaceData)) (last : ℕ) → IsNumbered es last → IsNumbered (without n es) last
numbered_without n es last is = record { rise = rises_without (nat_eq n) last 0 es is.rise; few = omega (arith, is.few, fewer (nat_eq n) last es) }

pub numbered_with : (n : ℕ) (w : SpaceData) (es : List (ℕ × SpaceData)) (last : ℕ) → IsNumbered es last → IsNumbered (with_space n w es) last
numbered_with n w es last is = record { rise = rises_with (nat_eq n) last 0 es w is.rise; few = omega (arith, is.few, length-set_value (nat_eq n) es w) }

-- where none lives under a number, the others are all
pub without_none : (n : ℕ) (es : List (ℕ × SpaceData)) → space_at n es ≡ None → without n es ≡ es
without_none n [] none = refl
without_none n (e ∷ es) none = by (nat_eq n e.0) none (without_none n es)
  where
    by : (b : Bool) → cond b (Some e.1) (space_at n es) ≡ None → (space_at n es ≡ None → without n es ≡ es) → cond b es (e ∷ without n es) ≡ e ∷ es
    by true none rest = absurd (none-some e.1 (sym none))
    by false none rest = ap (λ (l : List (ℕ × SpaceData)). e ∷ l) (rest none)

-- the space under a number that is live
pub live_is : (n : ℕ) (es : List (ℕ × SpaceData)) → IsLive n es → space_at n es ≡ Some (the_space n es)
live_is n es live = by (space_at n es) live
  where
    by : (o : Option SpaceData) → is_some o ≡ true → o ≡ Some (unwrap_or o no_space)
    by None is = absurd (true≢false (sym is))
    by (Some d) is = refl

-- and after another took its place
pub with_is : (n : ℕ) (w : SpaceData) (es : List (ℕ × SpaceData)) → IsLive n es → the_space n (with_space n w es) ≡ w
with_is n w [] live = absurd (true≢false (sym live))
with_is n w (e ∷ es) live = by (nat_eq n e.0) refl live (with_is n w es)
  where
    by : (b : Bool) → nat_eq n e.0 ≡ b → is_some (cond b (Some e.1) (space_at n es)) ≡ true → (IsLive n es → the_space n (with_space n w es) ≡ w)
        → the_space n (cond b ((e.0, w) ∷ es) (e ∷ with_space n w es)) ≡ w
    by true same is rest = ap (λ (b : Bool). unwrap_or (cond b (Some w) (space_at n es)) no_space) same
    by false same is rest = ap (λ (b : Bool). unwrap_or (cond b (Some e.1) (space_at n (with_space n w es))) no_space) same ∙ rest is

-- a number below all is free, and after the space under a number went, none lives under it
below_free : (low : ℕ) (es : List (ℕ × SpaceData)) (last n : ℕ) → Rises low es last → n ≤ low → space_at n es ≡ None
below_free low [] last n r down = refl
below_free low (e ∷ es) last n r down =
    let up = r.0 in
    let other : nat_eq n e.0 ≡ false = grind (arith, up, down) in
    ap (λ (b : Bool). cond b (Some e.1) (space_at n es)) other ∙ below_free e.0 es last n r.1 (omega (arith, up, down))

pub gone_without : (low n : ℕ) (es : List (ℕ × SpaceData)) (last : ℕ) → Rises low es last → space_at n (without n es) ≡ None
gone_without low n [] last r = refl
gone_without low n (e ∷ es) last r = by (nat_eq n e.0) refl (gone_without e.0 n es last r.1)
  where
    by : (b : Bool) → nat_eq n e.0 ≡ b → space_at n (without n es) ≡ None → space_at n (cond b es (e ∷ without n es)) ≡ None
    by true same rest = below_free e.0 es last n r.1 (let is : n ≡ e.0 = eqb-true n e.0 same in omega (arith, is))
    by false other rest = ap (λ (b : Bool). cond b (Some e.1) (space_at n (without n es))) other ∙ rest
