-- Bodies that stay where they are marked, and are emptied where they are not.
use Rattle.std.proofs.Common.{◌≡◌, ℕ, zero, suc, ◌+◌, Bool, true, false, cond, List, [], ◌∷◌, length, Option, Some, None, refl, ap, ◌∙◌, arith, ◌⊎◌, inl, inr}
use Rattle.std.specs.Prelude.{slice_get, option_map, Result, Ok, Err, IfOk}
use Rattle.std.proofs.lemmas.Option.{slice_get_within}
use Rattle.elan_types.specs.declared.core_phrase.Body.{Body}
use Rattle.elan_types.specs.declared.core_phrase.Core.{Core}
use Rattle.code_gen.specs.Reached.{IsReached, emptied}
use Rattle.code_gen.specs.walks.Marks.{is_marked, AreMarks, left_from}

pub if_ok : {A E : Type 0} (P Q : A → Type 0) (r : Result A E) → ((x : A) → P x → Q x) → IfOk r P → IfOk r Q
if_ok P Q (Ok x) f p = f x p
if_ok P Q (Err e) f p = tt

left_at : (ms : List Bool) (bs : List Body) (i n : ℕ)
    → slice_get (left_from i ms bs) n ≡ option_map (λ b. cond (is_marked ms (i + n)) b (emptied b)) (slice_get bs n)
left_at ms [] i n = refl
left_at ms (b ∷ bs) i zero =
    let e : i ≡ i + 0 = omega arith in
    ap (λ k. Some (cond (is_marked ms k) b (emptied b))) e
left_at ms (b ∷ bs) i (suc n) =
    let e : (i + 1) + n ≡ i + suc n = omega arith in
    left_at ms bs (i + 1) n ∙ ap (λ k. option_map (λ b. cond (is_marked ms k) b (emptied b)) (slice_get bs n)) e

left_length : (ms : List Bool) (bs : List Body) (i : ℕ) → length (left_from i ms bs) ≡ length bs
left_length ms [] i = refl
left_length ms (b ∷ bs) i = ap (λ k. suc k) (left_length ms bs (i + 1))

kept_if : (m : Bool) (o : Option Body) → m ≡ true → option_map (λ b. cond m b (emptied b)) o ≡ o
kept_if true None e = refl
kept_if true (Some b) e = refl
kept_if false o e = absurd cc

emptied_if : (m : Bool) (o : Option Body) → m ≡ false → option_map (λ b. cond m b (emptied b)) o ≡ option_map emptied o
emptied_if true o e = absurd cc
emptied_if false o e = refl

module _ (core : Core) (ms : List Bool) (marks : AreMarks core ms) (made : List Body) (is : made ≡ left_from 0 ms core.bodies) where
  at_mark : (n : ℕ) → slice_get made n ≡ option_map (λ b. cond (is_marked ms n) b (emptied b)) (slice_get core.bodies n)
  at_mark n =
      let e : 0 + n ≡ n = omega arith in
      ap (λ (bs : List Body). slice_get bs n) is ∙ left_at ms core.bodies 0 n
      ∙ ap (λ k. option_map (λ b. cond (is_marked ms k) b (emptied b)) (slice_get core.bodies n)) e

  pub kept : (n : ℕ) → IsReached core n → slice_get made n ≡ slice_get core.bodies n
  kept n r = at_mark n ∙ kept_if (is_marked ms n) (slice_get core.bodies n) (marks.reached n r)

  pub others : (n : ℕ) → (IsReached core n → ⊥) → slice_get made n ≡ option_map emptied (slice_get core.bodies n)
  others n not = at_mark n ∙ by_body (slice_get core.bodies n) refl
    where
      by_mark : (m : Bool) (b : Body) → slice_get core.bodies n ≡ Some b → is_marked ms n ≡ m → cond m b (emptied b) ≡ emptied b
      by_mark true b there e = absurd (not (marks.only n (slice_get_within core.bodies n b there) e))
      by_mark false b there e = refl

      by_body : (o : Option Body) → slice_get core.bodies n ≡ o → option_map (λ b. cond (is_marked ms n) b (emptied b)) o ≡ option_map emptied o
      by_body None there = refl
      by_body (Some b) there = ap (λ (x : Body). Some x) (by_mark (is_marked ms n) b there refl)

  -- each body is as it was, or emptied
  pub each : (n : ℕ) → (slice_get made n ≡ slice_get core.bodies n) ⊎ (slice_get made n ≡ option_map emptied (slice_get core.bodies n))
  each n = by_mark (is_marked ms n) refl
    where
      by_mark : (m : Bool) → is_marked ms n ≡ m
          → (slice_get made n ≡ slice_get core.bodies n) ⊎ (slice_get made n ≡ option_map emptied (slice_get core.bodies n))
      by_mark true e = inl (at_mark n ∙ kept_if (is_marked ms n) (slice_get core.bodies n) e)
      by_mark false e = inr (at_mark n ∙ emptied_if (is_marked ms n) (slice_get core.bodies n) e)

  pub as_many : length made ≡ length core.bodies
  as_many = ap length is ∙ left_length ms core.bodies 0
