-- Three spaces over one pool.
use Rattle.std.proofs.Common.{ℕ, [], ◌∷◌, Option, None, refl, arith}
use Rattle.page_pool.specs.Pool.{Pages}
use Rattle.page_table.specs.Sharing.{Agree}
use Rattle.page_table.specs.Frames.{Stands}
use Rattle.page_table.proofs.Framing.{agree_same, stands_of, nil_agree}

module _ (pages : Pages) (a b c : Option ℕ) where
  pub turn : ∥ Agree pages (a ∷ b ∷ c ∷ []) ∥₁ → ∥ Agree pages (b ∷ c ∷ a ∷ []) ∥₁
  turn = agree_same pages (a ∷ b ∷ c ∷ []) (b ∷ c ∷ a ∷ []) (record { long = refl; occs = λ p. omega arith })

  pub third_first : ∥ Agree pages (a ∷ b ∷ c ∷ []) ∥₁ → ∥ Agree pages (c ∷ a ∷ b ∷ []) ∥₁
  third_first = agree_same pages (a ∷ b ∷ c ∷ []) (c ∷ a ∷ b ∷ []) (record { long = refl; occs = λ p. omega arith })

  pub first_stands : ∥ Agree pages (a ∷ b ∷ c ∷ []) ∥₁ → Stands pages (a ∷ []) 0
  first_stands = stands_of pages (a ∷ []) (b ∷ c ∷ []) 0 (omega arith)

  pub third_stands : ∥ Agree pages (a ∷ b ∷ c ∷ []) ∥₁ → Stands pages (c ∷ []) 0
  third_stands some = stands_of pages (c ∷ []) (a ∷ b ∷ []) 0 (omega arith) (third_first some)

pub swap : (pages : Pages) (a b : Option ℕ) → ∥ Agree pages (a ∷ b ∷ []) ∥₁ → ∥ Agree pages (b ∷ a ∷ []) ∥₁
swap pages a b = agree_same pages (a ∷ b ∷ []) (b ∷ a ∷ []) (record { long = refl; occs = λ p. omega arith })

pub none_agree : ∥ Agree (record { slots = []; clean = [] }) (None ∷ None ∷ None ∷ []) ∥₁
none_agree = ∣ nil_agree (None ∷ None ∷ None ∷ []) (λ p. omega arith) (omega arith) ∣₁
