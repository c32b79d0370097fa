-- A space that nothing was written to.
use Rattle.std.proofs.Common.{[], ◌∷◌, None, arith}
use Rattle.page_table.specs.Frames.{Stands}
use Rattle.page_table.proofs.Framing.{stands_of, nil_agree}

pub nil_stands : Stands (record { slots = []; clean = [] }) (None ∷ []) 0
nil_stands = stands_of _ (None ∷ []) [] 0 (omega arith) ∣ nil_agree (None ∷ []) (λ p. omega arith) (omega arith) ∣₁
