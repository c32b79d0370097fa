use Rattle.std.proofs.Common.{None, [], ◌∷◌, arith, refl}
use Rattle.page_pool.specs.Pool.{Pages}
use Rattle.program_examples.specs.Below.page_table.proofs.Framing.{nil_agree, stands_of}
use Rattle.program_examples.proofs.packets.answer.Goals as goal

pub over-lent-requires : goal.over-lent-requires
over-lent-requires c =
    let empty : Pages = record { slots = []; clean = [] } in
    rw (c.in-Ok.ensures, c.new-memory.ensures.empty) (record {
      agree = record {
        few = omega arith;
        stands = stands_of empty (None ∷ None ∷ []) [] 16 (omega arith) ∣ nil_agree (None ∷ None ∷ []) (λ p. omega arith) (omega arith) ∣₁;
      };
      backed = record { each = λ p block is. refl };
    })
