use Rattle.std.proofs.Common.{◌≡◌, ◌+◌, ◌∙◌, ap, length, ℕ, arith}
use Rattle.std.specs.Prelude.{flat_map}
use Rattle.state_spelling.specs.Operands.{operand}
use Rattle.state_spelling.specs.Held.{held}
use Rattle.state_spelling.proofs.Put.{counted_fine}
use Rattle.state_spelling.proofs.record.put_pending.Goals as goal

pub returns-clause-fine : goal.returns-clause-fine
returns-clause-fine c =
    let sum : c.in_ok-count.count ≡ length (flat_map held c.args.frames.now) + length c.args.own.now = c.in_ok-count.ensures ∙ ap (λ (n : ℕ). n + length c.args.own.now) c.in_ok-count_below.ensures in
    counted_fine operand (flat_map held c.args.frames.now) c.args.own.now c.in_ok-count.count sum c.in_ok-small.ensures.few c.in_ok-put_below.ensures.fine c.in_ok-put_items.ensures.fine
