use Rattle.std.proofs.Common.{◌≡◌, ◌+◌, ◌<◌, ◌++◌, ◌∷◌, [], ℕ, length, take, ap, sym, ◌∙◌, arith}
use Rattle.std.proofs.lemmas.List.{take_more}
use Rattle.edge.specs.declared.log.Written.{Written}
use Rattle.edge.specs.Log.{synced_part}
use Rattle.edge.proofs.Kept.{part_push, part_whole}
use Rattle.edge.proofs.log.lose.Goals as goal
use Rattle.edge.proofs.log.lose.Goals.{then-index, else-index}

pub loop-k-preserved : goal.loop-k-preserved
loop-k-preserved c =
    let log = c.args.log.now.items in
    let k = c.loop-k.k in
    let x = c.index.result.now in
    let below : k < length log = omega (arith, c.len-k-end.ensures) in
    let more : take (k + 1) log ≡ take k log ++ x ∷ [] = take_more log k x below ∙ ap (λ (w : Written). take k log ++ w ∷ []) (sym c.index.ensures) in
    elim c.if-index.branch [
      | then-index w ↦ record {
        low = omega (arith, w.end-is);
        part = ap (λ (n : ℕ). take n log) w.end-is ∙ more ∙ sym (part_whole (take k log) x w.if-index.true) ∙ ap synced_part (sym more);
      }
      | else-index w ↦ record {
        low = omega (arith, w.end-is, c.loop-k.invariant.low);
        part = ap (λ (n : ℕ). take n log) w.end-is ∙ c.loop-k.invariant.part ∙ sym (part_push (take k log) x w.if-index.false) ∙ ap synced_part (sym more);
      }
    ]
