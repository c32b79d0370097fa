use Rattle.std.proofs.Common.{◌≡◌, ◌∙◌, ◌-◌, suc, true, length, set, ap, arith}
use Rattle.edge.specs.declared.log.Written.{Written}
use Rattle.edge.proofs.Kept.{set_last}
use Rattle.edge.proofs.log.settle.Goals as goal

pub returns-then-length-gt0 : goal.returns-then-length-gt0
returns-then-length-gt0 c =
    let w = c.index_mut.result.now in
    let last : suc (c.len-length.result - 1) ≡ length c.args.log.now.items = omega (arith, c.len-length.ensures) in
    ap (λ (v : Written). set c.args.log.now.items (c.len-length.result - 1) (record v { synced = true })) c.index_mut.ensures.value
    ∙ set_last c.args.log.now.items (c.len-length.result - 1) w last
